use Rattle.std.proofs.Common.{ap, ap₂, true, ◌∙◌}
use Rattle.std.proofs.lemmas.Result.{IfOk-weaker}
use Rattle.clap.specs.Simple.{app_of_fields}
use Rattle.clap.specs.Words.{App, Shape, with_subcommand}
use Rattle.trace_command.proofs.forms.form.Goals as goal

pub returns : goal.returns
returns c =
    let top_of : App → Shape = λ a. a.top in
    let needs : App → App = λ a. record a { top = record a.top { subcommand_required = true } } in
    let helps : App → App = λ a. record a { top = record a.top { arg_required_else_help = true } } in
    let has : App → App = λ a. record a { top = record a.top { has_version = true } } in
    let plain = ap app_of_fields c.about.ensures ∙ ap app_of_fields c.in_ok-named.ensures.0 ∙ c.new.ensures.app in
    let versioned = ap app_of_fields c.version.ensures ∙ ap has plain in
    let needed =
    ap app_of_fields c.subcommand_required.ensures ∙ ap needs (ap app_of_fields c.after_help.ensures ∙ versioned) in
    let start = ap app_of_fields c.arg_required_else_help-form.ensures ∙ ap helps needed in
    let one = c.in_ok-form.ensures.app ∙ ap₂ with_subcommand start (ap top_of c.in_ok-replay.ensures.app) in
    let two = c.in_ok-form-2.ensures.app ∙ ap₂ with_subcommand one (ap top_of c.in_ok-race.ensures.app) in
    let three = c.in_ok-form-3.ensures.app ∙ ap₂ with_subcommand two (ap top_of c.in_ok-audit.ensures.app) in
    let four = c.in_ok-form-4.ensures.app ∙ ap₂ with_subcommand three (ap top_of c.in_ok-outcomes.ensures.app) in
    let five = c.in_ok-form-5.ensures.app ∙ ap₂ with_subcommand four (ap top_of c.in_ok-check.ensures.app) in
    let six = c.in_ok-form-6.ensures.app ∙ ap₂ with_subcommand five (ap top_of c.in_ok-cover.ensures.app) in
    let seven = c.in_ok-form-7.ensures.app ∙ ap₂ with_subcommand six (ap top_of c.in_ok-explain.ensures.app) in
    let eight = c.in_ok-form-8.ensures.app ∙ ap₂ with_subcommand seven (ap top_of c.in_ok-generate.ensures.app) in
    let nine = c.in_ok-form-9.ensures.app ∙ ap₂ with_subcommand eight (ap top_of c.in_ok-draw.ensures.app) in
    IfOk-weaker c.with_form-10.result _ _
    (λ r h. h ∙ ap₂ with_subcommand nine (ap top_of c.in_ok-dump.ensures.app)) c.with_form-10.ensures.app
