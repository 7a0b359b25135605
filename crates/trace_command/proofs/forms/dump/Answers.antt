use Rattle.std.proofs.Common.{ap, ap₂, ◌∙◌}
use Rattle.std.proofs.lemmas.Result.{IfOk-weaker}
use Rattle.clap.specs.Words.{with_rule}
use Rattle.trace_command.specs.Words.{reporting}
use Rattle.trace_command.proofs.forms.dump.Goals as goal

pub returns-clause-app : goal.returns-clause-app
returns-clause-app c =
    let one = c.in_ok-form.ensures.app ∙ ap₂ with_rule c.subcommand-form.ensures.app c.needed-image.ensures.rule in
    let two = c.in_ok-form-2.ensures.app ∙ ap₂ with_rule one c.needed_option-host.ensures.rule in
    let three = c.in_ok-form-3.ensures.app ∙ ap₂ with_rule two c.needed_option.ensures.rule in
    let four = c.in_ok-form-4.ensures.app ∙ ap₂ with_rule three c.options.ensures.rule in
    let five = c.in_ok-form-5.ensures.app ∙ ap₂ with_rule four c.options-2.ensures.rule in
    let six = c.in_ok-form-6.ensures.app ∙ ap₂ with_rule five c.options-3.ensures.rule in
    let seven = c.in_ok-form-7.ensures.app ∙ ap₂ with_rule six c.option-base.ensures.rule in
    let eight = c.in_ok-form-8.ensures.app ∙ ap₂ with_rule seven c.option-vmemmap.ensures.rule in
    let nine = c.in_ok-form-9.ensures.app ∙ ap₂ with_rule eight c.flag-drawing.ensures.rule in
    IfOk-weaker c.reporting.result _ _ (λ r h. h ∙ ap reporting nine) c.reporting.ensures.app
