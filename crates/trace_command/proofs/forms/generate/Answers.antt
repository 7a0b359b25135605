use Rattle.std.proofs.Common.{ap₂, ◌∙◌}
use Rattle.std.proofs.lemmas.Result.{IfOk-weaker}
use Rattle.clap.specs.Words.{with_rule}
use Rattle.trace_command.proofs.forms.generate.Goals as goal

pub returns-clause-app : goal.returns-clause-app
returns-clause-app c =
    let one = c.in_ok-form.ensures.app ∙ ap₂ with_rule c.subcommand-form.ensures.app c.needed.ensures.rule in
    let two = c.in_ok-form-2.ensures.app ∙ ap₂ with_rule one c.needed-2.ensures.rule in
    let three = c.in_ok-form-3.ensures.app ∙ ap₂ with_rule two c.option.ensures.rule in
    let four = c.in_ok-form-4.ensures.app ∙ ap₂ with_rule three c.option-2.ensures.rule in
    let five = c.in_ok-form-5.ensures.app ∙ ap₂ with_rule four c.option-3.ensures.rule in
    IfOk-weaker c.with-6.result _ _ (λ r h. h ∙ ap₂ with_rule five c.option-4.ensures.rule) c.with-6.ensures.app
