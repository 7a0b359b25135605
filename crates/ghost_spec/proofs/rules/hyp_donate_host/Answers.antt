use Rattle.std.proofs.Common.{sym, ◌∙◌, refl, rules}
use Rattle.reference_model.specs.model.Rules.{rule}
use Rattle.ghost_spec.proofs.rules.hyp_donate_host.Goals as goal

pub returns-then-not-may_return_all-clause-decided : goal.returns-then-not-may_return_all-clause-decided
unfolding rule
returns-then-not-may_return_all-clause-decided c =
    λ cpu slot. rw (
      sym c.is_good_range.ensures.value ∙ c.if-not-is_good_range.false,
      sym c.may_return_all.ensures
          ∙ c.if-not-may_return_all.true,
    ) refl

pub returns-clause-decided : goal.returns-clause-decided
unfolding rule
returns-clause-decided c =
    λ cpu slot. rw (
      sym c.is_good_range.ensures.value ∙ c.if-not-is_good_range.false,
      sym c.may_return_all.ensures
          ∙ c.if-not-may_return_all.false,
    )
    (search rules)
