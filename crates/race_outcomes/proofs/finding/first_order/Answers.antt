use Rattle.std.proofs.Common.{◌∙◌, ap, sym, rules}
use Rattle.race_outcomes.specs.declared.finding.Outcome.{Outcome}
use Rattle.race_outcomes.proofs.finding.first_order.Goals as goal

pub returns : goal.returns
returns c =
    let o = c.index-found-0.result in
    let is = c.index-found-0.is in (
      o,
      (0, search rules, sym is),
      c.in_ok-order.ensures.items ∙ c.as_slice.ensures.value
          ∙ ap (λ (x : Outcome). x.order.items) (sym is),
    )
