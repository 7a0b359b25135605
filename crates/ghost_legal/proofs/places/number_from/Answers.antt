use Rattle.std.proofs.Common.{ap, subst, arith, ◌∙◌}
use Rattle.std.specs.Prelude.{◌≤◌}
use Rattle.page_state.specs.Regions.{end_of}
use Rattle.ghost_legal.proofs.InOrder.{one_more}
use Rattle.ghost_legal.proofs.places.number_from.Goals as goal

pub loop-number-preserved : goal.loop-number-preserved
loop-number-preserved g c = record {
  within = omega (arith, c.loop-number-test.true);
  before =
      one_more g.T.Ranged.span c.args.page c.loop-number.number c.args.items.now c.index-items-number.result
      c.loop-number.invariant.before c.loop-number-test.true
      (subst (λ r. end_of r ≤ c.args.page) (c.range.ensures ∙ ap g.T.Ranged.span c.index-items-number.is)
      (c.ends_by.ensures.0 (search)));
}
