use Rattle.std.proofs.Common.{sym, true, false, ◌≡◌, ◌∙◌}
use Rattle.ghost_coarse.proofs.Listing.{there}
use Rattle.ghost_coarse.proofs.tables.first_outside.Goals as goal

pub returns-then-not-is_inside : goal.returns-then-not-is_inside
returns-then-not-is_inside c = record {
  there = there c.args.tables.now c.loop-i.i _ c.loop-i-test.true;
  outside = λ i. let bad : true ≡ false = sym (c.is_inside.ensures.1 i) ∙ c.if-not-is_inside.true in cc;
}
