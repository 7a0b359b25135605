use Rattle.std.proofs.Common.{◌+◌, ◌*◌, ◌<◌, ◌∙◌, refl, arith}
use Rattle.page_state.specs.Blocks.{blocks_on}
use Rattle.ghost_trees.proofs.BlockLists.{on_first, on_next, low_on}
use Rattle.ghost_trees.proofs.blocks.blocks_on.Goals as goal

pub returns-then-range-eq0-clause-value : goal.returns-then-range-eq0-clause-value
unfolding blocks_on
returns-then-range-eq0-clause-value c = rw (c.new-blocks.ensures.items, c.if-range-eq0.true) refl

pub loop-i-init : goal.loop-i-init
loop-i-init c =
    c.in_ok-push_blocks.ensures
    ∙ rw c.new-blocks.ensures.items
    (on_first c.args.top c.args.range.first.0 c.args.range.count c.requires.top
    (grind (arith, c.if-range-eq0.false)))

pub loop-i-preserved : goal.loop-i-preserved
loop-i-preserved c =
    let less : c.loop-i.i * 512 < c.args.range.first.0 + c.args.range.count =
    omega (arith, c.loop-i-test.true, c.if-range-eq0.false) in
    c.in_ok-push_blocks-2.ensures
    ∙ rw c.loop-i.invariant
    (on_next c.args.top c.args.range.first.0 c.args.range.count c.loop-i.i c.requires.top c.loop-i.auto.i less)

pub returns-clause-low : goal.returns-clause-low
returns-clause-low c = rw c.loop-i.invariant (low_on c.args.top c.args.range.first.0 _ c.requires.top (omega arith))
