use Rattle.std.proofs.Common.{◌≡◌, ◌-◌, ◌/◌, ◌==◌, ◌||◌, ◌∙◌, true, false, sym}
use Rattle.page_state.specs.Blocks.{first_page}
use Rattle.ghost_trees.proofs.BlockLists.{met_more, met_same}
use Rattle.ghost_trees.proofs.blocks.push_blocks.Goals as goal
use Rattle.ghost_trees.proofs.blocks.push_blocks.Goals.{then-is_met+in_ok-push, else-is_met}

pub loop-i-preserved : goal.loop-i-preserved
loop-i-preserved c =
    elim c.if-is_met.branch [
      | then-is_met+in_ok-push w ↦
          let h : (c.args.all || first_page (c.args.top - c.loop-i.i, c.args.page / c.span.result) == c.args.page) ≡ true =
          sym c.is_met.ensures ∙ w.if-is_met.true in
          let t = rw c.span.ensures.value at h in
          rw (w.blocks-is, w.in_ok-push.ensures.items, c.span.ensures.value)
          (met_more c.args.all c.args.page c.args.top c.loop-i.i c.loop-i-test.true c.loop-i.blocks.items t
          ∙ c.loop-i.invariant)
      | else-is_met w ↦
          let h : (c.args.all || first_page (c.args.top - c.loop-i.i, c.args.page / c.span.result) == c.args.page) ≡ false =
          sym c.is_met.ensures ∙ w.if-is_met.false in
          let t = rw c.span.ensures.value at h in
          rw (w.blocks-is)
          (met_same c.args.all c.args.page c.args.top c.loop-i.i c.loop-i-test.true c.loop-i.blocks.items t
          ∙ c.loop-i.invariant)
    ]
