use Rattle.std.proofs.Common.{sym, ap, ◌∙◌}
use Rattle.page_state.specs.Layouts.{is_memory}
use Rattle.page_state.specs.LayoutView.{layout_of}
use Rattle.free_judge.proofs.PoolFrames.{next-left, next-taken}
use Rattle.free_judge.proofs.asked.memory_from.Goals as goal
use Rattle.free_judge.proofs.asked.memory_from.Goals.{then-is_memory+in_ok-push, else-is_memory}

pub loop-i-preserved : goal.loop-i-preserved
loop-i-preserved c =
    let p = is_memory (layout_of c.args.layout.now) in
    elim c.if-is_memory.branch [
      | then-is_memory+in_ok-push w ↦ next-taken p c.args.first c.loop-i.i c.loop-i.frames.items
          c.if-is_memory.frames.items c.loop-i.invariant (sym c.is_memory.ensures.value ∙ w.if-is_memory.true)
          (ap (λ v. v.items) w.frames-is ∙ w.in_ok-push.ensures.items)
      | else-is_memory w ↦ next-left p c.args.first c.loop-i.i c.loop-i.frames.items c.if-is_memory.frames.items
          c.loop-i.invariant (sym c.is_memory.ensures.value ∙ w.if-is_memory.false) (ap (λ v. v.items) w.frames-is)
    ]
