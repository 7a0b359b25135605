use Rattle.std.proofs.Common.{ℕ, Bool, filter, get_or, ap, sym, ◌∙◌}
use Rattle.std.proofs.lemmas.List.{take_all}
use Rattle.std.proofs.lemmas.Result.{IfOk-from_err}
use Rattle.reference_model.specs.model.Owner.{is_frame}
use Rattle.ghost_trees.proofs.Pushed.{filter-taken, filter-left}
use Rattle.free_judge.proofs.asked.only.Goals as goal
use Rattle.free_judge.proofs.asked.only.Goals.{then-is_it+in_ok-push, else-is_it}

pub loop-frame-preserved : goal.loop-frame-preserved
loop-frame-preserved c =
    let stays : ℕ → Bool = λ f. is_frame f c.args.it in
    elim c.if-is_it.branch [
      | then-is_it+in_ok-push w ↦ filter-taken stays c.args.frames.now c.loop-frame.frame-index 0
          c.loop-frame.out.items c.if-is_it.out.items c.loop-frame-test.true c.loop-frame.invariant
          (sym c.is_it.ensures ∙ w.if-is_it.true) (ap (λ v. v.items) w.out-is ∙ w.in_ok-push.ensures.items)
      | else-is_it w ↦ filter-left stays c.args.frames.now c.loop-frame.frame-index 0
          c.loop-frame.out.items c.if-is_it.out.items c.loop-frame-test.true c.loop-frame.invariant
          (sym c.is_it.ensures ∙ w.if-is_it.false) (ap (λ v. v.items) w.out-is)
    ]

pub returns-in_err-push : goal.returns-in_err-push
returns-in_err-push c = IfOk-from_err _ _ c.from_residual.ensures.0

pub returns : goal.returns
returns c = let stays : ℕ → Bool = λ f. is_frame f c.args.it in
    c.loop-frame.invariant
    ∙ ap (filter stays) (take_all c.loop-frame.frame-index c.args.frames.now c.loop-frame-test.false)
