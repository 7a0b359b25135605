use Rattle.std.proofs.Common.{◌≡◌, ◌∙◌, subst}
use Rattle.std.specs.Prelude.{string_bytes}
use Rattle.page_state.specs.LayoutView.{layout_of}
use Rattle.ghost_spec.specs.States.{ghost_state}
use Rattle.trace_generate.specs.Walks.{IsCallOf, after}
use Rattle.trace_generate.proofs.Walked.{one_more}
use Rattle.trace_generate.proofs.made.walked.Goals as goal

pub loop-number-preserved : goal.loop-number-preserved
loop-number-preserved g c =
    let kept = c.loop-number.invariant.layout in
    let l = layout_of c.args.state.now.layout in
    let s = ghost_state c.loop-number.state in
    let call = subst (λ m. IsCallOf m c.is_hostile-hostile.result s c.in_ok-call.call) kept c.in_ok-call.ensures.call in
    let wanted = subst (λ h. IsCallOf l h s c.in_ok-call.call) c.is_hostile-hostile.ensures call in
    let next =
    subst (λ m. ghost_state c.next_call.new.state ≡ after m s c.in_ok-call.call) kept c.in_ok-call.ensures.state in
    record {
      layout = c.in_ok-call.ensures.layout ∙ kept;
      made =
          one_more l c.args.options.hostile (ghost_state c.args.state.now)
          (string_bytes c.args.text.now) c.loop-number.number s (string_bytes c.loop-number.text)
          c.in_ok-call.call (ghost_state c.next_call.new.state)
          (string_bytes c.write_call.new.text) c.loop-number.invariant.made wanted next c.in_ok-write_call.ensures;
    }
