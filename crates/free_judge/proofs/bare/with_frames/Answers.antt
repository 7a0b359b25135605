use Rattle.std.proofs.Common.{◌≡◌, ap, ◌∙◌}
use Rattle.page_state.proofs.Common.{same2}
use Rattle.reference_model.specs.model.State.{Contents, Reference}
use Rattle.ghost_spec.specs.States.{contents_in}
use Rattle.ghost_spec.proofs.Predictions.{contents-same}
use Rattle.free_judge.specs.Asked.{filled_shared}
use Rattle.free_judge.proofs.bare.with_frames.Goals as goal

pub returns-clause-contents : goal.returns-clause-contents
returns-clause-contents c =
    let s : contents_in c.into_lists-lists.result ≡ contents_in c.args.state.now =
    ap contents_in c.into_lists-lists.ensures.value
    ∙ ap (λ (r : Reference). r.contents) c.in_ok-copied.ensures.state in
    ap contents_in c.of_kept.ensures
    ∙ contents-same (ap (λ (k : Contents). k.vms) s)
    (c.strip.ensures.same ∙ same2 filled_shared c.in_ok-free.ensures.items (ap (λ (k : Contents). k.shared) s))
    (ap (λ (k : Contents). k.guest) s) (ap (λ (k : Contents). k.cpu) s)
