use Rattle.std.proofs.Common.{◌≡◌, List, length, map, get_or, ap, sym, ◌∙◌}
use Rattle.std.specs.Prelude.{true, false}
use Rattle.std.proofs.lemmas.List.{length-map}
use mathlib.Core.Path.{fun_ext}
use Rattle.reference_model.specs.model.State.{Contents, Guest, no_guest}
use Rattle.ghost_spec.specs.declared.lists.GhostLists.{GhostLists}
use Rattle.ghost_spec.specs.States.{contents_in, guest_in}
use Rattle.ghost_spec.proofs.Predictions.{contents-same}
use Rattle.free_judge.specs.Asked.{filled_by, filled_guest}
use Rattle.free_judge.proofs.Fills.{guests-filled}
use Rattle.free_judge.proofs.bare.bare.Goals as goal

pub of_kept-requires : goal.of_kept-requires
of_kept-requires c =
    let k = c.into_lists-lists.ensures.kept in
    let e : map guest_in c.in_ok-guests.guests.items ≡ map (λ g. filled_guest false c.args.frames.now 0 (guest_in g)) c.args.state.now.guests.items =
    rw c.as_slice.ensures.value at c.in_ok-guests.ensures.same
    ∙ ap
    (λ (g : GhostLists). map
    (λ x. filled_guest false c.args.frames.now 0 (guest_in x)) g.guests.items) c.lists.ensures.value in
    record {
      shared = k.shared;
      guests = c.in_ok-guests.ensures.kept;
      cpus = k.cpus;
      vms_count = k.vms_count;
      guests_count =
          sym (length-map c.in_ok-guests.guests.items guest_in) ∙ ap length e
          ∙ length-map c.args.state.now.guests.items (λ g. filled_guest false c.args.frames.now 0 (guest_in g))
          ∙ c.lists.ensures.kept.guests_count;
      cpus_count = k.cpus_count;
      guest_rooms_count = k.guest_rooms_count;
      cpu_rooms_count = k.cpu_rooms_count;
    }

pub returns-clause-contents : goal.returns-clause-contents
returns-clause-contents c =
    let e : map guest_in c.in_ok-guests.guests.items ≡ map (λ g. filled_guest false c.args.frames.now 0 (guest_in g)) c.args.state.now.guests.items =
    rw c.as_slice.ensures.value at c.in_ok-guests.ensures.same
    ∙ ap
    (λ (g : GhostLists). map
    (λ x. filled_guest false c.args.frames.now 0 (guest_in x)) g.guests.items) c.lists.ensures.value in
    let fs = c.args.frames.now in
    let s : contents_in c.into_lists-lists.result ≡ filled_by true fs (contents_in c.args.state.now) =
    ap contents_in c.into_lists-lists.ensures.value ∙ c.in_ok-with_frames.ensures.contents in
    ap contents_in c.of_kept.ensures
    ∙ contents-same (ap (λ (k : Contents). k.vms) s) (ap (λ (k : Contents). k.shared) s)
    (fun_ext (λ v. ap (λ (xs : List Guest). get_or xs v no_guest) e)
    ∙ guests-filled fs c.args.state.now.guests.items c.lists.ensures.kept.guests_count)
    (ap (λ (k : Contents). k.cpu) s)
