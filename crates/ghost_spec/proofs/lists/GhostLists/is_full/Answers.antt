use Rattle.std.proofs.Common.{◌≡◌, ◌||◌, ◌&&◌, ◌==◌, ℕ, Bool, get_or, sym, ap, ◌∙◌}
use Rattle.std.proofs.lemmas.List.{get_or_default}
use Rattle.page_state.proofs.Common.{same4}
use Rattle.reference_model.specs.model.Rules.{names}
use Rattle.ghost_spec.specs.States.{rooms_in}
use Rattle.ghost_spec.proofs.Rooms.{full-is}
use Rattle.ghost_spec.proofs.lists.GhostLists.is_full.Goals as goal

pub returns : goal.returns
returns c =
    let log = c.args.self.now.layout.config.log in
    let room : c.index.result.now ≡ get_or c.args.self.now.rooms.cpus.items c.args.cpu log =
    c.index.ensures
    ∙ get_or_default c.args.self.now.rooms.cpus.items c.args.cpu c.index.result.now log c.requires.cpu in
    c.is_any.ensures
    ∙ same4 (λ (p q r s : Bool). p || q || r || s) (ap (λ (n : ℕ). n == 0) room)
    (c.is_used_full-is_vms_full.ensures
    ∙ ap (λ (b : Bool). b && c.args.self.now.rooms.vms == 0) c.requires.uses.vms)
    (c.is_used_full-is_shared_full.ensures
    ∙ ap (λ (b : Bool). b && c.args.self.now.rooms.shared == 0) c.requires.uses.shared)
    (rw c.as_slice.ensures.value at (c.is_guest_full-is_guest_full.ensures log))
    ∙ sym (full-is (names c.args.uses.step) c.args.uses.slot c.args.cpu (rooms_in log c.args.self.now.rooms))
