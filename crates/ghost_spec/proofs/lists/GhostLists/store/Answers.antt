use Rattle.std.proofs.Common.{◌≡◌, ◌-◌, ℕ, Bool, get_or, ap, ◌∙◌, if◌then◌else◌}
use Rattle.std.proofs.lemmas.List.{get_or_default}
use Rattle.reference_model.specs.model.Rules.{names}
use Rattle.reference_model.specs.model.State.{put_at}
use Rattle.ghost_spec.specs.declared.lists.GhostRooms.{GhostRooms}
use Rattle.ghost_spec.specs.States.{rooms_in}
use Rattle.ghost_spec.proofs.Predictions.{put-items}
use Rattle.ghost_spec.proofs.Rooms.{stored-is}
use Rattle.ghost_spec.proofs.lists.GhostLists.store.Goals as goal

pub returns-clause-rooms : goal.returns-clause-rooms
returns-clause-rooms c =
    let log = c.args.self.now.layout.config.log in
    let r : GhostRooms = c.args.self.now.rooms in
    let room : c.left_of.result ≡ get_or r.cpus.items c.args.cpu log - 1 =
    c.left_of.ensures
    ∙ ap (λ (n : ℕ). n - 1)
    (c.index.ensures ∙ get_or_default r.cpus.items c.args.cpu c.index.result.now log c.requires.cpu) in
    stored-is (names c.args.uses.step) c.args.uses.slot c.args.cpu (rooms_in log r) _
    (c.left_of-self.ensures ∙ ap (λ (b : Bool). if b then r.vms - 1 else r.vms) c.requires.uses.vms)
    (c.left_of-self-2.ensures ∙ ap (λ (b : Bool). if b then r.shared - 1 else r.shared) c.requires.uses.shared)
    (c.store_in.ensures.rooms log)
    (put-items log r.cpus.items c.args.cpu c.left_of.result c.requires.cpu
    ∙ ap (put_at (rooms_in log r).cpu c.args.cpu) room)
