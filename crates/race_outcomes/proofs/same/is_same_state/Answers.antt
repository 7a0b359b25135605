use Rattle.std.proofs.Common.{sym, subst}
use Rattle.ghost_spec.specs.declared.lists.GhostLists.{GhostLists}
use Rattle.race_outcomes.specs.Layers.{AreSameRooms}
use Rattle.race_outcomes.proofs.States.{rooms_apart}
use Rattle.race_outcomes.proofs.same.is_same_state.Goals as goal

pub returns-then-not-has_same_rooms-clause-apart : goal.returns-then-not-has_same_rooms-clause-apart
returns-then-not-has_same_rooms-clause-apart c e layouts same =
    let a = c.args.a.now in
    let b = c.args.b.now in
    let differ : AreSameRooms a.rooms b.rooms → ⊥ = λ h.
    let told =
    c.has_same_rooms.ensures.1
    (subst (λ (x : GhostLists). AreSameRooms x.rooms c.lists-4.result.now.rooms) (sym c.lists-3.ensures.value)
    (subst (λ (y : GhostLists). AreSameRooms a.rooms y.rooms) (sym c.lists-4.ensures.value) h)) in
    let tested = c.if-not-has_same_rooms.true in
    absurd (cc) in
    rooms_apart a b c.lists-3.ensures.kept c.lists-4.ensures.kept layouts differ same
