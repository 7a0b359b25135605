use Rattle.std.proofs.Common.{arith}
use Rattle.std.proofs.lemmas.List.Elements.{All-set}
use Rattle.reference_model.specs.model.State.{no_guest}
use Rattle.ghost_spec.specs.Kept.{IsKeptGuest}
use Rattle.ghost_spec.specs.States.{guest_in}
use Rattle.ghost_oracle.proofs.Recording.{one_put}
use Rattle.ghost_oracle.proofs.record.guests_with.Goals as goal

pub returns-clause-guests : goal.returns-clause-guests
returns-clause-guests c =
    one_put guest_in no_guest c.in_ok-guests.guests.items c.args.slot c.args.guest c.in_ok-guests.ensures.empty
    (omega (arith, c.requires.slot, c.in_ok-guests.ensures.count))

pub returns-clause-kept : goal.returns-clause-kept
returns-clause-kept c =
    λ kept. All-set IsKeptGuest c.in_ok-guests.guests.items c.args.slot c.args.guest kept c.in_ok-guests.ensures.kept
