use Rattle.std.proofs.Common.{◌<◌, ◌∙◌, refl, arith}
use Rattle.std.proofs.lemmas.List.{length-set}
use Rattle.std.proofs.lemmas.List.Elements.{All-set}
use Rattle.reference_model.specs.model.State.{no_guest}
use Rattle.ghost_spec.specs.Kept.{IsKeptGuest}
use Rattle.ghost_spec.specs.States.{guest_in}
use Rattle.ghost_spec.proofs.Predictions.{put-list}
use Rattle.ghost_spec.proofs.used.put_guest.Goals as goal

pub returns-in-Some-clause-guests : goal.returns-in-Some-clause-guests
returns-in-Some-clause-guests c =
    let low : c.in-Some.v < 64 = rw c.in-Some.is at c.requires.slot in
    rw c.in-Some.is
    (put-list guest_in no_guest c.args.guests.now.items c.in-Some.v c.args.new
    (omega (arith, low, c.requires.count)))

pub returns-in-Some-clause-count : goal.returns-in-Some-clause-count
returns-in-Some-clause-count c = length-set c.args.guests.now.items c.in-Some.v c.args.new ∙ c.requires.count

pub returns-in-Some-clause-kept : goal.returns-in-Some-clause-kept
returns-in-Some-clause-kept c =
    All-set IsKeptGuest c.args.guests.now.items c.in-Some.v c.args.new c.requires.new c.requires.kept

pub returns-in_default-clause-count : goal.returns-in_default-clause-count
returns-in_default-clause-count c = c.requires.count

pub returns-in_default-clause-kept : goal.returns-in_default-clause-kept
returns-in_default-clause-kept c = c.requires.kept

pub returns-in_default-clause-guests : goal.returns-in_default-clause-guests
returns-in_default-clause-guests c = rw c.in_default.is refl
