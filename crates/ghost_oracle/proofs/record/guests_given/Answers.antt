use Rattle.std.proofs.Common.{◌≡◌, All}
use mathlib.Core.Path.{fun_ext}
use Rattle.reference_model.specs.model.State.{blank, no_guest}
use Rattle.ghost_spec.specs.States.{guest_in}
use Rattle.ghost_spec.specs.Used.{guests_in}
use Rattle.ghost_spec.proofs.Starts.{all-same}
use Rattle.ghost_oracle.proofs.Scratch.{if_ok}
use Rattle.ghost_oracle.proofs.record.guests_given.Goals as goal

pub returns-in-None-clause-guests : goal.returns-in-None-clause-guests
returns-in-None-clause-guests g c =
    rw c.in-None.is
    (if_ok (λ v. All (λ x. guest_in x ≡ no_guest) v.items)
    (λ v. guests_in v.items ≡ blank.guest) c.empty_guests.result
    (λ v h. fun_ext (all-same guest_in no_guest v.items h))
    c.empty_guests.ensures.empty)

pub returns-in_ok-found-in-Some-clause-kept : goal.returns-in_ok-found-in-Some-clause-kept
returns-in_ok-found-in-Some-clause-kept g c =
    λ low. c.guests_with.ensures.kept (c.in_ok-found-in-Some.ensures.kept (rw c.in-Some.is at low))

pub returns-in-None-clause-kept : goal.returns-in-None-clause-kept
returns-in-None-clause-kept g c = λ low. c.empty_guests.ensures.kept
