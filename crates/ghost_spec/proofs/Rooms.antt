-- The rooms of the logs that store a call.
use Rattle.std.proofs.Common.{◌≡◌, ℕ, ◌-◌, ◌&&◌, ◌||◌, ◌==◌, Bool, true, false, Option, refl, ◌∙◌}
use Rattle.std.specs.Prelude.{if◌then◌else◌, is_some}
use Rattle.page_state.proofs.Common.{same2}
use Rattle.reference_model.specs.model.Parts.{Names, uses_vms, uses_shared}
use Rattle.reference_model.specs.model.State.{Rooms}
use Rattle.reference_model.specs.model.Step.{is_full, stored}
use Rattle.reference_model.specs.model.Used.{put_rooms, put_room, room_at, rooms_of}
use Rattle.reference_model.specs.model.State.{put_at}
use Rattle.ghost_spec.proofs.Predictions.{rooms-same}

full-used : (u : Bool) (n : ℕ) → (u && (if u then n else 0) == 0) ≡ (u && n == 0)
full-used true n = refl
full-used false n = refl

-- whether a log that would store a call is full
pub full-is : (n : Names) (slot : Option ℕ) (cpu : ℕ) (r : Rooms)
    → is_full n slot (rooms_of n slot cpu r)
    ≡ (r.cpu cpu == 0 || (uses_vms n && r.vms == 0) || (uses_shared n slot && r.shared == 0)
    || (is_some slot && room_at r.guest slot == 0))
unfolding is_full rooms_of
full-is n slot cpu r =
    same2 (λ (a b : Bool). r.cpu cpu == 0 || a || b || (is_some slot && room_at r.guest slot == 0))
    (full-used (uses_vms n) r.vms) (full-used (uses_shared n slot) r.shared)

pub left-used : (u : Bool) (n : ℕ) → (if u then n - 1 else n) ≡ (if u then ((if u then n else 0) - 1) else n)
left-used true n = refl
left-used false n = refl

-- the rooms once a call is stored
pub stored-is : (n : Names) (slot : Option ℕ) (cpu : ℕ) (r q : Rooms)
    → q.vms ≡ (if uses_vms n then r.vms - 1 else r.vms)
    → q.shared ≡ (if uses_shared n slot then r.shared - 1 else r.shared)
    → q.guest ≡ put_room r.guest slot (room_at r.guest slot - 1)
    → q.cpu ≡ put_at r.cpu cpu (r.cpu cpu - 1)
    → q ≡ put_rooms n slot cpu r (stored (rooms_of n slot cpu r))
unfolding put_rooms stored rooms_of
stored-is n slot cpu r q a b c d =
    rooms-same (a ∙ left-used (uses_vms n) r.vms) (b ∙ left-used (uses_shared n slot) r.shared) c d
