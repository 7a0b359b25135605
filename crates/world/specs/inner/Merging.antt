-- How logs are merged: the calls given of each log are its first, and the rest of it goes on from
-- there.
use Rattle.std.specs.Prelude.{◌≡◌, ℕ, zero, suc, ◌+◌, Bool, true, ◌==◌, if◌then◌else◌, List, [], ◌∷◌, Option, Some, None, Vec, drop, length, slice_index}
use Rattle.call_table.specs.declared.reply.Call.{Call}
use Rattle.reference_model.specs.model.Parts.{Part, vm_part, shared_part, guest_part}
use Rattle.reference_model.specs.model.Rules.{call_uses}
use Rattle.world.specs.declared.merge.Histories.{Histories}
use Rattle.world.specs.declared.merge.Places.{Places}
use Rattle.world.specs.Merges.{log_at, log_on, log_by}

-- a log: that of a part, or a CPU's own list
pub data LogName : Type 0 where
  on : Part → LogName
  by : ℕ → LogName

-- whether a log has a call
abbrev pub has : LogName → Call → Bool
has (on p) c = call_uses p c
has (by cpu) c = c.cpu == cpu

-- all calls of a log
abbrev pub whole : Histories → LogName → List Call
whole h (on p) = log_on h p
whole h (by cpu) = log_by h cpu

-- how many of them were given
abbrev pub place_in : Places → LogName → ℕ
place_in g (on vm_part) = g.vms
place_in g (on shared_part) = g.shared
place_in g (on (guest_part v)) = slice_index g.guests.items v
place_in g (by cpu) = slice_index g.cpus.items cpu

-- the others
abbrev pub left : Histories → Places → LogName → List Call
left h g x = drop (place_in g x) (whole h x)

-- there is a place for each guest's log and for each CPU's list
pub record IsPlaced (h : Histories) (g : Places) : Type 0 where
  pub guests : length g.guests.items ≡ length h.guests.items
  pub cpus : length g.cpus.items ≡ length h.cpus.items

abbrev pub first_of : List Call → Option Call
first_of [] = None
first_of (c ∷ cs) = Some c

abbrev pub rest_of : List Call → List Call
rest_of [] = []
rest_of (c ∷ cs) = cs

-- the call is the first in the rest of each log that has it
abbrev pub IsNext : (LogName → List Call) → Call → Type 0
IsNext rests c = (x : LogName) → has x c ≡ true → first_of (rests x) ≡ Some c

-- the rest without that call
abbrev pub after_call : (LogName → List Call) → Call → LogName → List Call
after_call rests c x = if has x c then rest_of (rests x) else rests x

-- how many calls are left of the lists of the first n CPUs
abbrev pub left_by : (LogName → List Call) → ℕ → ℕ
left_by rests zero = 0
left_by rests (suc n) = left_by rests n + length (rests (by n))

-- the rest of the log of a number, in a list of logs
abbrev pub left_at : {Z : Type 0} → List (Vec Call Z) → List ℕ → ℕ → List Call
left_at logs places k = drop (slice_index places k) (log_at logs k)

-- the next call was given in each log whose number passes a test
abbrev pub IsAdvanced : {Z : Type 0} → (ℕ → Bool) → List (Vec Call Z) → List ℕ → List ℕ → Type 0
IsAdvanced passes logs old new =
    (k : ℕ)
    → left_at logs new k ≡ (if passes k then rest_of (left_at logs old k) else left_at logs old k)
