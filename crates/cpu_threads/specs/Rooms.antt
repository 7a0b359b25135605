-- Room for the logs of a machine, counted from its passes' lists, and the logs that come of it.
use Rattle.std.specs.Prelude.{◌≡◌, ℕ, ◌+◌, ◌<◌, ◌≤◌, ◌==◌, Bool, cond, List, [], ◌∷◌, filter, get_or, length, Option, Some, None, slice_get, Vec}
use Rattle.std.specs.Vec.{vec_capacity}
use Rattle.call_table.specs.declared.reply.Call.{Call}
use Rattle.reference_model.specs.model.Parts.{is_slot, vm_part, shared_part, guest_part}
use Rattle.reference_model.specs.model.Rules.{call_uses}
use Rattle.reference_model.specs.model.History.{Kept}
use Rattle.part_table.specs.Passes.{Pass}
use Rattle.hypercalls.specs.declared.parts.Parts.{Parts}
use Rattle.hypercalls.specs.Stands.{kept_of, parts_layout}
use Rattle.world.specs.declared.merge.Histories.{Histories}
use Rattle.world.specs.Merges.{AreLogsOf, IsOfHistory}
use Rattle.cpu_threads.specs.declared.rooms.Tally.{Tally}

-- a log of a world: a part's, or a CPU's own list
pub data LogName : Type 0 where
  vms_log : LogName
  shared_log : LogName
  guest_log : ℕ → LogName
  cpu_log : ℕ → LogName

-- whether a log has a call
abbrev pub picks : LogName → Call → Bool
picks vms_log c = call_uses vm_part c
picks shared_log c = call_uses shared_part c
picks (guest_log v) c = call_uses (guest_part v) c
picks (cpu_log n) c = c.cpu == n

module _ (f : Call → Bool) where
  -- how many calls of a pass's list are picked
  abbrev pub of_pass : Option Pass → ℕ
  of_pass None = 0
  of_pass (Some p) = length (filter f p.knows.own.log.calls)

  -- how many of all passes' lists
  abbrev pub total : List (Option Pass) → ℕ
  total [] = 0
  total (o ∷ os) = of_pass o + total os

  abbrev pub total_given : List Pass → ℕ
  total_given [] = 0
  total_given (p ∷ ps) = of_pass (Some p) + total_given ps

  -- an empty list with room for all that the passes' lists have of a log
  abbrev pub Fits : {Z : Type 0} → List (Option Pass) → List Pass → Vec Call Z → Type 0
  Fits passes given v = (v.items ≡ []) × (total passes + total_given given ≤ vec_capacity v)

-- n empty lists, each with room for the log of its place
abbrev pub AllFit : {Z : Type 0}
    → (ℕ → Call → Bool)
    → List (Option Pass)
    → List Pass
    → ℕ
    → List (Vec Call Z)
    → Type 0
AllFit {Z = Z} f passes given n rooms =
    (length rooms ≡ n)
    × ((j : ℕ) (v : Vec Call Z) → slice_get rooms j ≡ Some v → Fits (f j) passes given v)

-- empty lists for all logs, with room for what the passes' lists have of each
pub record HaveRoom (passes : List (Option Pass)) (given : List Pass) (n : ℕ)
    (h : Histories) : Type 0 where
  pub vms : Fits (picks vms_log) passes given h.vms
  pub shared : Fits (picks shared_log) passes given h.shared
  pub guests : AllFit (λ v. picks (guest_log v)) passes given 64 h.guests.items
  pub cpus : AllFit (λ c. picks (cpu_log c)) passes given n h.cpus.items

-- 1 if the condition holds, otherwise 0
abbrev pub one_if : Bool → ℕ
one_if b = cond b 1 0

-- what a tally says of a log
abbrev pub number : Tally → LogName → ℕ
number t vms_log = t.vms
number t shared_log = t.shared
number t (guest_log v) = get_or t.guests.items v 0
number t (cpu_log c) = get_or t.cpus.items c 0

-- it has a place for the log
abbrev pub HasPlace : Tally → LogName → Type 0
HasPlace t (guest_log v) = v < length t.guests.items
HasPlace t (cpu_log c) = c < length t.cpus.items
HasPlace t other = Unit {0}

-- a tally of no calls, for a world with n CPUs
pub record IsZero (n : ℕ) (t : Tally) : Type 0 where
  pub guests : length t.guests.items ≡ 64
  pub cpus : length t.cpus.items ≡ n
  pub each : (log : LogName) → HasPlace t log → number t log ≡ 0

-- the number of each log has grown by what f says of the calls that it has
pub record Grew (f : (Call → Bool) → ℕ) (before after : Tally) : Type 0 where
  pub guests : length after.guests.items ≡ length before.guests.items
  pub cpus : length after.cpus.items ≡ length before.cpus.items
  pub each : (log : LogName)
      → HasPlace before log
      → number after log ≡ number before log + f (picks log)

-- the number at the place, if there is one, has grown by one, and the others are as they were
abbrev pub HasOneMore : Option ℕ → List ℕ → List ℕ → Type 0
HasOneMore place xs ys =
    (length ys ≡ length xs)
    × ((j : ℕ) → j < length xs → get_or ys j 0 ≡ get_or xs j 0 + one_if (is_slot place j))

-- an empty list for each number, with room for that many calls
abbrev pub AllRoomy : {Z : Type 0} → List ℕ → List (Vec Call Z) → Type 0
AllRoomy {Z = Z} counts rooms =
    (length rooms ≡ length counts)
    × ((j : ℕ) (v : Vec Call Z)
    → slice_get rooms j ≡ Some v
    → (v.items ≡ []) × (get_or counts j 0 ≤ vec_capacity v))

-- an empty list with room for a log
abbrev pub CanTake : {Z : Type 0} → List Call → Vec Call Z → Type 0
CanTake log v = (v.items ≡ []) × (length log ≤ vec_capacity v)

-- at each place of a list one with room for the log of the place
abbrev pub AllHold : {Z : Type 0} → (ℕ → List Call) → List (Vec Call Z) → Type 0
AllHold {Z = Z} logs rooms =
    (j : ℕ) (v : Vec Call Z) → slice_get rooms j ≡ Some v → CanTake (logs j) v

-- at each place the log of the place
abbrev pub HaveAll : {Z : Type 0} → (ℕ → List Call) → List (Vec Call Z) → Type 0
HaveAll {Z = Z} logs rooms =
    (j : ℕ) (v : Vec Call Z) → slice_get rooms j ≡ Some v → v.items ≡ logs j

-- the places before n have the log, the others room for it
abbrev pub HaveTo : {Z : Type 0} → ℕ → (ℕ → List Call) → List (Vec Call Z) → Type 0
HaveTo {Z = Z} n logs rooms =
    (j : ℕ) (v : Vec Call Z)
    → slice_get rooms j ≡ Some v
    → (j < n → v.items ≡ logs j) × (n ≤ j → CanTake (logs j) v)

-- empty lists for all logs, with room for the logs of what there is
pub record CanHold (kept : Kept) (n : ℕ) (h : Histories) : Type 0 where
  pub vms : CanTake kept.vms.1 h.vms
  pub shared : CanTake kept.shared.1 h.shared
  pub guest_count : length h.guests.items ≡ 64
  pub guests : AllHold (λ v. (kept.guest v).1) h.guests.items
  pub cpu_count : length h.cpus.items ≡ n
  pub cpus : AllHold (λ c. (kept.cpu c).1) h.cpus.items

-- the logs are those of the parts, and of one legal history
pub record AreHistories {A : Type 0} (p : Parts A) (h : Histories) : Type 0 where
  pub logs : AreLogsOf h (parts_layout p) (kept_of p)
  pub history : ∥ IsOfHistory h ∥₁
