-- Bounds of the numbers in a state of a run.
use Rattle.std.specs.Prelude.{◌≡◌, ℕ, ◌+◌, ◌≤◌, ◌<◌, List, length, Some}
use Rattle.page_state.specs.declared.entry.PageRange.{PageRange}
use Rattle.call_table.specs.declared.reply.Call.{Call}
use Rattle.reference_model.specs.model.Boot.{CanBoot}
use Rattle.reference_model.specs.help.Conditions.{Legal}
use Rattle.reference_model.specs.model.GuestRules.{guest_table_count}
use Rattle.page_state.specs.Layouts.{Layout}
use Rattle.reference_model.specs.model.Run.{IsRun}
use Rattle.reference_model.specs.model.State.{Reference}
use Rattle.reference_model.specs.model.Step.{Steps}

-- hands have at most 512 frames, a slot's generation is at most one more than the calls that its
-- part's log stores, a slot has at most 8 vCPUs, a guest holds at most 512 frames, and the vCPUs
-- loaded are of its slot's
pub record Bounded (l : Layout) (s : Reference) : Type 0 where
  pub hands : (c : ℕ) (r : PageRange) → (s.contents.cpu c).hand ≡ Some r → r.count ≤ 512
  pub generations : (v : ℕ) → (s.contents.vms.slot v).generation + s.rooms.vms ≤ l.config.log + 1
  pub vcpus : (v : ℕ) → (s.contents.vms.slot v).vcpus ≤ 8
  pub guests : (v : ℕ)
      → guest_table_count l (s.contents.guest v).tree + length (s.contents.guest v).free ≤ 512
  pub loads : (v i c : ℕ)
      → (s.contents.vms.slot v).loaded i ≡ Some c
      → i < (s.contents.vms.slot v).vcpus

-- a step from a legal state keeps the bounds
abbrev pub BoundedKeeps : Type 0
BoundedKeeps =
    (l : Layout) (s t : Reference) (c : Call)
    → Legal l s.contents
    → Bounded l s
    → Steps l s c t
    → Bounded l t

-- each state of a run has them
abbrev pub RunBounded : Type 0
RunBounded = (l : Layout) (cs : List Call) (t : Reference) → CanBoot l → IsRun l cs t → Bounded l t
