-- What one call does to the parts that it uses and to its CPU's own state, whatever the rest of the
-- state is.
use Rattle.std.specs.Prelude.{◌≡◌, ◌≢◌, ℕ, ◌+◌, false, true, cond, eqb, length, List, Option, Some, None, Ok}
use Rattle.call_table.specs.declared.reply.Call.{Call}
use Rattle.call_table.specs.declared.reply.Refusal.TheVariants.{NoMemory}
use Rattle.call_table.specs.declared.reply.Reply.TheVariants.{Refused}
use Rattle.call_table.specs.declared.step.Step.{Step}
use Rattle.page_state.specs.Layouts.{Layout}
use Rattle.reference_model.specs.model.Boot.{CanBoot}
use Rattle.reference_model.specs.model.History.{IsHistory, IsStored, Kept, calls_on, calls_by}
use Rattle.reference_model.specs.declared.changes.Changes.{Changes}
use Rattle.reference_model.specs.model.Decides.{decides}
use Rattle.reference_model.specs.model.Rules.{guest_slot, names}
use Rattle.reference_model.specs.model.State.{Reference}
use Rattle.reference_model.specs.model.Step.{Steps}
use Rattle.reference_model.specs.model.Used.{used_of}
use Rattle.guest_component.specs.Wants.{WantsNoMemory}
use Rattle.part_types.specs.declared.parts.CpuState.{CpuState}
use Rattle.part_types.specs.Lent.{with_call}
use Rattle.part_types.specs.View.{cpu_of}
use Rattle.part_table.specs.Parts.{part_of, uses, log_of, IsPart, IsOwn}
use Rattle.part_table.specs.declared.slot.Slot.{Slot}
use Rattle.part_table.specs.declared.slot.Slot.TheVariants.{Vm as VmSlot, Shared as SharedSlot, Guest as GuestSlot}
use Rattle.part_types.specs.Roomy.{IsRoomy}

-- the CPU's own state alone
abbrev pub only_cpu : ℕ → CpuState → ℕ → Option CpuState
only_cpu cpu own c = cond (eqb c cpu) (Some own) None

module _ {A : Type 0} where
  -- no part
  abbrev pub none_at : ℕ → Option (Slot A)
  none_at j = None

  -- the part k alone
  abbrev pub only_at : ℕ → Slot A → ℕ → Option (Slot A)
  only_at k x j = cond (eqb j k) (Some x) None

  -- the parts k and i
  abbrev pub both_at : ℕ → Slot A → ℕ → Slot A → ℕ → Option (Slot A)
  both_at k x i y j = cond (eqb j k) (Some x) (cond (eqb j i) (Some y) None)

  -- the Shared part and the guest of slot v
  abbrev pub pair_at : ℕ → Slot A → Slot A → ℕ → Option (Slot A)
  pair_at v shared guest = both_at (v + 2) guest 1 shared

  -- There is one legal history, which a whole state with all logs has, and all that is kept is as
  -- at its end: CPUs' own states by number, each with its calls, and parts by number, each with the
  -- calls on it. What isn't kept may be anything
  pub record AreLeft (l : Layout) (owns : ℕ → Option CpuState)
      (kept : ℕ → Option (Slot A)) : Type 0 where
    pub ready : CanBoot l
    pub whole : Kept
    pub log : List Call
    pub history : IsHistory l whole log
    pub cpus : (c : ℕ) (k : CpuState)
        → owns c ≡ Some k
        → (k.log.calls ≡ calls_by c log) × IsOwn l history.end c k
    pub parts : (k : ℕ) (x : Slot A)
        → kept k ≡ Some x
        → IsPart l history.end k x × ((log_of x).calls ≡ calls_on (part_of k) log)

  -- what a step may rely on: a run leaves these parts and the CPU's own state
  abbrev pub IsLeft : Layout → ℕ → CpuState → (ℕ → Option (Slot A)) → Type 0
  IsLeft l cpu owned lent = AreLeft l (only_cpu cpu owned) lent

  -- memory for the changes is there already with a part
  abbrev pub HasMemoryFor : Changes → Slot A → Type 0
  HasMemoryFor h (VmSlot p) = Unit {0}
  HasMemoryFor h (SharedSlot p) = IsRoomy h p
  HasMemoryFor h (GuestSlot p) = WantsNoMemory h p.guest

  -- memory may run out for a call on these parts, in a state: the decided changes may need a growth
  abbrev pub CanWantFor : Layout → Call → (ℕ → Option (Slot A)) → Reference → Type 0
  CanWantFor l c parts s =
      (h : Changes)
      → decides l c.cpu c.slot c.step (used_of (names c.step) c.slot c.cpu s.contents) ≡ Ok h
      → ((k : ℕ) (x : Slot A) → parts k ≡ Some x → HasMemoryFor h x)
      → ⊥

  -- The call is the reference step on the parts that it uses and on its CPU's own state, in each
  -- state that has these: nothing else of the state changes. The log of each part that it uses
  -- stores it, and so does its CPU's log. Memory runs out only where it may
  pub record Does (l : Layout) (c : Call) (before : ℕ → Option (Slot A)) (own : CpuState)
      (after : ℕ → Option (Slot A)) (owned : CpuState) : Type 0 where
    pub stored : IsStored c.reply
    pub mine : owned.log ≡ with_call c own.log
    pub used : (k : ℕ)
        → uses c k ≡ true
        → (x : Slot A)
        × (y : Slot A)
        × (before k ≡ Some x)
        × (after k ≡ Some y)
        × (log_of y ≡ with_call c (log_of x))
    pub only : (k : ℕ) (y : Slot A) → after k ≡ Some y → uses c k ≡ true
    pub goes : (s : Reference)
        → ((k : ℕ) (x : Slot A) → before k ≡ Some x → IsPart l s k x)
        → IsOwn l s c.cpu own
        → (t : Reference)
        × Steps l s c t
        × ((k : ℕ) (y : Slot A) → after k ≡ Some y → IsPart l t k y)
        × IsOwn l t c.cpu owned
        × ((k : ℕ) (x : Slot A) → uses c k ≡ false → IsPart l s k x → IsPart l t k x)
        × ((j : ℕ) (k : CpuState) → j ≢ c.cpu → IsOwn l s j k → IsOwn l t j k)
    pub wants : c.reply ≡ Refused NoMemory
        → (s : Reference)
        → ((k : ℕ) (x : Slot A) → before k ≡ Some x → IsPart l s k x)
        → IsOwn l s c.cpu own
        → CanWantFor l c before s

-- the call of a step that a CPU makes: its number is one more than its log held
pub record IsCalled (cpu : ℕ) (own : CpuState) (step : Step) (c : Call) : Type 0 where
  pub by : c.cpu ≡ cpu
  pub number : c.number ≡ length own.log.calls + 1
  pub asked : c.step ≡ step
  pub slot : c.slot ≡ guest_slot (cpu_of own) step
