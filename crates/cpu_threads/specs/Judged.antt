-- What a judge is asked of a call while its pass holds the parts that the call uses.
use Rattle.std.specs.Prelude.{◌≡◌, ℕ, zero, suc, IfSome, Option, Some, None, Result, Ok, Err, option_map}
use Rattle.call_table.specs.declared.reply.Call.{Call}
use Rattle.call_table.specs.declared.reply.Reply.{Reply}
use Rattle.call_table.specs.declared.step.Step.{Step}
use Rattle.page_state.specs.declared.layout.Layout.{Layout as TheLayout}
use Rattle.page_state.specs.LayoutView.{layout_of}
use Rattle.page_state.specs.Layouts.{Layout}
use Rattle.part_types.specs.declared.parts.CpuState.{CpuState}
use Rattle.part_types.specs.declared.parts.GuestPart.{GuestPart}
use Rattle.part_types.specs.declared.parts.SharedPart.{SharedPart}
use Rattle.part_types.specs.declared.parts.VmPart.{VmPart}
use Rattle.part_types.specs.View.{cpu_of, guest_held}
use Rattle.part_table.specs.declared.slot.Slot.{Slot}
use Rattle.part_table.specs.declared.slot.Slot.TheVariants.{Vm as VmSlot, Shared as SharedSlot, Guest as GuestSlot}
use Rattle.part_table.specs.Made.{IsMade}
use Rattle.part_table.specs.Parts.{HoldsGuest, HoldsShared, HoldsVms}
use Rattle.part_table.specs.Known.{Known}
use Rattle.ghost_spec.specs.declared.lists.GhostLists.{GhostLists}
use Rattle.ghost_spec.specs.States.{contents_in, ghost_state}
use Rattle.ghost_judge.specs.Judgements.{JudgeAgrees, told_of}
use Rattle.ghost_oracle.specs.Low.{IsLowCpu, IsLowGuest}
use Rattle.ghost_oracle.specs.Recorded.{Given, put_given, recorded}

-- What a judge is asked: about a call of the CPU, with the records before and after it, or without
-- them if memory was refused to either
pub record Asked : Type 0 where
  pub cpu : ℕ
  pub step : Step
  pub reply : Reply
  pub states : Option (GhostLists × GhostLists)

abbrev pub shown : ℕ → Step → Reply → GhostLists → GhostLists → Asked
shown cpu step reply pre post =
    record { cpu = cpu; step = step; reply = reply; states = Some (pre, post) }

abbrev pub unshown : ℕ → Step → Reply → Asked
unshown cpu step reply = record { cpu = cpu; step = step; reply = reply; states = None }

-- both records, if memory was refused to neither
abbrev pub both_in : {E : Type 0}
    → Result GhostLists E
    → Result GhostLists E
    → Option (GhostLists × GhostLists)
both_in (Ok pre) (Ok post) = Some (pre, post)
both_in (Ok pre) (Err why) = None
both_in (Err why) other = None

module _ {A : Type 0} where
  -- the parts given to a record, by number
  abbrev pub given_at : Given A → ℕ → Option (Slot A)
  given_at x zero = option_map (λ p. VmSlot p) x.vms
  given_at x (suc zero) = option_map (λ p. SharedSlot p) x.shared
  given_at x (suc (suc v)) = put_given (λ j. None) (λ p. Some (GuestSlot p)) x.guest v

  -- what lies in a slot, as it is given to a record: the VM part, the Shared part, or a guest,
  -- which is given a slot
  abbrev pub lent_vms : Slot A → Option VmPart
  lent_vms (VmSlot p) = Some p
  lent_vms other = None

  abbrev pub lent_shared : Slot A → Option (SharedPart A)
  lent_shared (SharedSlot p) = Some p
  lent_shared other = None

  abbrev pub lent_guest : ℕ → Slot A → Option (ℕ × GuestPart A)
  lent_guest v (GuestSlot p) = Some (v, p)
  lent_guest v other = None

  -- the state on lists is the record of these parts, by number, and of the CPU's own state
  pub record IsRecordOf (l : Layout) (held : ℕ → Option (Slot A)) (own : CpuState)
      (g : GhostLists) : Type 0 where
    pub parts : Given A
    pub all : (k : ℕ) → given_at parts k ≡ held k
    pub own_is : parts.own ≡ own
    pub state : ghost_state g ≡ recorded parts l
    pub layout : layout_of g.layout ≡ l

  -- a part is of the kind of its number
  abbrev pub IsOfKind : ℕ → Slot A → Type 0
  IsOfKind zero x = HoldsVms x
  IsOfKind (suc zero) x = HoldsShared x
  IsOfKind (suc (suc v)) x = HoldsGuest x

  -- what a record requires of these parts, by number, and of the CPU's own state
  pub record CanRecord (held : ℕ → Option (Slot A)) (own : CpuState) : Type 0 where
    pub kinds : (k : ℕ) (x : Slot A) → held k ≡ Some x → IsOfKind k x
    pub guests : (k : ℕ) (p : GuestPart A) → held k ≡ Some (GuestSlot p) → IsLowGuest (guest_held p)
    pub own_low : IsLowCpu (cpu_of own)

  -- A judge is asked once about the call. It sees the record of the parts that the call uses and of
  -- its CPU's own state as they were taken, and that of them as they go back, or learns that memory
  -- was refused to a record
  pub record AsksOnce {J : Type 0} (takes : J → Asked → J → Type 0) (l : TheLayout)
      (before : ℕ → Option (Slot A)) (own : CpuState) (c : Call) (after : ℕ → Option (Slot A))
      (owned : CpuState) (from to : J) : Type 0 where
    pub asked : Asked
    pub takes_it : takes from asked to
    pub cpu : asked.cpu ≡ c.cpu
    pub step : asked.step ≡ c.step
    pub reply : asked.reply ≡ c.reply
    pub states : IfSome asked.states
        (λ s. IsRecordOf (layout_of l) before own s.0 × IsRecordOf (layout_of l) after owned s.1)

-- the same for a stored call, and `judge` agrees on the states that it was shown
pub record IsJudged (A : Type 0) {J : Type 0} (takes : J → Asked → J → Type 0) (step : Step)
    (reply : Reply) (v w : Known) (from to : J) : Type 0 where
  pub made : IsMade (AsksOnce {A = A} takes) step reply v w from to
  pub agrees : IfSome made.told.asked.states
      (λ s. JudgeAgrees (contents_in s.0) step reply (contents_in s.1) (told_of s.0 v.cpu step))
