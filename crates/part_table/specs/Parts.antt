-- The 66 parts by number, and how a slot of the table relates to a reference state.
use Rattle.std.specs.Prelude.{◌≡◌, ℕ, zero, suc, ◌+◌, Bool, List, [], ◌∷◌}
use Rattle.call_table.specs.declared.reply.Call.{Call}
use Rattle.call_table.specs.declared.step.Step.{Step}
use Rattle.page_state.specs.Layouts.{Layout}
use Rattle.reference_model.specs.model.Parts.{Part, vm_part, shared_part, guest_part}
use Rattle.reference_model.specs.model.Rules.{call_uses}
use Rattle.reference_model.specs.model.State.{Reference}
use Rattle.part_types.specs.declared.parts.VmPart.{VmPart}
use Rattle.part_types.specs.declared.parts.SharedPart.{SharedPart}
use Rattle.part_types.specs.declared.parts.GuestPart.{GuestPart}
use Rattle.part_types.specs.declared.parts.CpuState.{CpuState}
use Rattle.part_types.specs.Lent.{SharedSuits, GuestSuits}
use Rattle.part_types.specs.Logs.{StoredCalls, IsOfSize}
use Rattle.part_types.specs.View.{vm_slots, shared_of, guest_held, cpu_of}
use Rattle.hypercalls.specs.Uses.{uses_of}
use Rattle.hypercalls.specs.declared.used_parts.UsedParts.{UsedParts}
use Rattle.hypercalls.specs.declared.used_parts.UsedParts.TheVariants.{Nothing, Vms, Shared, Guest, Both}
use Rattle.part_table.specs.declared.slot.Slot.{Slot}
use Rattle.part_table.specs.declared.slot.Slot.TheVariants.{Vm as VmSlot, Shared as SharedSlot, Guest as GuestSlot}

-- the number of parts: the VM part, the Shared part and 64 guests
abbrev pub parts : ℕ
parts = 66

-- the part of a number: 0 is the VM part, 1 the Shared part, 2 + v the guest of slot v
abbrev pub part_of : ℕ → Part
part_of zero = vm_part
part_of (suc zero) = shared_part
part_of (suc (suc v)) = guest_part v

-- whether a call used the part
abbrev pub uses : Call → ℕ → Bool
uses c k = call_uses (part_of k) c

-- the parts of a step by number, in the order in which they are taken
abbrev pub in_order : UsedParts → List ℕ
in_order Nothing = []
in_order Vms = 0 ∷ []
in_order Shared = 1 ∷ []
in_order (Guest v) = (v + 2) ∷ []
in_order (Both v) = 1 ∷ (v + 2) ∷ []

-- the parts by number that a step of a CPU in this state uses, in that order
abbrev pub numbers_for : CpuState → Step → List ℕ
numbers_for own step = in_order (uses_of (cpu_of own) step)

module _ {A : Type 0} where
  -- the log of a part
  abbrev pub log_of : Slot A → StoredCalls
  log_of (VmSlot p) = p.log
  log_of (SharedSlot p) = p.log
  log_of (GuestSlot p) = p.log

  -- which part lies in a slot
  abbrev pub HoldsVms : Slot A → Type 0
  HoldsVms (VmSlot p) = Unit {0}
  HoldsVms other = ⊥

  abbrev pub HoldsShared : Slot A → Type 0
  HoldsShared (SharedSlot p) = Unit {0}
  HoldsShared other = ⊥

  abbrev pub HoldsGuest : Slot A → Type 0
  HoldsGuest (GuestSlot p) = Unit {0}
  HoldsGuest other = ⊥

module _ (l : Layout) (s : Reference) where
  -- the VM part is that of a state: its contents and its log's room are the state's
  pub record IsVms (p : VmPart) : Type 0 where
    pub content : vm_slots p ≡ s.contents.vms
    pub room : p.log.room ≡ s.rooms.vms
    pub size : IsOfSize l.config.log p.log

  -- the Shared part is that of a state, and of the layout
  pub record IsShared {A : Type 0} (p : SharedPart A) : Type 0 where
    pub content : shared_of p ≡ s.contents.shared
    pub room : p.log.room ≡ s.rooms.shared
    pub suits : SharedSuits l p

  -- the Guest part of a slot is that of a state, and of the layout
  pub record IsGuest {A : Type 0} (v : ℕ) (p : GuestPart A) : Type 0 where
    pub content : guest_held p ≡ s.contents.guest v
    pub room : p.log.room ≡ s.rooms.guest v
    pub suits : GuestSuits l p

  -- the part of a number is that of a state: it is of its kind, and holds what the state has there
  abbrev pub IsPart : {A : Type 0} → ℕ → Slot A → Type 0
  IsPart zero (VmSlot p) = IsVms p
  IsPart zero other = ⊥
  IsPart (suc zero) (SharedSlot p) = IsShared p
  IsPart (suc zero) other = ⊥
  IsPart (suc (suc v)) (GuestSlot p) = IsGuest v p
  IsPart (suc (suc v)) other = ⊥

  -- a CPU's own state, which has its number, is that of a state
  pub record IsOwn (cpu : ℕ) (own : CpuState) : Type 0 where
    pub id : own.id ≡ cpu
    pub content : cpu_of own ≡ s.contents.cpu cpu
    pub room : own.log.room ≡ s.rooms.cpu cpu
    pub size : IsOfSize l.config.log own.log
