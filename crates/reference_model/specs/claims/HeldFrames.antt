-- Frames that the host gave for a VM: they stay with the hypervisor until the VM is Dying, and
-- before that in the CPU's hand.
use Rattle.std.specs.Prelude.{◌≡◌, ℕ, ◌+◌, ◌<◌, ◌⊎◌, List}
use Rattle.page_state.specs.Layouts.{Layout}
use Rattle.page_state.specs.Trees.{Block}
use Rattle.call_table.specs.declared.reply.Call.{Call}
use Rattle.call_table.specs.declared.step.Step.{Step}
use Rattle.call_table.specs.declared.step.Step.TheVariants.{FinishGuest, Install, ReclaimPool, Topup, Unfund}
use Rattle.call_table.specs.declared.step.VmId.{VmId}
use Rattle.reference_model.specs.model.Boot.{CanBoot}
use Rattle.reference_model.specs.help.Conditions.{Legal, IsUsable}
use Rattle.reference_model.specs.model.Run.{IsRun}
use Rattle.reference_model.specs.claims.Sound.{HasTicket, IsHeld, vm_pool, table_of, hand}
use Rattle.reference_model.specs.model.State.{Contents, Reference, dying}
use Rattle.reference_model.specs.model.Step.{Steps}

-- the frame is held for the guest: it is free in the guest's pool, or a table of its tree
abbrev pub IsHeldFor : Contents → ℕ → ℕ → Type 0
IsHeldFor s v f = IsHeld s f (vm_pool v) ⊎ ((b : Block) × IsHeld s f (table_of (2 + v) b))

-- the name of the VM whose guest is in the slot
abbrev pub name_of : Contents → ℕ → VmId
name_of s v = record { slot = v; generation = (s.guest v).generation }

-- the guest is Dying, and the step takes back a frame of its pool, or its root by the CPU's ticket
pub record TakesBack (s : Contents) (cpu : ℕ) (step : Step) (v : ℕ) : Type 0 where
  pub is_dying : (s.guest v).phase ≡ dying
  pub step_is : (step ≡ ReclaimPool (name_of s v)) ⊎ ((step ≡ FinishGuest) × HasTicket s v cpu)

-- the CPU gives its hand on: back to the host, or to a guest
abbrev pub GivesHandOn : Step → Type 0
GivesHandOn step = (step ≡ Unfund) ⊎ (step ≡ Install) ⊎ ((vm : VmId) × (step ≡ Topup vm))

-- a frame that is held for a guest is held for it after each step from a legal state, unless the
-- guest is Dying and the step takes it back
abbrev pub HeldStays : Type 0
HeldStays =
    (l : Layout) (s t : Reference) (c : Call) (v f : ℕ)
    → IsUsable l
    → c.cpu < l.config.cpus
    → Legal l s.contents
    → Steps l s c t
    → IsHeldFor s.contents v f → IsHeldFor t.contents v f ⊎ TakesBack s.contents c.cpu c.step v

-- and so after each step that follows a run
abbrev pub RunHeldStays : Type 0
RunHeldStays =
    (l : Layout) (cs : List Call) (s t : Reference) (c : Call) (v f : ℕ)
    → CanBoot l
    → c.cpu < l.config.cpus
    → IsRun l cs s
    → Steps l s c t
    → IsHeldFor s.contents v f → IsHeldFor t.contents v f ⊎ TakesBack s.contents c.cpu c.step v

-- a frame in a CPU's hand is there after each step, unless that CPU gives its hand on
abbrev pub HandStays : Type 0
HandStays =
    (l : Layout) (s t : Reference) (c : Call) (k f : ℕ)
    → Steps l s c t
    → IsHeld s.contents f (hand k)
    → IsHeld t.contents f (hand k) ⊎ ((c.cpu ≡ k) × GivesHandOn c.step)
