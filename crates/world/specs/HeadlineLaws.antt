-- What the headline gives who made the steps, in words of the states before and after, and that a
-- boot has one fault.
use Rattle.std.specs.Prelude.{◌≡◌, ◌≢◌, ℕ, ◌+◌, List, [], ◌∷◌, All}
use Rattle.page_state.specs.declared.layout.Config.{Config}
use Rattle.page_state.specs.Layouts.{Layout}
use Rattle.page_state.specs.Regions.{Memory}
use Rattle.call_table.specs.declared.reply.Call.{Call}
use Rattle.call_table.specs.declared.reply.Refusal.{Refusal}
use Rattle.call_table.specs.declared.reply.Reply.{Reply}
use Rattle.call_table.specs.declared.reply.Reply.TheVariants.{Refused}
use Rattle.call_table.specs.declared.step.Step.{Step}
use Rattle.call_table.specs.declared.step.Step.TheVariants.{GuestShareHost, GuestUnshareHost}
use Rattle.reference_model.specs.claims.HeldFrames.{GivesHandOn, IsHeldFor}
use Rattle.reference_model.specs.claims.Isolation.{guest_entry_at}
use Rattle.reference_model.specs.model.Run.{Runs}
use Rattle.reference_model.specs.claims.Sound.{Sound, Holds, IsHeld, hand, owner}
use Rattle.reference_model.specs.model.State.{Contents, dying, live}
use Rattle.hypercalls.specs.Booted.{IsBooted}
use Rattle.hypercalls.specs.declared.parts.Parts.{Parts}
use Rattle.hypercalls.specs.Stands.{parts_layout, state_of}
use Rattle.world.specs.Boots.{IsNoBoot}
use Rattle.world.specs.declared.boot.BootFault.{BootFault}
use Rattle.world.specs.declared.boot.BootFault.TheVariants.{NoMemory}
use Rattle.world.specs.Headline.{Headline, IsRight, RowsAgree}
use Rattle.world.specs.Laws.{Goes}

-- the state that the parts represent after any list of steps from a boot on is right
abbrev pub StepsRight : Type 0 → Type 0
StepsRight A =
    (m : Memory) (config : Config) (p q : Parts A) (cs : List Call)
    → IsBooted m config p
    → Runs Goes p cs q
    → IsRight q

-- a refusal, also for lack of memory
abbrev pub IsRefusal : Reply → Type 0
IsRefusal reply = (why : Refusal) × (reply ≡ Refused why)

-- steps that are all refused leave all that the state has
abbrev pub RefusalsLeave : Type 0 → Type 0
RefusalsLeave A =
    (p q : Parts A) (steps : List (ℕ × Step)) (replies : List Reply)
    → Headline p steps replies q
    → All IsRefusal replies
    → (state_of q).contents ≡ (state_of p).contents

-- a guest owns the frame still, and its pages of it have the entries that they had, but for a share
-- with the host or its end
pub record KeepsFrame (l : Layout) (s t : Contents) (step : Step) (v f : ℕ) : Type 0 where
  pub owner_stays : owner l t f ≡ 2 + v
  pub page_stays : (g : ℕ)
      → Holds s (2 + v) g f
      → (step ≡ GuestShareHost g → ⊥)
      → (step ≡ GuestUnshareHost g → ⊥)
      → guest_entry_at t v g ≡ guest_entry_at s v g

-- a step leaves a Live guest its frames
abbrev pub StepKeepsFrames : Type 0 → Type 0
StepKeepsFrames A =
    (p q : Parts A) (cpu : ℕ) (step : Step) (reply : Reply) (v f : ℕ)
    → Headline p ((cpu, step) ∷ []) (reply ∷ []) q
    → ((state_of p).contents.guest v).phase ≡ live
    → owner (parts_layout p) (state_of p).contents f ≡ 2 + v
    → KeepsFrame (parts_layout p) (state_of p).contents (state_of q).contents step v f

-- and one that isn't Dying keeps the frames held for it
abbrev pub StepKeepsHeld : Type 0 → Type 0
StepKeepsHeld A =
    (p q : Parts A) (cpu : ℕ) (step : Step) (reply : Reply) (v f : ℕ)
    → Headline p ((cpu, step) ∷ []) (reply ∷ []) q
    → ((state_of p).contents.guest v).phase ≢ dying
    → IsHeldFor (state_of p).contents v f → ∥ IsHeldFor (state_of q).contents v f ∥₁

-- and a CPU its hand, unless that CPU gives it on
abbrev pub StepKeepsHand : Type 0 → Type 0
StepKeepsHand A =
    (p q : Parts A) (cpu : ℕ) (step : Step) (reply : Reply) (k f : ℕ)
    → Headline p ((cpu, step) ∷ []) (reply ∷ []) q
    → IsHeld (state_of p).contents f (hand k)
    → (cpu ≡ k → GivesHandOn step → ⊥) → IsHeld (state_of q).contents f (hand k)

-- if a step is made, the state before it was right
pub record WasRight {A : Type 0} (p : Parts A) : Type 0 where
  pub rows : RowsAgree (parts_layout p) (state_of p).contents
  pub sound : ∥ Sound (parts_layout p) (state_of p).contents ∥₁

abbrev pub BeginsRight : Type 0 → Type 0
BeginsRight A =
    (p q : Parts A) (asked : ℕ × Step) (steps : List (ℕ × Step)) (replies : List Reply)
    → Headline p (asked ∷ steps) replies q
    → WasRight p

-- the same memory and configuration have one fault alone, and if a world boots from them, only that
-- memory was refused
abbrev pub FaultOnce : Type 0
FaultOnce =
    (m : Memory) (config : Config) (a b : BootFault)
    → IsNoBoot a m config
    → IsNoBoot b m config
    → a ≡ b

abbrev pub BootedElse : Type 0 → Type 0
BootedElse A =
    (m : Memory) (config : Config) (p : Parts A) (fault : BootFault)
    → IsBooted m config p
    → IsNoBoot fault m config
    → fault ≡ NoMemory
