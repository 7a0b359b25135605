-- Laws over lists of steps, each proved on the contract of the function of its name.
use Rattle.std.specs.Prelude.{◌≡◌, ℕ, ◌+◌, ◌<◌, List, Option, Some, None, All}
use Rattle.page_state.specs.declared.layout.Config.{Config}
use Rattle.call_table.specs.declared.reply.Call.{Call}
use Rattle.page_state.specs.Layouts.{Layout}
use Rattle.page_state.specs.Regions.{Memory}
use Rattle.page_state.specs.Runs.{map_of, IsCoarsest}
use Rattle.reference_model.specs.claims.Isolation.{FrameStays}
use Rattle.reference_model.specs.model.Run.{Runs, IsRun}
use Rattle.reference_model.specs.claims.Sound.{owner}
use Rattle.reference_model.specs.model.State.{live}
use Rattle.component.specs.declared.Component.{Component}
use Rattle.guest_component.specs.declared.body.Body.{Body}
use Rattle.hypercalls.specs.declared.parts.Parts.{Parts}
use Rattle.hypercalls.specs.Stands.{parts_layout, state_of}
use Rattle.hypercalls.specs.Whole.{call_of, IsStep}
use Rattle.table_tree.specs.View.{meaning}
use Rattle.hypercalls.specs.Booted.{IsBooted}

-- parts go on to others by a step of one of their CPUs, and this is its call, which holds the reply
pub record Goes {A : Type 0} (p : Parts A) (c : Call) (q : Parts A) : Type 0 where
  pub inside : c.cpu < p.layout.config.cpus
  pub call : c ≡ call_of p c.cpu c.step c.reply
  pub step : IsStep p c.cpu c.step c.reply q

-- the calls are a run of the reference step from the boot state, and these parts represent its end
abbrev pub EndsRun : {A : Type 0} → Layout → List Call → Parts A → Type 0
EndsRun l cs q = IsRun l cs (state_of q)

-- after any list of steps from a boot on, the calls are a run, and the parts represent its end
abbrev pub StepsRun : Type 0 → Type 0
StepsRun A =
    (m : Memory) (config : Config) (p q : Parts A) (cs : List Call)
    → IsBooted m config p
    → Runs Goes p cs q
    → EndsRun (parts_layout p) cs q

-- a walk of a component's tree finds the map of its maplets, and these are the coarsest list
pub record Agrees {A : Type 0} (c : Component A) : Type 0 where
  pub walk : meaning c.tree ≡ map_of c.maplets.runs
  pub coarsest : IsCoarsest c.maplets.runs

-- and so it is with a guest's tree, if there is one
abbrev pub GuestAgrees : {A : Type 0} → Option (Body A) → Type 0
GuestAgrees None = Unit {0}
GuestAgrees (Some b) = Agrees b.map

-- with both trees of the Shared part, and with each guest's
pub record AllAgree {A : Type 0} (p : Parts A) : Type 0 where
  pub shared : Agrees p.shared.host × Agrees p.shared.hyp
  pub guests : All (λ g. GuestAgrees g.guest.body) p.guests.items

-- the step after any list of steps takes no frame from a Live guest, and its page of it stays, or
-- the guest itself shares it or takes it back
abbrev pub StepsIsolate : Type 0 → Type 0
StepsIsolate A =
    (m : Memory) (config : Config) (p q r : Parts A) (cs : List Call) (c : Call) (v f : ℕ)
    → IsBooted m config p
    → Runs Goes p cs q
    → Goes q c r
    → ((state_of q).contents.guest v).phase ≡ live
    → owner (parts_layout p) (state_of q).contents f ≡ 2 + v
    → FrameStays (parts_layout p) (state_of q).contents (state_of r).contents c v f
