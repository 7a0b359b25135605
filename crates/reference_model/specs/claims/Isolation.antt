-- Isolation of Live guests.
use Rattle.std.specs.Prelude.{◌≡◌, ℕ, ◌+◌, ◌<◌, ◌⊎◌, List}
use Rattle.descriptor.specs.declared.State.{State}
use Rattle.descriptor.specs.declared.State.TheVariants.{Owned, SharedOwned}
use Rattle.page_state.specs.declared.entry.Entry.{Entry}
use Rattle.call_table.specs.declared.reply.Call.{Call}
use Rattle.call_table.specs.declared.step.Step.{Step}
use Rattle.call_table.specs.declared.step.Step.TheVariants.{GuestShareHost, GuestUnshareHost}
use Rattle.reference_model.specs.model.Boot.{CanBoot}
use Rattle.reference_model.specs.help.Conditions.{Legal, IsUsable}
use Rattle.page_state.specs.EntryTests.{with_state}
use Rattle.page_state.specs.Layouts.{Layout}
use Rattle.reference_model.specs.model.Run.{IsRun}
use Rattle.reference_model.specs.claims.Sound.{owner, Maps, Holds, HasLoaded}
use Rattle.reference_model.specs.model.State.{Contents, Reference, live}
use Rattle.reference_model.specs.model.Step.{Steps}

-- the guest's entry of a page
abbrev pub guest_entry_at : Contents → ℕ → ℕ → Entry
guest_entry_at s v g = (s.guest v).tree.map g

-- the guest itself shares the page with the host, or takes it back, on a CPU that has a vCPU of it
-- loaded; only the state of the entry changes
pub record SharesBack (s t : Contents) (cpu : ℕ) (step : Step) (v g : ℕ) : Type 0 where
  pub loaded : (i : ℕ) × HasLoaded s v i cpu
  pub made :
      ((step ≡ GuestShareHost g)
      × (guest_entry_at t v g ≡ with_state SharedOwned (guest_entry_at s v g)))
      ⊎ ((step ≡ GuestUnshareHost g)
      × (guest_entry_at t v g ≡ with_state Owned (guest_entry_at s v g)))

-- a guest's own page stays, or the guest itself shares it or takes it back
abbrev pub PageStays : Contents → Contents → ℕ → Step → ℕ → ℕ → Type 0
PageStays s t cpu step v g =
    (guest_entry_at t v g ≡ guest_entry_at s v g) ⊎ SharesBack s t cpu step v g

-- a frame of a guest stays its own, and the guest's page of it stays
pub record FrameStays (l : Layout) (s t : Contents) (c : Call) (v f : ℕ) : Type 0 where
  pub owner_stays : owner l t f ≡ 2 + v
  pub page_stays : (g : ℕ) → Holds s (2 + v) g f → PageStays s t c.cpu c.step v g

-- no step from a legal state takes a frame from a Live guest or changes its page, except when the
-- guest itself shares the page or takes it back
abbrev pub Isolated : Type 0
Isolated =
    (l : Layout) (s t : Reference) (c : Call) (v f : ℕ)
    → IsUsable l
    → c.cpu < l.config.cpus
    → Legal l s.contents
    → Steps l s c t
    → (s.contents.guest v).phase ≡ live
    → owner l s.contents f ≡ 2 + v
    → FrameStays l s.contents t.contents c v f

-- nor does a step that follows a run
abbrev pub RunIsolated : Type 0
RunIsolated =
    (l : Layout) (cs : List Call) (s t : Reference) (c : Call) (v f : ℕ)
    → CanBoot l
    → c.cpu < l.config.cpus
    → IsRun l cs s
    → Steps l s c t
    → (s.contents.guest v).phase ≡ live
    → owner l s.contents f ≡ 2 + v
    → FrameStays l s.contents t.contents c v f

-- the guest's entry of the frame is SharedOwned
abbrev pub SharesWithHost : Contents → ℕ → ℕ → Type 0
SharesWithHost s v f = (g : ℕ) × Maps s (2 + v) g f SharedOwned

-- in a legal state nobody maps a guest's frame but the guest, and the host while the guest shares
-- it
abbrev pub OthersKeptOut : Type 0
OthersKeptOut =
    (l : Layout) (s : Contents) (v f component page : ℕ) (state : State)
    → IsUsable l
    → Legal l s
    → owner l s f ≡ 2 + v
    → Maps s component page f state → (component ≡ 2 + v) ⊎ ((component ≡ 0) × SharesWithHost s v f)

-- and so in each state of a run
abbrev pub RunKeptOut : Type 0
RunKeptOut =
    (l : Layout) (cs : List Call) (t : Reference) (v f component page : ℕ) (state : State)
    → CanBoot l
    → IsRun l cs t
    → owner l t.contents f ≡ 2 + v
    → Maps t.contents component page f state
    → (component ≡ 2 + v) ⊎ ((component ≡ 0) × SharesWithHost t.contents v f)
