-- Laws of the invariant of runs, each proved on the contract of a law function.
use Rattle.std.specs.Prelude.{◌≡◌, ℕ, ◌≤◌, ◌<◌, true, List, Option, Some, None, if◌then◌else◌}
use Rattle.reference_model.specs.model.State.{Contents, Reference, plain_row}
use Rattle.page_state.specs.Layouts.{Layout, is_memory}
use Rattle.reference_model.specs.model.Owner.{row_of}
use Rattle.reference_model.specs.claims.Sound.{Sound}
use Rattle.call_table.specs.declared.reply.Call.{Call}
use Rattle.reference_model.specs.model.Step.{rule_of, fails, made, changed, Steps}
use Rattle.call_table.specs.declared.step.Step.{Step}
use Rattle.reference_model.specs.model.Rules.{names, guest_slot}
use Rattle.reference_model.specs.model.Used.{used_of}
use Rattle.reference_model.specs.help.RowChanges.{with_touched_rows}
use Rattle.reference_model.specs.model.Run.{IsRun}
use Rattle.page_state.specs.Accepted.{IsAcceptedConfig, IsAcceptedLayout}
use Rattle.page_state.specs.LayoutFaults.{IsAccepted}
use Rattle.page_state.specs.Regions.{Memory, is_in_range}
use Rattle.page_state.specs.declared.layout.Config.{Config}
use Rattle.page_state.specs.Geometries.{geometry_of, levels_below}
use Rattle.page_state.specs.declared.layout.Geometry.{Geometry}
use Rattle.reference_model.specs.model.Boot.{boot, pool_row, IsCarveEnough, CanBoot}
use Rattle.reference_model.specs.help.Conditions.{Legal, IsUsable, row_in}

-- the row of each frame from scratch is that of its condition
abbrev pub LegalRows : Type 0
LegalRows =
    (l : Layout) (s : Contents) (legal : Legal l s)
    → IsUsable l
    → (f : ℕ)
    → row_of l s f ≡ row_in f (legal.condition f)

-- a legal state is sound
abbrev pub LegalSound : Type 0
LegalSound = (l : Layout) (s : Contents) → Legal l s → IsUsable l → Sound l s

-- that a state is legal is enough for all of Sound, with the pages and places that it names; the
-- evidence for legality isn't needed
abbrev pub KnownLegalSound : Type 0
KnownLegalSound = (l : Layout) (s : Contents) → IsUsable l → ∥ Legal l s ∥₁ → Sound l s

-- the boot state is legal
abbrev pub BootLegal : Type 0
BootLegal = (l : Layout) → IsCarveEnough l → IsUsable l → Legal l (boot l).contents

-- at boot the frames of the carve-out are the hypervisor's, in the shared pool or a table, and all
-- other memory is the host's
abbrev pub EachBootRow : Type 0
EachBootRow =
    (l : Layout) (f : ℕ)
    → IsCarveEnough l
    → IsUsable l
    → (boot l).contents.shared.row f
    ≡ (if is_in_range l.memory.carve f then pool_row else plain_row)

-- each reference step of a CPU of the layout keeps the invariant
abbrev pub LegalKeeps : Type 0
LegalKeeps =
    (l : Layout) (s t : Reference) (c : Call)
    → IsUsable l
    → c.cpu < l.config.cpus
    → Legal l s.contents
    → Steps l s c t
    → Legal l t.contents

-- each state of a run is legal
abbrev pub RunLegal : Type 0
RunLegal =
    (l : Layout) (cs : List Call) (t : Reference) → CanBoot l → IsRun l cs t → Legal l t.contents

-- each state of a run is sound
abbrev pub RunSound : Type 0
RunSound =
    (l : Layout) (cs : List Call) (t : Reference) → CanBoot l → IsRun l cs t → Sound l t.contents

-- its kept rows are the rows from scratch
abbrev pub RunRows : Type 0
RunRows =
    (l : Layout) (cs : List Call) (t : Reference)
    → CanBoot l
    → IsRun l cs t
    → (f : ℕ)
    → is_memory l f ≡ true
    → t.contents.shared.row f ≡ row_of l t.contents f

-- the requirements on a layout hold of each accepted one
abbrev pub AcceptedUsable : Type 0
AcceptedUsable = (l : Layout) → IsAcceptedLayout l → IsUsable l

-- the depth of an accepted layout is that of its geometry, and its trees have three levels or more
abbrev pub AcceptedDepth : Type 0
AcceptedDepth =
    (l : Layout) (g : Geometry)
    → IsAcceptedLayout l
    → geometry_of l.config.geometry ≡ Some g
    → (l.depth ≡ levels_below g) × (2 ≤ l.depth)

-- accepted memory and an accepted configuration make an accepted layout, whose depth is that of the
-- geometry
abbrev pub AcceptedMade : Type 0
AcceptedMade =
    (m : Memory) (c : Config) (g : Geometry)
    → IsAccepted m
    → IsAcceptedConfig c
    → geometry_of c.geometry ≡ Some g
    → IsAcceptedLayout (record { memory = m; config = c; depth = levels_below g })

-- the state after a made step of a legal state follows from its changes, the rows too: each memory
-- frame of the touched range has the given row, which advances
abbrev pub TouchedRows : Type 0
TouchedRows =
    (l : Layout) (s : Contents) (cpu : ℕ) (slot : Option ℕ) (step : Step)
    → IsUsable l
    → cpu < l.config.cpus
    → Legal l s
    → slot ≡ guest_slot (s.cpu cpu) step
    →
    let x = used_of (names step) slot cpu s in
    let h = (rule_of l cpu slot step x).changes in
    fails l cpu slot step x ≡ None
    → made l cpu slot step x ≡ with_touched_rows l cpu slot h (changed l.depth h x)
