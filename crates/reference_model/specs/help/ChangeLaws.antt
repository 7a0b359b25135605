-- Laws of a rule's changes: they are of parts that the step uses, and can be written.
use Rattle.std.specs.Prelude.{◌≡◌, ◌≢◌, ℕ, ◌+◌, ◌^◌, ◌≤◌, ◌<◌, true, false, is_some, length, Option, Some, None, Ok}
use Rattle.page_state.specs.declared.entry.PageRange.{PageRange}
use Rattle.call_table.specs.declared.step.Step.{Step}
use Rattle.page_state.specs.Accepted.{IsAcceptedLayout}
use Rattle.page_state.specs.Entries.{IsRangeEntry}
use Rattle.page_state.specs.Geometries.{pages_below}
use Rattle.page_state.specs.Layouts.{Layout, is_memory}
use Rattle.page_state.specs.Regions.{end_of, is_in_range}
use Rattle.page_state.specs.Rows.{HasPageBelow}
use Rattle.reference_model.specs.declared.changes.MapChange.{MapChange}
use Rattle.reference_model.specs.declared.changes.GuestChange.{GuestChange}
use Rattle.reference_model.specs.declared.changes.GuestChange.TheVariants.{Keep as KeepGuest, Install, Gain, LoseLowest, Die, Empty}
use Rattle.reference_model.specs.declared.changes.SlotChange.{SlotChange}
use Rattle.reference_model.specs.declared.changes.SlotChange.TheVariants.{Keep as KeepSlots, Reserve, Open, Close, Release, Load, Unload}
use Rattle.reference_model.specs.declared.changes.Changes.{Changes}
use Rattle.reference_model.specs.model.Decides.{decides}
use Rattle.reference_model.specs.claims.Bounds.{Bounded}
use Rattle.reference_model.specs.model.Changes.{touched}
use Rattle.reference_model.specs.help.Conditions.{Legal, guest_uses}
use Rattle.reference_model.specs.model.GuestRules.{guest_table_count}
use Rattle.reference_model.specs.model.Parts.{Names, uses_vms, uses_shared}
use Rattle.reference_model.specs.model.Rules.{names, guest_slot}
use Rattle.reference_model.specs.help.RowChanges.{first_of, first_row}
use Rattle.reference_model.specs.model.State.{Contents, Guest, Reference, empty}
use Rattle.reference_model.specs.model.Step.{is_touched}
use Rattle.reference_model.specs.model.Used.{Used, used_of}

-- the changes are of parts that the step uses
pub record OnlyUses (n : Names) (slot : Option ℕ) (h : Changes) : Type 0 where
  pub vms : uses_vms n ≡ false → h.slot ≡ KeepSlots
  pub host : uses_shared n slot ≡ false → h.host ≡ None
  pub hyp : uses_shared n slot ≡ false → h.hyp ≡ None
  pub moved : uses_shared n slot ≡ false → touched h ≡ None
  pub guest : slot ≡ None → h.guest ≡ None
  pub part : slot ≡ None → h.part ≡ KeepGuest

-- the rule of a step changes only parts that the step uses
abbrev pub ChangesUsed : Type 0
ChangesUsed =
    (l : Layout) (cpu : ℕ) (slot : Option ℕ) (step : Step) (x : Used) (h : Changes)
    → decides l cpu slot step x ≡ Ok h
    → OnlyUses (names step) slot h

-- a change of a map that words of the last level can encode, in trees of the depth: at least one
-- page, all of them input pages
pub record Fits (d : ℕ) (c : MapChange) : Type 0 where
  pub some : 1 ≤ c.range.count
  pub within : end_of c.range ≤ pages_below d
  pub entry : IsRangeEntry c.range.count c.entry

-- the changes of a map fit
abbrev pub FitsWhere : ℕ → Option MapChange → Type 0
FitsWhere d None = Unit {0}
FitsWhere d (Some c) = Fits d c

-- the changes of each map fit
pub record AllFit (d : ℕ) (h : Changes) : Type 0 where
  pub host : FitsWhere d h.host
  pub hyp : FitsWhere d h.hyp
  pub guest : FitsWhere d h.guest

-- the changes that a step decides on in a legal state fit
abbrev pub ChangesFit : Type 0
ChangesFit =
    (l : Layout) (s : Contents) (cpu : ℕ) (slot : Option ℕ) (step : Step) (h : Changes)
    → IsAcceptedLayout l
    → Legal l s
    → cpu < l.config.cpus
    → slot ≡ guest_slot (s.cpu cpu) step
    → decides l cpu slot step (used_of (names step) slot cpu s) ≡ Ok h
    → AllFit l.depth h

-- if the first touched frame is memory, all are, and the given row can advance along them
pub record TouchedFits (l : Layout) (cpu : ℕ) (slot : Option ℕ) (h : Changes) : Type 0 where
  pub whole : (f : ℕ) → is_touched h f ≡ true → is_memory l f ≡ is_memory l (first_of (touched h))
  pub small : (r : PageRange) → touched h ≡ Some r → end_of r ≤ 2 ^ 63
  pub row : (r : PageRange) → touched h ≡ Some r → HasPageBelow (first_row cpu slot h) r.count

-- the frames that a step decides to touch in a legal state are all memory if the first one is, and
-- the given row can advance along them
abbrev pub TouchedWhole : Type 0
TouchedWhole =
    (l : Layout) (s : Contents) (cpu : ℕ) (slot : Option ℕ) (step : Step) (h : Changes)
    → IsAcceptedLayout l
    → Legal l s
    → cpu < l.config.cpus
    → slot ≡ guest_slot (s.cpu cpu) step
    → decides l cpu slot step (used_of (names step) slot cpu s) ≡ Ok h
    → TouchedFits l cpu slot h

-- the changed slot is one of the 64, the vCPU one of its 8, and a generation that rises is below
-- the greatest u64
abbrev pub FitsTable : SlotChange → Type 0
FitsTable KeepSlots = Unit {0}
FitsTable (Reserve v kind vcpus) = v < 64
FitsTable (Open v) = v < 64
FitsTable (Close v) = v < 64
FitsTable (Release vm) = (vm.slot < 64) × (vm.generation + 1 < 2 ^ 64)
FitsTable (Load v i c) = (v < 64) × (i < 8)
FitsTable (Unload v i) = (v < 64) × (i < 8)

-- a guest can be installed from the hand: it is Empty, and the hand has 1 to 512 frames
pub record CanInstall (g : Guest) (hand : PageRange) : Type 0 where
  pub vacant : g.phase ≡ empty
  pub some : 1 ≤ hand.count
  pub few : hand.count ≤ 512
  pub low : end_of hand ≤ 2 ^ 36

-- a guest's pool can gain the frames of a range: it has none of them, and holds at most 512 with
-- them
pub record CanGain (l : Layout) (g : Guest) (r : PageRange) : Type 0 where
  pub made : g.phase ≢ empty
  pub apart : (f : ℕ) → is_in_range r f ≡ true → guest_uses l.depth g f ≡ 0
  pub few : guest_table_count l g.tree + length g.free + r.count ≤ 512
  pub low : end_of r ≤ 2 ^ 36

-- the changes of a guest, apart from its map, that can be made
abbrev pub FitsPart : Layout → Guest → GuestChange → Type 0
FitsPart l g KeepGuest = Unit {0}
FitsPart l g (Install kind generation hand) = CanInstall g hand
FitsPart l g (Gain r) = CanGain l g r
FitsPart l g LoseLowest = Unit {0}
FitsPart l g Die = g.phase ≢ empty
FitsPart l g Empty = Unit {0}

-- the changes of the slots and of the guest can be made; an Empty guest's map stays
pub record PartsFit (l : Layout) (h : Changes) (g : Guest) : Type 0 where
  pub slot : FitsTable h.slot
  pub mapped : is_some h.guest ≡ true → g.phase ≢ empty
  pub part : FitsPart l g h.part

-- the changes that a step decides on in a legal state of bounded numbers can be made
abbrev pub PartChangesFit : Type 0
PartChangesFit =
    (l : Layout) (s : Reference) (cpu : ℕ) (slot : Option ℕ) (step : Step) (h : Changes)
    → IsAcceptedLayout l
    → Legal l s.contents
    → Bounded l s
    → cpu < l.config.cpus
    → slot ≡ guest_slot (s.contents.cpu cpu) step
    → decides l cpu slot step (used_of (names step) slot cpu s.contents) ≡ Ok h
    → PartsFit l h (used_of (names step) slot cpu s.contents).guest
