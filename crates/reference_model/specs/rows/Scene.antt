-- The terms of the worked rows: a small layout, a state written out, and the effects of a step.
use Rattle.std.specs.Prelude.{◌≡◌, ℕ, ◌+◌, ◌*◌, ◌==◌, List, [], ◌∷◌, Option, Some, None, if◌then◌else◌}
use Rattle.page_state.specs.declared.entry.Entry.{Entry}
use Rattle.page_state.specs.declared.entry.Entry.TheVariants.{Unmapped}
use Rattle.page_state.specs.declared.entry.PageRange.{PageRange}
use Rattle.page_state.specs.declared.layout.RegionKind.TheVariants.{Memory as MemoryKind, Device}
use Rattle.call_table.specs.declared.reply.Refusal.{Refusal}
use Rattle.call_table.specs.declared.reply.Reply.{Reply}
use Rattle.call_table.specs.declared.reply.Reply.TheVariants.{Done, Refused}
use Rattle.call_table.specs.declared.reply.Value.TheVariants.{Nothing}
use Rattle.page_state.specs.declared.row.Row.{Row}
use Rattle.page_state.specs.declared.row.Usage.{Usage}
use Rattle.page_state.specs.declared.row.Usage.TheVariants.{SharedPool}
use Rattle.call_table.specs.declared.step.Step.{Step}
use Rattle.call_table.specs.declared.step.VmId.{VmId}
use Rattle.page_state.specs.Blocks.{block_eq}
use Rattle.page_state.specs.Layouts.{Layout}
use Rattle.page_state.specs.Map.{Map}
use Rattle.page_state.specs.Trees.{Block}
use Rattle.reference_model.specs.model.State.{Reference}
use Rattle.reference_model.specs.model.Step.{predict_step}

-- 0x800 frames of memory from 0x1000 on, 16 device pages from 0x900 on, a carve-out of 64 frames
-- from 0x1600 on, logs of 64 calls, and trees with `depth` levels below the root
abbrev pub small : ℕ → Layout
small depth = record {
  memory = record {
    regions =
        record {
          kind = MemoryKind;
          pages = record { first = record { 0 = 0x1000 }; count = 0x800 };
        }
        ∷ (record {
          kind = Device;
          pages = record { first = record { 0 = 0x900 }; count = 0x10 };
        }
        ∷ []);
    carve = record { first = record { 0 = 0x1600 }; count = 0x40 };
  };
  config = record { cpus = 16; log = 64; geometry = 12 + 9 * (depth + 1) };
  depth = depth;
}

-- Ok with no value
abbrev pub ok : Reply
ok = Done Nothing

-- a range of `count` pages
abbrev pub range : ℕ → ℕ → PageRange
range first count = record { first = record { 0 = first }; count = count }

-- the name of a VM
abbrev pub vm : ℕ → ℕ → VmId
vm slot generation = record { slot = slot; generation = generation }

-- the values that a list gives to numbers, the first one for a number, and else the other
abbrev pub listed : {X : Type 0} → List (ℕ × X) → X → ℕ → X
listed [] other k = other
listed (p ∷ ps) other k = if k == p.0 then p.1 else listed ps other k

-- the map of these pages
abbrev pub pages : List (ℕ × Entry) → Map
pages list = listed list Unmapped

-- the tables that a list gives to blocks
abbrev pub tables : List (Block × ℕ) → Block → Option ℕ
tables [] b = None
tables (p ∷ ps) b = if block_eq p.0 b then Some p.1 else tables ps b

-- the values at the numbers of a list
abbrev pub at : {X : Type 0} → (ℕ → X) → List ℕ → List X
at f [] = []
at f (k ∷ ks) = f k ∷ at f ks

-- a row without a borrower: the owner, and the use
abbrev pub row : ℕ → Usage → Row
row owner usage = record { owner = record { 0 = owner }; lent = None; usage = usage }

-- a row that no step gives, and no search finds
abbrev pub old_row : Row
old_row = row 9 SharedPool

-- the step is refused so, and leaves all that there is
pub record Refuses (l : Layout) (s : Reference) (cpu : ℕ) (step : Step)
    (why : Refusal) : Type 0 where
  pub reply : (predict_step l s cpu step).0 ≡ Refused why
  pub left : (predict_step l s cpu step).1.contents ≡ s.contents

-- only the Shared part has changed: no slot, no guest and nothing of the CPU
abbrev pub SharedAlone : Reference → ℕ → Reference → Type 0
SharedAlone s cpu t =
    (t.contents.vms ≡ s.contents.vms)
    × (t.contents.guest ≡ s.contents.guest)
    × (t.contents.cpu cpu ≡ s.contents.cpu cpu)

-- the Shared part and the slots are as they were
abbrev pub GuestAlone : Reference → Reference → Type 0
GuestAlone s t = (t.contents.vms ≡ s.contents.vms) × (t.contents.shared ≡ s.contents.shared)

-- the Shared part and the guests are as they were
abbrev pub SlotsAlone : Reference → Reference → Type 0
SlotsAlone s t = (t.contents.shared ≡ s.contents.shared) × (t.contents.guest ≡ s.contents.guest)
