-- The changes from one state to another, line by line: all that differs, and nothing else.
use Rattle.std.specs.Prelude.{◌≡◌, ◌⊎◌, ℕ, ◌+◌, ◌-◌, ◌==◌, List, [], ◌∷◌, ◌++◌, codes, Option, Some, None, if◌then◌else◌, length, unwrap_or}
use Rattle.std.specs.Fmt.{decimal}
use Rattle.page_state.specs.declared.entry.Entry.{Entry}
use Rattle.page_state.specs.declared.entry.Target.{Target}
use Rattle.page_state.specs.declared.row.Row.{Row}
use Rattle.page_state.specs.Entries.{advance_target, entry_of}
use Rattle.page_state.specs.Rows.{advance_row, plain_row}
use Rattle.page_state.specs.Texts.{text_of_entry, text_of_page, text_of_row}
use Rattle.reference_model.specs.model.State.{Contents, Cpu, Guest, Slot}
use Rattle.run_list.specs.declared.run.Run.{Run}
use Rattle.run_list.specs.Runs.{IsCoarsest, run_map}
use Rattle.run_changes.specs.declared.change.Change.{Change}
use Rattle.run_changes.specs.Changes.{advance_change}
use Rattle.state_changes.specs.Texts.{guest_head, slot_head, text_of_guest_head, text_of_hand, text_of_holder, text_of_loaded, text_of_slot_head, text_of_ticket}
use Rattle.state_changes.specs.Together.{Each, Then}

-- a line: the name of the changed thing, its old value and its new value
abbrev pub change_line : List ℕ → List ℕ → List ℕ → List ℕ
change_line name before after =
    codes "    " ++ name ++ codes ": " ++ before ++ codes " -> " ++ after ++ 10 ∷ []

-- a value: no line if it is as before, otherwise one
abbrev pub ReportsValue : {X : Type 0} → List ℕ → (X → List ℕ) → X → X → List ℕ → Type 0
ReportsValue name text_of before after text =
    ((before ≡ after) × (text ≡ []))
    ⊎ ((before ≡ after → ⊥) × (text ≡ change_line name (text_of before) (text_of after)))

-- the pages from one to another
abbrev pub pages_name : List ℕ → ℕ → ℕ → List ℕ
pages_name label first last =
    if first == last then label ++ codes " " ++ text_of_page first
    else label ++ codes " " ++ text_of_page first ++ codes ".." ++ text_of_page last

-- a line for each run of pages: the old and the new value of the first page, which advance along
-- the run
abbrev pub run_lines : {V : Type 0} → (Option V → List ℕ) → List ℕ → List (Run (Change V)) → List ℕ
run_lines text_of label [] = []
run_lines text_of label (r ∷ rs) =
    change_line (pages_name label r.pages.first.0 (r.pages.first.0 + (r.pages.count - 1)))
    (text_of r.value.before) (text_of r.value.after)
    ++ run_lines text_of label rs

-- the change of a page: none if it is as before, otherwise both values; `is`: what a value in a run
-- represents
abbrev pub IsChange : {V X : Type 0} → (X → Option V → Type 0) → X → X → Option (Change V) → Type 0
IsChange is before after None = before ≡ after
IsChange is before after (Some c) = is before c.before × is after c.after × (before ≡ after → ⊥)

-- a map: the coarsest runs of exactly the pages that changed
pub record ReportsMap {V X : Type 0} (advance : V → ℕ → V) (is : X → Option V → Type 0)
    (text_of : Option V → List ℕ) (label : List ℕ) (before after : ℕ → X)
    (text : List ℕ) : Type 0 where
  pub runs : List (Run (Change V))
  pub coarsest : IsCoarsest (advance_change advance) runs
  pub changes : (p : ℕ) → IsChange is (before p) (after p) (run_map (advance_change advance) runs p)
  pub lines : text ≡ run_lines text_of label runs

-- entries of pages
abbrev pub IsEntry : Entry → Option Target → Type 0
IsEntry entry o = entry_of o ≡ entry

abbrev pub text_of_target : Option Target → List ℕ
text_of_target o = text_of_entry (entry_of o)

abbrev pub ReportsEntries : List ℕ → (ℕ → Entry) → (ℕ → Entry) → List ℕ → Type 0
ReportsEntries = ReportsMap advance_target IsEntry text_of_target

-- owner rows of frames
abbrev pub IsRow : Row → Option Row → Type 0
IsRow row o = o ≡ Some row

abbrev pub text_of_some_row : Option Row → List ℕ
text_of_some_row o = text_of_row (unwrap_or o plain_row)

abbrev pub ReportsRows : (ℕ → Row) → (ℕ → Row) → List ℕ → Type 0
ReportsRows = ReportsMap advance_row IsRow text_of_some_row (codes "owner")

-- the names of guests, VM slots and vCPUs
abbrev pub guest_name : ℕ → List ℕ
guest_name v = codes "guest " ++ decimal v

abbrev pub slot_name : ℕ → List ℕ
slot_name v = codes "vm " ++ decimal v

abbrev pub vcpu_name : ℕ → ℕ → List ℕ
vcpu_name v i = codes "vm " ++ decimal v ++ codes " vcpu " ++ decimal i

-- a guest: its phase, generation, kind and number of free frames
abbrev pub ReportsGuest : Guest → Guest → ℕ → List ℕ → Type 0
ReportsGuest before after v =
    ReportsValue (guest_name v) text_of_guest_head (guest_head before) (guest_head after)

-- a VM slot, and the CPU that has each of its vCPUs loaded
abbrev pub ReportsVcpu : Slot → Slot → ℕ → ℕ → List ℕ → Type 0
ReportsVcpu before after v i =
    ReportsValue (vcpu_name v i) text_of_holder (before.loaded i) (after.loaded i)

abbrev pub ReportsSlot : Slot → Slot → ℕ → List ℕ → Type 0
ReportsSlot before after v =
    Then (ReportsValue (slot_name v) text_of_slot_head (slot_head before) (slot_head after))
    (Each 8 (ReportsVcpu before after v))

-- a CPU's own state
abbrev pub ReportsCpu : Cpu → Cpu → List ℕ → Type 0
ReportsCpu before after =
    Then (ReportsValue (codes "loaded") text_of_loaded before.loaded after.loaded)
    (Then (ReportsValue (codes "hand") text_of_hand before.hand after.hand)
    (ReportsValue (codes "ticket") text_of_ticket before.ticket after.ticket))

-- two states
module _ (before after : Contents) where
  -- the maps of all trees, and the owner rows
  abbrev pub ReportsMaps : List ℕ → Type 0
  ReportsMaps =
      Then (ReportsEntries (codes "host") before.shared.host.map after.shared.host.map)
      (Then (ReportsEntries (codes "hyp") before.shared.hyp.map after.shared.hyp.map)
      (Then
      (Each 64
      (λ v. ReportsEntries (guest_name v) (before.guest v).tree.map (after.guest v).tree.map))
      (ReportsRows before.shared.row after.shared.row)))

  -- all else: the number of free frames, the guests, the VM slots, and the state of a CPU
  abbrev pub ReportsRest : ℕ → List ℕ → Type 0
  ReportsRest cpu =
      Then
      (ReportsValue (codes "free shared") decimal (length before.shared.free)
      (length after.shared.free))
      (Then (Each 64 (λ v. ReportsGuest (before.guest v) (after.guest v) v))
      (Then (Each 64 (λ v. ReportsSlot (before.vms.slot v) (after.vms.slot v) v))
      (ReportsCpu (before.cpu cpu) (after.cpu cpu))))

  -- all that changed
  abbrev pub ReportsAll : ℕ → List ℕ → Type 0
  ReportsAll cpu = Then ReportsMaps (ReportsRest cpu)
