-- Two states have one text.
use Rattle.std.proofs.Common.{◌≡◌, ℕ, Bool, List, codes, Option, Some, None, refl, sym, ap, ◌∙◌}
use Rattle.std.specs.Fmt.{decimal}
use Rattle.page_state.specs.declared.entry.Entry.{Entry}
use Rattle.page_state.specs.declared.row.Row.{Row}
use Rattle.page_state.specs.Entries.{advance_target}
use Rattle.page_state.specs.Rows.{advance_row, HasPageBelow}
use Rattle.reference_model.specs.model.State.{Contents, Slot}
use Rattle.run_list.specs.Advance.{AdvanceLaws}
use Rattle.run_list.specs.OwnerRows.{row_laws}
use Rattle.run_list.specs.Targets.{HasFrameBelow, target_laws}
use Rattle.run_list.proofs.Once.{once}
use Rattle.run_changes.specs.declared.change.Change.{Change}
use Rattle.run_changes.specs.Changes.{CanBoth, advance_change}
use Rattle.run_changes.specs.ChangeLaws.{change_laws}
use Rattle.state_changes.specs.Changed.{IsChange, IsEntry, IsRow, ReportsAll, ReportsEntries, ReportsGuest, ReportsMap, ReportsMaps, ReportsRest, ReportsRows, ReportsSlot, ReportsValue, ReportsVcpu, guest_name, run_lines, slot_name, vcpu_name}
use Rattle.state_changes.specs.Texts.{guest_head, slot_head, text_of_guest_head, text_of_hand, text_of_holder, text_of_loaded, text_of_slot_head, text_of_ticket}
use Rattle.state_changes.specs.Together.{Each, IsOnce}
use Rattle.state_changes.proofs.Differences.{options_same}
use Rattle.state_changes.proofs.Together.{each_once, then_once, value_once}

some_change : {V : Type 0} (c d : Change V)
    → c.before ≡ d.before
    → c.after ≡ d.after
    → ◌≡◌ {A = Option (Change V)} (Some c) (Some d)
some_change c d e f = λ i. Some (record { before = e i; after = f i })

module _ {V X : Type 0} (advance : V → ℕ → V) (can : V → ℕ → Type 0) (same : V → V → Bool)
    (laws : AdvanceLaws advance can same) (is : X → Option V → Type 0)
    (one : (x : X) (o q : Option V) → is x o → is x q → o ≡ q) where
  one_change : (x y : X) (c d : Option (Change V)) → IsChange is x y c → IsChange is x y d → c ≡ d
  one_change x y None None h k = refl
  one_change x y None (Some d) h k = absurd (k.2 h)
  one_change x y (Some c) None h k = absurd (h.2 k)
  one_change x y (Some c) (Some d) h k =
      some_change c d (one x c.before d.before h.0 k.0) (one y c.after d.after h.1 k.1)

  map_once : (text_of : Option V → List ℕ) (label : List ℕ) (before after : ℕ → X)
      → IsOnce (ReportsMap advance is text_of label before after)
  map_once text_of label before after s t p q =
      let e =
      once (advance_change advance) (CanBoth can) _
      (change_laws advance can same laws) p.runs q.runs p.coarsest q.coarsest
      (λ n. one_change (before n) (after n) _ _ (p.changes n) (q.changes n)) in
      p.lines ∙ ap (run_lines text_of label) e ∙ sym q.lines

entries_once : (label : List ℕ) (before after : ℕ → Entry) → IsOnce (ReportsEntries label before after)
entries_once = map_once advance_target HasFrameBelow _ target_laws IsEntry (λ x o q e f. options_same o q (e ∙ sym f)) _

rows_once : (before after : ℕ → Row) → IsOnce (ReportsRows before after)
rows_once = map_once advance_row HasPageBelow _ row_laws IsRow (λ x o q e f. e ∙ sym f) _ _

slot_once : (before after : Slot) (v : ℕ) → IsOnce (ReportsSlot before after v)
slot_once before after v =
    then_once (ReportsValue (slot_name v) text_of_slot_head (slot_head before) (slot_head after))
    (Each 8 (ReportsVcpu before after v))
    (value_once (slot_name v) text_of_slot_head (slot_head before) (slot_head after))
    (each_once (ReportsVcpu before after v) 8
    (λ i. value_once (vcpu_name v i) text_of_holder (before.loaded i) (after.loaded i)))

module _ (before after : Contents) (cpu : ℕ) where
  pub all_once : IsOnce (ReportsAll before after cpu)
  all_once =
      then_once (ReportsMaps before after) (ReportsRest before after cpu)
      (then_once _ _ (entries_once _ _ _)
      (then_once _ _ (entries_once _ _ _)
      (then_once _ _
      (each_once (λ v. ReportsEntries (guest_name v) (before.guest v).tree.map (after.guest v).tree.map) 64
      (λ v. entries_once (guest_name v) (before.guest v).tree.map (after.guest v).tree.map))
      (rows_once _ _))))
      (then_once _ _ (value_once (codes "free shared") decimal _ _)
      (then_once _ _
      (each_once (λ v. ReportsGuest (before.guest v) (after.guest v) v) 64
      (λ v. value_once (guest_name v) text_of_guest_head (guest_head (before.guest v))
      (guest_head (after.guest v))))
      (then_once _ _
      (each_once (λ v. ReportsSlot (before.vms.slot v) (after.vms.slot v) v) 64
      (λ v. slot_once (before.vms.slot v) (after.vms.slot v) v))
      (then_once _ _ (value_once (codes "loaded") text_of_loaded _ _)
      (then_once _ _ (value_once (codes "hand") text_of_hand _ _)
      (value_once (codes "ticket") text_of_ticket _ _))))))
