-- The rows of the frames that a call's changes touch, from the changes only.
use Rattle.std.specs.Prelude.{ℕ, true, false, ◌-◌, ◌&&◌, option_map, unwrap_or, Option, Some, None}
use Rattle.descriptor.specs.declared.State.TheVariants.{SharedOwned, SharedBorrowed}
use Rattle.reference_model.specs.declared.changes.Changes.{Changes}
use Rattle.reference_model.specs.declared.changes.Update.{Update}
use Rattle.reference_model.specs.declared.changes.Update.TheVariants.{Becomes}
use Rattle.page_state.specs.declared.entry.Entry.{Entry}
use Rattle.page_state.specs.declared.entry.Entry.TheVariants.{Annotated, Leaf}
use Rattle.page_state.specs.declared.entry.PageRange.{PageRange}
use Rattle.page_state.specs.declared.row.Lent.{Lent}
use Rattle.page_state.specs.declared.row.Row.{Row}
use Rattle.page_state.specs.declared.row.Usage.{Usage}
use Rattle.page_state.specs.declared.row.Usage.TheVariants.{Plain, VmPool, InHand}
use Rattle.reference_model.specs.model.Changes.{touched}
use Rattle.reference_model.specs.model.GuestRules.{guest_owner}
use Rattle.page_state.specs.Rows.{advance_row}
use Rattle.page_state.specs.Layouts.{Layout, is_memory}
use Rattle.reference_model.specs.model.Owner.{lent_at}
use Rattle.reference_model.specs.model.State.{plain_row}
use Rattle.reference_model.specs.model.Step.{is_touched}
use Rattle.reference_model.specs.model.Used.{Used}

-- the use of frames that the hypervisor gets: in the CPU's hand if the CPU gets a hand, else Plain
abbrev pub use_by : ℕ → Update (Option PageRange) → Usage
use_by cpu (Becomes (Some hand)) = InHand cpu
use_by cpu other = Plain

-- the borrower of the frames that the host shares: the hypervisor at its page, or the guest at its
-- page
abbrev pub borrower : Option ℕ → Changes → Option Lent
borrower slot h = elim (h.hyp) [
  | Some c ↦ Some (lent_at 1 c.range.first.0)
  | None ↦ option_map (λ c. lent_at (guest_owner slot) c.range.first.0) h.guest
]

-- the row of the first frame, from the entry that the host's page gets
abbrev pub row_by : ℕ → Option ℕ → Changes → ℕ → Entry → Row
row_by cpu slot h f (Annotated owner) =
    record { owner = owner; lent = None; usage = use_by cpu h.cpu.hand }
row_by cpu slot h f (Leaf frame prot kind SharedOwned) = record plain_row { lent = borrower slot h }
row_by cpu slot h f (Leaf frame prot kind SharedBorrowed) =
    record { owner = record { 0 = guest_owner slot }; lent = Some (lent_at 0 f); usage = Plain }
row_by cpu slot h f other = plain_row

-- the row of the first frame; if the host's map stays, the frames go to the guest's pool
abbrev pub first_row : ℕ → Option ℕ → Changes → Row
first_row cpu slot h = elim (h.host) [
  | Some c ↦ row_by cpu slot h c.range.first.0 c.entry
  | None ↦ record { owner = record { 0 = 1 }; lent = None; usage = VmPool (unwrap_or slot 0) }
]

-- the first frame of a range
abbrev pub first_of : Option PageRange → ℕ
first_of None = 0
first_of (Some r) = r.first.0

-- the row of a touched frame
abbrev pub touched_row : ℕ → Option ℕ → Changes → ℕ → Row
touched_row cpu slot h f = advance_row (first_row cpu slot h) (f - first_of (touched h))

-- the used parts with the given rows at the touched range, if that is memory
unfoldable pub with_touched_rows : Layout → ℕ → Option ℕ → Changes → Used → Used
with_touched_rows l cpu slot h x =
    record x {
      shared = record x.shared {
        row = λ f. elim (is_memory l (first_of (touched h)) && is_touched h f)
            [ true ↦ touched_row cpu slot h f | false ↦ x.shared.row f ];
      };
    }
