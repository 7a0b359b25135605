-- A world's state is the walked one: its kept rows are those from scratch.
use Rattle.std.proofs.Common.{◌≡◌, ℕ, refl, ap, ◌∙◌, true, false, Some, None, Option}
use Rattle.std.specs.Prelude.{Bool, is_some, unwrap_or}
use Rattle.std.proofs.Math.Logic.{∥∥₁_elim}
use Rattle.std.proofs.Props.{props}
use mathlib.Core.Path.{fun_ext}
use Rattle.page_state.specs.declared.row.Row.{Row}
use Rattle.page_state.specs.Layouts.{is_memory}
use Rattle.page_state.specs.Regions.{Memory, has_memory}
use Rattle.reference_model.specs.model.Owner.{row_of}
use Rattle.reference_model.specs.model.State.{plain_row}
use Rattle.reference_model.proofs.conditions.RunsLegal.{run_rows}
use Rattle.owner_table.specs.Rows.{row_at}
use Rattle.part_types.specs.declared.parts.SharedPart.{SharedPart}
use Rattle.part_types.specs.MemoryRows.{HasMemoryRows}
use Rattle.part_types.specs.View.{shared_of}
use Rattle.hypercalls.specs.declared.parts.Parts.{Parts}
use Rattle.hypercalls.specs.Stands.{parts_layout, state_of, HasHistory}
use Rattle.ghost_oracle.specs.Found.{found_state, scratch_rows, walked_state}
use Rattle.ghost_oracle.proofs.Reached.{run_to}

pub row_prop : (a b : Row) → IsProp (a ≡ b)
row_prop a b = hlevel props

none_of : {X : Type 0} (o : Option X) → is_some o ≡ false → o ≡ None
none_of None h = refl
none_of (Some x) h = cc

-- a frame that isn't memory has the plain row
other_row : {A : Type 0} (m : Memory) (s : SharedPart A) (f : ℕ)
    → HasMemoryRows m s.owners
    → has_memory m f ≡ false
    → (shared_of s).row f ≡ plain_row
other_row m s f h e = ap (λ o. unwrap_or o plain_row) (none_of (row_at s.owners f) (h f ∙ e))

by_memory : (b : Bool) (x y : Row)
    → (b ≡ true → x ≡ y)
    → (b ≡ false → x ≡ plain_row)
    → x ≡ elim b [ true ↦ y | false ↦ plain_row ]
by_memory true x y h k = h refl
by_memory false x y h k = k refl

module _ {A : Type 0} (p : Parts A) (past : ∥ HasHistory p ∥₁) where
  rows_are : (f : ℕ) → (state_of p).contents.shared.row f ≡ scratch_rows (parts_layout p) (state_of p).contents f
  rows_are f =
      by_memory (is_memory (parts_layout p) f) ((state_of p).contents.shared.row f)
      (row_of (parts_layout p) (state_of p).contents f)
      (λ m. ∥∥₁_elim past (row_prop _ _) (λ h. run_rows (parts_layout p) h.log (state_of p) h.ready (run_to p h) f m))
      (λ e. other_row p.layout.map p.shared f p.rows e)

  pub walked_is : state_of p ≡ walked_state (parts_layout p) (state_of p)
  walked_is = ap (λ r. found_state r (state_of p)) (fun_ext rows_are)
