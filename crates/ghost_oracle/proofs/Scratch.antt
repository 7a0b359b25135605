-- Rows that are replaced in a state: by those that are kept it stays, and by those from scratch it is the walked one.
use Rattle.std.proofs.Common.{◌≡◌, ℕ, refl, ap, sym, ◌∙◌, List, true, false, Some, None}
use Rattle.std.specs.Prelude.{Bool, Result, Ok, Err, IfOk, is_some, unwrap_or}
use mathlib.Core.Path.{fun_ext}
use Rattle.page_state.specs.declared.row.Row.{Row}
use Rattle.page_state.specs.Layouts.{Layout, is_memory}
use Rattle.page_state.specs.Rows.{advance_row}
use Rattle.reference_model.specs.model.Owner.{row_of}
use Rattle.reference_model.specs.model.State.{Contents, Reference, plain_row}
use Rattle.run_list.specs.declared.run.Run.{Run}
use Rattle.run_list.specs.Runs.{run_map}
use Rattle.part_types.specs.declared.parts.SharedPart.{SharedPart}
use Rattle.part_types.specs.View.{shared_of}
use Rattle.hypercalls.specs.declared.parts.Parts.{Parts}
use Rattle.hypercalls.specs.Stands.{parts_layout, state_of}
use Rattle.ghost_spec.specs.Views.{row_in}
use Rattle.ghost_oracle.specs.Found.{with_row, found_state, scratch_rows, walked_state}

-- what holds of a value, where there is one
pub if_ok : {X E : Type 0} (P Q : X → Type 0) (r : Result X E) → ((x : X) → P x → Q x) → IfOk r P → IfOk r Q
if_ok P Q (Ok x) go h = go x h
if_ok P Q (Err e) go h = tt

-- rows that say the same
pub rows_same : {A : Type 0} (s : SharedPart A) (runs : List (Run Row))
    → run_map advance_row runs ≡ run_map advance_row s.owners
    → row_in runs ≡ (shared_of s).row
rows_same s runs same = ap (λ m f. unwrap_or (m f) plain_row) same

pub shared_same_rows : {A : Type 0} (s : SharedPart A) (runs : List (Run Row))
    → run_map advance_row runs ≡ run_map advance_row s.owners
    → with_row (row_in runs) (shared_of s) ≡ shared_of s
shared_same_rows s runs same = ap (λ r. with_row r (shared_of s)) (rows_same s runs same)

pub same_rows : {A : Type 0} (p : Parts A) (runs : List (Run Row))
    → run_map advance_row runs ≡ run_map advance_row p.shared.owners
    → found_state (row_in runs) (state_of p) ≡ state_of p
same_rows p runs same = ap (λ r. found_state r (state_of p)) (rows_same p.shared runs same)

-- rows from scratch look at no row
row_alone : (l : Layout) (s : Contents) (row : ℕ → Row) (f : ℕ)
    → row_of l (record s { shared = with_row row s.shared }) f ≡ row_of l s f
unfolding row_of
row_alone l s row f = refl

told : (b : Bool) (x y : Row)
    → x ≡ y
    → unwrap_or (elim b [ true ↦ Some x | false ↦ None ]) plain_row ≡ elim b [ true ↦ y | false ↦ plain_row ]
told true x y h = h
told false x y h = refl

pub walked : (l : Layout) (s : Reference) (row : ℕ → Row) (found : Reference) (runs : List (Run Row))
    → found ≡ found_state row s
    → ((f : ℕ)
    → run_map advance_row runs f ≡ elim (is_memory l f) [ true ↦ Some (row_of l found.contents f) | false ↦ None ])
    → found_state (row_in runs) found ≡ walked_state l s
walked l s row found runs e h =
    let rows : row_in runs ≡ scratch_rows l s.contents =
    fun_ext
    (λ f. ap (λ o. unwrap_or o plain_row) (h f)
    ∙ told (is_memory l f) (row_of l found.contents f) (row_of l s.contents f)
    (ap (λ (t : Reference). row_of l t.contents f) e ∙ row_alone l s.contents row f)) in
    ap (found_state (row_in runs)) e ∙ ap (λ r. found_state r s) rows

pub rows_of : (l : Layout) (row : ℕ → Row) (runs : List (Run Row))
    → ((f : ℕ) → run_map advance_row runs f ≡ elim (is_memory l f) [ true ↦ Some (row f) | false ↦ None ])
    → (f : ℕ)
    → is_some (run_map advance_row runs f) ≡ is_memory l f
rows_of l row runs h f = ap is_some (h f) ∙ test (is_memory l f)
  where
    test : (b : Bool) → is_some (elim b [ true ↦ Some (row f) | false ↦ None ]) ≡ b
    test true = refl
    test false = refl

pub kept_frames : {A : Type 0} (p : Parts A) (runs : List (Run Row))
    → run_map advance_row runs ≡ run_map advance_row p.shared.owners
    → (f : ℕ)
    → is_some (run_map advance_row runs f) ≡ is_memory (parts_layout p) f
kept_frames p runs same f = ap (λ m. is_some (m f)) same ∙ p.rows f

pub scratch_told : (l : Layout) (s : Contents) (runs : List (Run Row))
    → ((f : ℕ) → run_map advance_row runs f ≡ elim (is_memory l f) [ true ↦ Some (row_of l s f) | false ↦ None ])
    → (f : ℕ)
    → row_in runs f ≡ scratch_rows l (record s { shared = with_row (row_in runs) s.shared }) f
scratch_told l s runs h f =
    ap (λ o. unwrap_or o plain_row) (h f)
    ∙ told (is_memory l f) (row_of l s f) (row_of l (record s { shared = with_row (row_in runs) s.shared }) f)
    (sym (row_alone l s (row_in runs) f))

pub if_ok2 : {X E : Type 0} (P Q R : X → Type 0) (r : Result X E)
    → ((x : X) → P x → Q x → R x)
    → IfOk r P
    → IfOk r Q
    → IfOk r R
if_ok2 P Q R (Ok x) go h k = go x h k
if_ok2 P Q R (Err e) go h k = tt
