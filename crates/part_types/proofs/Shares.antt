-- The Shared part after its changes, in words of the reference state.
use Rattle.std.proofs.Common.{◌≡◌, ℕ, ◌+◌, ◌-◌, ◌++◌, Bool, true, false, List, drop, unwrap_or, Option, Some, Result, Ok, Err, OnErr, refl, ap, ◌∙◌, if◌then◌else◌}
use mathlib.Core.Path.{fun_ext}
use Rattle.owner_table.specs.Rows.{row_at, rows_set}
use Rattle.page_state.specs.declared.entry.PageRange.{PageRange}
use Rattle.page_state.specs.declared.row.Row.{Row}
use Rattle.page_state.specs.Regions.{is_in_range}
use Rattle.page_state.specs.Rows.{advance_row}
use Rattle.page_state.specs.Tables.{need, edited, returned, all_given}
use Rattle.page_state.specs.Trees.{Tree}
use Rattle.reference_model.specs.declared.changes.Changes.{Changes}
use Rattle.reference_model.specs.model.Changes.{edit_of}
use Rattle.reference_model.specs.model.State.{Shared, plain_row}
use Rattle.reference_model.specs.model.Step.{shared_after}
use Rattle.run_list.specs.declared.run.Run.{Run}
use Rattle.table_tree.specs.declared.tree.Tree.{Tree as TableTree}
use Rattle.table_tree.specs.View.{tree_of}
use Rattle.table_tree.proofs.Same.{same_tree}
use Rattle.walk_plan.specs.Hands.{Stays}
use Rattle.component.specs.View.{need_for, tree_after, back_from}
use Rattle.part_types.specs.declared.parts.SharedPart.{SharedPart}
use Rattle.part_types.specs.Leaves.{IsUnchanged, KeepsSpares}
use Rattle.part_types.specs.View.{shared_of, depth_of, rows_given}

-- a Shared part by what it has
abbrev pub shared : (ℕ → Row) → Tree → Tree → List ℕ → Shared
shared row host hyp free = record { host = host; hyp = hyp; free = free; row = row }

-- its rows
abbrev pub row_of : {A : Type 0} → SharedPart A → ℕ → Row
row_of s f = unwrap_or (row_at s.owners f) plain_row

same_row : (b : Bool) (old : Option Row) (new : Row)
    → unwrap_or (if b then Some new else old) plain_row ≡ (if b then new else unwrap_or old plain_row)
same_row true old new = refl
same_row false old new = refl

module _ {A : Type 0} (s : SharedPart A) where
  -- rows of a range that were replaced
  pub given : (frames : PageRange) (row : Row) (rows : List (Run Row))
      → row_at rows ≡ rows_set (row_at s.owners) frames row
      → shared (λ f. unwrap_or (row_at rows f) plain_row) (tree_of s.host.tree) (tree_of s.hyp.tree) s.pool.frames
      ≡ rows_given frames row (shared_of s)
  given frames row rows e =
      ap (λ r. shared r (tree_of s.host.tree) (tree_of s.hyp.tree) s.pool.frames)
      (fun_ext
      (λ f. ap (λ m. unwrap_or (m f) plain_row) e
      ∙ same_row (is_in_range frames f) (row_at s.owners f) (advance_row row (f - frames.first.0))))

  -- maps that stayed, whatever spares their trees have now
  pub same_shared : (host hyp : TableTree A) (free : List ℕ)
      → Stays s.host.tree host
      → Stays s.hyp.tree hyp
      → free ≡ s.pool.frames
      → shared (row_of s) (tree_of host) (tree_of hyp) free ≡ shared_of s
  same_shared host hyp free stays hyp_stays e =
      ap (λ x. shared (row_of s) x (tree_of hyp) free) (same_tree host s.host.tree stays.geometry stays.table)
      ∙ ap (λ x. shared (row_of s) (tree_of s.host.tree) x free)
      (same_tree hyp s.hyp.tree hyp_stays.geometry hyp_stays.table)
      ∙ ap (shared (row_of s) (tree_of s.host.tree) (tree_of s.hyp.tree)) e

  pub unchanged : {X E : Type 0} (r : Result X E) (t : SharedPart A)
      → Stays s.host.tree t.host.tree
      → Stays s.hyp.tree t.hyp.tree
      → t.pool ≡ s.pool
      → t.owners ≡ s.owners
      → KeepsSpares s t
      → OnErr r (IsUnchanged s t)
  unchanged (Ok x) t stays hyp_stays pool rows spares = tt
  unchanged (Err e) t stays hyp_stays pool rows spares = record {
    same =
        ap
        (λ o. shared (λ f. unwrap_or (row_at o f) plain_row) (tree_of t.host.tree)
        (tree_of t.hyp.tree) t.pool.frames) rows
        ∙ same_shared t.host.tree t.hyp.tree t.pool.frames stays hyp_stays (ap (λ q. q.frames) pool);
    spares = spares;
  }

  -- both maps that were changed, with frames of a list that begins with those of the new tables
  pub changed : (all : List ℕ) (h : Changes) (host hyp : TableTree A) (free : List ℕ)
      → tree_of host ≡ tree_after s.host.tree h.host all
      → tree_of hyp ≡ tree_after s.hyp.tree h.hyp (drop (need_for s.host.tree h.host) all)
      → free
      ≡ all_given (back_from s.host.tree h.host ++ back_from s.hyp.tree h.hyp)
      (drop (need_for s.host.tree h.host + need_for s.hyp.tree h.hyp) all)
      → shared (row_of s) (tree_of host) (tree_of hyp) free
      ≡ shared_after (depth_of s) h (shared (row_of s) (tree_of s.host.tree) (tree_of s.hyp.tree) all)
  unfolding shared_after
  changed all h host hyp free a b c =
      let r = row_of s in
      let same = s.alike in
      let back =
      ap
      (λ d. all_given (back_from s.host.tree h.host ++ returned d (tree_of s.hyp.tree) (edit_of h.hyp))
      (drop (need_for s.host.tree h.host + need d (tree_of s.hyp.tree) (edit_of h.hyp)) all)) same in
      ap (λ x. shared r x (tree_of hyp) free) a
      ∙ ap (λ x. shared r (tree_after s.host.tree h.host all) x free)
      (b ∙ ap (λ d. edited d (tree_of s.hyp.tree) (edit_of h.hyp) (drop (need_for s.host.tree h.host) all)) same)
      ∙ ap
      (λ x. shared r (tree_after s.host.tree h.host all)
      (edited (depth_of s) (tree_of s.hyp.tree) (edit_of h.hyp) (drop (need_for s.host.tree h.host) all)) x)
      (c ∙ back)
