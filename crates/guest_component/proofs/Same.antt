-- A change takes just the frames that it needs, whatever spares the tree has.
use Rattle.std.proofs.Common.{◌≡◌, ℕ, List, Option, take}
use Rattle.page_state.specs.Tables.{need, returned, edited}
use Rattle.page_state.specs.Geometries.{levels_below}
use Rattle.page_state.proofs.Edits.{edited_take}
use Rattle.reference_model.specs.declared.changes.MapChange.{MapChange}
use Rattle.reference_model.specs.model.Changes.{edit_of}
use Rattle.table_tree.specs.declared.tree.Tree.{Tree as TableTree}
use Rattle.table_tree.specs.View.{tree_of}
use Rattle.table_tree.proofs.Same.{by_views}
use Rattle.component.specs.View.{need_for, tree_after, back_from}

pub after_take : {A : Type 0} (t : TableTree A) (c : Option MapChange) (fs : List ℕ)
    → tree_after t c (take (need_for t c) fs) ≡ tree_after t c fs
after_take t c fs = edited_take (levels_below t.geometry) (tree_of t) (edit_of c) fs

-- trees that are one but for their spares
module _ {A : Type 0} (u t : TableTree A) (geometry : u.geometry ≡ t.geometry) (table : u.table ≡ t.table)
    (c : Option MapChange) where
  pub need_same : need_for u c ≡ need_for t c
  need_same = by_views u t geometry table (λ x y. need (levels_below x) y (edit_of c))

  pub after_same : (fs : List ℕ) → tree_after u c fs ≡ tree_after t c fs
  after_same fs = by_views u t geometry table (λ x y. edited (levels_below x) y (edit_of c) fs)

  pub back_same : back_from u c ≡ back_from t c
  back_same = by_views u t geometry table (λ x y. returned (levels_below x) y (edit_of c))
