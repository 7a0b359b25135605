-- The tree of a root of zeros.
use Rattle.std.proofs.Common.{◌≡◌, ℕ, ◌==◌, ◌-◌, List, [], ◌∷◌, ◌++◌, Option, Some, None, map, refl, ap, ◌∙◌}
use Rattle.std.specs.Prelude.{option_to_list, if◌then◌else◌}
use mathlib.Core.Path.{fun_ext}
use Rattle.descriptor.specs.declared.Desc.{Desc}
use Rattle.descriptor.specs.declared.State.TheVariants.{Owned}
use Rattle.page_state.specs.declared.entry.Entry.{Entry}
use Rattle.page_state.specs.declared.layout.Geometry.{Geometry}
use Rattle.page_state.specs.Entries.{entry_of_word}
use Rattle.page_state.specs.Geometries.{levels_below}
use Rattle.page_state.specs.Map.{Map}
use Rattle.page_state.specs.Trees.{Block, Tree}
use Rattle.ghost_trees.specs.declared.tree.Table.{Table}
use Rattle.ghost_trees.specs.Trees.{table_of}
use Rattle.c_tables.specs.ByFrames.{map_by_frames as plain_map, tables_by_frames as plain_tables}
use Rattle.table_words.specs.declared.profile.Profile.{Profile}
use Rattle.table_words.specs.declared.word.Decoded.{Decoded}
use Rattle.table_words.specs.declared.word.Decoded.TheVariants.{Malformed, Unmapped, Annotated, Poisoned, Locked, Cleared, Leaf, Table as TableWord}
use Rattle.table_words.specs.Entries.{entry_of}
use Rattle.table_words.specs.Profiles.{model_profile}
use Rattle.walked_tables.specs.declared.follow.TablePage.{TablePage}
use Rattle.walked_tables.specs.declared.reached.Reached.{Reached}
use Rattle.walked_tables.specs.declared.said.Said.{Said}
use Rattle.walked_tables.specs.ByFrames.{map_by_frames, page_of, tables_by_frames}
use Rattle.walked_tables.specs.Own.{as_plain, as_reached, desc_entry, entry_of_said}
use Rattle.walked_tables.proofs.OwnOrder.{plain_order}
use Rattle.walked_tables.proofs.OwnPages.{plain_walk}
use Rattle.c_profiles.specs.Numbers.{profile_from_c}
use Rattle.c_profiles.specs.Words.{or_malformed}
use Rattle.c_trees.specs.declared.root.PlainRange.{PlainRange}
use Rattle.c_trees.specs.declared.root.PlainRoot.{PlainRoot}
use Rattle.c_trees.specs.Entries.{entries_by, entry_by, without}
use Rattle.c_trees.specs.Laws.{IsOwnRoot, OwnTree}
use Rattle.c_trees.specs.Roots.{count_of, depth_of, or_model, pages_from, profile_in, root_pages}
use Rattle.c_trees.specs.Trees.{as_table, map_by_root, tables_by_root}

by_desc : (o : Option Desc) → entry_of_word (or_malformed o) ≡ desc_entry o
by_desc None = refl
by_desc (Some d) = refl

by_word : (k : Entry) (d : Decoded) → entry_by model_profile k (Some (record { 0 = d })) ≡ desc_entry (entry_of d Owned)
by_word k Malformed = refl
by_word k Unmapped = refl
by_word k (Annotated o None) = refl
by_word k (Annotated o (Some g)) = refl
by_word k Poisoned = refl
by_word k Locked = refl
by_word k (Cleared m) = refl
by_word k (Leaf m) = by_desc (entry_of (Leaf m) Owned)
by_word k (TableWord f) = refl

by_said : (k : Entry) (o : Option Said) → entry_by model_profile k o ≡ entry_of_said o
by_said k None = refl
by_said k (Some s) = by_word k s.0

as_tables : (rs : List Reached) → map as_table rs ≡ map (λ r. r.table) (map as_reached rs)
as_tables [] = refl
as_tables (r ∷ rs) = ap (λ ts. as_table r ∷ ts) (as_tables rs)

abbrev tree_with : Map → (Block → Option ℕ) → Tree
tree_with m f = record { map = m; table = f }

same_tree : (m n : Map) (f h : Block → Option ℕ) → m ≡ n → f ≡ h → tree_with m f ≡ tree_with n h
same_tree m n f h e k = rw (e, k) refl

module _ (g : Geometry) (pages : List TablePage) (root : PlainRoot) (page : TablePage) (own : IsOwnRoot root)
    (found : page_of pages root.frame ≡ Some page) where
  own_profile : profile_in root ≡ model_profile
  own_profile = ap (λ n. or_model (profile_from_c root.tree n)) own.profile

  own_depth : depth_of g root ≡ levels_below g
  own_depth = let level = λ (n : ℕ). if n == 0 then levels_below g else n - 1 in ap level own.levels

  own_count : count_of root ≡ 1
  own_count = let count = λ (n : ℕ). if n == 0 then 1 else n in ap count own.pages

  own_pages : root_pages pages root ≡ page ∷ []
  own_pages = ap (pages_from pages root.frame) own_count ∙ ap (λ o. option_to_list o ++ []) found

  own_tables : tables_by_root g pages root ≡ tables_by_frames model_profile pages root.tree (levels_below g) (page ∷ [])
  own_tables =
      ap (λ x. tables_by_frames x pages root.tree (depth_of g root) (root_pages pages root)) own_profile
      ∙ ap (λ x. tables_by_frames model_profile pages root.tree x (root_pages pages root)) own_depth
      ∙ ap (tables_by_frames model_profile pages root.tree (levels_below g)) own_pages

  own_map : (kept : Map)
      → map_by_root g pages root kept
      ≡ without [] (entries_by model_profile kept (map_by_frames model_profile pages (levels_below g) (page ∷ [])))
  own_map kept =
      ap
      (λ x. without x
      (entries_by (profile_in root) kept
      (map_by_frames (profile_in root) pages (depth_of g root) (root_pages pages root)))) own.skips
      ∙ ap
      (λ x. without []
      (entries_by x kept (map_by_frames x pages (depth_of g root) (root_pages pages root)))) own_profile
      ∙ ap
      (λ x. without []
      (entries_by model_profile kept (map_by_frames model_profile pages x (root_pages pages root)))) own_depth
      ∙ ap
      (λ x. without []
      (entries_by model_profile kept (map_by_frames model_profile pages (levels_below g) x))) own_pages

pub own_tree : OwnTree
own_tree g pages root page kept own found words root_words =
    same_tree _ (plain_map g (map as_plain pages) (as_plain page)) _
    (table_of (map (λ r. r.table) (plain_tables g (map as_plain pages) root.tree (as_plain page))))
    (own_map g pages root page own found kept
    ∙ fun_ext
    (λ p. by_said (kept p) (map_by_frames model_profile pages (levels_below g) (page ∷ []) p)
    ∙ plain_walk g pages page p words root_words))
    (ap table_of
    (ap (map as_table) (own_tables g pages root page own found)
    ∙ as_tables (tables_by_frames model_profile pages root.tree (levels_below g) (page ∷ []))
    ∙ ap (map (λ r. r.table)) (plain_order g pages root.tree page words root_words)))
