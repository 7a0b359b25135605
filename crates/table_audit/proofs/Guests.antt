-- Guests with other trees, one after the other, and states with these.
use Rattle.std.proofs.Common.{◌≡◌, ℕ, ◌+◌, ◌<◌, Bool, true, false, Option, Some, None, List, [], ◌∷◌, ◌++◌, length, map, get_or, refl, sym, ap, subst, ◌∙◌, arith}
use Rattle.std.specs.Prelude.{unwrap_or}
use Rattle.std.proofs.lemmas.List.{get_or-map, get_or_append_left, get_or_push, map_push, length-map}
use mathlib.Core.Path.{fun_ext}
use Rattle.page_state.specs.declared.row.Row.{Row}
use Rattle.page_state.specs.Layouts.{Layout, is_memory}
use Rattle.page_state.specs.Trees.{no_tree, Tree}
use Rattle.page_state.proofs.Cases.{by_lt}
use Rattle.reference_model.specs.model.Owner.{row_of}
use Rattle.reference_model.specs.model.State.{Contents, Guest, no_guest, plain_row}
use Rattle.ghost_trees.specs.declared.tree.Tree.{Tree as TreeOfLists}
use Rattle.ghost_trees.specs.Trees.{tree_in_lists}
use Rattle.ghost_spec.specs.declared.parts.GhostGuest.{GhostGuest}
use Rattle.ghost_spec.specs.States.{guest_in}
use Rattle.ghost_judge.proofs.Judged.{past_end}
use Rattle.table_audit.specs.Found.{found, guest_with, rows_by, trees_in, with_rows, with_trees, AreTreesOf}

pub tree_at : (trees : List TreeOfLists) (n : ℕ) (d : TreeOfLists)
    → n < length trees
    → trees_in trees n ≡ tree_in_lists (get_or trees n d)
tree_at trees n d l = get_or-map tree_in_lists trees n d no_tree l

pub none_made : (guests : List GhostGuest) (trees : List TreeOfLists) (made : List GhostGuest)
    → AreTreesOf guests trees 0 made
none_made guests trees made v l = absurd (omega (arith, l))

pub more_made : (guests : List GhostGuest) (trees : List TreeOfLists) (n : ℕ) (made : List GhostGuest) (g : GhostGuest)
    (d : GhostGuest) (e : TreeOfLists)
    → length made ≡ n → n < length guests → 2 + n < length trees → AreTreesOf guests trees n made
    → guest_in g ≡ guest_with (guest_in (get_or guests n d)) (tree_in_lists (get_or trees (2 + n) e))
    → AreTreesOf guests trees (n + 1) (made ++ g ∷ [])
more_made guests trees n made g d e long k l so_far is v less =
    let long_map : length (map guest_in made) ≡ n = length-map made guest_in ∙ long in
    by_lt v n
    (λ h. ap (λ xs. get_or xs v no_guest) (map_push guest_in made g)
    ∙ get_or_append_left (map guest_in made) (guest_in g ∷ []) no_guest v (omega (arith, h, long_map)) ∙ so_far v h)
    (λ h.
    let same : n ≡ v = omega (arith, h, less) in
    subst
    (λ w. get_or (map guest_in (made ++ g ∷ [])) w no_guest
    ≡ guest_with (get_or (map guest_in guests) w no_guest) (trees_in trees (2 + w))) same
    (ap (λ xs. get_or xs n no_guest) (map_push guest_in made g)
    ∙ get_or_push (map guest_in made) (guest_in g) no_guest n (omega (arith, long_map)) ∙ is
    ∙ ap (λ x. guest_with x (tree_in_lists (get_or trees (2 + n) e))) (sym (get_or-map guest_in guests n d no_guest k))
    ∙ ap (λ x. guest_with (get_or (map guest_in guests) n no_guest) x) (sym (tree_at trees (2 + n) e l))))

abbrev pub guests_at : List GhostGuest → ℕ → Guest
guests_at guests v = get_or (map guest_in guests) v no_guest

abbrev pub guests_with : List GhostGuest → List TreeOfLists → ℕ → Guest
guests_with guests trees v = guest_with (get_or (map guest_in guests) v no_guest) (trees_in trees (2 + v))

-- all of them, as a function
pub all_made : (guests : List GhostGuest) (trees : List TreeOfLists) (made : List GhostGuest)
    → length guests ≡ 64
    → length trees ≡ 66
    → length made ≡ 64
    → AreTreesOf guests trees 64 made
    → guests_at made ≡ guests_with guests trees
all_made guests trees made a b c h = fun_ext (λ v. by_lt v 64
    (λ l. h v l)
    (λ l.
    past_end guest_in no_guest made v (omega (arith, l, c))
    ∙ ap (λ x. guest_with x no_tree) (sym (past_end guest_in no_guest guests v (omega (arith, l, a))))
    ∙ ap (λ x. guest_with (get_or (map guest_in guests) v no_guest) x)
    (sym (past_end tree_in_lists no_tree trees (2 + v) (omega (arith, l, b))))))

-- contents with other trees
abbrev pub contents_with : Contents → Tree → Tree → (ℕ → Guest) → Contents
contents_with s host hyp guest =
    record {
      vms = s.vms;
      shared = record { host = host; hyp = hyp; free = s.shared.free; row = s.shared.row };
      guest = guest;
      cpu = s.cpu;
    }

-- the row of a frame, where it is one of memory
row_or_plain : (b : Bool) (o : Option Row) (row : Row)
    → o ≡ elim b [ true ↦ Some row | false ↦ None ]
    → unwrap_or o plain_row ≡ elim b [ true ↦ row | false ↦ plain_row ]
row_or_plain true o row e = rw e refl
row_or_plain false o row e = rw e refl

module _ (s s₀ : Contents) (l l₀ : Layout) (trees : ℕ → Tree) (host hyp : Tree) (guest : ℕ → Guest)
    (rows : ℕ → Option Row) where
  same_trees : host ≡ trees 0
      → hyp ≡ trees 1
      → guest ≡ (λ v. guest_with (s.guest v) (trees (2 + v)))
      → contents_with s host hyp guest ≡ with_trees s trees
  same_trees a b c = rw (a, b, c) refl

  pub found_contents : s ≡ s₀
      → l ≡ l₀
      → host ≡ trees 0
      → hyp ≡ trees 1
      → guest ≡ (λ v. guest_with (s.guest v) (trees (2 + v)))
      → ((f : ℕ)
      → rows f ≡ elim (is_memory l f) [ true ↦ Some (row_of l (contents_with s host hyp guest) f) | false ↦ None ])
      → with_rows (contents_with s host hyp guest) (λ f. unwrap_or (rows f) plain_row) ≡ found l₀ s₀ trees
  found_contents e k a b c h =
      ap (with_rows (contents_with s host hyp guest))
      (fun_ext (λ f. row_or_plain (is_memory l f) (rows f) (row_of l (contents_with s host hyp guest) f) (h f)))
      ∙ ap (λ x. with_rows x (rows_by l x)) (same_trees a b c)
      ∙ ap (λ x. found x s trees) k ∙ ap (λ x. found l₀ x trees) e
