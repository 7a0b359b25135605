-- What the root table of a poked tree says is the tree, and the slots' guests of a state on lists.
use Rattle.std.proofs.Common.{◌≡◌, ℕ, zero, suc, ◌+◌, ◌<◌, refl, ap, sym, ◌∙◌, subst, arith, List, [], ◌∷◌, ◌++◌, length, Option}
use Rattle.std.specs.Prelude.{get_or}
use Rattle.std.proofs.lemmas.List.{get_or_append_left, get_or_default}
use Rattle.std.proofs.Math.Seq.{get_or-append_seam}
use mathlib.Core.Path.{fun_ext}
use Rattle.page_state.proofs.Cases.{by_lt}
use Rattle.page_state.proofs.Common.{same2}
use Rattle.page_state.specs.Map.{Map}
use Rattle.page_state.specs.Trees.{Block}
use Rattle.table_tree.specs.declared.raw.RawTree.{RawTree}
use Rattle.table_tree.specs.RawView.{raw_meaning, raw_table_at, raw_tree_of}
use Rattle.part_types.specs.declared.parts.GuestPart.{GuestPart}
use Rattle.ghost_spec.specs.declared.parts.GhostGuest.{GhostGuest}
use Rattle.ghost_oracle.specs.declared.raw.RawGuest.{RawGuest}
use Rattle.ghost_oracle.specs.declared.trees.Source.{Source}
use Rattle.ghost_oracle.specs.RawFound.{IsSlotFound}
use Rattle.table_tree.specs.Roots.{map_under, table_under, tree_under}

map_same : {A : Type 0} (t : RawTree A) (page : ℕ) → map_under t.geometry t.table page ≡ raw_meaning t page
unfolding map_under raw_meaning
map_same t page = refl

table_same : {A : Type 0} (t : RawTree A) (depth number : ℕ)
    → table_under t.geometry t.table depth number ≡ raw_table_at t depth number
unfolding table_under raw_table_at
table_same t zero number = refl
table_same t (suc depth) number = refl

pub under_raw : {A : Type 0} (t : RawTree A) → tree_under t.geometry t.table ≡ raw_tree_of t
under_raw t =
    same2 (λ (m : Map) (table : Block → Option ℕ). record { map = m; table = table }) (fun_ext (map_same t))
    (fun_ext (λ b. table_same t b.0 b.1))

-- one more guest of a list is that of the next slot
module _ {A : Type 0} (source : Source) (parts : List (GuestPart A)) (helds : List (Option (RawGuest A)))
    (gs : List GhostGuest) (i : ℕ) where
  FoundBelow : ℕ → List GhostGuest → Type 0
  FoundBelow n xs =
      (k : ℕ) (part : GuestPart A) (held : Option (RawGuest A)) (x : GhostGuest)
      → k < n
      → IsSlotFound source (get_or parts k part) (get_or helds k held) (get_or xs k x)

  pub found_next : (p : GuestPart A) (h : Option (RawGuest A)) (y : GhostGuest)
      → i < length parts
      → i < length helds
      → length gs ≡ i
      → p ≡ get_or parts i p
      → h ≡ get_or helds i h
      → ((k : ℕ) (part : GuestPart A) (held : Option (RawGuest A)) (x : GhostGuest)
      → k < i
      → IsSlotFound source (get_or parts k part) (get_or helds k held) (get_or gs k x))
      → IsSlotFound source p h y
      → (k : ℕ) (part : GuestPart A) (held : Option (RawGuest A)) (x : GhostGuest)
      → k < i + 1
      → IsSlotFound source (get_or parts k part) (get_or helds k held) (get_or (gs ++ y ∷ []) k x)
  found_next p h y within_parts within_helds long at_part at_held before one k part held x less = by_lt k i
      (λ below. subst (λ z. IsSlotFound source (get_or parts k part) (get_or helds k held) z)
      (sym (get_or_append_left gs (y ∷ []) x k (omega (arith, below, long)))) (before k part held x below))
      (λ over.
      let here : i ≡ k = omega (arith, less, over) in
      let last : get_or (gs ++ y ∷ []) i x ≡ y =
      ap (λ n. get_or (gs ++ y ∷ []) n x) (sym long) ∙ get_or-append_seam gs y [] x in
      let a : p ≡ get_or parts i part = at_part ∙ get_or_default parts i p part within_parts in
      let b : h ≡ get_or helds i held = at_held ∙ get_or_default helds i h held within_helds in
      subst (λ n. IsSlotFound source (get_or parts n part) (get_or helds n held) (get_or (gs ++ y ∷ []) n x)) here
      (subst (λ z. IsSlotFound source (get_or parts i part) (get_or helds i held) z) (sym last)
      (subst (λ z. IsSlotFound source (get_or parts i part) z y) b (subst (λ z. IsSlotFound source z h y) a one))))
