-- A change keeps each frame's count over the trees and the pool of a part.
use Rattle.std.proofs.Common.{◌≡◌, ℕ, zero, suc, ◌+◌, ◌-◌, ◌≤◌, ◌<◌, ap, sym, ◌∙◌, arith, inl, inr, List, [], ◌∷◌, ◌++◌, length, take, drop}
use Rattle.std.specs.Prelude.{true, nat_lt}
use Rattle.std.proofs.lemmas.List.Sums.{sum_by-append}
use Rattle.page_state.specs.declared.entry.Entry.TheVariants.{Unmapped}
use Rattle.page_state.specs.Counts.{is_one, frame_count}
use Rattle.page_state.specs.Map.{Map}
use Rattle.page_state.specs.Trees.{Block, Tree, Pool}
use Rattle.reference_model.specs.model.State.{Shared}
use Rattle.page_state.specs.Blocks.{first_page, span, is_empty, is_one_word, fits_word}
use Rattle.page_state.specs.Tables.{Edit, needs, need, freed, returned, edited, given, all_given, placed}
use Rattle.reference_model.specs.declared.changes.Changes.{Changes}
use Rattle.reference_model.specs.model.Changes.{edit_of}
use Rattle.reference_model.specs.model.Step.{shared_after, shared_need}
use Rattle.reference_model.specs.help.Conditions.{table_uses, shared_uses}
use Rattle.page_state.proofs.Blocks.{empty_means, one_word_means}
use Rattle.page_state.proofs.Common.{both, if-true, if-false}
use Rattle.page_state.proofs.Counts.{count_next, count_parts, count_split}
use Rattle.page_state.specs.Entries.{advance}
use Rattle.page_state.proofs.Sizes.{size_some}
use Rattle.coarse_trees.specs.Coarsest.{IsInRange}
use Rattle.reference_model.proofs.conditions.Tables.{edited-uses, freed-below, needs-below, root-absent, cleared-absent, placed-absent}

pub given-count : (f g : ℕ) (p : Pool) → frame_count f (given g p) ≡ is_one g f + frame_count f p
given-count f g [] = count_next f g []
given-count f g (h ∷ p) = elim (both (nat_lt g h)) [
  | inl e ↦ ap (frame_count f) (if-true (nat_lt g h) (g ∷ (h ∷ p)) (h ∷ given g p) e) ∙ count_next f g (h ∷ p)
  | inr e ↦
      let a = count_next f h (given g p) in
      let b = count_next f h p in
      let c = given-count f g p in
      ap (frame_count f) (if-false (nat_lt g h) (g ∷ (h ∷ p)) (h ∷ given g p) e)
      ∙ swap (frame_count f (h ∷ given g p)) (is_one h f) (frame_count f (given g p)) (frame_count f (h ∷ p))
      (frame_count f p) (is_one g f) a b c
]
  where
    swap : (n h c m p g : ℕ) → n ≡ h + c → m ≡ h + p → c ≡ g + p → n ≡ g + m
    swap n h c m p g a b d = omega arith

pub all_given-count : (f : ℕ) (fs : List ℕ) (p : Pool)
    → frame_count f (all_given fs p) ≡ frame_count f fs + frame_count f p
all_given-count f [] p = omega arith
all_given-count f (g ∷ fs) p =
    let a = given-count f g (all_given fs p) in
    let b = all_given-count f fs p in
    let c = count_next f g fs in
    sum (frame_count f (given g (all_given fs p))) (is_one g f) (frame_count f (all_given fs p)) (frame_count f fs)
    (frame_count f p) (frame_count f (g ∷ fs)) a b c
  where
    sum : (n g a s p m : ℕ) → n ≡ g + a → a ≡ s + p → m ≡ g + s → n ≡ m + p
    sum n g a s p m x y z = omega arith

pub length-drop : (n : ℕ) (fs : List ℕ) → length (drop n fs) ≡ length fs - n
length-drop zero fs = omega arith
length-drop (suc n) [] = omega arith
length-drop (suc n) (f ∷ fs) = let e = length-drop n fs in omega arith

-- the Shared part holds each frame as often as before
pub shared-conserved : (depth : ℕ) (r : Changes) (x : Shared) (f : ℕ)
    → IsInRange depth (edit_of r.host)
    → IsInRange depth (edit_of r.hyp)
    → shared_need depth r x ≤ length x.free
    → shared_uses depth (shared_after depth r x) f ≡ shared_uses depth x f
unfolding shared_after
shared-conserved depth r x f host hyp less =
    let m = need depth x.host (edit_of r.host) in
    let n = need depth x.hyp (edit_of r.hyp) in
    let a = edited-uses depth x.host (edit_of r.host) x.free f host (omega arith) in
    let left : n ≤ length (drop m x.free) = let e = length-drop m x.free in omega arith in
    let b = edited-uses depth x.hyp (edit_of r.hyp) (drop m x.free) f hyp left in
    let c =
    all_given-count f (returned depth x.host (edit_of r.host) ++ returned depth x.hyp (edit_of r.hyp))
    (drop (m + n) x.free) in
    let d =
    sum_by-append (λ g. is_one g f) (returned depth x.host (edit_of r.host))
    (returned depth x.hyp (edit_of r.hyp)) in
    let p = count_parts f (m + n) x.free in
    let q = count_split f m n x.free in
    sum
    (frame_count f
    (all_given (returned depth x.host (edit_of r.host) ++ returned depth x.hyp (edit_of r.hyp))
    (drop (m + n) x.free)))
    (table_uses depth (edited depth x.host (edit_of r.host) x.free) f)
    (table_uses depth (edited depth x.hyp (edit_of r.hyp) (drop m x.free)) f)
    (frame_count f (returned depth x.host (edit_of r.host))) (frame_count f (returned depth x.hyp (edit_of r.hyp)))
    (frame_count f (returned depth x.host (edit_of r.host) ++ returned depth x.hyp (edit_of r.hyp)))
    (frame_count f (drop (m + n) x.free)) (frame_count f (take (m + n) x.free)) (frame_count f (take m x.free))
    (frame_count f (take n (drop m x.free)))
    (frame_count f x.free) (table_uses depth x.host f) (table_uses depth x.hyp f) a b c d p q
  where
    sum : (free' host' hyp' rh ry rr left took th ty free host hyp : ℕ)
        → host' + rh ≡ host + th
        → hyp' + ry ≡ hyp + ty
        → free' ≡ rr + left
        → rr ≡ rh + ry
        → took + left ≡ free
        → took ≡ th + ty
        → free' + (host' + hyp') ≡ free + (host + hyp)
    sum free' host' hyp' rh ry rr left took th ty free host hyp a b c d p q = omega arith

-- and so does a guest
pub tree-conserved : (depth : ℕ) (e : Edit) (t : Tree) (free : Pool) (f : ℕ)
    → IsInRange depth e
    → need depth t e ≤ length free
    → frame_count f (all_given (returned depth t e) (drop (need depth t e) free)) + table_uses depth
    (edited depth t e free) f
    ≡ frame_count f free + table_uses depth t f
tree-conserved depth e t free f range less =
    let a = edited-uses depth t e free f range less in
    let c = all_given-count f (returned depth t e) (drop (need depth t e) free) in
    let p = count_parts f (need depth t e) free in
    sum (frame_count f (all_given (returned depth t e) (drop (need depth t e) free)))
    (table_uses depth (edited depth t e free) f) (frame_count f (returned depth t e))
    (frame_count f (drop (need depth t e) free)) (frame_count f (take (need depth t e) free))
    (frame_count f free) (table_uses depth t f) a c p
  where
    sum : (free' tree' r left took free tree : ℕ)
        → tree' + r ≡ tree + took
        → free' ≡ r + left
        → took + left ≡ free
        → free' + tree' ≡ free + tree
    sum free' tree' r left took free tree a c p = omega arith

-- where nothing is mapped a word can say it
pub empty-one_word : (m : Map) (b : Block) → is_empty m b ≡ true → is_one_word m b ≡ true
empty-one_word m b h =
    let each : (i : ℕ) → i < span b → m (first_page b + i) ≡ Unmapped = (empty_means m b).0 h in
    let some : 0 < span b = size_some (b.0) in
    let here : m (first_page b) ≡ Unmapped = ap m (plus-none (first_page b)) ∙ each 0 some in
    (one_word_means m b).1 (ap (fits_word (b.0)) here, λ i less. each i less ∙ sym (ap (λ x. advance x i) here))
  where
    plus-none : (n : ℕ) → n ≡ n + 0
    plus-none n = omega arith

-- the root's table stays
pub edited-root : (depth : ℕ) (e : Edit) (t : Tree) (fs : List ℕ)
    → IsInRange depth e
    → (edited depth t e fs).table (depth + 1, 0) ≡ t.table (depth + 1, 0)
unfolding edited
edited-root depth e t fs range =
    cleared-absent (freed depth t e) (placed (needs depth t e) fs t.table) (depth + 1, 0)
    (root-absent depth (freed depth t e) (freed-below depth t e range))
    ∙ placed-absent (needs depth t e) fs t.table (depth + 1, 0)
    (root-absent depth (needs depth t e) (needs-below depth t e range))
