-- A frame that no pool and no table has is in none after a change, but for those that the change brings.
use Rattle.std.proofs.Common.{◌≡◌, ℕ, ◌+◌, refl, ap, sym, ◌∙◌, arith, inl, inr, List, [], ◌∷◌, ◌++◌, drop}
use Rattle.std.specs.Prelude.{Bool, true, false, ◌||◌, ◌==◌, nat_lt, filter_map, Option, Some, None}
use Rattle.std.proofs.lemmas.Bool.Decides.{nat_tests}
use Rattle.std.proofs.lemmas.List.Sums.{sum_by-append}
use Rattle.page_state.proofs.Common.{both, eq-made, or-neither, or-false, not-holds}
use Rattle.page_state.proofs.Counts.{count_parts}
use Rattle.page_state.specs.Blocks.{block_eq}
use Rattle.page_state.specs.Counts.{is_one, frame_count}
use Rattle.page_state.specs.Layouts.{Layout}
use Rattle.page_state.specs.Tables.{Edit, needs, need, freed, returned, edited, placed, all_given}
use Rattle.page_state.specs.Trees.{Block, Tree, Pool, root_tree, no_tree}
use Rattle.reference_model.proofs.Frames.{cleared-old, is_table_frame-block, is_table_frame-none}
use Rattle.reference_model.proofs.conditions.Conserved.{all_given-count}
use Rattle.reference_model.proofs.conditions.Stands.{is_free-count}
use Rattle.reference_model.specs.declared.changes.Changes.{Changes}
use Rattle.reference_model.specs.declared.changes.GuestChange.{GuestChange}
use Rattle.reference_model.specs.declared.changes.GuestChange.TheVariants.{Keep as KeepGuest, Install, Gain, LoseLowest, Die, Empty}
use Rattle.reference_model.specs.model.Changes.{edit_of, guest_by, frames_in, rest}
use Rattle.reference_model.specs.model.Owner.{is_free, is_table_frame}
use Rattle.reference_model.specs.model.State.{Shared, Guest}
use Rattle.reference_model.specs.model.Step.{shared_after, guest_after, shared_need, guest_need}

-- no table of the tree has the frame
abbrev pub HasNone : Tree → ℕ → Type 0
HasNone t f = (b : Block) → t.table b ≡ Some f → ⊥

-- no place of the Shared part has it
pub record IsApart (x : Shared) (f : ℕ) : Type 0 where
  pub free : is_free x.free f ≡ false
  pub host : HasNone x.host f
  pub hyp : HasNone x.hyp f

-- and no place of a guest
pub record IsClear (g : Guest) (f : ℕ) : Type 0 where
  pub free : is_free g.free f ≡ false
  pub tree : HasNone g.tree f

-- lists of frames

none-count : (fs : Pool) (f : ℕ) → is_free fs f ≡ false → frame_count f fs ≡ 0
none-count fs f h = let e : nat_lt 0 (frame_count f fs) ≡ false = sym (is_free-count fs f) ∙ h in
    grind (arith, nat_tests)

pub count-none : (fs : Pool) (f : ℕ) → frame_count f fs ≡ 0 → is_free fs f ≡ false
count-none fs f h = is_free-count fs f ∙ ap (nat_lt 0) h

drop-none : (n : ℕ) (fs : Pool) (f : ℕ) → is_free fs f ≡ false → is_free (drop n fs) f ≡ false
drop-none n fs f h =
    let parts = count_parts f n fs in
    let all = none-count fs f h in
    count-none (drop n fs) f (omega arith)

given-none : (fs p : Pool) (f : ℕ) → is_free fs f ≡ false → is_free p f ≡ false → is_free (all_given fs p) f ≡ false
given-none fs p f h k =
    let sum = all_given-count f fs p in
    let a = none-count fs f h in
    let b = none-count p f k in
    count-none (all_given fs p) f (omega arith)

given-only : (fs p : Pool) (f : ℕ) → is_free p f ≡ false → is_free (all_given fs p) f ≡ is_free fs f
given-only fs p f k =
    let sum = all_given-count f fs p in
    let b = none-count p f k in
    let same : frame_count f (all_given fs p) ≡ frame_count f fs = omega arith in
    is_free-count (all_given fs p) f ∙ ap (nat_lt 0) same ∙ sym (is_free-count fs f)

both-none : (xs ys : Pool) (f : ℕ) → is_free xs f ≡ false → is_free ys f ≡ false → is_free (xs ++ ys) f ≡ false
both-none xs ys f h k =
    let sum : frame_count f (xs ++ ys) ≡ frame_count f xs + frame_count f ys = sum_by-append (λ g. is_one g f) xs ys in
    let a = none-count xs f h in
    let b = none-count ys f k in
    count-none (xs ++ ys) f (omega arith)

rest-none : (fs : Pool) (f : ℕ) → is_free fs f ≡ false → is_free (rest fs) f ≡ false
rest-none [] f h = refl
rest-none (g ∷ gs) f h = (or-neither (g == f) (is_free gs f) h).1

read-step : (t : Tree) (f : ℕ) (b : Block) (bs : List Block) (o : Option ℕ)
    → t.table b ≡ o
    → (t.table b ≡ Some f → ⊥)
    → is_free (filter_map t.table bs) f ≡ false
    → is_free (filter_map t.table (b ∷ bs)) f ≡ false
read-step t f b bs None e h more = rw e more
read-step t f b bs (Some g) e h more = elim (both (g == f)) [
  | inl s ↦ let same : g ≡ f = grind (arith, nat_tests) in absurd (h (e ∙ ap Some same))
  | inr s ↦ rw (e, s) more
]

read-none : (t : Tree) (f : ℕ) (bs : List Block) → HasNone t f → is_free (filter_map t.table bs) f ≡ false
read-none t f [] h = refl
read-none t f (b ∷ bs) h = read-step t f b bs (t.table b) refl (h b) (read-none t f bs h)

-- trees

placed-none : (bs : List Block) (fs : Pool) (old : Block → Option ℕ) (b : Block) (f : ℕ)
    → is_free fs f ≡ false
    → (old b ≡ Some f → ⊥)
    → placed bs fs old b ≡ Some f
    → ⊥
placed-none [] fs old b f h k e = k e
placed-none (a ∷ bs) [] old b f h k e = k e
placed-none (a ∷ bs) (g ∷ gs) old b f h k e = elim (both (block_eq a b)) [
  | inl t ↦
      let here : Some g ≡ Some f = rw t at e in
      let same : g ≡ f = cc in
      let bad : true ≡ false = sym (eq-made g f same) ∙ (or-neither (g == f) (is_free gs f) h).0 in
      cc
  | inr t ↦ placed-none bs gs old b f (or-neither (g == f) (is_free gs f) h).1 k (rw t at e)
]

edited-none : (depth : ℕ) (t : Tree) (e : Edit) (fs : Pool) (f : ℕ)
    → HasNone t f
    → is_free fs f ≡ false
    → HasNone (edited depth t e fs) f
unfolding edited
edited-none depth t e fs f h k b s =
    placed-none (needs depth t e) fs t.table b f k (h b)
    (cleared-old (freed depth t e) (placed (needs depth t e) fs t.table) b f s)

returned-none : (depth : ℕ) (t : Tree) (e : Edit) (f : ℕ) → HasNone t f → is_free (returned depth t e) f ≡ false
unfolding returned
returned-none depth t e f h = read-none t f (freed depth t e) h

pub no-frame : (l : Layout) (t : Tree) (f : ℕ) → HasNone t f → is_table_frame l t f ≡ false
no-frame l t f h = not-holds (is_table_frame l t f) (λ e. let at = is_table_frame-block l t f e in h at.0 at.1)

-- parts

pub three-false : (a b c : Bool) → a ≡ false → b ≡ false → c ≡ false → (a || b || c) ≡ false
three-false false false c p q r = r
three-false false true c p q r = cc
three-false true b c p q r = cc

pub two-false : (a b : Bool) → a ≡ false → b ≡ false → (a || b) ≡ false
two-false false b p q = q
two-false true b p q = cc

-- the Shared part holds the frame
abbrev pub pool_holds : Layout → Shared → ℕ → Bool
pool_holds l x f = is_free x.free f || is_table_frame l x.host f || is_table_frame l x.hyp f

-- a guest holds it
abbrev pub guest_holds : Layout → Guest → ℕ → Bool
guest_holds l g f = is_free g.free f || is_table_frame l g.tree f

-- it is not held after a change of the Shared part either
pub still-apart : (l : Layout) (depth : ℕ) (h : Changes) (x : Shared) (f : ℕ)
    → IsApart x f
    → pool_holds l (shared_after depth h x) f ≡ false
unfolding shared_after
still-apart l depth h x f a =
    let left = drop-none (need depth x.host (edit_of h.host)) x.free f a.free in
    let back =
    both-none (returned depth x.host (edit_of h.host)) (returned depth x.hyp (edit_of h.hyp)) f
    (returned-none depth x.host (edit_of h.host) f a.host)
    (returned-none depth x.hyp (edit_of h.hyp) f a.hyp) in
    three-false _ _ _
    (given-none _ _ f back (drop-none (shared_need depth h x) x.free f a.free))
    (no-frame l (edited depth x.host (edit_of h.host) x.free) f
    (edited-none depth x.host (edit_of h.host) x.free f a.host a.free))
    (no-frame l (edited depth x.hyp (edit_of h.hyp) (drop (need depth x.host (edit_of h.host)) x.free)) f
    (edited-none depth x.hyp (edit_of h.hyp) (drop (need depth x.host (edit_of h.host)) x.free) f a.hyp left))

-- a change of a guest brings it the frame
abbrev pub brings : Layout → GuestChange → ℕ → Bool
brings l (Install kind generation hand) f =
    is_free (rest (frames_in hand)) f || is_table_frame l (root_tree l.depth hand.first.0) f
brings l (Gain range) f = is_free (frames_in range) f
brings l other f = false

by-part : (l : Layout) (p : GuestChange) (g : Guest) (f : ℕ)
    → is_free g.free f ≡ false
    → is_table_frame l g.tree f ≡ false
    → guest_holds l (guest_by l.depth p g) f ≡ brings l p f
by-part l KeepGuest g f h k = two-false _ _ h k
by-part l (Install kind generation hand) g f h k = refl
by-part l (Gain range) g f h k = with-none (given-only (frames_in range) g.free f h) k
  where
    with-none : {a b c : Bool} → a ≡ c → b ≡ false → (a || b) ≡ c
    with-none {a} {b} {c} p q = ap (λ z. a || z) q ∙ or-false a ∙ p
by-part l LoseLowest g f h k = two-false _ _ (rest-none g.free f h) k
by-part l Die g f h k = two-false _ _ h k
by-part l Empty g f h k = is_table_frame-none l no_tree f (λ b. refl)

-- after a change a guest that didn't hold it does just where the change brings it
pub after-brings : (l : Layout) (h : Changes) (g : Guest) (f : ℕ)
    → IsClear g f
    → guest_holds l (guest_after l.depth h g) f ≡ brings l h.part f
unfolding guest_after
after-brings l h g f a = by-part l h.part _ f
    (given-none _ _ f (returned-none l.depth g.tree (edit_of h.guest) f a.tree)
    (drop-none (guest_need l.depth h g) g.free f a.free))
    (no-frame l (edited l.depth g.tree (edit_of h.guest) g.free) f
    (edited-none l.depth g.tree (edit_of h.guest) g.free f a.tree a.free))
