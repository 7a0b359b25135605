-- A run in front of a coarsest list, and the map of both.
use Rattle.std.proofs.Common.{◌≡◌, ℕ, suc, ◌+◌, ◌-◌, ◌<◌, ◌≤◌, Bool, true, false, ◌&&◌, ◌==◌, List, [], ◌∷◌, All, refl, sym, ap, ◌∙◌, arith}
use Rattle.std.proofs.lemmas.List.Elements.{All-nil, All-cons}
use Rattle.std.proofs.lemmas.Bool.Decides.{nat_tests}
use Rattle.page_state.specs.declared.entry.Run.{Run}
use Rattle.page_state.specs.contracts.entry.TargetPartialEq.TheImpl as targets
use Rattle.page_state.specs.declared.entry.Entry.{Entry}
use Rattle.page_state.specs.Entries.{advance, advance_target, entry_of_target}
use Rattle.page_state.specs.EntryTests.{entry_eq}
use Rattle.page_state.specs.Map.{is_within}
use Rattle.page_state.specs.Runs.{map_of, entry_on, run_end, IsCoarsest, Precedes, PrecedesFirst}
use Rattle.page_state.proofs.Cases.{by_test}
use Rattle.page_state.proofs.Common.{eq-same, and-left, and-right}
use Rattle.page_state.proofs.Entries.{advance-more, entry_advanced, entry_eq-same, entry_eq-self}
use Rattle.page_state.proofs.Equality.{targets_test}
use Rattle.ghost_trees.specs.Small.{HasLowFrames, IsSmall, AreSmall}
use Rattle.ghost_trees.specs.Joins.{continues, longer, joined}
use Rattle.ghost_trees.specs.Parts.{BeginsFrom}
use Rattle.ghost_trees.proofs.Entries.{low_before}
use Rattle.ghost_trees.proofs.Overlaid.{within_means}

pub head_of : (P : Run → Type 0) (r : Run) (rs : List Run) → All P (r ∷ rs) → P r
head_of P r rs h = h 0 r (omega arith)

pub rest_of : (P : Run → Type 0) (r : Run) (rs : List Run) → All P (r ∷ rs) → All P rs
rest_of P r rs h = λ k d l. h (suc k) d (omega arith)

-- a run in front of a list

pub continues_page : (r n : Run) → continues r n ≡ true → run_end r ≡ n.pages.first.0
continues_page r n h =
    eq-same (run_end r) n.pages.first.0
    (and-left (run_end r == n.pages.first.0) (entry_eq (entry_on r (run_end r)) (entry_of_target n.target)) h)

pub from_first : (r : Run) → run_end r - r.pages.first.0 ≡ r.pages.count
from_first r = omega arith

pub continues_entry : (r n : Run)
    → continues r n ≡ true
    → advance (entry_of_target r.target) r.pages.count ≡ entry_of_target n.target
continues_entry r n h =
    ap (advance (entry_of_target r.target)) (sym (from_first r))
    ∙ entry_eq-same (entry_on r (run_end r)) (entry_of_target n.target)
    (and-right (run_end r == n.pages.first.0) (entry_eq (entry_on r (run_end r)) (entry_of_target n.target)) h)

does_continue : (r n : Run)
    → run_end r ≡ n.pages.first.0
    → entry_on r (run_end r) ≡ entry_of_target n.target
    → continues r n ≡ true
does_continue r n e f =
    let p : (run_end r == n.pages.first.0) ≡ true = grind (arith, nat_tests) in
    rw (p, f) (entry_eq-self (entry_of_target n.target))

-- where the pages go on, the code's test of the targets says whether the run does
pub target_continues : (r n : Run)
    → run_end r ≡ n.pages.first.0
    → targets.ghosts.eq (advance_target r.target r.pages.count) n.target ≡ continues r n
target_continues r n e =
    let p : (run_end r == n.pages.first.0) ≡ true = grind (arith, nat_tests) in
    targets_test (advance_target r.target r.pages.count) n.target
    ∙ ap (λ (x : Entry). entry_eq x (entry_of_target n.target))
    (entry_advanced r.target r.pages.count ∙ ap (advance (entry_of_target r.target)) (sym (from_first r)))
    ∙ sym (ap (λ (b : Bool). b && entry_eq (entry_on r (run_end r)) (entry_of_target n.target)) p)

in_both : (a b c d p : ℕ) → a + c ≡ b → is_within b d p ≡ true → is_within a (c + d) p ≡ true
in_both a b c d p e h = grind (arith, nat_tests)

in_first : (a c d p : ℕ) → is_within a c p ≡ true → is_within a (c + d) p ≡ true
in_first a c d p h = grind (arith, nat_tests)

in_neither : (a b c d p : ℕ)
    → a + c ≡ b
    → is_within a c p ≡ false
    → is_within b d p ≡ false
    → is_within a (c + d) p ≡ false
in_neither a b c d p e h k = grind (arith, nat_tests)

map_of-longer : (r n : Run) (rs : List Run) (p : ℕ)
    → continues r n ≡ true
    → map_of (longer r n ∷ rs) p ≡ map_of (r ∷ (n ∷ rs)) p
map_of-longer r n rs p h =
    let b : r.pages.first.0 + r.pages.count ≡ n.pages.first.0 = continues_page r n h in
    let t = continues_entry r n h in
    by_test (is_within r.pages.first.0 r.pages.count p)
    (λ w. rw (w, in_first r.pages.first.0 r.pages.count n.pages.count p w) refl)
    (λ w. by_test (is_within n.pages.first.0 n.pages.count p)
    (λ v. let m = within_means n.pages.first.0 n.pages.count p v in
    let e : p - r.pages.first.0 ≡ r.pages.count + (p - n.pages.first.0) = omega (arith, m.0) in
    rw (w, v, in_both r.pages.first.0 n.pages.first.0 r.pages.count n.pages.count p b v)
    (ap (advance (entry_of_target r.target)) e
    ∙ sym (advance-more (entry_of_target r.target) r.pages.count (p - n.pages.first.0))
    ∙ ap (λ x. advance x (p - n.pages.first.0)) t))
    (λ v. rw (w, v, in_neither r.pages.first.0 n.pages.first.0 r.pages.count n.pages.count p b w v) refl))

pub map_of-joined : (r : Run) (rs : List Run) (p : ℕ) → map_of (joined r rs) p ≡ map_of (r ∷ rs) p
map_of-joined r [] p = refl
map_of-joined r (n ∷ rs) p = by_test (continues r n)
    (λ h. rw h (map_of-longer r n rs p h))
    (λ h. rw h refl)

pub small_joined : (r : Run) (rs : List Run) → IsSmall r → AreSmall rs → AreSmall (joined r rs)
small_joined r [] h s = All-cons IsSmall r [] h (All-nil IsSmall)
small_joined r (n ∷ rs) h s =
    let next : IsSmall n = head_of IsSmall n rs s in
    by_test (continues r n)
    (λ k. let b : r.pages.first.0 + r.pages.count ≡ n.pages.first.0 = continues_page r n k in
    let frames : HasLowFrames (advance (entry_of_target r.target) r.pages.count) n.pages.count =
    rw (continues_entry r n k) next.1 in
    let long : IsSmall (longer r n) =
    (omega (arith, next.0), low_before (entry_of_target r.target) r.pages.count n.pages.count frames) in
    rw k (All-cons IsSmall (longer r n) rs long (rest_of IsSmall n rs s)))
    (λ k. rw k (All-cons IsSmall r (n ∷ rs) h s))

pub begins_joined : (low : ℕ) (r : Run) (rs : List Run) → low ≤ r.pages.first.0 → BeginsFrom low (joined r rs)
begins_joined low r [] h = h
begins_joined low r (n ∷ rs) h = by_test (continues r n) (λ k. rw k h) (λ k. rw k h)

pub begins_before : (low high : ℕ) (rs : List Run) → low ≤ high → BeginsFrom high rs → BeginsFrom low rs
begins_before low high [] h b = tt
begins_before low high (r ∷ rs) h b = omega arith

pub begins_next : (r : Run) (rs : List Run) → PrecedesFirst r rs → BeginsFrom (run_end r) rs
begins_next r [] p = tt
begins_next r (n ∷ rs) p = p.before

precedes : (r n : Run) → run_end r ≤ n.pages.first.0 → continues r n ≡ false → Precedes r n
precedes r n h f = record {
  before = h;
  apart = λ e t. let k : true ≡ false = sym (does_continue r n e t) ∙ f in cc;
}

longer_precedes : (r n m : Run) → continues r n ≡ true → Precedes n m → Precedes (longer r n) m
longer_precedes r n m h p =
    let b : r.pages.first.0 + r.pages.count ≡ n.pages.first.0 = continues_page r n h in
    let t = continues_entry r n h in
    let far : entry_on (longer r n) (run_end (longer r n)) ≡ entry_on n (run_end n) =
    ap (advance (entry_of_target r.target)) (from_first (longer r n))
    ∙ sym (advance-more (entry_of_target r.target) r.pages.count n.pages.count)
    ∙ ap (λ x. advance x n.pages.count) t ∙ ap (advance (entry_of_target n.target)) (sym (from_first n)) in
    record { before = omega (arith, p.before); apart = λ e u. p.apart (omega arith) (sym far ∙ u) }

longer_first : (r n : Run) (rs : List Run) → continues r n ≡ true → PrecedesFirst n rs → PrecedesFirst (longer r n) rs
longer_first r n [] h p = tt
longer_first r n (m ∷ rs) h p = longer_precedes r n m h p

pub joined_coarsest : (r : Run) (rs : List Run)
    → 0 < r.pages.count
    → BeginsFrom (run_end r) rs
    → IsCoarsest rs
    → IsCoarsest (joined r rs)
joined_coarsest r [] h b c = (h, tt, tt)
joined_coarsest r (n ∷ rs) h b c = by_test (continues r n)
    (λ k. rw k (omega arith, longer_first r n rs k c.1, c.2))
    (λ k. rw k (h, precedes r n b k, c))
