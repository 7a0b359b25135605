-- Blocks that one word can say, by the runs of a coarsest list.
use Rattle.std.proofs.Common.{◌≡◌, ℕ, zero, suc, ◌+◌, ◌-◌, ◌<◌, ◌≤◌, true, false, drop, get_or, length, List, [], ◌∷◌, refl, sym, ap, ◌∙◌, arith, inl, inr}
use Rattle.std.proofs.Math.Seq.{drop-cons}
use Rattle.page_state.specs.declared.entry.Entry.{Entry}
use Rattle.page_state.specs.declared.entry.Entry.TheVariants.{Unmapped}
use Rattle.page_state.specs.declared.entry.Run.{Run}
use Rattle.page_state.specs.Entries.{advance, entry_of_target}
use Rattle.page_state.specs.Map.{Map}
use Rattle.page_state.specs.Blocks.{span, first_page, fits_word, is_one_word}
use Rattle.page_state.specs.Regions.{is_in_range}
use Rattle.page_state.specs.Runs.{map_of, entry_on, run_end, IsCoarsest}
use Rattle.page_state.specs.Trees.{Block}
use Rattle.page_state.proofs.Blocks.{one_word_means}
use Rattle.page_state.proofs.Common.{same-tests, not-holds}
use Rattle.page_state.proofs.Entries.{advance-none, advance-more, target-mapped}
use Rattle.page_state.proofs.Runs.{order, low, map_of-first, map_of-behind, stops}
use Rattle.page_state.proofs.Sizes.{size_some}
use Rattle.ghost_trees.proofs.Overlaid.{within_means}

-- where an entry advances along a block, the block is one word just where the entry fits
pub one_entry : (m : Map) (b : Block) (x : Entry)
    → ((k : ℕ) → k < span b → m (first_page b + k) ≡ advance x k)
    → fits_word b.0 x ≡ is_one_word m b
one_entry m b x h =
    let z : first_page b + 0 ≡ first_page b = omega arith in
    let e : m (first_page b) ≡ x = ap m (sym z) ∙ h 0 (size_some b.0) ∙ advance-none x in
    same-tests (fits_word b.0 x) (is_one_word m b)
    (λ f. (one_word_means m b).1 (ap (fits_word b.0) e ∙ f, λ i l. h i l ∙ ap (λ y. advance y i) (sym e)))
    (λ f. sym (ap (fits_word b.0) e) ∙ ((one_word_means m b).0 f).0)

-- so far on in a run
entry_far : (r : Run) (p k : ℕ) → r.pages.first.0 ≤ p → entry_on r (p + k) ≡ advance (entry_on r p) k
entry_far r p k h =
    let e : p + k - r.pages.first.0 ≡ p - r.pages.first.0 + k = omega arith in
    ap (advance (entry_of_target r.target)) e ∙ sym (advance-more (entry_of_target r.target) (p - r.pages.first.0) k)

-- a list gives a block what a map gives it
abbrev pub Gives : List Run → Map → Block → Type 0
Gives rs m b = (k : ℕ) → k < span b → map_of rs (first_page b + k) ≡ m (first_page b + k)

-- the first run that meets a block covers it
covered : (r : Run) (rs : List Run) (m : Map) (b : Block)
    → Gives (r ∷ rs) m b
    → r.pages.first.0 ≤ first_page b
    → first_page b + span b ≤ run_end r
    → fits_word b.0 (entry_on r (first_page b)) ≡ is_one_word m b
covered r rs m b same from to = one_entry m b (entry_on r (first_page b)) (λ k l.
    sym (same k l) ∙ map_of-first r rs (first_page b + k) (omega (arith, from)) (omega (arith, to, l))
    ∙ entry_far r (first_page b) k from)

-- it meets the block, and doesn't cover it
cut : (r : Run) (rs : List Run) (m : Map) (b : Block) (k : ℕ)
    → IsCoarsest (r ∷ rs)
    → Gives (r ∷ rs) m b
    → k < span b
    → is_in_range r.pages (first_page b + k) ≡ true
    → (r.pages.first.0 ≤ first_page b → first_page b + span b ≤ run_end r → ⊥) → is_one_word m b ≡ false
cut r rs m b k c same less in' not = not-holds (is_one_word m b) (λ one.
    let s = first_page b in
    let n = span b in
    let along = ((one_word_means m b).0 one).1 in
    let z : s + 0 ≡ s = omega arith in
    let w = within_means r.pages.first.0 r.pages.count (s + k) in' in
    let first : m s ≡ map_of (r ∷ rs) s = ap m (sym z) ∙ sym (same 0 (omega (arith, less))) ∙ ap (map_of (r ∷ rs)) z in
    elim (order s r.pages.first.0) [
      | inl h ↦
          let j = r.pages.first.0 - s in
          let e : s + j ≡ r.pages.first.0 = omega (arith, h) in
          let l : j < n = omega (arith, w.0, less) in
          let none : m s ≡ Unmapped = first ∙ low (r ∷ rs) r.pages.first.0 c (omega arith) s h in
          let here : m (s + j) ≡ entry_on r r.pages.first.0 =
          sym (same j l) ∙ ap (map_of (r ∷ rs)) e
          ∙ map_of-first r rs r.pages.first.0 (omega arith) (omega (arith, c.0)) in
          let there : m (s + j) ≡ Unmapped = along j l ∙ ap (λ x. advance x j) none in
          target-mapped r.target (r.pages.first.0 - r.pages.first.0) (sym here ∙ there)
      | inr h ↦ elim (order (run_end r) (s + n)) [
        | inl q ↦
            let j = run_end r - s in
            let e : s + j ≡ run_end r = omega (arith, w.1) in
            let l : j < n = omega (arith, q, e) in
            let here : m (s + j) ≡ map_of rs (run_end r) =
            sym (same j l) ∙ ap (map_of (r ∷ rs)) e ∙ map_of-behind r rs (run_end r) (omega arith) in
            let from : m s ≡ entry_on r s = first ∙ map_of-first r rs s h (omega (arith, w.1)) in
            let there : m (s + j) ≡ entry_on r (run_end r) =
            along j l ∙ ap (λ x. advance x j) from ∙ sym (entry_far r s j h) ∙ ap (entry_on r) e in
            stops r rs c.1 c.2 (sym here ∙ there)
        | inr q ↦ not h q
      ]
    ])

-- the run at a place of a list, and those behind it

coarsest_behind : (rs : List Run) (i : ℕ) → IsCoarsest rs → IsCoarsest (drop i rs)
coarsest_behind rs zero c = c
coarsest_behind [] (suc i) c = c
coarsest_behind (r ∷ rs) (suc i) c = coarsest_behind rs i c.2

pub covered_at : (rs : List Run) (i : ℕ) (d : Run) (b : Block) → i < length rs → Gives (drop i rs) (map_of rs) b
    → (get_or rs i d).pages.first.0 ≤ first_page b
    → first_page b + span b ≤ run_end (get_or rs i d)
    → fits_word b.0 (entry_on (get_or rs i d) (first_page b)) ≡ is_one_word (map_of rs) b
covered_at rs i d b h same from to =
    covered (get_or rs i d) (drop (suc i) rs) (map_of rs) b
    (λ k l. ap (λ (xs : List Run). map_of xs (first_page b + k)) (sym (drop-cons rs i d h)) ∙ same k l) from to

pub cut_at : (rs : List Run) (i : ℕ) (d : Run) (b : Block) (k : ℕ)
    → IsCoarsest rs
    → i < length rs
    → Gives (drop i rs) (map_of rs) b
    → k < span b
    → is_in_range (get_or rs i d).pages (first_page b + k) ≡ true
    → ((get_or rs i d).pages.first.0 ≤ first_page b → first_page b + span b ≤ run_end (get_or rs i d) → ⊥)
    → false ≡ is_one_word (map_of rs) b
cut_at rs i d b k c h same less in' not =
    let e = drop-cons rs i d h in
    sym
    (cut (get_or rs i d) (drop (suc i) rs) (map_of rs) b k (rw e at (coarsest_behind rs i c))
    (λ j l. ap (λ (xs : List Run). map_of xs (first_page b + j)) (sym e) ∙ same j l) less in' not)
