-- Trees in which nothing is mapped below a page: the first of their runs begins behind it.
use Rattle.std.proofs.Common.{◌≡◌, ℕ, suc, ◌+◌, ◌-◌, ◌<◌, ◌≤◌, true, false, nat_le, length, drop, get_or, List, [], ◌∷◌, slice_get, Some, None, refl, sym, ap, ◌∙◌, arith}
use Rattle.std.proofs.lemmas.Bool.Decides.{nat_tests}
use Rattle.std.proofs.Math.Seq.{drop-cons}
use Rattle.std.proofs.lemmas.List.{drop_all}
use Rattle.page_state.specs.declared.entry.Entry.TheVariants.{Unmapped}
use Rattle.page_state.specs.declared.entry.Run.{Run}
use Rattle.page_state.specs.declared.entry.Target.{Target}
use Rattle.page_state.specs.declared.entry.Target.TheVariants.{Malformed, Annotated, Leaf}
use Rattle.page_state.specs.Entries.{advance, entry_of_target}
use Rattle.page_state.specs.EntryTests.{is_unmapped}
use Rattle.page_state.specs.Regions.{is_in_range}
use Rattle.page_state.specs.Runs.{map_of, IsCoarsest}
use Rattle.page_state.specs.Search.{all_below}
use Rattle.page_state.proofs.Cases.{by_lt}
use Rattle.page_state.proofs.Runs.{low, map_of-first}
use Rattle.ghost_trees.proofs.Searches.{all_below_true, all_below_false}

mapped : (t : Target) (k : ℕ) → is_unmapped (advance (entry_of_target t) k) ≡ false
mapped Malformed k = refl
mapped (Annotated o) k = refl
mapped (Leaf f p q s) k = refl

first-is : (r : Run) (rs : List Run) (n : ℕ)
    → IsCoarsest (r ∷ rs)
    → nat_le n r.pages.first.0 ≡ all_below n (λ page. is_unmapped (map_of (r ∷ rs) page))
first-is r rs n c = by_lt r.pages.first.0 n
    (λ h. let some = c.0 in
    let t : nat_le n r.pages.first.0 ≡ false = grind (arith, nat_tests) in
    t
    ∙ sym
    (all_below_false n r.pages.first.0 (λ page. is_unmapped (map_of (r ∷ rs) page)) h
    (ap is_unmapped (map_of-first r rs r.pages.first.0 (omega arith) (omega (arith, some)))
    ∙ mapped r.target (r.pages.first.0 - r.pages.first.0))))
    (λ h. let t : nat_le n r.pages.first.0 ≡ true = grind (arith, nat_tests) in
    t
    ∙ sym
    (all_below_true n (λ page. is_unmapped (map_of (r ∷ rs) page))
    (λ k less. ap is_unmapped (low (r ∷ rs) r.pages.first.0 c (omega arith) k (omega (arith, h, less))))))

pub first-run : (rs : List Run) (r : Run) (n : ℕ)
    → IsCoarsest rs
    → slice_get rs 0 ≡ Some r
    → nat_le n r.pages.first.0 ≡ all_below n (λ page. is_unmapped (map_of rs page))
first-run [] r n c e = cc
first-run (x ∷ rs) r n c e = let same : x ≡ r = cc in
    ap (λ (y : Run). nat_le n y.pages.first.0) (sym same) ∙ first-is x rs n c

pub no-run : (rs : List Run) (n : ℕ) → slice_get rs 0 ≡ None → true ≡ all_below n (λ page. is_unmapped (map_of rs page))
no-run [] n e = sym (all_below_true n (λ page. true) (λ k h. refl))
no-run (x ∷ rs) n e = cc

-- the run at a place of a list, and what stands behind it

pub skipped : (rs : List Run) (i : ℕ) (d : Run) (page : ℕ)
    → i < length rs
    → is_in_range (get_or rs i d).pages page ≡ false
    → map_of (drop i rs) page ≡ map_of (drop (i + 1) rs) page
skipped rs i d page h out =
    let next : suc i ≡ i + 1 = omega arith in
    ap (λ (xs : List Run). map_of xs page) (drop-cons rs i d h) ∙ rw out (ap (λ (n : ℕ). map_of (drop n rs) page) next)

pub held : (rs : List Run) (i : ℕ) (d : Run) (page : ℕ)
    → i < length rs
    → is_in_range (get_or rs i d).pages page ≡ true
    → is_unmapped (map_of (drop i rs) page) ≡ false
held rs i d page h within =
    ap (λ (xs : List Run). is_unmapped (map_of xs page)) (drop-cons rs i d h)
    ∙ rw within (mapped (get_or rs i d).target (page - (get_or rs i d).pages.first.0))

pub past : (rs : List Run) (i : ℕ) (page : ℕ) → length rs ≤ i → map_of (drop i rs) page ≡ Unmapped
past rs i page h = ap (λ (xs : List Run). map_of xs page) (drop_all i rs h)
