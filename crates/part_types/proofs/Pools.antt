-- The lowest frames of a pool, taken and given back.
use Rattle.std.proofs.Common.{◌≡◌, ℕ, sym, ◌∙◌, arith, List, ◌++◌}
use Rattle.std.proofs.lemmas.List.Sums.{sum_by-append}
use Rattle.page_state.specs.Trees.{Pool}
use Rattle.page_state.specs.Tables.{all_given}
use Rattle.page_state.specs.Counts.{is_one}
use Rattle.hyp_pool.specs.Laws.{GivenCounted, GivenAppend}

-- frames that come back from two changes, the one's after the other's
pub given_both : GivenCounted
    → GivenAppend
    → (fs gs : List ℕ) (p : Pool)
    → all_given gs (all_given fs p) ≡ all_given (fs ++ gs) p
given_both counted append fs gs p =
    sym (append gs fs p)
    ∙ counted (gs ++ fs) (fs ++ gs) p
    (λ f. let a = sum_by-append (λ h. is_one h f) gs fs in
    let b = sum_by-append (λ h. is_one h f) fs gs in
    omega (arith, a, b))
