use Rattle.std.proofs.Common.{subst, sym, ℕ, List}
use Rattle.std.specs.Prelude.{Contains}
use Rattle.std.proofs.lemmas.List.Sorted.{Contains-permutation, IsNonDecreasingBy-from_sort, IsPermutation-sym}
use Rattle.ghost_coarse.proofs.Listing.{indexes-are}
use Rattle.ghost_coarse.proofs.lacking.indexes_at.Goals as goal

pub returns-clause-rise : goal.returns-clause-rise
returns-clause-rise c = IsNonDecreasingBy-from_sort (λ x. x) _ c.sort_unstable.ensures.sorted

pub returns-clause-are : goal.returns-clause-are
returns-clause-are c = λ i.
    let are = indexes-are c.args.depth i c.args.tables.now in
    let p = c.sort_unstable.ensures.permutation in (
      λ h. are.0
          (subst (λ (xs : List ℕ). Contains xs i) c.in_ok-indexes.ensures
          (Contains-permutation _ _ i (IsPermutation-sym _ _ p) h)),
      λ h. Contains-permutation _ _ i p
          (subst (λ (xs : List ℕ). Contains xs i) (sym c.in_ok-indexes.ensures) (are.1 h)),
    )
