use Rattle.std.proofs.Common.{rules}
use Rattle.std.proofs.lemmas.List.Sorted.{IsNonDecreasingBy-from_sort_by_key}
use Rattle.ghost_legal.specs.declared.held.Held.{Held}
use Rattle.ghost_legal.proofs.held.held_in_order.Goals as goal

pub returns-clause-rise : goal.returns-clause-rise
returns-clause-rise c =
    IsNonDecreasingBy-from_sort_by_key (λ (h : Held). h.frames.first.0) _ c.in_ok-sort_by_key.ensures.sorted
    (λ a r q k. search rules)
