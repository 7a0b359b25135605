use Rattle.std.proofs.Common.{◌≡◌, Option, Some, None, false, true, refl, subst, ap, sym, ◌∙◌}
use Rattle.std.specs.Prelude.{◌↔◌, IsSome, is_some, not}
use Rattle.std.proofs.lemmas.Bool.{false≢true}
use Rattle.table_tree.proofs.raw.RawTree.poke.Goals as goal

-- what has no value is not there
not_there : {T : Type 0} (o : Option T) → is_some o ≡ false → (false ≡ true) ↔ IsSome o
not_there None h = (λ e. e, λ e. e)
not_there (Some x) h = absurd (false≢true (sym h))

pub returns-then-is_none-clause-fault : goal.returns-then-is_none-clause-fault
returns-then-is_none-clause-fault g c =
    subst (λ o. (false ≡ true) ↔ IsSome o) c.word_at.ensures
    (not_there c.word_at.result (c.is_none.ensures ∙ ap not c.if-is_none.true))

pub returns-then-is_none-clause-kept : goal.returns-then-is_none-clause-kept
returns-then-is_none-clause-kept g c = refl

pub returns-then-is_none-clause-poked : goal.returns-then-is_none-clause-poked
returns-then-is_none-clause-poked g c = tt

pub returns-then-is_none-clause-map : goal.returns-then-is_none-clause-map
returns-then-is_none-clause-map g c = tt

pub returns-then-is_none-clause-geometry : goal.returns-then-is_none-clause-geometry
returns-then-is_none-clause-geometry g c = tt
