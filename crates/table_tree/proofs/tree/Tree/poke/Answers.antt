use Rattle.std.proofs.Common.{◌≡◌, Option, None, false, true, refl, subst}
use Rattle.std.specs.Prelude.{◌↔◌, IsSome}
use Rattle.table_tree.proofs.tree.Tree.poke.Goals as goal

-- what has no value is not there
not_there : {T : Type 0} (o : Option T) → None ≡ o → (false ≡ true) ↔ IsSome o
not_there o same = subst (λ p. (false ≡ true) ↔ IsSome p) same (λ e. e, λ e. e)

pub returns-in-None-clause-fault : goal.returns-in-None-clause-fault
returns-in-None-clause-fault g c = rw c.in-None.is at c.word_at.ensures.found

pub returns-in-None-clause-none : goal.returns-in-None-clause-none
returns-in-None-clause-none g c = not_there _ (rw c.in-None.is at c.word_at.ensures.value)

pub returns-in-None-clause-kept : goal.returns-in-None-clause-kept
returns-in-None-clause-kept g c = refl

pub returns-in-None-clause-poked : goal.returns-in-None-clause-poked
returns-in-None-clause-poked g c = tt

pub returns-in-None-clause-map : goal.returns-in-None-clause-map
returns-in-None-clause-map g c = tt

pub returns-in-None-clause-geometry : goal.returns-in-None-clause-geometry
returns-in-None-clause-geometry g c = tt
