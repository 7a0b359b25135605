use Rattle.std.proofs.Common.{ℕ, List, [], ◌∷◌, ◌++◌, length, ap, ◌∙◌, arith}
use Rattle.std.specs.Prelude.{slice_index}
use Rattle.std.proofs.lemmas.List.{length-replicate, replicate_more}
use Rattle.world.proofs.Merging.{zeros}
use Rattle.trace_race.proofs.making.starts.Goals as goal

pub loop-preserved : goal.loop-preserved
loop-preserved c =
    c.in_ok-push.ensures.items ∙ (ap (λ (l : List ℕ). l ++ 0 ∷ []) c.loop.invariant ∙ replicate_more c.loop.counter 0)

pub returns-clause-start : goal.returns-clause-start
returns-clause-start c = λ i. ap (λ xs. slice_index xs i) c.loop.invariant ∙ zeros c.loop.counter i

pub returns-clause-count : goal.returns-clause-count
returns-clause-count c = let long = ap length c.loop.invariant ∙ length-replicate c.loop.counter 0 in
    omega (arith, long, c.loop-test.false, c.loop.auto.counter-end)
