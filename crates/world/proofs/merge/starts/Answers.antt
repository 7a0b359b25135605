use Rattle.std.proofs.Common.{ℕ, List, [], ◌∷◌, ◌++◌, length, slice_index, ap, ◌∙◌, arith}
use Rattle.std.proofs.lemmas.List.{length-replicate, replicate_more}
use Rattle.world.proofs.Merging.{if_not_ok, zeros}
use Rattle.world.proofs.merge.starts.Goals as goal

pub returns-in_err-push-clause-count : goal.returns-in_err-push-clause-count
returns-in_err-push-clause-count c = if_not_ok _ _ c.from_residual.result c.from_residual.ensures.1

pub returns-in_err-push-clause-start : goal.returns-in_err-push-clause-start
returns-in_err-push-clause-start c = if_not_ok _ _ c.from_residual.result c.from_residual.ensures.1

pub returns-clause-start : goal.returns-clause-start
returns-clause-start c = λ i. ap (λ xs. slice_index xs i) c.loop.invariant ∙ zeros c.loop.counter i

pub loop-init : goal.loop-init
loop-init c = c.new-places.ensures.items

pub loop-preserved : goal.loop-preserved
loop-preserved c =
    c.in_ok-push.ensures.items ∙ (ap (λ (l : List ℕ). l ++ 0 ∷ []) c.loop.invariant ∙ replicate_more c.loop.counter 0)

pub returns-clause-count : goal.returns-clause-count
returns-clause-count c = let long = ap length c.loop.invariant ∙ length-replicate c.loop.counter 0 in
    omega (arith, long, c.loop-test.false, c.loop.auto.counter-end)
