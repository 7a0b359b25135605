use Rattle.std.proofs.Common.{rules, tests, ap, ◌∙◌, subst}
use Rattle.std.specs.Slice.Iter as slice
use Rattle.std.proofs.lemmas.Iterator.Consumers.{YieldsList-end}
use Rattle.std.proofs.lemmas.Iterator.Splits.{YieldsList-from_slice_split}
use Rattle.trace_words.specs.Words.{AreKept}
use Rattle.trace_words.proofs.words.Words.of.Goals as goal

pub invariant_of-result : goal.invariant_of-result
invariant_of-result c =
    let same = c.into_iter-word-iterator.ensures.into_iter_gives in
    let all =
    YieldsList-from_slice_split {s = c.into_iter-word-iterator.result} _ _ c.args.line.now
    (ap (λ s. slice.split_rest s) same ∙ c.split-word-items.ensures.rest)
    (ap (λ s. slice.split_done s) same ∙ c.split-word-items.ensures.done)
    (ap (λ s. slice.split_callee s) same ∙ c.split-word-items.ensures.closure)
    (λ x r q k. search (rules, tests)) in
    subst (AreKept (λ word. word.now) c.loop-word.kept.items c.loop-word.count c.loop-word.has_empty)
    (YieldsList-end all c.loop-word.yielded _ c.loop-word.yielded_by _ _ c.in-None.is
    c.next.ensures.steps).0 c.loop-word.invariant
