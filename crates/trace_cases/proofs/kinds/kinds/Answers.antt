use Rattle.std.proofs.Common.{rules, tests, ap, ◌∙◌, map, ◌==◌}
use Rattle.std.specs.List.{slice_split}
use Rattle.std.specs.Slice.Iter as slice
use Rattle.std.proofs.lemmas.Iterator.Consumers.{YieldsList-end}
use Rattle.std.proofs.lemmas.Iterator.Splits.{YieldsList-from_slice_split}
use Rattle.trace_cases.specs.Kinds.{trimmed}
use Rattle.trace_cases.proofs.kinds.kinds.Goals as goal

pub returns : goal.returns
returns c =
    let same = c.into_iter-part-iterator.ensures.into_iter_gives in
    let all =
    YieldsList-from_slice_split {s = c.into_iter-part-iterator.result} _ _ c.behind_word.result.now
    (ap (λ s. slice.split_rest s) same ∙ c.split-part-items.ensures.rest)
    (ap (λ s. slice.split_done s) same ∙ c.split-part-items.ensures.done)
    (ap (λ s. slice.split_callee s) same ∙ c.split-part-items.ensures.closure)
    (λ x r q k. search (rules, tests)) in
    c.loop-part.invariant
    ∙ ap (map trimmed)
    (YieldsList-end all c.loop-part.yielded _ c.loop-part.yielded_by _ _ c.in-None.is c.next.ensures.steps).0
    ∙ ap (λ t. map trimmed (slice_split (λ byte. byte == 0x7c) t)) c.behind_word.ensures
