use Rattle.std.proofs.Common.{rules, tests, ◌≡◌, map, ap, ◌∙◌, subst}
use Rattle.std.specs.Prelude.{option_copied, slice_get}
use Rattle.std.proofs.lemmas.Iterator.Consumers.{nth_from_yields_List}
use Rattle.std.proofs.lemmas.Iterator.Splits.{YieldsList-from_slice_split}
use Rattle.trace_words.proofs.Kept.{kept_word}
use Rattle.trace_words.proofs.words.Words.get.Goals as goal

pub returns-else-place-kept : goal.returns-else-place-kept
returns-else-place-kept c =
    subst (λ words. option_copied c.nth.result ≡ slice_get words c.args.place) c.self.view_is
    (nth_from_yields_List _ _ c.args.place c.nth.ensures.ran
    (YieldsList-from_slice_split _ _ c.self.inside.line.now c.split.ensures.rest c.split.ensures.done
    c.split.ensures.closure
    (λ x r q k. search (rules, tests))))

pub returns-then-place-kept : goal.returns-then-place-kept
returns-then-place-kept c =
    let is = c.as_slice-kept.ensures.value in
    kept_word (λ word. word.now) _ _ 8
    (ap (map (λ word. word.now)) is ∙ c.self.invariant.first) c.args.place _ c.if-place-kept.true
    ∙ ap (λ words. slice_get words c.args.place) c.self.view_is
