use Rattle.std.proofs.Common.{◌≡◌, ◌∙◌, ◌≤◌, ◌+◌, ℕ, sym, subst, arith, ap, inl, inr}
use Rattle.std.specs.Prelude.{slice_index}
use Rattle.std.proofs.lemmas.Bool.{cases_eq}
use Rattle.trace_race.proofs.OwnSteps.{counts_few, counts_next, counts_passed}
use Rattle.trace_race.proofs.ordering.stored_counts.Goals as goal

few_more : (n m i : ℕ) → n ≡ m + 1 → m ≤ i → n ≤ i + 1
few_more n m i e less = omega (arith, e, less)

few_same : (n m i : ℕ) → n ≡ m → m ≤ i → n ≤ i + 1
few_same n m i e less = omega (arith, e, less)

pub loop-i-preserved-then-not-is_stored : goal.loop-i-preserved-then-not-is_stored
loop-i-preserved-then-not-is_stored c = record {
  count = c.loop-i.invariant.count;
  few = λ cpu. let less = c.loop-i.invariant.few cpu in omega (arith, less);
  each =
      counts_passed c.args.steps.now c.args.replies.now c.loop-i.i c.loop-i.counts.items _ c.requires.replied
      c.loop-i-test.true
      (sym c.is_stored.ensures ∙ c.if-not-is_stored.true) c.loop-i.invariant.each;
}

pub loop-i-preserved : goal.loop-i-preserved
loop-i-preserved c = record {
  count = c.add_one.ensures.count ∙ c.loop-i.invariant.count;
  few = λ cpu. elim (cases_eq cpu _) [
    | inl e ↦ few_more _ _ _
        (subst (λ k. slice_index c.add_one.new.counts.items k ≡ slice_index c.loop-i.counts.items k + 1)
        (sym e) c.add_one.ensures.here)
        (c.loop-i.invariant.few cpu)
    | inr e ↦ few_same _ _ _ (c.add_one.ensures.others cpu e) (c.loop-i.invariant.few cpu)
  ];
  each =
      counts_next c.args.steps.now c.args.replies.now c.loop-i.i c.loop-i.counts.items c.add_one.new.counts.items _ _
      c.requires.replied c.loop-i-test.true
      (sym c.is_stored.ensures ∙ c.if-not-is_stored.false) c.add_one.ensures.here
      c.add_one.ensures.others c.loop-i.invariant.each;
}
