use Rattle.std.proofs.Common.{arith, ap, sym, ◌∙◌, ◌≡◌, List}
use Rattle.std.proofs.lemmas.List.Elements.{All-more}
use Rattle.page_state.specs.declared.layout.Region.{Region}
use Rattle.page_state.specs.Regions.{find_region, is_in_range, is_memory_region}
use Rattle.ghost_legal.proofs.Steady.{all_taken, region-same}
use Rattle.ghost_legal.proofs.frames.memory_until.Goals as goal

pub loop-i-preserved : goal.loop-i-preserved
loop-i-preserved c = record {
  above = c.range_until-until.ensures.above;
  below = omega (arith, c.range_until-until.ensures.below, c.loop-i.invariant.below);
  goes_on =
      λ f a b. All-more
      (λ r. is_in_range r.pages f ≡ is_in_range r.pages c.args.page) c.regions-regions.result.now c.loop-i.i _
      c.loop-i-test.true
      (c.loop-i.invariant.goes_on f a (omega (arith, b, c.range_until-until.ensures.below)))
      (c.range_until-until.ensures.goes_on f a b);
}

pub returns-clause-goes_on : goal.returns-clause-goes_on
returns-clause-goes_on c = λ f a b.
    let rs : List Region = c.regions-regions.result.now in
    let same =
    region-same rs f c.args.page
    (all_taken (λ r. is_in_range r.pages f ≡ is_in_range r.pages c.args.page) rs c.loop-i.i c.loop-i-test.false
    (c.loop-i.invariant.goes_on f a b)) in
    ap (λ (ys : List Region). is_memory_region (find_region ys f)) (sym c.regions-regions.ensures.value)
    ∙ ap is_memory_region same
    ∙ ap (λ (ys : List Region). is_memory_region (find_region ys c.args.page)) c.regions-regions.ensures.value
