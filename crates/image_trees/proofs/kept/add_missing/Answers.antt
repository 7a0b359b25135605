use Rattle.std.proofs.Common.{map, subst, arith}
use Rattle.memory_image.specs.Pages.{page_words}
use Rattle.image_trees.specs.KeptPages.{kept_told, AreMore}
use Rattle.image_trees.proofs.Reading.{more_named, taken_all}
use Rattle.image_trees.proofs.kept.add_missing.Goals as goal

pub loop-i-preserved : goal.loop-i-preserved
loop-i-preserved g c = record {
  whole = c.in_ok-add_named.ensures.whole;
  count = omega (arith, c.in_ok-add_named.ensures.count, c.loop-i.invariant.count);
  more =
      λ all e. more_named (page_words all c.args.segments.now) c.args.runs.now c.loop-i.i _
      (map kept_told c.args.kept.now.items) (map kept_told c.loop-i.kept.items)
      (map kept_told c.add_named.new.kept.items) c.loop-i-test.true (c.loop-i.invariant.more all e)
      (c.in_ok-add_named.ensures.more all e);
}

pub returns-clause-more : goal.returns-clause-more
returns-clause-more g c =
    λ all e. subst
    (λ rs. AreMore (page_words all c.args.segments.now) rs (map kept_told c.args.kept.now.items)
    (map kept_told c.loop-i.kept.items))
    (taken_all c.args.runs.now c.loop-i.i c.loop-i-test.false) (c.loop-i.invariant.more all e)
