use Rattle.std.proofs.Common.{◌≡◌, ◌+◌, ◌∙◌, length, map, ap, arith, if◌then◌else◌}
use Rattle.std.proofs.lemmas.List.{length-map}
use Rattle.memory_image.specs.Pages.{page_words}
use Rattle.image_trees.specs.KeptPages.{kept_told}
use Rattle.image_trees.proofs.Reading.{more_root}
use Rattle.image_trees.proofs.kept.read_root.Goals as goal

pub loop-k-preserved : goal.loop-k-preserved
loop-k-preserved g c =
    let count : length c.add_page.new.kept.items ≡ length c.loop-k.kept.items + 1 =
    c.in_ok-add_page.ensures.count
    ∙ ap
    (λ found. if found then length c.loop-k.kept.items + 1
    else length c.loop-k.kept.items) c.if-not-branch.false in
    record {
      whole = c.in_ok-add_page.ensures.whole;
      count = omega (arith, count, c.loop-k.invariant.count);
      read = λ all e.
          more_root (page_words all c.args.segments.now) c.args.root.now c.loop-k.k (map kept_told c.loop-k.kept.items)
          (map kept_told c.add_page.new.kept.items) c.in_ok-add_page.field-0
          (c.in_ok-add_page.ensures.added all e) c.if-not-branch.false (c.loop-k.invariant.read all e)
          (length-map c.loop-k.kept.items kept_told ∙ c.loop-k.invariant.count);
    }
