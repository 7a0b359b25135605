use Rattle.memory_image.specs.Pages.{page_words}
use Rattle.image_trees.proofs.Reading.{named_table}
use Rattle.image_trees.proofs.kept.add_named.Goals as goal

pub returns-in_ok-add_page-clause-more : goal.returns-in_ok-add_page-clause-more
returns-in_ok-add_page-clause-more g c = λ all e.
    named_table (page_words all c.args.segments.now) c.in-Table.frame c.args.decoded.now _ _ c.in_ok-add_page.field-0
    (c.in_ok-add_page.ensures.added all e) c.in-Table.is
