use Rattle.std.proofs.Common.{◌∙◌, ap, map}
use Rattle.std.proofs.lemmas.List.Elements.{All-take}
use Rattle.walked_tables.specs.ByFrames.{IsWhole}
use Rattle.image_trees.specs.KeptPages.{told}
use Rattle.image_trees.proofs.Reading.{whole_pages}
use Rattle.image_trees.proofs.walk.walk_kept.Goals as goal

pub walked-requires-clause-whole : goal.walked-requires-clause-whole
walked-requires-clause-whole c =
    whole_pages c.args.kept.now c.as_slice.result.now
    (ap (map told) c.as_slice.ensures.value ∙ c.in_ok-pages.ensures) c.requires.whole

pub walked-requires-clause-roots : goal.walked-requires-clause-roots
walked-requires-clause-roots c =
    All-take IsWhole c.args.root.now.count c.deref.result.now
    (whole_pages c.args.kept.now c.deref.result.now
    (ap (map told) c.deref.ensures.value ∙ c.in_ok-pages.ensures) c.requires.whole)
