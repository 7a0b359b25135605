use Rattle.std.proofs.Common.{◌≡◌, map, take}
use Rattle.image_trees.specs.KeptPages.{kept_told, told}
use Rattle.image_trees.proofs.kept.lent.Given as goal

abbrev pub invariant-loop-page : goal.invariant-loop-page
invariant-loop-page l = map told l.pages.items ≡ map kept_told (take l.page-index l.kept)
