use Rattle.std.proofs.Common.{sym, ◌∙◌}
use Rattle.image_trees.proofs.Stated.{can-go}
use Rattle.image_trees.proofs.records.frame_at.Goals as goal

pub advanced-requires : goal.advanced-requires
advanced-requires c =
    can-go c.args.runs.now c.loop-i.i c.args.page _ c.loop-i-test.true c.requires
    (sym c.holds.ensures ∙ c.if-holds.true)
