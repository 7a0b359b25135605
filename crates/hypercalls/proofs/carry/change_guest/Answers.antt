use Rattle.page_state.specs.LayoutView.{layout_of}
use Rattle.hypercalls.proofs.Carried.{can_change}
use Rattle.hypercalls.proofs.carry.change_guest.Goals as goal

pub change-requires : goal.change-requires
change-requires g c =
    can_change
    (layout_of c.args.layout.now) c.args.changes.now c.args.part.now.guest c.requires.suits.depth c.requires.fit
    c.requires.parts
