use Rattle.std.proofs.Common.{◌∙◌}
use Rattle.table_tree.proofs.Same.{same_meaning}
use Rattle.component.proofs.Component.reserve.Goals as goal

pub invariant_of-self : goal.invariant_of-self
invariant_of-self g c =
    record {
      agree = same_meaning c.reserve_tables.new.tree c.make_room.new.self.tree
          c.reserve_tables.ensures.stays.geometry c.reserve_tables.ensures.stays.table
          ∙ c.make_room.new.self.agree;
      coarsest = c.make_room.new.self.coarsest;
    }
