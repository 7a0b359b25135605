use Rattle.std.proofs.Common.{◌∙◌}
use Rattle.table_tree.proofs.Same.{same_meaning}
use Rattle.component.proofs.Component.release.Goals as goal

pub invariant_of-self : goal.invariant_of-self
invariant_of-self g c =
    record {
      agree = same_meaning c.release.new.tree c.args.self.now.tree c.release.ensures.stays.geometry
          c.release.ensures.stays.table
          ∙ c.args.self.now.agree;
      coarsest = c.args.self.now.coarsest;
    }
