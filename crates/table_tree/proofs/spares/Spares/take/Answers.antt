use Rattle.table_tree.specs.Links.{links_of}
use Rattle.table_tree.specs.Meaning.{frame_of}
use Rattle.table_tree.proofs.Chains.{rest_frameless}
use Rattle.table_tree.proofs.spares.Spares.take.Goals as goal

pub invariant_of-self : goal.invariant_of-self
invariant_of-self g c =
    record {
      frameless = rest_frameless c.pop.result (λ b. frame_of b.value) (links_of c.args.self.now.chain)
          (links_of c.pop.new.self) c.pop.ensures.frames c.pop.ensures.none c.args.self.now.frameless;
    }
