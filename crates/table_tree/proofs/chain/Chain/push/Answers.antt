use Rattle.std.proofs.Common.{refl, ◌∷◌}
use Rattle.std.specs.Box.{with_value}
use Rattle.table_tree.specs.Meaning.{frame_of}
use Rattle.table_tree.specs.Links.{links_of}
use Rattle.table_tree.proofs.Chains.{chain_pushed, frames_is}
use Rattle.table_tree.proofs.Tight.{new_table}
use Rattle.table_tree.proofs.chain.Chain.push.Goals as goal

pub invariant_of-self : goal.invariant_of-self
invariant_of-self g c =
    record {
      chained = (
        frame_of c.args.table.value
            ∷ links_of c.args.self.now,
        chain_pushed c.args.self.now c.deref_mut.result.now c.write.new.self c.args.table
            (with_value c.args.table c.write.new.self) c.replace.result c.deref_mut.ensures.value refl
            c.replace.ensures.value c.write.ensures.slots c.write.ensures.frame c.requires.wide
            c.requires.blank,
      );
    }

pub returns-clause-frames : goal.returns-clause-frames
returns-clause-frames g c =
    frames_is _ (frame_of c.args.table.value ∷ links_of c.args.self.now)
    (chain_pushed c.args.self.now c.deref_mut.result.now c.write.new.self c.args.table
    (with_value c.args.table c.write.new.self) c.replace.result c.deref_mut.ensures.value refl
    c.replace.ensures.value c.write.ensures.slots c.write.ensures.frame c.requires.wide c.requires.blank)

pub returns-clause-tree : goal.returns-clause-tree
returns-clause-tree g c = new_table c.args.table.value c.requires.wide c.requires.blank
