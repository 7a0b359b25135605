use Rattle.std.proofs.Common.{subst, sym}
use Rattle.table_tree.specs.Said.{block_of}
use Rattle.ghost_oracle.specs.Poked.{IsPokedTree, raw_trees}
use Rattle.ghost_oracle.proofs.raw.RawParts.set.Goals as goal

pub returns-in-Host-clause-poked : goal.returns-in-Host-clause-poked
returns-in-Host-clause-poked g c =
    subst
    (λ w. IsPokedTree (block_of c.args.self.now.layout.geometry c.args.path.now) (raw_trees c.args.self.now)
    (raw_trees c.set_host.new.self) w c.args.path.now c.args.word)
    (sym c.in-Host.is) c.set_host.ensures.poked

pub returns-in-Hyp-clause-poked : goal.returns-in-Hyp-clause-poked
returns-in-Hyp-clause-poked g c =
    subst
    (λ w. IsPokedTree (block_of c.args.self.now.layout.geometry c.args.path.now) (raw_trees c.args.self.now)
    (raw_trees c.set_hyp.new.self) w c.args.path.now c.args.word)
    (sym c.in-Hyp.is) c.set_hyp.ensures.poked

pub returns-in-Guest-clause-poked : goal.returns-in-Guest-clause-poked
returns-in-Guest-clause-poked g c =
    subst
    (λ w. IsPokedTree (block_of c.args.self.now.layout.geometry c.args.path.now) (raw_trees c.args.self.now)
    (raw_trees c.set_guest.new.self) w c.args.path.now c.args.word)
    (sym c.in-Guest.is) c.set_guest.ensures.poked
