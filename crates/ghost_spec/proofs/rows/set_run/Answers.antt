use Rattle.ghost_spec.proofs.RowsKept.{reach-set}
use Rattle.ghost_spec.proofs.rows.set_run.Goals as goal

pub returns-clause-map : goal.returns-clause-map
returns-clause-map c = rw c.in_ok-reserve.ensures.runs at c.set.ensures.map

pub returns-clause-reach : goal.returns-clause-reach
returns-clause-reach c =
    reach-set c.args.rows.now.runs c.set.new.self.runs c.args.run.pages.first.0 c.args.run.pages.count c.args.run.value
    (rw c.in_ok-reserve.ensures.runs at c.set.ensures.map) c.set.ensures.coarsest c.requires.reach
    c.requires.run.pages c.requires.run.values
