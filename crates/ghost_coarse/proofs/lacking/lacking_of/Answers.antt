use Rattle.std.proofs.lemmas.List.Elements.{All-more}
use Rattle.page_state.specs.Runs.{map_of}
use Rattle.ghost_coarse.specs.inner.Served.{AreServedOn}
use Rattle.ghost_coarse.proofs.Along.{each-served, run-goes, run-some}
use Rattle.ghost_coarse.proofs.Placed.{all-taken}
use Rattle.ghost_coarse.proofs.lacking.lacking_of.Goals as goal

pub lacking_on-requires-clause-goes : goal.lacking_on-requires-clause-goes
lacking_on-requires-clause-goes c = run-goes c.args.runs.now c.loop-i.i _ c.requires.coarsest c.loop-i-test.true

pub lacking_on-requires-clause-some : goal.lacking_on-requires-clause-some
lacking_on-requires-clause-some c = run-some c.args.runs.now c.loop-i.i _ c.requires.coarsest c.loop-i-test.true

pub loop-i-preserved : goal.loop-i-preserved
loop-i-preserved c =
    All-more
    (AreServedOn (map_of c.args.runs.now) c.args.indexes.now c.args.depth c.args.count) c.args.runs.now c.loop-i.i
    _ c.loop-i-test.true c.loop-i.invariant c.in_default.ensures

pub returns : goal.returns
returns c = λ i less. each-served c.args.runs.now c.args.indexes.now c.args.depth c.args.count i less
    (all-taken
    (AreServedOn (map_of c.args.runs.now) c.args.indexes.now c.args.depth c.args.count) c.args.runs.now c.loop-i.i
    c.loop-i-test.false c.loop-i.invariant)
