use Rattle.std.proofs.lemmas.List.Elements.{All-more}
use Rattle.ghost_coarse.proofs.Along.{run-some}
use Rattle.ghost_legal.specs.Pages.{IsGoodRun}
use Rattle.ghost_legal.proofs.Found.{bad-entry}
use Rattle.ghost_legal.proofs.Steady.{all_taken}
use Rattle.ghost_legal.proofs.guests.first_run.Goals as goal

pub bad_page-requires-clause-some : goal.bad_page-requires-clause-some
bad_page-requires-clause-some c = run-some c.args.runs.now c.loop-i.i _ c.requires.coarsest c.loop-i-test.true

pub returns-in-Some : goal.returns-in-Some
returns-in-Some c =
    bad-entry c.args.pages c.args.runs.now c.loop-i.i _ _ c.requires.coarsest c.loop-i-test.true c.in-Some.ensures

pub loop-i-preserved : goal.loop-i-preserved
loop-i-preserved c =
    All-more
    (IsGoodRun c.args.pages) c.args.runs.now c.loop-i.i _ c.loop-i-test.true c.loop-i.invariant c.in_default.ensures

pub returns : goal.returns
returns c = all_taken (IsGoodRun c.args.pages) c.args.runs.now c.loop-i.i c.loop-i-test.false c.loop-i.invariant
