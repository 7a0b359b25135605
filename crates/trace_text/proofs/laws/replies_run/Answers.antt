use Rattle.trace_text.proofs.ToldRuns.{world_runs, world_reaches, trace_runs}
use Rattle.trace_text.proofs.laws.replies_run.Goals as goal

pub returns-clause-machine : goal.returns-clause-machine
returns-clause-machine g c number old world trace reported outcome =
    world_runs g.O.Oracle.gives trace number old world reported outcome

pub returns-clause-reached : goal.returns-clause-reached
returns-clause-reached g c number old world front rest reported outcome =
    world_reaches g.O.Oracle.gives front rest number old world reported outcome

pub returns-clause-trace : goal.returns-clause-trace
returns-clause-trace g c = trace_runs g.O.Oracle.gives
