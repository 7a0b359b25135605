use Rattle.std.proofs.Common.{List, ℕ, [], IfOk, OnErr, None, subst}
use Rattle.trace_reader.specs.declared.outcome.Outcome.TheVariants as outcomes
use Rattle.trace_race.specs.Raced.{WritesTextFront, end_text}
use Rattle.trace_race.specs.Told.{EndsWith}
use Rattle.trace_race.proofs.Reports.{engine_err, engine_ok}
use Rattle.trace_race.proofs.racing.report_idle.Goals as goal

pub returns-clause-ok : goal.returns-clause-ok
returns-clause-ok g c =
    engine_ok _ _ _ c.engine.ensures
    (subst
    (λ (order : List ℕ). IfOk c.report_found.result
    (EndsWith outcomes.Clean (end_text 0 order) (g.K.Sink.contents c.args.sink.now)
    (g.K.Sink.contents c.report_found.new.sink)))
    c.idle_order.ensures c.report_found.ensures.ok)

pub returns-clause-front : goal.returns-clause-front
returns-clause-front g c =
    engine_err _ _ _ c.engine.ensures
    (subst
    (λ (order : List ℕ). OnErr c.report_found.result
    (WritesTextFront (end_text 0 order) (g.K.Sink.contents c.args.sink.now)
    (g.K.Sink.contents c.report_found.new.sink)))
    c.idle_order.ensures c.report_found.ensures.front)
