use Rattle.std.proofs.Common.{rules, ◌≡◌, ℕ, List, Option, IfOk, OnErr, subst}
use Rattle.trace_reader.specs.Ahead.{left}
use Rattle.trace_reader.specs.declared.outcome.Outcome.{Outcome}
use Rattle.trace_text.specs.Reports.{IsWriteBegun, IsWritten}
use Rattle.trace_text.proofs.Failing.{no_report}
use Rattle.trace_text.proofs.ReplayLemmas.{begun_at_start, none_held, on_err}
use Rattle.trace_text.proofs.player.play_trace.Goals as goal

pub returns-in_err-line-clause-begun : goal.returns-in_err-line-clause-begun
returns-in_err-line-clause-begun g c =
    on_err _
    (begun_at_start g.P.Player.does g.P.Player.ends c.args.player.now (g.S.Source.remaining c.args.source.now)
    (g.K.Sink.contents c.args.sink.now))

pub returns-in_err-text-clause-begun : goal.returns-in_err-text-clause-begun
returns-in_err-text-clause-begun g c =
    on_err _
    (begun_at_start g.P.Player.does g.P.Player.ends c.args.player.now (g.S.Source.remaining c.args.source.now)
    (g.K.Sink.contents c.args.sink.now))

pub returns-in_err-ahead-clause-begun : goal.returns-in_err-ahead-clause-begun
returns-in_err-ahead-clause-begun g c =
    on_err _
    (begun_at_start g.P.Player.does g.P.Player.ends c.args.player.now (g.S.Source.remaining c.args.source.now)
    (g.K.Sink.contents c.args.sink.now))

pub returns-clause-report : goal.returns-clause-report
returns-clause-report g c =
    let none : left c.in_ok-ahead.ahead (g.S.Source.remaining c.args.source.now) ≡ g.S.Source.remaining c.args.source.now =
    none_held _ _ (search rules) in
    subst
    (λ (all : Option (List ℕ)). IfOk c.play_lines.result
    (λ (outcome : Outcome). IsWritten g.P.Player.does g.P.Player.ends c.args.player.now all
    (g.K.Sink.contents c.args.sink.now) (g.K.Sink.contents c.play_lines.new.sink) outcome)) none
    c.play_lines.ensures.report

pub returns-clause-begun : goal.returns-clause-begun
returns-clause-begun g c =
    let none : left c.in_ok-ahead.ahead (g.S.Source.remaining c.args.source.now) ≡ g.S.Source.remaining c.args.source.now =
    none_held _ _ (search rules) in
    subst
    (λ (all : Option (List ℕ)). OnErr c.play_lines.result
    (IsWriteBegun g.P.Player.does g.P.Player.ends c.args.player.now all (g.K.Sink.contents c.args.sink.now)
    (g.K.Sink.contents c.play_lines.new.sink))) none c.play_lines.ensures.begun

pub returns-clause-reads : goal.returns-clause-reads
returns-clause-reads g c = c.play_lines.ensures.reads

pub returns-clause-writes : goal.returns-clause-writes
returns-clause-writes g c = c.play_lines.ensures.writes

pub returns-in_err-line-clause-report : goal.returns-in_err-line-clause-report
returns-in_err-line-clause-report g c = no_report _ _ c.from_residual.result c.from_residual.ensures.1

pub returns-in_err-text-clause-report : goal.returns-in_err-text-clause-report
returns-in_err-text-clause-report g c =
    no_report _ _ c.from_residual-in_err-text.result c.from_residual-in_err-text.ensures.1

pub returns-in_err-ahead-clause-report : goal.returns-in_err-ahead-clause-report
returns-in_err-ahead-clause-report g c =
    no_report _ _ c.from_residual-in_err-ahead.result c.from_residual-in_err-ahead.ensures.1
