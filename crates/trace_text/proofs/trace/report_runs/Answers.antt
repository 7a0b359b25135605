use Rattle.std.proofs.Common.{rules, subst}
use Rattle.trace_lines.specs.declared.response.Response.TheVariants as responses
use Rattle.trace_text.specs.declared.report.ReportLine.TheVariants as report
use Rattle.trace_text.proofs.Lined.{Ahead, ahead_none, ahead_one, front_ahead, shown}
use Rattle.trace_text.proofs.ReplayLemmas.{appends_none, on_err}
use Rattle.trace_text.proofs.trace.report_runs.Goals as goal

pub loop-run-init : goal.loop-run-init
loop-run-init g c =
    record {
      ahead = subst
          (λ rs. Ahead (g.K.Sink.contents c.args.sink.now) (g.K.Sink.contents c.args.sink.now) (shown c.args.runs)
          (shown rs))
          (search rules) (ahead_none (g.K.Sink.contents c.args.sink.now) (shown c.args.runs));
      writes = search rules;
    }

pub loop-run-preserved : goal.loop-run-preserved
loop-run-preserved g c = record {
  ahead =
      let here =
      subst
      (λ rs. Ahead (g.K.Sink.contents c.args.sink.now) (g.K.Sink.contents c.loop-run.sink) (shown c.args.runs)
      (shown rs)) c.in-Some.ensures.steps c.loop-run.invariant.ahead in
      ahead_one _ _ (g.K.Sink.contents c.tell.new.sink) (shown c.args.runs) (shown c.next.new.self)
      (report.Response (responses.Run c.in-Some.run')) here c.in_ok-tell.ensures.ok;
  writes = search rules;
}

pub returns-in_err-tell-clause-front : goal.returns-in_err-tell-clause-front
returns-in_err-tell-clause-front g c =
    let here =
    subst
    (λ rs. Ahead (g.K.Sink.contents c.args.sink.now) (g.K.Sink.contents c.loop-run.sink) (shown c.args.runs)
    (shown rs)) c.in-Some.ensures.steps c.loop-run.invariant.ahead in
    on_err _
    (front_ahead _ _ (g.K.Sink.contents c.tell.new.sink) (shown c.args.runs) (shown c.next.new.self)
    (report.Response (responses.Run c.in-Some.run')) here c.in_err-tell.ensures.front)

pub returns-clause-ok : goal.returns-clause-ok
returns-clause-ok g c =
    let here =
    subst
    (λ rs. Ahead (g.K.Sink.contents c.args.sink.now) (g.K.Sink.contents c.loop-run.sink) (shown c.args.runs)
    (shown rs)) c.in-None.ensures.steps.0 c.loop-run.invariant.ahead in
    here.whole _ (appends_none (g.K.Sink.contents c.loop-run.sink))
