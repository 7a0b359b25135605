use Rattle.std.proofs.Common.{rules, ◌≡◌, OnErr, refl, subst}
use Rattle.trace_text.specs.Played.{WritesFront}
use Rattle.trace_text.specs.View.{kept_runs}
use Rattle.trace_text.proofs.Lined.{shown}
use Rattle.trace_text.proofs.trace.report_outcome.Goals as goal

pub returns-in-Line-clause-front : goal.returns-in-Line-clause-front
returns-in-Line-clause-front g c = rw c.in-Line.is c.tell.ensures.front

pub returns-in-Some-clause-front : goal.returns-in-Some-clause-front
returns-in-Some-clause-front g c =
    let runs : c.iter.result ≡ kept_runs c.args.session.now c.in-Maplets.tree = search rules in
    rw c.in-Maplets.is (
    subst
    (λ rs. OnErr c.report_runs.result
    (WritesFront (shown rs) (g.K.Sink.contents c.args.sink.now) (g.K.Sink.contents c.report_runs.new.sink))) runs
    c.report_runs.ensures.front
    )

pub returns-in-Step-clause-front : goal.returns-in-Step-clause-front
returns-in-Step-clause-front g c = rw c.in-Step.is c.report_step.ensures.front

pub returns-in-Line-clause-ok : goal.returns-in-Line-clause-ok
returns-in-Line-clause-ok g c = rw c.in-Line.is c.tell.ensures.ok

pub returns-in-Line-clause-counted : goal.returns-in-Line-clause-counted
returns-in-Line-clause-counted g c = c.tell.ensures.counted

pub returns-in-Step-clause-ok : goal.returns-in-Step-clause-ok
returns-in-Step-clause-ok g c = rw c.in-Step.is c.report_step.ensures.ok

pub returns-in-Step-clause-counted : goal.returns-in-Step-clause-counted
returns-in-Step-clause-counted g c = c.report_step.ensures.counted

pub returns-in-Some-clause-counted : goal.returns-in-Some-clause-counted
returns-in-Some-clause-counted g c = c.report_runs.ensures.counted

pub returns-in-Nothing-clause-front : goal.returns-in-Nothing-clause-front
returns-in-Nothing-clause-front g c = tt

pub returns-in-Nothing-clause-counted : goal.returns-in-Nothing-clause-counted
returns-in-Nothing-clause-counted g c = refl

pub returns-in-None-clause-front : goal.returns-in-None-clause-front
returns-in-None-clause-front g c = tt

pub returns-in-None-clause-counted : goal.returns-in-None-clause-counted
returns-in-None-clause-counted g c = refl
