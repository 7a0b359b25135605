use Rattle.trace_text.proofs.ReplayLemmas.{mapped, when_err}
use Rattle.trace_race.proofs.Reports.{engine_err, engine_ok, fault_begins, fault_ends}
use Rattle.trace_race.proofs.racing.report.Goals as goal

pub returns-in-Fault-clause-report : goal.returns-in-Fault-clause-report
returns-in-Fault-clause-report g c =
    engine_ok _ _ _ c.engine.ensures
    (mapped c.faulted.result _ _
    (λ outcome told. fault_ends c.args.ordered c.args.read c.in-Fault.line c.in-Fault.fault _ _ outcome c.in-Fault.is
    told) c.faulted.ensures.ok)

pub returns-in-Fault-clause-begun : goal.returns-in-Fault-clause-begun
returns-in-Fault-clause-begun g c =
    engine_err _ _ _ c.engine.ensures
    (when_err c.faulted.result _ _
    (λ front. fault_begins c.args.ordered c.args.read c.in-Fault.line c.in-Fault.fault _ _ c.in-Fault.is
    front) c.faulted.ensures.front)
