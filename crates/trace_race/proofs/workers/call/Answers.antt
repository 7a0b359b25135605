use Rattle.trace_race.proofs.Hearing.{hears_call}
use Rattle.trace_race.proofs.workers.call.Goals as goal

pub returns-clause-heard : goal.returns-clause-heard
returns-clause-heard g c =
    let e = c.call_gated.ensures in
    hears_call
    (g.G.Gate.heard_taken c.args.gate.now c.args.pass.now.knows.cpu) c.args.step c.call_gated.result
    c.args.pass.now.knows c.call_gated.new.pass.knows
    (record { answered = e.answered; stored = e.stored; full = e.log_full }) e.gate_taken
