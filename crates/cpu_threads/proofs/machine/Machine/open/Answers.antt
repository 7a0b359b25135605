use Rattle.std.proofs.Common.{IfOk, subst, sym}
use Rattle.hypercalls.specs.declared.parts.Parts.{Parts}
use Rattle.hypercalls.specs.Stands.{HasHistory}
use Rattle.cpu_threads.specs.Machines.{IsMachineOf}
use Rattle.cpu_threads.proofs.machine.Machine.open.Goals as goal

pub machine_of-requires : goal.machine_of-requires
machine_of-requires g c =
    record {
      history = subst (λ (p : Parts g.row.A.Denot). HasHistory p)
          (sym c.split.ensures.parts) c.requires.history;
    }

pub returns : goal.returns
returns g c =
    subst
    (λ (p : Parts g.row.A.Denot). IfOk c.machine_of.result (IsMachineOf p)) c.split.ensures.parts
    c.machine_of.ensures
