use Rattle.std.proofs.Common.{subst}
use Rattle.ghost_spec.specs.States.{contents_in}
use Rattle.ghost_spec.specs.Views.{cpu_in}
use Rattle.reference_model.specs.model.State.{Cpu}
use Rattle.state_changes.specs.Changed.{ReportsCpu}
use Rattle.state_changes.specs.Together.{Adds}
use Rattle.state_changes.proofs.told.add_own.Goals as goal

pub returns : goal.returns
returns c =
    let old = c.args.text.now.items in
    let new = c.add_cpu.new.text.items in
    subst (λ (x : Cpu). Adds (ReportsCpu x ((contents_in c.args.after.now).cpu c.args.cpu)) old new) c.cpu_of.ensures
    (subst
    (λ (y : Cpu). Adds (ReportsCpu (cpu_in c.cpu_of.result) y) old new) c.cpu_of-2.ensures c.in_ok-add_cpu.ensures)
