use Rattle.std.proofs.Common.{◌≤◌}
use Rattle.ghost_spec.specs.States.{slot_in}
use Rattle.state_changes.specs.Changed.{ReportsVcpu}
use Rattle.state_changes.specs.Together.{Adds, Each}
use Rattle.state_changes.proofs.heads.add_vcpus.Given as goal

abbrev pub invariant-loop-vcpu : goal.invariant-loop-vcpu
invariant-loop-vcpu l = record {
  within : l.vcpu ≤ 8;
  told : Adds (Each l.vcpu (ReportsVcpu (slot_in l.before) (slot_in l.after) l.slot)) l.fn.text.items l.text.items;
}
