use Rattle.std.proofs.Common.{◌≡◌, ℕ, ◌<◌}
use Rattle.table_audit.specs.Audited.{guest_table}
use Rattle.table_audit.proofs.audit.first_guest_table.Given as goal

abbrev pub invariant-loop-v : goal.invariant-loop-v
invariant-loop-v l = (w : ℕ) → w < l.v → guest_table l.fn.kept w ≡ guest_table l.fn.walked w
