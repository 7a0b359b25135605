use Rattle.std.proofs.Common.{◌≡◌, drop}
use Rattle.std.specs.List.{list_any}
use Rattle.trace_check.specs.View.{told_in}
use Rattle.trace_check.specs.Shown.{is_boot_or_fault}
use Rattle.trace_check.proofs.shown.has_begun.Given as goal

abbrev pub invariant-loop-reported : goal.invariant-loop-reported
invariant-loop-reported l =
    list_any (list_any is_boot_or_fault) (told_in (drop l.reported-index l.told))
    ≡ list_any (list_any is_boot_or_fault) (told_in l.told)
