use Rattle.std.proofs.Common.{◌≡◌, take}
use Rattle.std.specs.List.{filter_map}
use Rattle.image_dump.specs.Pictures.{finding_in}
use Rattle.image_dump.proofs.picture.findings_in.Given as goal

abbrev pub invariant-loop-i : goal.invariant-loop-i
invariant-loop-i l = record { found : l.found.items ≡ filter_map finding_in (take l.i l.lines) }
