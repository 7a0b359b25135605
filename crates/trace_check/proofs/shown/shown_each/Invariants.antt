use Rattle.std.proofs.Common.{◌≡◌, take, map, string_bytes}
use Rattle.trace_check.specs.Shown.{shown}
use Rattle.trace_check.proofs.shown.shown_each.Given as goal

abbrev pub invariant-loop-told : goal.invariant-loop-told
invariant-loop-told l = map string_bytes l.texts.items ≡ map shown (take l.told-index l.reported)
