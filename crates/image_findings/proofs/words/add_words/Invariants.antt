use Rattle.std.proofs.Common.{◌≡◌, ◌++◌, take}
use Rattle.std.specs.List.{filter_map}
use Rattle.image_findings.specs.Findings.{bad_word}
use Rattle.image_findings.proofs.words.add_words.Given as goal

abbrev pub invariant-loop-i : goal.invariant-loop-i
invariant-loop-i l = l.found.items ≡ l.initial.found.items ++ filter_map (bad_word l.tree) (take l.i l.runs)
