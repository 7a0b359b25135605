use Rattle.std.specs.Prelude.{Contains, take}
use Rattle.race_outcomes.specs.Layers.{replies_of}
use Rattle.race_outcomes.proofs.finding.has_replies.Given as goal

abbrev pub invariant-loop-i : goal.invariant-loop-i
invariant-loop-i l = ¬ Contains (replies_of (take l.i l.found)) l.replies
