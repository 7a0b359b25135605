use Rattle.std.proofs.Common.{◌≡◌, ◌++◌, map}
use Rattle.ghost_oracle.proofs.trees.frames_of.Given as goal

abbrev pub invariant-loop-frame : goal.invariant-loop-frame
invariant-loop-frame l = l.frames.items ++ map (λ f. f.0) l.frame-iterator ≡ l.pool.frames
