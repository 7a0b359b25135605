use Rattle.std.proofs.Common.{◌≡◌, drop}
use Rattle.reference_model.specs.model.Owner.{is_free}
use Rattle.ghost_spec.proofs.found.is_free.Given as goal

abbrev pub invariant-loop-own : goal.invariant-loop-own
invariant-loop-own l = is_free (drop l.own-index l.free) l.frame ≡ is_free l.free l.frame
