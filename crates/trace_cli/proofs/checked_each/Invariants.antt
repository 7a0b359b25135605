use Rattle.std.specs.Prelude.{map}
use Rattle.trace_cli.proofs.Greatest.{IsAhead}
use Rattle.trace_cli.proofs.checked_each.Given as goal

abbrev pub invariant-loop-path : goal.invariant-loop-path
invariant-loop-path g l =
    record {
      ahead : IsAhead g.F.Read.remaining (g.O.Opens.opens l.files)
          (map (λ path. path.now) l.paths) l.path-index l.status;
    }
