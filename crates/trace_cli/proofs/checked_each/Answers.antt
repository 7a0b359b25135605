use Rattle.std.proofs.Common.{arith, map}
use Rattle.std.proofs.lemmas.List.{length-map}
use Rattle.trace_cli.proofs.Greatest.{all_done, at_first, at_map, one_further}
use Rattle.trace_cli.proofs.checked_each.Goals as goal

pub loop-path-init : goal.loop-path-init
loop-path-init g c =
    record {
      ahead = at_first g.F.Read.remaining (g.O.Opens.opens c.args.files.now)
          (map (λ path. path.now) c.args.paths.now);
    }

pub loop-path-preserved : goal.loop-path-preserved
loop-path-preserved g c =
    record {
      ahead =
          one_further g.F.Read.remaining (g.O.Opens.opens c.args.files.now)
          (map (λ path. path.now) c.args.paths.now) c.loop-path.path-index c.loop-path.status c.check_status.result
          c.max-status.result _
          (omega (arith, length-map c.args.paths.now (λ path. path.now), c.loop-path-test.true))
          (at_map
          (λ path. path.now) c.args.paths.now c.loop-path.path-index _
          c.loop-path-test.true) c.loop-path.invariant.ahead c.check_status.ensures c.max-status.ensures;
    }

pub returns : goal.returns
returns g c =
    all_done g.F.Read.remaining (g.O.Opens.opens c.args.files.now)
    (map (λ path. path.now) c.args.paths.now) c.loop-path.path-index c.loop-path.status
    (omega (arith, length-map c.args.paths.now (λ path. path.now), c.loop-path-test.false)) c.loop-path.invariant.ahead
