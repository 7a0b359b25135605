use Rattle.std.proofs.Common.{◌∙◌, ap, arith, map, refl, subst}
use Rattle.std.specs.Prelude.{◌||◌}
use Rattle.std.proofs.lemmas.List.{length-map}
use Rattle.trace_cli.proofs.Together.{all_done, at_first, ok_added, one_further, stopped}
use Rattle.trace_cli.proofs.Greatest.{at_map}
use Rattle.trace_cli.specs.Covering.{IsReportedStatus}
use Rattle.trace_cli.proofs.covering.covered.Goals as goal

pub loop-path-init : goal.loop-path-init
loop-path-init g c =
    record {
      ahead = at_first g.F.Read.remaining (g.O.Opens.opens c.args.files.now)
          (map (λ path. path.now) c.args.paths.now) _ _ c.new-seen.ensures.items refl;
    }

pub loop-path-preserved : goal.loop-path-preserved
loop-path-preserved g c =
    record {
      ahead =
          one_further g.F.Read.remaining (g.O.Opens.opens c.args.files.now)
          (map (λ path. path.now) c.args.paths.now) c.loop-path.path-index c.loop-path.seen.items _
          c.loop-path.faulty _ _ c.in-Ok.outcome
          (omega (arith, length-map c.args.paths.now (λ path. path.now), c.loop-path-test.true))
          (at_map
          (λ path. path.now) c.args.paths.now c.loop-path.path-index _
          c.loop-path-test.true) c.loop-path.invariant.ahead
          (ok_added g.F.Read.remaining
          (g.O.Opens.opens c.args.files.now) _ _ _ c.added.result c.in-Ok.outcome c.added.ensures c.in-Ok.is)
          (c.either-faulty.ensures ∙ ap (λ b. c.loop-path.faulty || b) c.is_faulty.ensures);
    }

pub returns-in-Err : goal.returns-in-Err
returns-in-Err g c =
    stopped g.F.Read.remaining (g.O.Opens.opens c.args.files.now)
    (map (λ path. path.now) c.args.paths.now) c.loop-path.path-index _ _ _ c.added.result c.args.missing
    c.in-Err.status
    (omega (arith, length-map c.args.paths.now (λ path. path.now), c.loop-path-test.true))
    (at_map (λ path. path.now) c.args.paths.now c.loop-path.path-index _ c.loop-path-test.true) c.added.ensures
    c.in-Err.is

pub returns : goal.returns
returns g c =
    all_done g.F.Read.remaining (g.O.Opens.opens c.args.files.now)
    (map (λ path. path.now) c.args.paths.now) c.loop-path.path-index c.loop-path.seen.items c.loop-path.faulty
    c.args.missing c.told.result
    (omega (arith, length-map c.args.paths.now (λ path. path.now), c.loop-path-test.false)) c.loop-path.invariant.ahead
    (subst
    (λ xs. IsReportedStatus c.args.missing c.loop-path.faulty xs c.told.result) c.as_slice.ensures.value c.told.ensures)
