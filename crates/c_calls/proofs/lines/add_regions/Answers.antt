use Rattle.std.proofs.Common.{arith}
use Rattle.std.specs.Prelude.{string_bytes}
use Rattle.c_states.specs.declared.layout.PlainRegion.{PlainRegion}
use Rattle.c_calls.proofs.LinesJoined.{one_added}
use Rattle.c_calls.proofs.lines.add_regions.Goals as goal

pub loop-region-preserved : goal.loop-region-preserved
loop-region-preserved c =
    let none : PlainRegion = record { kind = 0; first = 0; count = 0 } in
    record {
      added =
          one_added c.args.regions.now c.loop-region.region-index none (string_bytes c.args.text.now)
          (string_bytes c.loop-region.text) (string_bytes c.add_region.new.text) (omega arith)
          c.loop-region.invariant.added c.in_ok-add_region.ensures;
    }
