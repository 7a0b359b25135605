use Rattle.std.proofs.Common.{arith}
use Rattle.run_list.proofs.Gaps.{moved_front, moved_back}
use Rattle.run_list.proofs.places.take_out.Goals as goal

pub loop-i-preserved : goal.loop-i-preserved
loop-i-preserved g c =
    let h = c.loop-i.invariant in
    let long = c.loop-i.runs.ok.0 in
    let old = c.args.runs.now.ok.0 in
    record {
      moved = omega (arith, h.moved);
      front =
          moved_front c.args.runs.now.items c.loop-i.runs.items c.args.at c.args.to c.loop-i.end c.loop-i.i
          c.index.result.now h.moved c.requires.order c.loop-i.auto.i
          (omega arith) h.front h.back (omega (arith, long, old, h.len)) c.index.ensures;
      back =
          moved_back c.args.runs.now.items c.loop-i.runs.items c.args.at c.args.to c.loop-i.end c.loop-i.i
          c.index.result.now h.moved c.requires.order c.loop-i.auto.i
          (omega arith) h.front h.back (omega (arith, long, old, h.len)) c.index.ensures;
      len = h.len;
      capacity = h.capacity;
    }
