use Rattle.std.proofs.Common.{rules, arith}
use Rattle.trace_text.proofs.Fronts.{appends_front, appends_keeps, whole_rest}
use Rattle.trace_text.proofs.sink.write_uninterrupted.Goals.{in-Ok, in-Err+else-ne}
use Rattle.trace_text.proofs.sink.write_uninterrupted.Goals as goal

pub loop-preserved : goal.loop-preserved
loop-preserved g c = elim c.match-write.branch [
  | in-Ok w ↦ rw w.written-is (record {
    inside = search (rules, arith);
    wrote =
        appends_front _
        (g.W.Write.contents c.loop.writer) _ c.args.bytes.now c.loop.written w.in-Ok.count c.loop.invariant.wrote
        (let bytes = rw whole_rest at w.in-Ok.ensures.bytes in bytes);
  })
  | in-Err+else-ne w ↦ rw w.written-is (record {
    inside = c.loop.invariant.inside;
    wrote = appends_keeps _ (g.W.Write.contents c.loop.writer) _ _ c.loop.invariant.wrote w.in-Err.ensures.bytes;
  })
]
