use Rattle.trace_reader.proofs.Moved.{range_without}
use Rattle.trace_reader.proofs.ahead.ReadAhead.consume.Goals as goal

pub returns : goal.returns
returns c = let a = c.args.self.now in rw c.min.ensures (range_without a.bytes.items a.start a.end c.args.count)
