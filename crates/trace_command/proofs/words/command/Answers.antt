use Rattle.std.proofs.Common.{map}
use Rattle.trace_command.proofs.Plain.{takes_of}
use Rattle.trace_command.proofs.words.command.Goals as goal

pub returns : goal.returns
returns c =
    record {
      read = c.read.ensures;
      takes = takes_of (map (λ w. w.bytes.items) c.args.words.now) c.read.result c.read.ensures;
    }
