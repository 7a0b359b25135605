use Rattle.trace_lines.proofs.Hexadecimal.{zeros_before}
use Rattle.trace_lines.proofs.response.DigitsDisplay.fmt.Goals as goal

pub returns-clause-writes : goal.returns-clause-writes
returns-clause-writes g c plain ok =
    let w = rw (c.in_radix.ensures, c.laid_out.ensures, zeros_before) at c.write.ensures.writes in w plain ok
