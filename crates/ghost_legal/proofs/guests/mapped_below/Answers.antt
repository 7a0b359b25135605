use Rattle.std.proofs.Common.{arith}
use Rattle.ghost_legal.proofs.Lows.{begins-low}
use Rattle.ghost_legal.proofs.guests.mapped_below.Goals as goal

pub returns : goal.returns
returns c =
    (begins-low c.args.runs.now c.args.low _ c.requires (omega (arith, c.if-runs-eq0.false))).0 c.if-first-low.false
