use Rattle.std.proofs.Common.{rules, arith}
use Rattle.trace_reader.specs.Ahead.{held}
use Rattle.trace_reader.proofs.Moved.{moves_end, moves_on, held_some}
use Rattle.trace_reader.proofs.ahead.ReadAhead.give.Goals as goal

pub returns-in_ok-extend_from_slice-in-Some : goal.returns-in_ok-extend_from_slice-in-Some
returns-in_ok-extend_from_slice-in-Some c =
    let slice = c.as_slice-all.ensures in
    let first = rw slice at c.in-Some.ensures in
    moves_end (held c.args.self.now) c.args.line.now.items _ _ c.min.result c.in-Some.count
    (search (rules, arith)) c.requires.fits first (search rules) (search rules)

pub returns-in_ok-extend_from_slice-in-None : goal.returns-in_ok-extend_from_slice-in-None
returns-in_ok-extend_from_slice-in-None c =
    let slice = c.as_slice-all.ensures in
    let none = rw slice at c.in-None.ensures in
    moves_on (held c.args.self.now) c.args.line.now.items _ _ c.min.result (search (rules, arith)) c.requires.fits
    (held_some c.args.self.now c.requires.some) none (search rules) (search rules)
