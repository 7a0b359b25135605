use Rattle.std.proofs.Common.{subst}
use Rattle.std.specs.Prelude.{codes}
use Rattle.std.specs.Fmt.{HasWritten, decimal}
use Rattle.svg_elements.proofs.Joined.{five_pieces}
use Rattle.svg_elements.proofs.item.TurnedDisplay.fmt.Goals as goal

pub returns-clause-writes : goal.returns-clause-writes
returns-clause-writes g c = λ plain ok.
    subst (λ t. HasWritten {W = g.row.W.Denot} g.W.Write.write_str_gives c.args.f.now t c.write.new.self)
    (five_pieces (codes "translate(") (decimal c.args.self.now.x) (codes " ") (decimal c.args.self.now.y)
    (codes ") rotate(-60)"))
    (c.write.ensures.writes plain ok)
