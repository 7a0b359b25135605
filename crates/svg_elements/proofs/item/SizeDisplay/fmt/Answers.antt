use Rattle.std.proofs.Common.{subst}
use Rattle.std.specs.Prelude.{codes}
use Rattle.std.specs.Fmt.{HasWritten, decimal}
use Rattle.svg_elements.proofs.Joined.{nine_pieces}
use Rattle.svg_elements.proofs.item.SizeDisplay.fmt.Goals as goal

pub returns-clause-writes : goal.returns-clause-writes
returns-clause-writes g c = λ plain ok.
    let w = decimal c.args.self.now.width in
    let h = decimal c.args.self.now.height in
    subst (λ t. HasWritten {W = g.row.W.Denot} g.W.Write.write_str_gives c.args.f.now t c.write.new.self)
    (nine_pieces (codes "width='") w (codes "' height='") h (codes "' viewBox='0 0 ") w (codes " ") h (codes "'"))
    (c.write.ensures.writes plain ok)
