use Rattle.trace_draw.specs.Pictures.{AreDrawn}
use Rattle.trace_draw.proofs.picture.add_last.Given as goal

abbrev pub invariant-loop-column : goal.invariant-loop-column
invariant-loop-column l = record { drawn : AreDrawn l.items.items l.places.edges.items l.column }
