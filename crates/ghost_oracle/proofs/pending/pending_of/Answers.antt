use Rattle.ghost_oracle.proofs.Extended.{comes_next}
use Rattle.ghost_oracle.proofs.pending.pending_of.Goals as goal

pub returns-in-Some-clause-next : goal.returns-in-Some-clause-next
returns-in-Some-clause-next c =
    λ _. comes_next c.args.depth c.args.first c.args.pages c.args.word c.in-Some.step c.entry_of-entry.result
    c.requires.pages c.ranges.word.fits c.entry_of-entry.ensures.value c.in-Some.ensures
