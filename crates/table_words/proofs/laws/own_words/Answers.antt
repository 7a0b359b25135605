use Rattle.table_words.proofs.OwnWords.{law}
use Rattle.table_words.proofs.laws.own_words.Goals as goal

pub returns-clause-entry : goal.returns-clause-entry
returns-clause-entry c = (law c.args.level c.args.word c.ranges.word.fits).entry

pub returns-clause-beyond : goal.returns-clause-beyond
returns-clause-beyond c = (law c.args.level c.args.word c.ranges.word.fits).beyond
