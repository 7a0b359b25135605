use Rattle.trace_explain.proofs.RuleWords.{same_words}
use Rattle.trace_explain.proofs.laws.same_words.Goals as goal

pub returns : goal.returns
returns c = same_words
