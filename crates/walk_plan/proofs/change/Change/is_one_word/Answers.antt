use Rattle.std.proofs.Common.{rules}
use Rattle.page_state.proofs.Equality.{entries_test}
use Rattle.walk_plan.proofs.change.Change.is_one_word.Goals as goal

pub returns-else-is_whole : goal.returns-else-is_whole
returns-else-is_whole c = let same = entries_test c.advance.result c.args.self.entry in search rules
