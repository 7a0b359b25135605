use Rattle.std.proofs.Common.{rules}
use Rattle.run_list.proofs.run.paired.Goals as goal

pub returns-then-is_continued_by : goal.returns-then-is_continued_by
returns-then-is_continued_by g c = search rules
