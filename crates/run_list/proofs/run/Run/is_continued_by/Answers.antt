use Rattle.std.proofs.Common.{rules}
use Rattle.run_list.proofs.run.Run.is_continued_by.Goals as goal

pub returns-then-self-next : goal.returns-then-self-next
returns-then-self-next g c = search rules
