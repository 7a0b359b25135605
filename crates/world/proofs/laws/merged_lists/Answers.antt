use Rattle.world.proofs.MergedLists.{history_merges, merged_history, merged_run}
use Rattle.world.proofs.laws.merged_lists.Goals as goal

pub returns-clause-merges : goal.returns-clause-merges
returns-clause-merges c = history_merges

pub returns-clause-history : goal.returns-clause-history
returns-clause-history c = merged_history

pub returns-clause-run : goal.returns-clause-run
returns-clause-run c = merged_run
