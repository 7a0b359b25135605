use Rattle.std.proofs.Common.{nat_lt, get_or, rules}
use Rattle.std.proofs.lemmas.List.Sorted.{IsPartitionPoint-from_clause}
use Rattle.page_state.specs.declared.entry.Run.{Run}
use Rattle.page_state.specs.Runs.{run_end}
use Rattle.ghost_trees.proofs.Untouched.{below_too, ended_front, ends_grow}
use Rattle.ghost_coarse.proofs.runs.ended_before.Goals as goal

pub returns-clause-front : goal.returns-clause-front
returns-clause-front c =
    let split =
    IsPartitionPoint-from_clause
    (λ (r : Run). nat_lt (run_end r) c.args.page) c.args.runs.now c.partition_point.result
    c.partition_point.ensures.partitioned
    (λ i j d h k t. below_too (run_end (get_or c.args.runs.now i d)) (run_end (get_or c.args.runs.now j d)) c.args.page
    (ends_grow i j c.args.runs.now d c.requires h k) t)
    (λ a r q k. search rules)
    in
    ended_front c.args.page c.partition_point.result c.args.runs.now c.partition_point.ensures.bound split.0
