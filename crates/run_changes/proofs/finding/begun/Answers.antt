use Rattle.std.proofs.Common.{◌≡◌, ℕ, ◌≤◌, get_or, true, nat_le, rules, arith}
use Rattle.std.proofs.lemmas.Bool.Decides.{nat_tests}
use Rattle.std.proofs.lemmas.List.Sorted.{IsPartitionPoint-from_clause}
use Rattle.run_list.specs.declared.run.Run.{Run}
use Rattle.run_list.proofs.Found.{begun_front, begun_back, begins_grow}
use Rattle.run_changes.proofs.finding.begun.Goals as goal

by_too : (a b p : ℕ) → a ≤ b → nat_le b p ≡ true → nat_le a p ≡ true
by_too a b p h t = grind (arith, nat_tests)

pub returns : goal.returns
returns g c =
    let split =
    IsPartitionPoint-from_clause
    (λ (r : Run g.row.V.Denot). nat_le r.pages.first.0 c.args.page) c.args.runs.now c.partition_point.result
    c.partition_point.ensures.partitioned
    (λ i j d h k t. by_too (get_or c.args.runs.now i d).pages.first.0
    (get_or c.args.runs.now j d).pages.first.0 c.args.page
    (begins_grow g.V.Advance.advance i j c.args.runs.now d c.requires h k) t)
    (λ a r q k. search rules)
    in
    record {
      within = c.partition_point.ensures.bound;
      front = begun_front c.args.page c.partition_point.result c.args.runs.now c.partition_point.ensures.bound split.0;
      back = begun_back c.args.page c.partition_point.result c.args.runs.now split.1;
    }
