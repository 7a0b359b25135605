use Rattle.std.proofs.Common.{◌≡◌, ◌*◌, ◌^◌, ◌≤◌}
use Rattle.page_state.specs.declared.entry.Entry.TheVariants.{Unmapped}
use Rattle.walk_plan.specs.inner.Needs.{block_parts, met, sum_to}
use Rattle.walk_plan.proofs.needs.need_of_empty.Given as goal

abbrev pub invariant-loop-i : goal.invariant-loop-i
invariant-loop-i l =
    record {
      counted : l.count
          ≡ sum_to (met l.depth l.change (block_parts l.depth Unmapped)) l.i;
      small : l.count ≤ l.i * 1024 ^ l.depth;
    }
