use Rattle.std.proofs.Common.{◌≡◌}
use Rattle.table_tree.specs.Meaning.{IsDepth, entry_at}
use Rattle.table_tree.specs.Raw.{IsRaw}
use Rattle.table_tree.proofs.look.look_in.Given as goal

abbrev pub invariant-loop-word : goal.invariant-loop-word
invariant-loop-word g l =
    record {
      depth_in : IsDepth l.depth;
      raw : IsRaw l.depth l.table;
      same : entry_at l.depth l.table l.page
          ≡ entry_at l.fn.depth l.fn.table l.page;
    }

abbrev pub decreases-loop-word : goal.decreases-loop-word
decreases-loop-word g l = l.depth
