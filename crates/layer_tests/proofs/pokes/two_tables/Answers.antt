use Rattle.std.proofs.Common.{◌≡◌}
use Rattle.table_tree.specs.Shape.{IsShaped}
use Rattle.table_tree.proofs.RawTables.{shaped_raw}
use Rattle.layer_tests.proofs.pokes.two_tables.Goals as goal

pub invariant_of-result : goal.invariant_of-result
invariant_of-result c =
    let e : c.in_ok-new.field-0.value ≡ c.in_ok-child.child = c.in_ok-new.ensures.ok in
    let child : IsShaped 1 c.in_ok-new.field-0.value = rw e (c.in_ok-child.ensures.tree.shape 1) in
    record {
      raw = shaped_raw 2 c.attach.new.self
          (c.attach.ensures.tree.shape 1 (c.in_ok-table.ensures.tree.shape 2) child);
    }
