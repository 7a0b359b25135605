use Rattle.std.specs.Prelude.{◌≡◌}
use Rattle.std.specs.Prelude.{length}
use Rattle.trace_draw.proofs.Placed.{IsOrdered, IsBefore}
use Rattle.trace_draw.proofs.places.edges_of.Given as goal

abbrev pub invariant-loop-column : goal.invariant-loop-column
invariant-loop-column l = record {
  count : length l.edges.items ≡ l.column-index;
  order : IsOrdered l.edges.items;
  before : IsBefore l.edges.items l.at;
}
