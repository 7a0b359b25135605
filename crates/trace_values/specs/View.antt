-- What the code holds of names, and of what comes of them.
use Rattle.std.specs.Prelude.{ℕ, List, Result, Ok, Err}
use Rattle.trace_faults.specs.Spots.{Told}
use Rattle.trace_values.specs.declared.expanding.Expansion.{Expansion}
use Rattle.trace_values.specs.declared.expanding.Expansion.TheVariants as expansions
use Rattle.trace_values.specs.declared.faults.Spot.{Spot}
use Rattle.trace_values.specs.declared.names.Named.{Named}
use Rattle.trace_values.specs.declared.values.Bound.{Bound}
use Rattle.trace_values.specs.declared.values.Bound.TheVariants as bounds
use Rattle.trace_values.specs.Names.{Name}

abbrev pub named_in : Named → Name
named_in n = record { number = n.number; line = n.line.now; offset = n.offset }

abbrev pub spot_in : Spot → Told
spot_in spot = record { line = spot.line; column = spot.column; said = spot.said.items }

-- the value of a name, or the fault
abbrev pub bound_in : Bound → Result (List ℕ) Told
bound_in (bounds.Value value) = Ok value.items
bound_in (bounds.Fault spot) = Err (spot_in spot)

-- an expanded text, or the fault
abbrev pub expansion_in : Expansion → Result (List ℕ) Told
expansion_in (expansions.Text text) = Ok text.items
expansion_in (expansions.Fault spot) = Err (spot_in spot)
