-- What the code holds of watches.
use Rattle.std.specs.Prelude.{ℕ, List, map, Option, Some, None, Result, Ok, Err}
use Rattle.trace_check.specs.declared.missing.Miss.{Miss}
use Rattle.trace_faults.specs.Spots.{Told}
use Rattle.trace_values.specs.View.{spot_in}
use Rattle.trace_watches.specs.declared.listing.Listed.{Listed}
use Rattle.trace_watches.specs.declared.listing.Listed.TheVariants as lists
use Rattle.trace_watches.specs.declared.listing.WatchLine.{WatchLine}
use Rattle.trace_watches.specs.Watches.{Watch}

abbrev pub watch_in : WatchLine → Watch
watch_in w = record { number = w.number; line = w.line.now }

-- all watches of a trace, or a fault
abbrev pub listed_in : Listed → Result (List Watch) Told
listed_in (lists.Watches watches) = Ok (map watch_in watches.items)
listed_in (lists.Fault spot) = Err (spot_in spot)

-- a miss: the number of a line, and the mistake there
abbrev pub miss_in : Miss → ℕ × List ℕ
miss_in miss = (miss.line, miss.said.items)
