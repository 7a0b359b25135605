-- The number of steps counted in each row (profile).
use Rattle.std.specs.Prelude.{ℕ, ◌==◌, ◌&&◌, Bool, true, false, List, map, count_by, Option, Some, None}
use Rattle.call_table.specs.declared.row.CallName.{CallName}
use Rattle.call_table.specs.Rows.{row as row_in}
use Rattle.trace_cover.specs.declared.condition.Condition.{Condition}
use Rattle.trace_cover.specs.declared.counting.Counted.{Counted}
use Rattle.trace_cover.specs.declared.rows.Row.{Row}
use Rattle.trace_cover.specs.declared.rows.Row.TheVariants.{Reply, Cell}
use Rattle.trace_cover.specs.declared.steps.Seen.{Seen}
use Rattle.trace_cover.specs.Conditions.{condition_number}
use Rattle.trace_cover.specs.Rows.{reply_number}

-- two calls are one: they have one number in the table of calls
abbrev pub is_of_call : CallName → CallName → Bool
is_of_call call other = (row_in call).number == (row_in other).number

-- a step's frame was in a condition
abbrev pub is_in : Condition → Option Condition → Bool
is_in condition None = false
is_in condition (Some seen) = condition_number condition == condition_number seen

-- a step is a row's: its call is the row's, and its reply, or the condition of its frame before it
abbrev pub meets : Row → Seen → Bool
meets (Reply call why) seen = is_of_call call seen.call && reply_number why == reply_number seen.why
meets (Cell call condition) seen = is_of_call call seen.call && is_in condition seen.condition

-- the count of a row
abbrev pub count : Row → List Seen → ℕ
count row seen = count_by (meets row) seen

-- rows with their counts
abbrev pub counted : List Seen → List Row → List Counted
counted seen rows = map (λ row. record { row = row; count = count row seen }) rows
