-- Laws of counts.
use Rattle.std.specs.Prelude.{◌≡◌, ℕ, Bool, true, false, List, length, count_by, sum_by, is_some, None, if◌then◌else◌}
use Rattle.call_table.specs.declared.reply.Refusal.TheVariants.{Perm, NoVm, Busy, Invalid, NoPool}
use Rattle.call_table.specs.declared.row.CallName.{CallName}
use Rattle.call_table.specs.declared.step.Step.{Step}
use Rattle.call_table.specs.Named.{named_by}
use Rattle.reference_model.specs.declared.changes.Changes.{Changes}
use Rattle.reference_model.specs.model.Parts.{lacks_slot}
use Rattle.reference_model.specs.model.Rule.{Reads, Rule}
use Rattle.reference_model.specs.model.Rules.{names, step_rule}
use Rattle.trace_cover.specs.declared.rows.Row.{Row}
use Rattle.trace_cover.specs.declared.rows.Row.TheVariants.{Reply, Cell}
use Rattle.trace_cover.specs.declared.steps.Seen.{Seen}
use Rattle.trace_cover.specs.Counted.{count}
use Rattle.trace_cover.specs.Kinds.{tells}
use Rattle.trace_cover.specs.Rows.{rows}

-- the counts of rows of replies, and those of rows of conditions
abbrev pub reply_count : List Seen → Row → ℕ
reply_count seen (Reply call why) = count (Reply call why) seen
reply_count seen (Cell call condition) = 0

abbrev pub cell_count : List Seen → Row → ℕ
cell_count seen (Reply call why) = 0
cell_count seen (Cell call condition) = count (Cell call condition) seen

-- a step that names a frame in a condition
abbrev pub is_of_frame : Seen → Bool
is_of_frame x = is_some x.condition

-- each step is counted in one row of a reply, and, if it names a frame, in one of a condition
pub record CountsOnce (seen : List Seen) : Type 0 where
  pub replies : sum_by (reply_count seen) rows ≡ length seen
  pub cells : sum_by (cell_count seen) rows ≡ count_by is_of_frame seen

abbrev pub EachOnce : Type 0
EachOnce = (seen : List Seen) → CountsOnce seen

-- no map changes
pub record ChangesNoMap (h : Changes) : Type 0 where
  pub host : h.host ≡ None
  pub hyp : h.hyp ≡ None
  pub guest : h.guest ≡ None

-- the rule of a call passes each test whose refusal isn't listed for the call, whatever the rule
-- reads: its four tests, that it names no guest, and that it needs no tables
pub record PassesUnlisted (call : CallName) (step : Step) (r : Rule) : Type 0 where
  pub valid : tells call Invalid ≡ false → r.valid.passes ≡ true
  pub has_vm : tells call NoVm ≡ false → r.has_vm.passes ≡ true
  pub has_slot : tells call NoVm ≡ false → lacks_slot (names step) None ≡ false
  pub ready : tells call Busy ≡ false → r.ready.passes ≡ true
  pub allowed : tells call Perm ≡ false → r.allowed.passes ≡ true
  pub tables : tells call NoPool ≡ false → ChangesNoMap r.changes

abbrev pub UnlistedPass : Type 0
UnlistedPass =
    (step : Step) (x : Reads) → PassesUnlisted (named_by step).call step ((step_rule step).rule x)
