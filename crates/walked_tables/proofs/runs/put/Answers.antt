use Rattle.std.proofs.Common.{◌≡◌, ℕ, ◌+◌, ◌<◌, ◌≤◌, ◌^◌, List, Option, Some, None, sym, arith}
use Rattle.page_state.specs.declared.entry.PageRange.{PageRange}
use Rattle.run_list.specs.declared.run.Run.{Run}
use Rattle.run_list.specs.Parts.{glue, one_run, run_of}
use Rattle.run_list.specs.Runs.{EndBefore}
use Rattle.run_list.specs.View.{IsKept}
use Rattle.std.specs.Option.{ForSome}
use Rattle.run_list.proofs.Glue.{glue_none}
use Rattle.walked_tables.specs.declared.said.Said.{Said}
use Rattle.walked_tables.specs.Values.{advance_said, CanGoOn, HasSmallFrame}
use Rattle.walked_tables.specs.Advancing.{said_eq, said_laws}
use Rattle.walked_tables.proofs.Pushed.{IsPushed, pushed, small_value}
use Rattle.walked_tables.proofs.runs.put.Goals as goal

abbrev range_of : ℕ → ℕ → PageRange
range_of first count = record { first = record { 0 = first }; count = count }

same_put : (range : PageRange) (o : Option Said) (v : Said) (old new : List (Run Said))
    → o ≡ Some v
    → new ≡ glue advance_said said_eq old (one_run (Some (record { pages = range; value = v })))
    → new ≡ glue advance_said said_eq old (one_run (run_of range o))
same_put range o v old new e h = rw e h

none_put : (range : PageRange) (o : Option Said) (old : List (Run Said))
    → o ≡ None
    → old ≡ glue advance_said said_eq old (one_run (run_of range o))
none_put range o old e = rw e (sym (glue_none advance_said CanGoOn said_eq said_laws old))

put_some : (first count : ℕ) (v : Option Said) (x : Said) (old new : List (Run Said))
    → 0 < count
    → first + count ≤ 2 ^ 40
    → ForSome v HasSmallFrame
    → IsKept advance_said CanGoOn old
    → EndBefore (first + 1) old
    → v ≡ Some x
    → new ≡ glue advance_said said_eq old (one_run (Some (record { pages = range_of first count; value = x })))
    → IsPushed (range_of first count) v old new
put_some first count v x old new some low small kept behind e h =
    pushed (range_of first count) v old new (omega arith) some (small_value v count small (omega arith)) kept behind
    (same_put (range_of first count) v x old new e h)

put_none : (first count : ℕ) (v : Option Said) (old : List (Run Said))
    → 0 < count
    → first + count ≤ 2 ^ 40
    → ForSome v HasSmallFrame
    → IsKept advance_said CanGoOn old
    → EndBefore (first + 1) old
    → v ≡ None
    → IsPushed (range_of first count) v old old
put_none first count v old some low small kept behind e =
    pushed (range_of first count) v old old (omega arith) some (small_value v count small (omega arith)) kept behind
    (none_put (range_of first count) v old e)

pub returns-in_ok-push_run-clause-map : goal.returns-in_ok-push_run-clause-map
returns-in_ok-push_run-clause-map c =
    (put_some c.args.first c.args.count c.args.value c.in-Some.value _ _ c.requires.some c.requires.pages
    c.requires.small c.requires.kept c.requires.behind c.in-Some.is c.in_ok-push_run.ensures.ok).map

pub returns-in_ok-push_run-clause-kept : goal.returns-in_ok-push_run-clause-kept
returns-in_ok-push_run-clause-kept c =
    (put_some c.args.first c.args.count c.args.value c.in-Some.value _ _ c.requires.some c.requires.pages
    c.requires.small c.requires.kept c.requires.behind c.in-Some.is c.in_ok-push_run.ensures.ok).kept

pub returns-in_ok-push_run-clause-behind : goal.returns-in_ok-push_run-clause-behind
returns-in_ok-push_run-clause-behind c =
    (put_some c.args.first c.args.count c.args.value c.in-Some.value _ _ c.requires.some c.requires.pages
    c.requires.small c.requires.kept c.requires.behind c.in-Some.is c.in_ok-push_run.ensures.ok).behind

pub returns-in_default-clause-map : goal.returns-in_default-clause-map
returns-in_default-clause-map c =
    (put_none c.args.first c.args.count c.args.value _ c.requires.some c.requires.pages c.requires.small
    c.requires.kept c.requires.behind c.in_default.is).map

pub returns-in_default-clause-behind : goal.returns-in_default-clause-behind
returns-in_default-clause-behind c =
    (put_none c.args.first c.args.count c.args.value _ c.requires.some c.requires.pages c.requires.small
    c.requires.kept c.requires.behind c.in_default.is).behind
