use Rattle.std.proofs.Common.{◌≡◌, ℕ, ◌≤◌, ◌^◌, List, Option, Some, None, sym, ap, ◌∙◌, arith}
use Rattle.page_state.specs.declared.entry.Entry.{Entry}
use Rattle.page_state.specs.declared.entry.PageRange.{PageRange}
use Rattle.page_state.specs.declared.entry.Target.{Target}
use Rattle.page_state.specs.Entries.{advance_target, entry_of, target_of}
use Rattle.page_state.specs.Map.{update}
use Rattle.page_state.proofs.Entries.{entry_of-target_of}
use Rattle.run_list.specs.declared.run.Run.{Run}
use Rattle.run_list.specs.Parts.{glue, one_run, run_of}
use Rattle.run_list.specs.Targets.{HasFrameBelow, target_eq, target_laws}
use Rattle.run_list.proofs.Glue.{glue_none}
use Rattle.c_tables.specs.Laid.{target_map}
use Rattle.c_tables.proofs.Pushed.{IsPushed, pushed, small_target}
use Rattle.c_tables.proofs.runs.put.Goals as goal
use Rattle.c_tables.proofs.runs.put.Goals.{After-target}

abbrev range_of : ℕ → ℕ → PageRange
range_of first count = record { first = record { 0 = first }; count = count }

-- what is put is the target of the entry
put_so : (g : After-target) (new : List (Run Target))
    → new
    ≡ glue advance_target target_eq g.args.runs.now.items
    (one_run (run_of (range_of g.args.first g.args.count) (target_of g.args.entry)))
    → IsPushed (range_of g.args.first g.args.count) (target_of g.args.entry) g.args.runs.now.items new
put_so c new e =
    let small : c.args.count ≤ 2 ^ 36 = let x = c.requires.pages in omega arith in
    pushed (range_of c.args.first c.args.count) (target_of c.args.entry) c.args.runs.now.items new
    (let x = c.requires.pages in omega arith) c.requires.some
    (small_target c.args.entry c.args.count c.requires.small small) c.requires.kept c.requires.behind e

as_entry : (first count : ℕ) (e : Entry) (old new : List (Run Target))
    → target_map new ≡ update (target_map old) first count (entry_of (target_of e))
    → target_map new ≡ update (target_map old) first count e
as_entry first count e old new h = h ∙ ap (update (target_map old) first count) (entry_of-target_of e)

same_put : (range : PageRange) (o : Option Target) (v : Target) (old new : List (Run Target))
    → o ≡ Some v
    → new ≡ glue advance_target target_eq old (one_run (Some (record { pages = range; value = v })))
    → new ≡ glue advance_target target_eq old (one_run (run_of range o))
same_put range o v old new e h = rw e h

none_put : (range : PageRange) (o : Option Target) (old : List (Run Target))
    → o ≡ None
    → old ≡ glue advance_target target_eq old (one_run (run_of range o))
none_put range o old e = rw e (sym (glue_none advance_target HasFrameBelow target_eq target_laws old))

pub returns-in_ok-push_run-clause-map : goal.returns-in_ok-push_run-clause-map
returns-in_ok-push_run-clause-map c =
    as_entry c.args.first c.args.count c.args.entry c.args.runs.now.items _
    (put_so (goal.at.returns-in_ok-push_run-clause-map c).After-target _
    (same_put _ _ c.in-Some.value _ _ (sym c.target.ensures ∙ c.in-Some.is) c.in_ok-push_run.ensures.ok)).map

pub returns-in_ok-push_run-clause-kept : goal.returns-in_ok-push_run-clause-kept
returns-in_ok-push_run-clause-kept c =
    (put_so (goal.at.returns-in_ok-push_run-clause-kept c).After-target _
    (same_put _ _ c.in-Some.value _ _ (sym c.target.ensures ∙ c.in-Some.is) c.in_ok-push_run.ensures.ok)).kept

pub returns-in_ok-push_run-clause-behind : goal.returns-in_ok-push_run-clause-behind
returns-in_ok-push_run-clause-behind c =
    (put_so (goal.at.returns-in_ok-push_run-clause-behind c).After-target _
    (same_put _ _ c.in-Some.value _ _ (sym c.target.ensures ∙ c.in-Some.is) c.in_ok-push_run.ensures.ok)).behind

pub returns-in_default-clause-map : goal.returns-in_default-clause-map
returns-in_default-clause-map c =
    as_entry c.args.first c.args.count c.args.entry c.args.runs.now.items _
    (put_so (goal.at.returns-in_default-clause-map c).After-target _
    (none_put _ _ _ (sym c.target.ensures ∙ c.in_default.is))).map

pub returns-in_default-clause-behind : goal.returns-in_default-clause-behind
returns-in_default-clause-behind c =
    (put_so (goal.at.returns-in_default-clause-behind c).After-target _
    (none_put _ _ _ (sym c.target.ensures ∙ c.in_default.is))).behind
