use Rattle.std.proofs.Common.{◌≡◌, ℕ, ◌+◌, ◌<◌, ◌≤◌, ◌^◌, List, Some, subst, arith}
use Rattle.std.specs.Option.{ForSome}
use Rattle.page_state.specs.declared.entry.PageRange.{PageRange}
use Rattle.run_list.specs.declared.run.Run.{Run}
use Rattle.run_list.specs.Parts.{glue, one_run}
use Rattle.run_list.specs.Runs.{EndBefore}
use Rattle.run_list.specs.View.{IsKept}
use Rattle.run_list.proofs.Maps.{ends_later}
use Rattle.walked_tables.specs.declared.said.Said.{Said}
use Rattle.walked_tables.specs.Values.{advance_said, CanGoOn}
use Rattle.walked_tables.specs.Advancing.{said_eq}
use Rattle.walked_tables.proofs.Pushed.{IsPushed, pushed}
use Rattle.image_trees.proofs.records.add_page.Goals as goal

page_range : ℕ → PageRange
page_range page = record { first = record { 0 = page }; count = 1 }

put_page : (page : ℕ) (v : Said) (old new : List (Run Said))
    → page + 1 ≤ 2 ^ 63
    → CanGoOn v 1
    → IsKept advance_said CanGoOn old
    → EndBefore (page + 1) old
    → new ≡ glue advance_said said_eq old (one_run (Some (record { pages = page_range page; value = v })))
    → IsPushed (page_range page) (Some v) old new
unfolding page_range
put_page page v old new low small kept behind e =
    pushed (page_range page) (Some v) old new low (omega arith)
    (λ w is. let same : v ≡ w = cc in subst (λ x. CanGoOn x 1) same small) kept behind e

ends_two : (page : ℕ) (rs : List (Run Said)) → EndBefore (page + 1 + 1) rs → EndBefore (page + 2) rs
ends_two page rs h = ends_later (page + 1 + 1) (page + 2) rs (omega arith) h

pub returns-clause-map : goal.returns-clause-map
unfolding page_range
returns-clause-map c =
    (put_page c.args.page c.args.value _ _ c.requires.page c.requires.reach c.requires.kept c.requires.behind
    c.in_ok-push_run.ensures.ok).map

pub returns-clause-kept : goal.returns-clause-kept
unfolding page_range
returns-clause-kept c =
    (put_page c.args.page c.args.value _ _ c.requires.page c.requires.reach c.requires.kept c.requires.behind
    c.in_ok-push_run.ensures.ok).kept

pub returns-clause-behind : goal.returns-clause-behind
unfolding page_range
returns-clause-behind c =
    ends_two c.args.page _
    (put_page c.args.page c.args.value _ _ c.requires.page c.requires.reach c.requires.kept c.requires.behind
    c.in_ok-push_run.ensures.ok).behind
