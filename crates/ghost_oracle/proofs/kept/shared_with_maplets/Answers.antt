use Rattle.std.proofs.Common.{◌∙◌, ℕ, ap, subst, sym}
use Rattle.page_state.proofs.Common.{same4}
use Rattle.page_state.specs.declared.row.Row.{Row}
use Rattle.page_state.specs.Rows.{advance_row, HasPageBelow}
use Rattle.page_state.specs.Trees.{Pool, Tree}
use Rattle.run_list.specs.Runs.{run_map, AreInReach}
use Rattle.ghost_oracle.proofs.Scratch.{rows_same}
use Rattle.ghost_oracle.proofs.kept.shared_with_maplets.Goals as goal

pub returns-clause-shared : goal.returns-clause-shared
returns-clause-shared g c =
    same4 (λ (host hyp : Tree) (free : Pool) (row : ℕ → Row). record { host = host; hyp = hyp; free = free; row = row })
    c.in_ok-tree_with_maplets.ensures.tree
    c.in_ok-tree_with_maplets-2.ensures.tree
    (c.in_ok-from_slice.ensures.items ∙ c.as_slice.ensures.value ∙ c.requires.free)
    (rows_same c.args.part.now c.in_ok-copied_rows.field-0.runs
    (ap (run_map advance_row) (c.in_ok-copied_rows.ensures ∙ c.runs.ensures.runs)))

pub returns-clause-kept : goal.returns-clause-kept
returns-clause-kept g c = record {
  host = c.in_ok-tree_with_maplets.ensures.kept;
  hyp = c.in_ok-tree_with_maplets-2.ensures.kept;
  rows = subst (AreInReach HasPageBelow) (sym (c.in_ok-copied_rows.ensures ∙ c.runs.ensures.runs)) c.runs.ensures.reach;
}

pub returns-clause-host : goal.returns-clause-host
returns-clause-host g c = c.in_ok-tree_with_maplets.ensures.runs

pub returns-clause-hyp : goal.returns-clause-hyp
returns-clause-hyp g c = c.in_ok-tree_with_maplets-2.ensures.runs

pub returns-clause-rows : goal.returns-clause-rows
returns-clause-rows g c = c.in_ok-copied_rows.ensures ∙ c.runs.ensures.runs
