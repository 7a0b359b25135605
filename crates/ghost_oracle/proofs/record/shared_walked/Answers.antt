use Rattle.std.proofs.Common.{◌≡◌, ◌∙◌, ap, subst, sym}
use Rattle.page_state.specs.Rows.{advance_row, HasPageBelow}
use Rattle.run_list.specs.Runs.{run_map, AreInReach}
use Rattle.part_types.specs.View.{shared_of}
use Rattle.ghost_spec.specs.Views.{row_in, shared_in_lists}
use Rattle.ghost_oracle.specs.Found.{with_row}
use Rattle.ghost_oracle.proofs.Scratch.{if_ok, shared_same_rows}
use Rattle.ghost_oracle.proofs.record.shared_walked.Goals as goal

pub returns-clause-shared : goal.returns-clause-shared
returns-clause-shared g c =
    if_ok (λ s. shared_in_lists s ≡ with_row (row_in c.in_ok-rows.rows.runs) (shared_of c.args.part.now))
    (λ s. shared_in_lists s ≡ shared_of c.args.part.now) c.shared_from.result
    (λ s h. h
    ∙ shared_same_rows c.args.part.now c.in_ok-rows.rows.runs
    (ap (run_map advance_row) (c.in_ok-rows.ensures ∙ c.runs.ensures.runs)))
    c.shared_from.ensures.shared

pub returns-clause-kept : goal.returns-clause-kept
returns-clause-kept g c = c.shared_from.ensures.kept

pub shared_from-requires : goal.shared_from-requires
shared_from-requires g c =
    record {
      reach = subst (AreInReach HasPageBelow)
          (sym (c.in_ok-rows.ensures ∙ c.runs.ensures.runs)) c.runs.ensures.reach;
    }
