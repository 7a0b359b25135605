use Rattle.std.proofs.Common.{◌≡◌, ◌∙◌, ap, subst, sym}
use Rattle.std.specs.Prelude.{is_some}
use Rattle.page_state.specs.LayoutView.{layout_of}
use Rattle.page_state.specs.Rows.{advance_row, HasPageBelow}
use Rattle.run_list.specs.Runs.{run_map, AreInReach}
use Rattle.ghost_oracle.specs.declared.trees.Source.TheVariants.{Maplets}
use Rattle.ghost_judge.specs.Audits.{AreMapsKept}
use Rattle.ghost_oracle.specs.Found.{HasRowsOf}
use Rattle.ghost_oracle.specs.RawFound.{IsRawFound, HasSameRawRows}
use Rattle.ghost_oracle.proofs.RawReady.{ready}
use Rattle.ghost_oracle.proofs.Scratch.{if_ok, if_ok2}
use Rattle.ghost_oracle.proofs.raw_kept.kept_raw.Goals as goal

pub returns-clause-found : goal.returns-clause-found
returns-clause-found g c = c.raw_from.ensures.found

pub returns-clause-rows : goal.returns-clause-rows
returns-clause-rows g c =
    if_ok (λ x. x.shared.rows ≡ c.in_ok-rows.rows) (HasSameRawRows c.args.parts.now) c.raw_from.result
    (λ x h. ap (λ r. run_map advance_row r.runs) h
    ∙ ap (run_map advance_row) (c.in_ok-rows.ensures ∙ c.runs.ensures.runs))
    c.raw_from.ensures.rows

pub returns-clause-frames : goal.returns-clause-frames
returns-clause-frames g c =
    if_ok (λ x. x.shared.rows ≡ c.in_ok-rows.rows) (HasRowsOf (layout_of c.args.parts.now.layout)) c.raw_from.result
    (λ x h f. ap (λ m. is_some (m f))
    (ap (λ r. run_map advance_row r.runs) h ∙ ap (run_map advance_row) (c.in_ok-rows.ensures ∙ c.runs.ensures.runs))
    ∙ c.args.parts.now.memory_rows f)
    c.raw_from.ensures.rows

pub returns-clause-ready : goal.returns-clause-ready
returns-clause-ready g c =
    if_ok2 (IsRawFound Maplets c.args.parts.now) (λ x. x.shared.rows ≡ c.in_ok-rows.rows) AreMapsKept c.raw_from.result
    (λ x found h. ready Maplets c.args.parts.now x found
    (subst (AreInReach HasPageBelow)
    (sym (ap (λ r. r.runs) h ∙ c.in_ok-rows.ensures ∙ c.runs.ensures.runs)) c.runs.ensures.reach))
    c.raw_from.ensures.found c.raw_from.ensures.rows
