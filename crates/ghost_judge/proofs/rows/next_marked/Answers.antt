use Rattle.std.proofs.Common.{get_or, sym, ◌∙◌, arith}
use Rattle.std.proofs.lemmas.List.{get_or_default}
use Rattle.page_state.specs.declared.row.Row.{Row}
use Rattle.page_state.specs.Rows.{plain_row}
use Rattle.run_list.specs.declared.run.Run.{Run}
use Rattle.ghost_judge.proofs.Marked.{marked_end, marked_here, marked_over}
use Rattle.ghost_judge.proofs.rows.next_marked.Goals as goal

abbrev none : Run Row
none = record { pages = record { first = record { 0 = 0 }; count = 0 }; value = plain_row }

pub loop-at-preserved : goal.loop-at-preserved
loop-at-preserved c =
    let x : Run Row = get_or c.args.runs.now c.loop-at.at none in
    record {
      behind = omega (arith, c.loop-at.invariant.behind);
      same =
          marked_over c.args.runs.now c.loop-at.at x c.loop-at-test.true
          (get_or_default c.args.runs.now c.loop-at.at none x c.loop-at-test.true)
          (sym c.ne.ensures ∙ c.if-ne.false)
          ∙ c.loop-at.invariant.same;
    }

pub returns-then-ne : goal.returns-then-ne
returns-then-ne c =
    let x : Run Row = get_or c.args.runs.now c.loop-at.at none in
    record {
      behind = c.loop-at.invariant.behind;
      within = c.loop-at-test.true;
      rest =
          λ d. sym c.loop-at.invariant.same
          ∙ marked_here c.args.runs.now c.loop-at.at x c.loop-at-test.true
          (get_or_default c.args.runs.now c.loop-at.at none x c.loop-at-test.true)
          (sym c.ne.ensures ∙ c.if-ne.true) d;
    }

pub returns : goal.returns
returns c = sym c.loop-at.invariant.same ∙ marked_end c.args.runs.now c.loop-at.at (omega (arith, c.loop-at-test.false))
