use Rattle.std.proofs.Common.{arith}
use Rattle.std.proofs.lemmas.Result.{IfOk-from_err}
use Rattle.page_state.specs.Rows.{advance_row}
use Rattle.run_list.specs.Runs.{run_map}
use Rattle.ghost_rows.proofs.RowsAhead.{annotated-more}
use Rattle.ghost_rows.proofs.RowsPushed.{annotated-next, some-page}
use Rattle.ghost_rows.proofs.rows.loans.annotated.Goals as goal

pub returns-in_err-rows-clause-map : goal.returns-in_err-rows-clause-map
returns-in_err-rows-clause-map c = IfOk-from_err _ _ c.from_residual.ensures.0

pub returns-in_err-rows-clause-reach : goal.returns-in_err-rows-clause-reach
returns-in_err-rows-clause-reach c = IfOk-from_err _ _ c.from_residual.ensures.0

pub returns-in_err-high-clause-map : goal.returns-in_err-high-clause-map
returns-in_err-high-clause-map c = IfOk-from_err _ _ c.from_residual-in_err-high.ensures.0

pub returns-in_err-high-clause-reach : goal.returns-in_err-high-clause-reach
returns-in_err-high-clause-reach c = IfOk-from_err _ _ c.from_residual-in_err-high.ensures.0

pub annotate-requires-clause-kept : goal.annotate-requires-clause-kept
annotate-requires-clause-kept c = c.loop-i.invariant.kept

pub annotate-requires-clause-behind : goal.annotate-requires-clause-behind
annotate-requires-clause-behind c = c.loop-i.invariant.behind

pub annotate-requires-clause-some : goal.annotate-requires-clause-some
annotate-requires-clause-some c = some-page c.args.runs.now c.loop-i.i _ c.requires.coarsest (omega arith)

pub loop-i-preserved : goal.loop-i-preserved
loop-i-preserved c = record {
  map =
      annotated-more c.args.runs.now c.loop-i.i _ (run_map advance_row c.loop-i.rows.items)
      (run_map advance_row c.annotate.new.rows.items) c.requires.coarsest
      (omega arith) c.loop-i.invariant.map c.in_ok-high.ensures.map;
  kept = c.in_ok-high.ensures.kept;
  behind = c.in_ok-high.ensures.behind;
  order =
      λ d less. annotated-next c.args.runs.now c.loop-i.i _ d c.loop-i.high _ c.requires.coarsest less
      (c.loop-i.invariant.order _ (omega arith)) c.in_ok-high.ensures.end;
}
