use Rattle.std.proofs.Common.{◌≡◌, ◌∙◌, ℕ, List, drop, length, ap, sym, arith}
use Rattle.std.proofs.lemmas.List.{drop_all}
use Rattle.std.proofs.lemmas.Result.{IfOk-from_err}
use Rattle.page_state.specs.declared.layout.Region.{Region}
use Rattle.page_state.specs.declared.row.Row.{Row}
use Rattle.page_state.specs.LayoutView.{layout_of}
use Rattle.page_state.specs.Regions.{find_region}
use Rattle.page_state.specs.Rows.{advance_row}
use Rattle.reference_model.specs.model.Owner.{row_of}
use Rattle.run_list.specs.Runs.{run_map}
use Rattle.ghost_spec.specs.States.{contents_in}
use Rattle.ghost_rows.specs.ListedRows.{told}
use Rattle.ghost_rows.proofs.ListedRows.{memory_row, memory-rows, regions-more}
use Rattle.ghost_rows.proofs.rows.rows_from_scratch.Goals as goal

pub returns-clause-rows : goal.returns-clause-rows
returns-clause-rows c = λ f.
    let start : c.loop-i.i ≡ 0 = omega (arith, c.loop-i-test.false) in
    let s = c.args.state.now in
    let row : Row = told c.in_ok-lists.lists f in
    memory-rows s.layout.map f (run_map advance_row c.loop-i.rows.runs f) row
    (row_of (layout_of s.layout) (contents_in s) f) c.regions-regions.ensures.accepted
    (c.loop-i.invariant.map f
    ∙ ap (λ (i : ℕ). memory_row (find_region (drop i c.regions-regions.result.now) f) row) start
    ∙ ap (λ (rs : List Region). memory_row (find_region rs f) row) c.regions-regions.ensures.value)
    (c.in_ok-lists.ensures.told f)

pub lists_of-requires-clause-host : goal.lists_of-requires-clause-host
lists_of-requires-clause-host c = c.requires.host

pub lists_of-requires-clause-hyp : goal.lists_of-requires-clause-hyp
lists_of-requires-clause-hyp c = c.requires.hyp

pub lists_of-requires-clause-guests : goal.lists_of-requires-clause-guests
lists_of-requires-clause-guests c = c.requires.guests

pub lists_of-requires-clause-guests_count : goal.lists_of-requires-clause-guests_count
lists_of-requires-clause-guests_count c = c.requires.guests_count

pub lists_of-requires-clause-cpus_count : goal.lists_of-requires-clause-cpus_count
lists_of-requires-clause-cpus_count c = c.requires.cpus_count

pub returns-in_err-lists-clause-rows : goal.returns-in_err-lists-clause-rows
returns-in_err-lists-clause-rows c = IfOk-from_err _ _ c.from_residual.ensures.0

pub returns-in_err-lists-clause-reach : goal.returns-in_err-lists-clause-reach
returns-in_err-lists-clause-reach c = IfOk-from_err _ _ c.from_residual.ensures.0

pub loop-i-init : goal.loop-i-init
loop-i-init c = rw c.new-rows.ensures (record {
  map =
      λ f. ap (λ (rs : List Region). memory_row (find_region rs f) (told c.in_ok-lists.lists f))
      (sym (drop_all (length c.regions-regions.result.now) c.regions-regions.result.now (omega arith)));
  reach = tt;
})

pub add_region-requires-clause-lists : goal.add_region-requires-clause-lists
add_region-requires-clause-lists c = c.in_ok-lists.ensures.reach

pub add_region-requires-clause-reach : goal.add_region-requires-clause-reach
add_region-requires-clause-reach c = c.loop-i.invariant.reach

pub returns-in_err-add_region-clause-rows : goal.returns-in_err-add_region-clause-rows
returns-in_err-add_region-clause-rows c = IfOk-from_err _ _ c.from_residual-in_err-add_region.ensures.0

pub returns-in_err-add_region-clause-reach : goal.returns-in_err-add_region-clause-reach
returns-in_err-add_region-clause-reach c = IfOk-from_err _ _ c.from_residual-in_err-add_region.ensures.0

pub returns-clause-reach : goal.returns-clause-reach
returns-clause-reach c = c.loop-i.invariant.reach

pub loop-i-preserved : goal.loop-i-preserved
loop-i-preserved c = record {
  map =
      λ f. regions-more c.regions-regions.result.now c.loop-i.i _ f (told c.in_ok-lists.lists f)
      (run_map advance_row c.add_region.new.rows.runs f) (run_map advance_row c.loop-i.rows.runs f)
      (omega (arith, c.loop-i-test.true)) (omega arith) (c.in_ok-add_region.ensures.map f)
      (c.loop-i.invariant.map f);
  reach = c.add_region.ensures.reach;
}
