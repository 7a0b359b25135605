use Rattle.std.proofs.Common.{◌≡◌, ℕ, subst, true, false, Some, None}
use Rattle.page_state.specs.LayoutView.{layout_of}
use Rattle.page_state.specs.Layouts.{Layout, is_memory}
use Rattle.page_state.specs.Rows.{advance_row}
use Rattle.reference_model.specs.model.Owner.{row_of}
use Rattle.run_list.specs.Runs.{run_map}
use Rattle.ghost_spec.specs.States.{contents_in}
use Rattle.ghost_oracle.specs.declared.trees.Source.TheVariants.{Words}
use Rattle.ghost_oracle.proofs.RawReady.{cpus_counted, guests_kept}
use Rattle.ghost_oracle.proofs.Scratch.{rows_of, scratch_told}
use Rattle.ghost_oracle.proofs.raw_kept.recompute_raw.Goals as goal

pub rows_from_scratch-requires-clause-guests : goal.rows_from_scratch-requires-clause-guests
rows_from_scratch-requires-clause-guests g c =
    guests_kept Words c.args.parts.now c.in_ok-found.found c.in_ok-found.ensures.found

pub rows_from_scratch-requires-clause-cpus_count : goal.rows_from_scratch-requires-clause-cpus_count
rows_from_scratch-requires-clause-cpus_count g c =
    cpus_counted Words c.args.parts.now c.in_ok-found.found c.in_ok-found.ensures.found

pub returns-clause-found : goal.returns-clause-found
returns-clause-found g c = let found = c.in_ok-found.ensures.found in record {
  layout = found.layout;
  host_kept = found.host_kept;
  hyp_kept = found.hyp_kept;
  host_words = found.host_words;
  hyp_words = found.hyp_words;
  host_runs = found.host_runs;
  hyp_runs = found.hyp_runs;
  free = found.free;
  guests = found.guests;
  count = found.count;
  slots = found.slots;
  cpus = found.cpus;
  rooms = found.rooms;
}

pub returns-clause-rows : goal.returns-clause-rows
returns-clause-rows g c =
    scratch_told (layout_of c.args.parts.now.layout) (contents_in c.in_ok-found.found) c.in-Ok.rows.runs
    (subst
    (λ (l : Layout). (f : ℕ)
    → run_map advance_row c.in-Ok.rows.runs f
    ≡ elim (is_memory l f) [
      | true ↦ Some (row_of l (contents_in c.in_ok-found.found) f)
      | false ↦ None
    ]) c.in_ok-found.ensures.found.layout c.in-Ok.ensures.rows)

pub returns-clause-frames : goal.returns-clause-frames
returns-clause-frames g c =
    rows_of (layout_of c.args.parts.now.layout)
    (row_of (layout_of c.args.parts.now.layout) (contents_in c.in_ok-found.found)) c.in-Ok.rows.runs
    (subst
    (λ (l : Layout). (f : ℕ)
    → run_map advance_row c.in-Ok.rows.runs f
    ≡ elim (is_memory l f) [
      | true ↦ Some (row_of l (contents_in c.in_ok-found.found) f)
      | false ↦ None
    ]) c.in_ok-found.ensures.found.layout c.in-Ok.ensures.rows)

pub returns-clause-ready : goal.returns-clause-ready
returns-clause-ready g c = let found = c.in_ok-found.ensures.found in record {
  host = found.host_kept;
  hyp = found.hyp_kept;
  guests = guests_kept Words c.args.parts.now c.in_ok-found.found found;
  count = found.count;
  rows = c.in-Ok.ensures.reach;
}
