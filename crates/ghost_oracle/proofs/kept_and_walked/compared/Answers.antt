use Rattle.std.proofs.Common.{◌≡◌, ◌∙◌, ℕ, ap, sym, subst, true, false, Some, None}
use Rattle.std.specs.Prelude.{is_some}
use Rattle.page_state.specs.Layouts.{Layout, is_memory}
use Rattle.page_state.specs.LayoutView.{layout_of}
use Rattle.page_state.specs.Rows.{advance_row, HasPageBelow}
use Rattle.reference_model.specs.model.Owner.{row_of}
use Rattle.run_list.specs.Runs.{run_map, AreInReach}
use Rattle.hypercalls.specs.Stands.{parts_layout, state_of}
use Rattle.ghost_spec.specs.States.{ghost_state}
use Rattle.ghost_spec.specs.Views.{row_in}
use Rattle.ghost_oracle.specs.Compared.{IsCompared}
use Rattle.ghost_oracle.specs.Found.{found_state}
use Rattle.ghost_oracle.proofs.Scratch.{kept_frames, same_rows, walked}
use Rattle.ghost_oracle.proofs.kept_and_walked.compared.Goals as goal

pub are_from_scratch-requires-clause-frames : goal.are_from_scratch-requires-clause-frames
are_from_scratch-requires-clause-frames g c = λ f.
    kept_frames c.args.parts.now c.runs-rows.result.now (ap (run_map advance_row) c.runs-rows.ensures.runs) f
    ∙ ap (λ l. is_memory l f) (sym c.requires.layout)

pub of_kept-requires : goal.of_kept-requires
of_kept-requires g c =
    let k = c.requires.kept in
    let same : c.in-Ok-copied_rows.rows.runs ≡ c.args.parts.now.shared.owners =
    c.in-Ok-copied_rows.ensures ∙ c.runs-rows.ensures.runs in
    record {
      shared =
          record {
            host = k.shared.host;
            hyp = k.shared.hyp;
            rows = subst (AreInReach HasPageBelow) (sym same) c.runs-rows.ensures.reach;
          };
      guests = k.guests;
      cpus = k.cpus;
      vms_count = k.vms_count;
      guests_count = k.guests_count;
      cpus_count = k.cpus_count;
      guest_rooms_count = k.guest_rooms_count;
      cpu_rooms_count = k.cpu_rooms_count;
    }

pub returns : goal.returns
returns g c =
    let p = c.args.parts.now in
    let found = c.args.found in
    let s = p.shared in
    let rows = c.in-Ok-copied_rows.rows.runs in
    let copied : rows ≡ c.runs-rows.result.now = c.in-Ok-copied_rows.ensures in
    let same : rows ≡ s.owners = copied ∙ c.runs-rows.ensures.runs in
    let maps : run_map advance_row rows ≡ run_map advance_row s.owners = ap (run_map advance_row) same in
    let scratch : (f : ℕ) → run_map advance_row rows f ≡ elim (is_memory (layout_of found.layout) f) [ true ↦ Some (row_of (layout_of found.layout) (ghost_state found).contents f) | false ↦ None ] =
    λ f. ap (λ x. run_map advance_row x f) copied ∙ c.in-Ok.ensures.0 c.if-not-are_kept.false f in
    let m = c.is_kept.ensures.0 c.if-not-is_kept.false in
    let frames : (f : ℕ) → is_some (run_map advance_row rows f) ≡ is_memory (parts_layout p) f =
    λ f. kept_frames p rows maps f in
    subst (λ x. IsCompared p (record { kept = x; other = None })) (sym c.of_kept.ensures) (record {
      state = ap (found_state (row_in rows)) c.requires.state ∙ same_rows p rows maps;
      layout = c.requires.layout;
      maplets = record { host = m.host; hyp = m.hyp; guests = m.guests };
      rows = maps;
      frames = frames;
      walked = walked (parts_layout p) (state_of p) _ (ghost_state found) rows c.requires.state
          (subst
          (λ (l : Layout). (f : ℕ)
          → run_map advance_row rows f
          ≡ elim (is_memory l f)
          [ true ↦ Some (row_of l (ghost_state found).contents f) | false ↦ None ]) c.requires.layout
          scratch);
      walked_layout = c.requires.layout;
      walked_frames = frames;
    })
