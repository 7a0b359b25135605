use Rattle.std.proofs.Common.{◌≡◌, ℕ, subst, true, false, Some, None}
use Rattle.page_state.specs.Layouts.{Layout, is_memory}
use Rattle.page_state.specs.Rows.{advance_row}
use Rattle.reference_model.specs.model.Owner.{row_of}
use Rattle.run_list.specs.Runs.{run_map}
use Rattle.hypercalls.specs.Stands.{parts_layout, state_of}
use Rattle.ghost_spec.specs.States.{ghost_state}
use Rattle.ghost_oracle.proofs.Scratch.{rows_of, walked}
use Rattle.ghost_oracle.proofs.kept.with_scratch.Goals as goal

pub returns-clause-state : goal.returns-clause-state
returns-clause-state g c =
    walked (parts_layout c.args.parts.now) (state_of c.args.parts.now) _
    (ghost_state c.args.found) c.in-Ok.rows.runs c.requires.state
    (subst
    (λ (l : Layout). (f : ℕ)
    → run_map advance_row c.in-Ok.rows.runs f
    ≡ elim (is_memory l f)
    [ true ↦ Some (row_of l (ghost_state c.args.found).contents f) | false ↦ None ]) c.requires.layout
    c.in-Ok.ensures.rows)

pub returns-clause-frames : goal.returns-clause-frames
returns-clause-frames g c =
    rows_of (parts_layout c.args.parts.now)
    (row_of (parts_layout c.args.parts.now) (ghost_state c.args.found).contents) c.in-Ok.rows.runs
    (subst
    (λ (l : Layout). (f : ℕ)
    → run_map advance_row c.in-Ok.rows.runs f
    ≡ elim (is_memory l f)
    [ true ↦ Some (row_of l (ghost_state c.args.found).contents f) | false ↦ None ]) c.requires.layout
    c.in-Ok.ensures.rows)

pub rows_from_scratch-requires : goal.rows_from_scratch-requires
rows_from_scratch-requires g c =
    record {
      host = c.requires.trees.shared.host;
      hyp = c.requires.trees.shared.hyp;
      guests = c.requires.trees.guests;
      guests_count = c.requires.trees.guests_count;
      cpus_count = c.requires.trees.cpus_count;
    }

pub returns-clause-kept : goal.returns-clause-kept
returns-clause-kept g c = λ kept. record {
  shared = record { host = kept.shared.host; hyp = kept.shared.hyp; rows = c.in-Ok.ensures.reach };
  guests = kept.guests;
  cpus = kept.cpus;
  vms_count = kept.vms_count;
  guests_count = kept.guests_count;
  cpus_count = kept.cpus_count;
  guest_rooms_count = kept.guest_rooms_count;
  cpu_rooms_count = kept.cpu_rooms_count;
}
