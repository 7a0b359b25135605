use Rattle.std.proofs.Common.{◌∙◌, ap, sym, map, subst, All, arith}
use Rattle.page_state.specs.Rows.{advance_row}
use Rattle.reference_model.specs.model.State.{Reference, Shared}
use Rattle.run_list.specs.Runs.{run_map}
use Rattle.guest_component.specs.View.{runs_of}
use Rattle.part_types.specs.View.{shared_of, guest_held}
use Rattle.hypercalls.specs.Stands.{state_of}
use Rattle.ghost_spec.specs.Views.{shared_in_lists}
use Rattle.ghost_oracle.specs.Found.{found_state}
use Rattle.ghost_oracle.specs.Low.{IsLowGuest}
use Rattle.ghost_oracle.proofs.Founds.{own_row}
use Rattle.ghost_oracle.proofs.LowParts.{low_guests, low_cpus}
use Rattle.ghost_oracle.proofs.Scratch.{kept_frames, if_ok}
use Rattle.ghost_oracle.proofs.kept.with_kept.Goals as goal

pub shared_with_maplets-requires-clause-host : goal.shared_with_maplets-requires-clause-host
shared_with_maplets-requires-clause-host g c = ap (λ (r : Reference). r.contents.shared.host) c.requires.state

pub shared_with_maplets-requires-clause-hyp : goal.shared_with_maplets-requires-clause-hyp
shared_with_maplets-requires-clause-hyp g c = ap (λ (r : Reference). r.contents.shared.hyp) c.requires.state

pub shared_with_maplets-requires-clause-free : goal.shared_with_maplets-requires-clause-free
shared_with_maplets-requires-clause-free g c = ap (λ (r : Reference). r.contents.shared.free) c.requires.state

pub guests_with_maplets-requires-clause-found : goal.guests_with_maplets-requires-clause-found
guests_with_maplets-requires-clause-found g c =
    rw (c.as_slice.ensures.value, c.as_slice-2.ensures.value)
    (ap (λ (r : Reference). r.contents.guest) c.requires.state)

pub guests_with_maplets-requires-clause-count : goal.guests_with_maplets-requires-clause-count
guests_with_maplets-requires-clause-count g c =
    rw (c.as_slice.ensures.value, c.as_slice-2.ensures.value)
    (omega (arith, c.requires.kept.guests_count, c.args.parts.now.slots, c.args.parts.now.guests.ok.0))

pub guests_with_maplets-requires-clause-low : goal.guests_with_maplets-requires-clause-low
guests_with_maplets-requires-clause-low g c =
    subst (All (λ p. IsLowGuest (guest_held p))) (sym c.as_slice-2.ensures.value)
    (low_guests c.args.parts.now c.requires.history)

pub ghost_with-requires : goal.ghost_with-requires
ghost_with-requires g c = record {
  shared =
      own_row (shared_in_lists c.in_ok-shared.shared) (shared_of c.args.parts.now.shared)
      (shared_of c.args.parts.now.shared).row c.in_ok-shared.ensures.shared;
  guests = c.in_ok-guests.ensures.guests ∙ ap (map guest_held) c.as_slice-2.ensures.value;
  shared_kept = c.in_ok-shared.ensures.kept;
  trees = λ k d less. (c.in_ok-guests.ensures.kept k d less).tree;
}

pub returns-clause-state : goal.returns-clause-state
returns-clause-state g c =
    if_ok _ _ c.ghost_with.result
    (λ x e. e.state
    ∙ ap
    (λ (s : Shared). found_state s.row
    (state_of c.args.parts.now)) c.in_ok-shared.ensures.shared) c.ghost_with.ensures.with

pub returns-clause-layout : goal.returns-clause-layout
returns-clause-layout g c = if_ok _ _ c.ghost_with.result (λ x e. e.layout) c.ghost_with.ensures.with

pub returns-clause-kept : goal.returns-clause-kept
returns-clause-kept g c =
    c.ghost_with.ensures.kept c.in_ok-guests.ensures.kept (low_cpus c.args.parts.now c.requires.history)

pub returns-clause-maplets : goal.returns-clause-maplets
returns-clause-maplets g c = if_ok _ _ c.ghost_with.result (λ x e. record {
  host = ap (λ s. s.host.runs.items) e.shared ∙ c.in_ok-shared.ensures.host;
  hyp = ap (λ s. s.hyp.runs.items) e.shared ∙ c.in_ok-shared.ensures.hyp;
  guests =
      ap (λ xs. map (λ x. x.tree.runs.items) xs.items) e.guests ∙ c.in_ok-guests.ensures.runs
      ∙ ap (map (λ x. runs_of x.guest.body)) c.as_slice-2.ensures.value;
}) c.ghost_with.ensures.with

pub returns-clause-rows : goal.returns-clause-rows
returns-clause-rows g c =
    if_ok _ _ c.ghost_with.result
    (λ x e. ap (λ s. run_map advance_row s.rows.runs) e.shared
    ∙ ap (run_map advance_row) c.in_ok-shared.ensures.rows) c.ghost_with.ensures.with

pub returns-clause-frames : goal.returns-clause-frames
returns-clause-frames g c =
    if_ok _ _ c.ghost_with.result
    (λ x e. kept_frames c.args.parts.now x.shared.rows.runs
    (ap (λ s. run_map advance_row s.rows.runs) e.shared
    ∙ ap (run_map advance_row) c.in_ok-shared.ensures.rows)) c.ghost_with.ensures.with
