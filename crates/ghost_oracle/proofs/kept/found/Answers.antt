use Rattle.std.proofs.Common.{◌∙◌, All, ap, map, subst, sym}
use Rattle.reference_model.specs.model.State.{Shared}
use Rattle.part_types.specs.View.{shared_of, guest_held}
use Rattle.hypercalls.specs.Stands.{state_of}
use Rattle.ghost_spec.specs.Views.{row_in, shared_in_lists}
use Rattle.ghost_oracle.specs.Found.{found_state}
use Rattle.ghost_oracle.specs.Low.{IsLowGuest}
use Rattle.ghost_oracle.proofs.Founds.{own_row}
use Rattle.ghost_oracle.proofs.LowParts.{low_guests, low_cpus}
use Rattle.ghost_oracle.proofs.Scratch.{if_ok}
use Rattle.std.specs.Prelude.{◌*◌, sum_by}
use Rattle.table_tree.specs.Reading.{count_of}
use Rattle.ghost_oracle.specs.Counted.{guest_tables}
use Rattle.ghost_oracle.specs.inner.Eights.{HasLooked}
use Rattle.ghost_oracle.proofs.Counting.{on_ok, read_parts}
use Rattle.ghost_oracle.proofs.kept.found.Goals as goal

pub ghost_with-requires : goal.ghost_with-requires
ghost_with-requires g c = record {
  shared =
      own_row (shared_in_lists c.in_ok-shared.shared) (shared_of c.args.parts.now.shared)
      (row_in c.new.result.runs) c.in_ok-shared.ensures.shared;
  guests = c.in_ok-guests.ensures.guests ∙ ap (map guest_held) c.as_slice.ensures.value;
  shared_kept = c.in_ok-shared.ensures.kept;
  trees = c.in_ok-guests.ensures.trees;
}

pub returns-clause-kept : goal.returns-clause-kept
returns-clause-kept g c = λ past.
    c.ghost_with.ensures.kept
    (c.in_ok-guests.ensures.kept
    (subst (All (λ p. IsLowGuest (guest_held p))) (sym c.as_slice.ensures.value)
    (low_guests c.args.parts.now past)))
    (low_cpus c.args.parts.now past)

pub returns-clause-layout : goal.returns-clause-layout
returns-clause-layout g c = if_ok _ _ c.ghost_with.result (λ x e. e.layout) c.ghost_with.ensures.with

pub returns-clause-trees : goal.returns-clause-trees
returns-clause-trees g c = if_ok _ _ c.ghost_with.result (λ x e. e.trees) c.ghost_with.ensures.with

pub returns-clause-state : goal.returns-clause-state
returns-clause-state g c =
    if_ok _ _ c.ghost_with.result
    (λ x e. e.state
    ∙ ap (λ (s : Shared). found_state s.row (state_of c.args.parts.now)) c.in_ok-shared.ensures.shared
    ∙ ap
    (λ rs. found_state (row_in rs) (state_of c.args.parts.now)) c.new.ensures) c.ghost_with.ensures.with

pub returns-clause-reads : goal.returns-clause-reads
returns-clause-reads g c =
    let p = c.args.parts.now in
    let guests =
    subst
    (λ gs. HasLooked (count_of c.args.reads.now) (512 * sum_by guest_tables gs)
    (count_of c.guests_from.new.reads)) c.as_slice.ensures.value c.in_ok-guests.ensures.reads in
    on_ok _ c.ghost_with.result
    (read_parts p.shared (count_of c.args.reads.now) (count_of c.guests_from.new.reads)
    (count_of c.shared_from.new.reads) (sum_by guest_tables p.guests.items) guests c.in_ok-shared.ensures.reads)
