use Rattle.std.proofs.Common.{[], None, ap, get_or, length, map, ◌∙◌}
use Rattle.std.specs.List.{range_with_len}
use Rattle.ghost_spec.specs.States.{contents_in}
use Rattle.ghost_spec.specs.Views.{cpu_in}
use Rattle.ghost_spec.specs.declared.parts.GhostSlot.{GhostSlot}
use Rattle.c_states.specs.States.{Lists}
use Rattle.c_states.specs.Told.{guest_head_in, in_pool_order, slot_head_in}
use Rattle.c_states.proofs.ToldStates.{at_ok, first_ok, second_ok, told_contents}
use Rattle.std.proofs.Common.{◌≡◌, ◌≤◌, arith, subst}
use Rattle.c_states.specs.declared.members.PlainCpu.{PlainCpu}
use Rattle.c_states.specs.declared.members.PlainGuest.{PlainGuest}
use Rattle.c_states.specs.declared.members.PlainSlot.{PlainSlot}
use Rattle.c_states.specs.Known.{is_frame, is_guest, is_row, is_run, is_slot, is_table}
use Rattle.c_states.specs.Told.{is_cpu_well_formed, AreKnown, AreLoads}
use Rattle.c_states.proofs.ToldKnown.{numbers_once}
use Rattle.c_states.proofs.told.lists_of.Goals as goal

pub returns-clause-said : goal.returns-clause-said
returns-clause-said c =
    let e = c.in_ok-runs.ensures in
    let maps = second_ok e.first c.both-2.ensures.second in
    let vms = first_ok e.second c.both-6.ensures.first in
    let rest = second_ok e.second c.both-6.ensures.second in
    let last = second_ok rest c.both-5.ensures.second in
    let runs = first_ok e.first c.both-2.ensures.first in
    let tables = first_ok maps c.both.ensures.first in
    let frames = second_ok maps c.both.ensures.second in
    let slots = first_ok vms c.both-3.ensures.first in
    let loads = second_ok vms c.both-3.ensures.second in
    let guests = first_ok rest c.both-5.ensures.first in
    let cpus = first_ok last c.both-4.ensures.first in
    let rows = second_ok last c.both-4.ensures.second in
    let all = c.lists-lists.ensures.value in
    let known = c.lists-lists.ensures.kept in
    let told : Lists =
    record {
      runs = c.in_ok-runs.runs.items;
      tables = c.in_ok-runs.tables.items;
      frames = c.in_ok-runs.frames.items;
      slots =
          c.in_ok-runs.slots.items;
      loads =
          c.in_ok-runs.loads.items;
      guests =
          c.in_ok-runs.guests.items;
      cpus = c.in_ok-runs.cpus.items;
      rows = c.in_ok-runs.rows.items;
    } in
    told_contents told c.lists-lists.result.now (ap (λ x. length x.vms.items) all ∙ known.vms_count)
    (ap (λ x. length x.guests.items) all ∙ known.guests_count) (record {
      host_runs = at_ok runs _ c.runs_to_c-runs.ensures.host;
      hyp_runs = at_ok runs _ c.runs_to_c-runs.ensures.hyp;
      guest_runs = at_ok runs _ c.runs_to_c-runs.ensures.guests;
      host_tables = at_ok tables _ c.tables_to_c-tables.ensures.host;
      hyp_tables = at_ok tables _ c.tables_to_c-tables.ensures.hyp;
      guest_tables = at_ok tables _ c.tables_to_c-tables.ensures.guests;
      shared_frames = at_ok frames _ c.frames_to_c-frames.ensures.shared;
      guest_frames = at_ok frames _ c.frames_to_c-frames.ensures.guests;
      slot_numbers =
          at_ok slots _ c.slots_to_c-slots.ensures.numbers
          ∙ ap (λ xs. map (λ n. n) (range_with_len 0 (length xs))) c.as_slice.ensures.value;
      slot_heads = at_ok slots _ c.slots_to_c-slots.ensures.heads ∙ ap (map slot_head_in) c.as_slice.ensures.value;
      loads =
          λ s k. at_ok loads _ c.loads_to_c-loads.ensures.said s k
          ∙ ap
          (λ xs. get_or
          (get_or (map (λ (x : GhostSlot). x.loaded.items) xs) s []) k None) c.as_slice-2.ensures.value;
      guest_numbers =
          at_ok guests _ c.guests_to_c-guests.ensures.numbers
          ∙ ap (λ xs. map (λ n. n) (range_with_len 0 (length xs))) c.as_slice-3.ensures.value;
      guest_heads =
          at_ok guests _ c.guests_to_c-guests.ensures.heads ∙ ap (map guest_head_in) c.as_slice-3.ensures.value;
      cpu_numbers =
          at_ok cpus _ c.cpus_to_c-cpus.ensures.numbers
          ∙ ap (λ xs. map (λ n. n) (range_with_len 0 (length xs))) c.as_slice-4.ensures.value;
      cpus_said = at_ok cpus _ c.cpus_to_c-cpus.ensures.said ∙ ap (map cpu_in) c.as_slice-4.ensures.value;
      rows = at_ok rows _ c.rows_to_c-rows.ensures.said ∙ c.runs.ensures.runs;
    }) ∙ ap (λ x. in_pool_order (contents_in x)) all

pub returns-clause-told : goal.returns-clause-told
returns-clause-told c =
    let e = c.in_ok-runs.ensures in
    let maps = second_ok e.first c.both-2.ensures.second in
    let vms = first_ok e.second c.both-6.ensures.first in
    let rest = second_ok e.second c.both-6.ensures.second in
    let last = second_ok rest c.both-5.ensures.second in
    let runs = first_ok e.first c.both-2.ensures.first in
    let tables = first_ok maps c.both.ensures.first in
    let frames = second_ok maps c.both.ensures.second in
    let slots = first_ok vms c.both-3.ensures.first in
    let loads = second_ok vms c.both-3.ensures.second in
    let guests = first_ok rest c.both-5.ensures.first in
    let cpus = first_ok last c.both-4.ensures.first in
    let rows = second_ok last c.both-4.ensures.second in
    let all = c.lists-lists.ensures.value in
    let known = c.lists-lists.ensures.kept in
    let vms_count : length c.as_slice.result.now ≡ 64 =
    ap length c.as_slice.ensures.value ∙ (ap (λ x. length x.vms.items) all ∙ known.vms_count) in
    let loads_count : length c.as_slice-2.result.now ≡ 64 =
    ap length c.as_slice-2.ensures.value ∙ (ap (λ x. length x.vms.items) all ∙ known.vms_count) in
    let guests_count : length c.as_slice-3.result.now ≡ 64 =
    ap length c.as_slice-3.ensures.value ∙ (ap (λ x. length x.guests.items) all ∙ known.guests_count) in
    let cpus_count : length c.as_slice-4.result.now ≡ c.args.state.now.layout.config.cpus =
    ap length c.as_slice-4.ensures.value ∙ (ap (λ x. length x.cpus.items) all ∙ known.cpus_count) in
    record {
      runs = at_ok runs (λ v. AreKnown is_run v.items) c.runs_to_c-runs.ensures.known;
      tables = at_ok tables (λ v. AreKnown is_table v.items) c.tables_to_c-tables.ensures.known;
      frames = at_ok frames (λ v. AreKnown is_frame v.items) c.frames_to_c-frames.ensures.known;
      slots =
          at_ok slots
          (λ v. length c.as_slice.result.now ≤ 64 → AreKnown is_slot v.items) c.slots_to_c-slots.ensures.known
          (omega (arith, vms_count));
      loads =
          at_ok loads (λ v. length c.as_slice-2.result.now ≤ 64 → AreLoads v.items) c.loads_to_c-loads.ensures.known
          (omega (arith, loads_count));
      guests =
          at_ok guests
          (λ v. length c.as_slice-3.result.now ≤ 64 → AreKnown is_guest v.items) c.guests_to_c-guests.ensures.known
          (omega (arith, guests_count));
      cpus_are =
          subst (λ n. AreKnown (is_cpu_well_formed n) c.in_ok-runs.cpus.items) cpus_count
          (at_ok cpus
          (λ v. AreKnown
          (is_cpu_well_formed (length c.as_slice-4.result.now)) v.items) c.cpus_to_c-cpus.ensures.known);
      rows = at_ok rows (λ v. AreKnown is_row v.items) c.rows_to_c-rows.ensures.known;
      once = record {
        slots =
            numbers_once (λ (s : PlainSlot). s.slot) c.in_ok-runs.slots.items (length c.as_slice.result.now)
            (at_ok slots _ c.slots_to_c-slots.ensures.numbers);
        guests =
            numbers_once (λ (g : PlainGuest). g.slot) c.in_ok-runs.guests.items (length c.as_slice-3.result.now)
            (at_ok guests _ c.guests_to_c-guests.ensures.numbers);
        cpus =
            numbers_once (λ (k : PlainCpu). k.cpu) c.in_ok-runs.cpus.items (length c.as_slice-4.result.now)
            (at_ok cpus _ c.cpus_to_c-cpus.ensures.numbers);
      };
    }
