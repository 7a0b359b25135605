use Rattle.std.proofs.Common.{◌≡◌, ◌∙◌, ◌++◌, ap, subst}
use Rattle.std.specs.Prelude.{string_bytes}
use Rattle.hypercalls.specs.Stands.{parts_layout}
use Rattle.owner_table.specs.Rows.{row_at}
use Rattle.page_state.specs.Layouts.{is_memory}
use Rattle.page_state.specs.Rows.{advance_row, plain_row}
use Rattle.run_list.specs.Runs.{IsCoarsest}
use Rattle.trace_draw.specs.Texts.{text_of_runs, text_of_slots}
use Rattle.trace_draw.proofs.Told.{row_told}
use Rattle.trace_draw.proofs.snapshot.write_world.Goals as goal
use Rattle.vm_table.specs.View.{vms_of}

pub returns : goal.returns
returns g c =
    let p = c.args.world.now.parts in
    let same = c.parts-parts.ensures in
    let slots = text_of_slots (vms_of c.parts-parts.result.now.vms.table).slot 64 in
    let runs =
    c.in_ok-write_runs.ensures ∙ ap (λ t. t ++ text_of_runs c.runs.result.now) c.requires
    ∙ ap text_of_runs (c.runs.ensures.runs ∙ ap (λ q. q.shared.owners) same) in
    record {
      runs = p.shared.owners;
      of_machine = record {
        coarsest = subst (λ q. IsCoarsest advance_row q.shared.owners) same c.runs.ensures.coarsest;
        rows = λ f. row_told (row_at p.shared.owners f) plain_row (is_memory (parts_layout p) f) (p.rows f);
      };
      text_is =
          c.in_ok-write_slots.ensures ∙ ap (λ t. t ++ slots) runs
          ∙ ap (λ q. text_of_runs p.shared.owners ++ text_of_slots (vms_of q.vms.table).slot 64) same;
    }
