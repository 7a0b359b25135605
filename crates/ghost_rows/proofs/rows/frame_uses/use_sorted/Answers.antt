use Rattle.std.proofs.Common.{◌∙◌, ap, Bool}
use Rattle.std.specs.Option.{option_or}
use Rattle.page_state.specs.Rows.{advance_row}
use Rattle.reference_model.specs.model.Owner.{is_free}
use Rattle.run_list.specs.Runs.{run_map}
use Rattle.ghost_rows.specs.RowsLaid.{used_if}
use Rattle.ghost_rows.proofs.TableFrames.{free_sorted}
use Rattle.ghost_rows.proofs.rows.frame_uses.use_sorted.Goals as goal

pub returns-clause-map : goal.returns-clause-map
returns-clause-map c = λ f less.
    c.in_ok-use_frames.ensures.map f less
    ∙ ap (λ (b : Bool). option_or (used_if b c.args.usage) (run_map advance_row c.args.rows.now.runs f))
    (ap (λ xs. is_free xs f) c.as_slice.ensures.value
    ∙ free_sorted c.args.frames.items c.sort_unstable.new.self.items f c.sort_unstable.ensures.permutation)
