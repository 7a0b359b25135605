use Rattle.std.proofs.Common.{◌||◌, ap, sym, ◌∙◌}
use Rattle.reference_model.specs.model.Owner.{is_frame, is_free}
use Rattle.ghost_rows.proofs.TableFrames.{free_push}
use Rattle.ghost_rows.proofs.rows.frame_uses.push_found.Goals as goal

pub returns-in_ok-push : goal.returns-in_ok-push
returns-in_ok-push c f =
    let frames = c.args.frames.now.items in
    ap (λ xs. is_free xs f) c.in_ok-push.ensures.items ∙ free_push frames c.in-Some.frame f
    ∙ ap (λ o. is_free frames f || is_frame f o) (sym c.in-Some.is)
