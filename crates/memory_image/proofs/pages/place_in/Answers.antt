use Rattle.std.proofs.Common.{◌*◌, sym, ◌∙◌, arith}
use Rattle.memory_image.proofs.Found.{begins_before, found_page, place_fits}
use Rattle.memory_image.proofs.pages.place_in.Goals as goal

pub overflow_sub-result : goal.overflow_sub-result
overflow_sub-result c =
    let s = c.in-Some.segment in
    let at =
    found_page (c.args.frame * 4096) c.args.segments.now s (sym c.segment_with.ensures ∙ c.in-Some.is) c.requires in
    begins_before (c.args.frame * 4096) s at.0

pub overflow_add-result : goal.overflow_add-result
overflow_add-result c =
    let s = c.in-Some.segment in
    let at =
    found_page (c.args.frame * 4096) c.args.segments.now s (sym c.segment_with.ensures ∙ c.in-Some.is) c.requires in
    omega (arith, place_fits (c.args.frame * 4096) s at.0 at.1)
