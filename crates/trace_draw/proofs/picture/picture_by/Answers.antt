use Rattle.std.proofs.Common.{length, subst, sym}
use Rattle.std.specs.Prelude.{string_bytes}
use Rattle.trace_draw.specs.Pictures.{AreDrawn}
use Rattle.trace_draw.proofs.Placed.{picture_with}
use Rattle.trace_draw.proofs.picture.picture_by.Goals as goal

pub returns : goal.returns
returns c =
    picture_with string_bytes c.written.result c.args.columns.now c.in_ok-size.size c.as_slice-4.result.now
    c.as_slice-5.result.now c.as_slice-6.result.now
    c.in_ok-places.places.edges.items c.in_ok-places.ensures
    (subst (λ es. AreDrawn es c.in_ok-places.places.edges.items (length c.args.columns.now))
    (sym c.as_slice-5.ensures.value) c.in_ok-add_cells.ensures) c.written.ensures
