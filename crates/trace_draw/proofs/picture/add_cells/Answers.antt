use Rattle.std.proofs.Common.{◌∙◌, OnOk, ap, length, subst}
use Rattle.trace_draw.specs.Pictures.{AreDrawn}
use Rattle.trace_draw.proofs.picture.add_cells.Goals as goal

pub returns : goal.returns
returns c =
    subst (λ n. OnOk c.add_last.result (AreDrawn c.add_last.new.items.items c.args.places.now.edges.items n))
    (ap length c.as_slice-2.ensures.value ∙ c.in_ok-cells.ensures) c.add_last.ensures
