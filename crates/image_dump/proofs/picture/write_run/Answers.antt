use Rattle.std.proofs.Common.{◌≡◌, ◌++◌, ◌∙◌, OnOk, ap, subst}
use Rattle.std.specs.Prelude.{string_bytes}
use Rattle.std.specs.List.{flat_map}
use Rattle.image_dump.specs.Pictures.{block_at, placed, text_of_shown, width_of}
use Rattle.image_dump.proofs.picture.write_run.Goals as goal

pub returns : goal.returns
returns c =
    let r = c.write_run_at.result in
    let fs = c.args.findings.now in
    let old = string_bytes c.args.svg.now in
    let new = string_bytes c.write_run_at.new.svg in
    let width = width_of c.args.run.pages.count in
    let at = c.placed-at.ensures ∙ ap (placed c.args.pen) c.width_of-width.ensures in
    subst
    (λ w. OnOk r (new ≡ old ++ flat_map text_of_shown (block_at fs (placed c.args.pen width) w c.args.run)))
    c.width_of-width.ensures
    (subst
    (λ a. OnOk r (new ≡ old ++ flat_map text_of_shown (block_at fs a c.width_of-width.result c.args.run)))
    at c.write_run_at.ensures)
