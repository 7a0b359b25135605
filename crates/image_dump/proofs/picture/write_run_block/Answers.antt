use Rattle.std.proofs.Common.{◌++◌, ◌∙◌, ap, ap₂}
use Rattle.std.specs.Prelude.{string_bytes}
use Rattle.std.specs.List.{flat_map}
use Rattle.svg_elements.specs.Items.{text_of_words}
use Rattle.svg_elements.specs.declared.item.Style.TheVariants as style
use Rattle.image_dump.specs.Pictures.{area, block, block_area, head, text_of_shown}
use Rattle.image_dump.proofs.Pictured.{two_written}
use Rattle.image_dump.proofs.picture.write_run_block.Goals as goal

pub returns : goal.returns
returns c =
    let old = string_bytes c.args.svg.now in
    let at = c.args.at in
    let place = c.area-place.ensures ∙ ap (λ w. area at.x at.y w 26) c.saturating_sub.ensures in
    let first =
    c.in_ok-write_block.ensures
    ∙ ap (λ a. old ++ flat_map text_of_shown (block a c.args.look c.args.line.now)) place in
    let over =
    ap₂ (λ x y. text_of_words (head x y style.Edge) c.args.page.now) c.saturating_add-x.ensures
    c.saturating_sub-y.ensures in
    two_written c.write_at.result old
    (flat_map text_of_shown (block (block_area at c.args.width) c.args.look c.args.line.now)) _ _
    (string_bytes c.write_block.new.svg) (string_bytes c.write_at.new.svg) first over c.write_at.ensures
