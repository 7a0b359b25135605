use Rattle.std.proofs.Common.{◌++◌, ◌∙◌, ap, ap₂}
use Rattle.std.specs.Prelude.{string_bytes}
use Rattle.std.specs.List.{flat_map}
use Rattle.svg_elements.specs.Items.{text_of_words}
use Rattle.svg_elements.specs.declared.item.Style.TheVariants as style
use Rattle.image_dump.specs.Pictures.{area, block, entry, head, text_of_shown}
use Rattle.image_dump.proofs.Pictured.{two_written}
use Rattle.image_dump.proofs.picture.write_entry.Goals as goal

pub returns : goal.returns
unfolding entry
returns c =
    let old = string_bytes c.args.svg.now in
    let text = c.args.text.now in
    let first =
    c.in_ok-write_block.ensures
    ∙ ap (λ a. old ++ flat_map text_of_shown (block a c.args.look text)) c.area.ensures in
    let over =
    ap₂ (λ x y. text_of_words (head x y style.Label) text) c.saturating_add-right.ensures
    c.saturating_add-line.ensures in
    two_written c.write_at.result old
    (flat_map text_of_shown (block (area c.args.x c.args.y 26 13) c.args.look text)) _ _
    (string_bytes c.write_block.new.svg) (string_bytes c.write_at.new.svg) first over c.write_at.ensures
