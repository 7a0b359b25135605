use Rattle.std.proofs.Common.{◌++◌, ◌∙◌, ap}
use Rattle.std.specs.Prelude.{codes, string_bytes}
use Rattle.image_dump.specs.Pictures.{entry, others}
use Rattle.image_dump.proofs.Pictured.{three_written}
use Rattle.image_dump.proofs.picture.write_others.Goals as goal

pub returns : goal.returns
unfolding others
returns c =
    three_written c.write_entry-3.result (string_bytes c.args.svg.now) _ _ _ _
    (string_bytes c.write_entry.new.svg) (string_bytes c.write_entry-2.new.svg)
    (string_bytes c.write_entry-3.new.svg)
    (c.in_ok-write_entry.ensures
    ∙ ap (λ l. string_bytes c.args.svg.now ++ entry 250 54 l (codes "nobody's")) c.over-nobody.ensures)
    (c.in_ok-write_entry-2.ensures
    ∙ ap (λ l. string_bytes c.write_entry.new.svg ++ entry 370 54 l (codes "words that say nothing"))
    c.over-nothing.ensures)
    (ap (λ l. entry 590 54 l (codes "under what is unsound")) c.over-unsound.ensures) c.write_entry-3.ensures
