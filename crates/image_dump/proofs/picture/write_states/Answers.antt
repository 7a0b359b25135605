use Rattle.std.proofs.Common.{◌++◌, ◌∙◌, ap}
use Rattle.std.specs.Prelude.{codes, string_bytes}
use Rattle.image_dump.specs.Pictures.{entry, states}
use Rattle.image_dump.proofs.Pictured.{four_written}
use Rattle.image_dump.proofs.picture.write_states.Goals as goal

pub returns : goal.returns
unfolding states
returns c =
    four_written c.write_entry-4.result (string_bytes c.args.svg.now) _ _ _ _ _
    (string_bytes c.write_entry.new.svg) (string_bytes c.write_entry-2.new.svg)
    (string_bytes c.write_entry-3.new.svg) (string_bytes c.write_entry-4.new.svg)
    (c.in_ok-write_entry.ensures
    ∙ ap (λ l. string_bytes c.args.svg.now ++ entry 440 34 l (codes "shared, in black")) c.over-shared.ensures)
    (c.in_ok-write_entry-2.ensures
    ∙ ap
    (λ l. string_bytes c.write_entry.new.svg
    ++ entry 590 34 l (codes "borrowed, in its tree's colour")) c.over-borrowed.ensures)
    (c.in_ok-write_entry-3.ensures
    ∙ ap (λ l. string_bytes c.write_entry-2.new.svg ++ entry 820 34 l (codes "no known state"))
    c.over-unknown.ensures)
    (ap (λ l. entry 12 54 l (codes "a guest's, by its handle")) c.over-guest.ensures) c.write_entry-4.ensures
