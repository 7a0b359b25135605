use Rattle.std.proofs.Common.{◌++◌, ◌∙◌, ap}
use Rattle.std.specs.Prelude.{codes, string_bytes}
use Rattle.image_dump.specs.Pictures.{entry, owners, title}
use Rattle.image_dump.proofs.Pictured.{four_written}
use Rattle.image_dump.proofs.picture.write_owners.Goals as goal

pub returns : goal.returns
unfolding owners
returns c =
    four_written c.write_entry-3.result (string_bytes c.args.svg.now) title _ _ _ _ (string_bytes c.write_title.new.svg)
    (string_bytes c.write_entry.new.svg) (string_bytes c.write_entry-2.new.svg)
    (string_bytes c.write_entry-3.new.svg) c.in_ok-write_title.ensures
    (c.in_ok-write_entry.ensures
    ∙ ap (λ l. string_bytes c.write_title.new.svg ++ entry 12 34 l (codes "host")) c.owned.ensures)
    (c.in_ok-write_entry-2.ensures
    ∙ ap (λ l. string_bytes c.write_entry.new.svg ++ entry 110 34 l (codes "hypervisor")) c.owned-2.ensures)
    (ap (λ l. entry 250 34 l (codes "guest 0, and so on")) c.owned-3.ensures) c.write_entry-3.ensures
