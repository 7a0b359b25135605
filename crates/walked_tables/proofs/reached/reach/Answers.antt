use Rattle.std.proofs.Common.{◌∙◌, ap, sym}
use Rattle.walked_tables.specs.Reached.{reached_of}
use Rattle.walked_tables.proofs.MetTables.{again, none_met}
use Rattle.walked_tables.proofs.reached.reach.Goals as goal

pub returns-in-Some-clause-stopped : goal.returns-in-Some-clause-stopped
returns-in-Some-clause-stopped c =
    again c.args.met.now.items c.args.next c.in-Some.first c.requires.apart
    (ap (λ m. reached_of m c.args.next.frame) (sym c.as_slice.ensures.value) ∙ sym c.of_frame.ensures
    ∙ c.in-Some.is)

pub returns-clause-fresh : goal.returns-clause-fresh
returns-clause-fresh c =
    none_met c.args.met.now.items c.args.next.frame
    (ap (λ m. reached_of m c.args.next.frame) (sym c.as_slice.ensures.value) ∙ sym c.of_frame.ensures
    ∙ c.in_default.is)
