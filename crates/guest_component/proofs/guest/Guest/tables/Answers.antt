use Rattle.std.proofs.Common.{◌+◌, is_some, refl, sym, ap, ◌∙◌}
use Rattle.reference_model.specs.model.State.{no_guest}
use Rattle.reference_model.specs.model.GuestRules.{guest_table_count}
use Rattle.reference_model.proofs.Frames.{count_blocks-none}
use Rattle.guest_component.specs.View.{guest_in}
use Rattle.guest_component.proofs.guest.Guest.tables.Goals as goal

pub returns-in-None-clause-value : goal.returns-in-None-clause-value
returns-in-None-clause-value g c l e =
    sym
    (ap (λ o. guest_table_count l (guest_in o).tree) c.in-None.is
    ∙ count_blocks-none (l.depth + 1) (l.depth + 1) (λ b. is_some (no_guest.tree.table b)) (λ b. refl))
