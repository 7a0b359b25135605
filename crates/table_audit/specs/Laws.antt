-- States that agree have no finding, and all others have one.
use Rattle.std.specs.Prelude.{◌≡◌}
use Rattle.page_state.specs.Layouts.{Layout}
use Rattle.reference_model.specs.model.State.{Contents}
use Rattle.ghost_sound.specs.declared.finding.Unsound.TheVariants.{TwoOwners, TwoBorrowers, NoShare}
use Rattle.table_audit.specs.declared.finding.Finding.{Finding}
use Rattle.table_audit.specs.declared.finding.Finding.TheVariants.{Differs, Table as TableDiffers, Unsound, Illegal}
use Rattle.table_audit.specs.Audited.{IsFirstFinding, IsWell}

-- if all agrees and is legal, nothing is found
abbrev pub WellElse : Type 0
WellElse =
    (l : Layout) (kept walked : Contents) (f : Finding)
    → IsWell l kept walked
    → IsFirstFinding l kept walked f
    → ⊥

-- two findings are one difference, tables of one tree, places of one kind, or both of sound maps
abbrev pub AreAlike : Finding → Finding → Type 0
AreAlike (Differs d) (Differs e) = d ≡ e
AreAlike (TableDiffers tree height index x y) (TableDiffers other level number z w) = tree ≡ other
AreAlike (Unsound (TwoOwners f one other)) (Unsound (TwoOwners g two another)) = Unit {0}
AreAlike (Unsound (TwoBorrowers f one other)) (Unsound (TwoBorrowers g two another)) = Unit {0}
AreAlike (Unsound (NoShare f at)) (Unsound (NoShare g place)) = Unit {0}
AreAlike (Illegal why) (Illegal other) = Unit {0}
AreAlike found other = ⊥

-- two first findings are alike: only which block of a tree, which places, or what of a state with
-- sound maps isn't legal, is left open
abbrev pub FindingOnce : Type 0
FindingOnce =
    (l : Layout) (kept walked : Contents) (f g : Finding)
    → IsFirstFinding l kept walked f
    → IsFirstFinding l kept walked g
    → AreAlike f g
