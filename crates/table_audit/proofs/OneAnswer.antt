-- What agrees has no finding, and all else one.
use Rattle.std.proofs.Common.{◌≡◌, ℕ, Option, refl, ap, arith}
use Rattle.page_state.proofs.Cases.{by_lt}
use Rattle.page_state.specs.Layouts.{Layout}
use Rattle.page_state.specs.Trees.{Block}
use Rattle.reference_model.specs.model.State.{Contents}
use Rattle.ghost_judge.specs.declared.disagreement.TreeOf.{TreeOf}
use Rattle.ghost_judge.specs.declared.disagreement.TreeOf.TheVariants.{Host, Hyp, Guest}
use Rattle.ghost_judge.proofs.OneAnswer.{audit_else, audit_once}
use Rattle.ghost_sound.specs.declared.finding.Place.{Place}
use Rattle.ghost_sound.specs.declared.finding.Unsound.TheVariants.{TwoOwners, TwoBorrowers, NoShare}
use Rattle.ghost_sound.specs.Sound.{AreTwoBorrowers, AreTwoOwners, HasOneBorrower, HasOneOwner}
use Rattle.ghost_sound.proofs.Telling.{not-sound}
use Rattle.table_audit.specs.declared.finding.Finding.{Finding}
use Rattle.table_audit.specs.declared.finding.Finding.TheVariants.{Differs, Table as TableDiffers, Unsound, Illegal}
use Rattle.table_audit.specs.Audited.{IsFirstFinding, IsFirstTableOf}
use Rattle.table_audit.specs.Laws.{AreAlike, FindingOnce, WellElse}
use Rattle.table_audit.specs.Tables.{IsTableReported}
use Rattle.table_audit.proofs.Firsts.{not_first}

pub well_else : WellElse
well_else l kept walked (Differs d) w h = audit_else kept walked d w.agrees.audit h
well_else l kept walked (TableDiffers tree height index x y) w h =
    not_first kept walked (TableDiffers tree height index x y) h.1 w.agrees.tables
well_else l kept walked (Unsound why) w h = h.1.0 w.legal
well_else l kept walked (Illegal why) w h = h.1.0 w.legal

told_else : (f g : Block → Option ℕ) (block : Block) (x y : Option ℕ) → f ≡ g → IsTableReported f g block x y → ⊥
told_else f g block x y e h = h.apart (ap (λ t. t block) e)

one_tree : (kept walked : Contents) (t u : TreeOf) (a b : Block) (x y z w : Option ℕ)
    → IsFirstTableOf kept walked t a x y
    → IsFirstTableOf kept walked u b z w
    → t ≡ u
one_tree kept walked Host Host a b x y z w h k = refl
one_tree kept walked Host Hyp a b x y z w h k = absurd (told_else _ _ a x y k.0 h)
one_tree kept walked Host (Guest v) a b x y z w h k = absurd (told_else _ _ a x y k.0 h)
one_tree kept walked Hyp Host a b x y z w h k = absurd (told_else _ _ b z w h.0 k)
one_tree kept walked Hyp Hyp a b x y z w h k = refl
one_tree kept walked Hyp (Guest v) a b x y z w h k = absurd (told_else _ _ a x y k.1 h.1)
one_tree kept walked (Guest v) Host a b x y z w h k = absurd (told_else _ _ b z w h.0 k)
one_tree kept walked (Guest v) Hyp a b x y z w h k = absurd (told_else _ _ b z w h.1 k.1)
one_tree kept walked (Guest v) (Guest u) a b x y z w h k = by_lt v u
    (λ l. absurd (told_else _ _ a x y (k.2 v l) h.3))
    (λ l. by_lt u v (λ r. absurd (told_else _ _ b z w (h.2 u r) k.3))
    (λ r. let same : v ≡ u = omega (arith, l, r) in ap Guest same))

two_owners : (s : Contents) (f : ℕ) (one other : Place) → HasOneOwner s → AreTwoOwners s f one other → ⊥
two_owners s f one other h k = let e = h f one.tree one.page.0 other.tree other.page.0 k.first k.second in
    k.differ e.0 e.1

two_borrowers : (s : Contents) (f : ℕ) (one other : Place) → HasOneBorrower s → AreTwoBorrowers s f one other → ⊥
two_borrowers s f one other h k = let e = h f one.tree one.page.0 other.tree other.page.0 k.first k.second in
    k.differ e.0 e.1

module _ (l : Layout) (kept walked : Contents) where
  one_finding : (f g : Finding) → IsFirstFinding l kept walked f → IsFirstFinding l kept walked g → AreAlike f g
  one_finding (Differs d) (Differs e) h k = audit_once kept walked d e h k
  one_finding (Differs d) (TableDiffers u c n z w) h k = absurd (audit_else kept walked d k.0 h)
  one_finding (Differs d) (Unsound why) h k = absurd (audit_else kept walked d k.0.audit h)
  one_finding (Differs d) (Illegal why) h k = absurd (audit_else kept walked d k.0.audit h)
  one_finding (TableDiffers t a m x y) (Differs e) h k = absurd (audit_else kept walked e h.0 k)
  one_finding (TableDiffers t a m x y) (TableDiffers u c n z w) h k =
      one_tree kept walked t u (a, m) (c, n) x y z w h.1 k.1
  one_finding (TableDiffers t a m x y) (Unsound why) h k =
      absurd (not_first kept walked (TableDiffers t a m x y) h.1 k.0.tables)
  one_finding (TableDiffers t a m x y) (Illegal why) h k =
      absurd (not_first kept walked (TableDiffers t a m x y) h.1 k.0.tables)
  one_finding (Unsound why) (Differs e) h k = absurd (audit_else kept walked e h.0.audit k)
  one_finding (Unsound why) (TableDiffers u c n z w) h k =
      absurd (not_first kept walked (TableDiffers u c n z w) k.1 h.0.tables)
  one_finding (Unsound (TwoOwners f one other)) (Unsound (TwoOwners g two another)) h k = tt
  one_finding (Unsound (TwoOwners f one other)) (Unsound (TwoBorrowers g two another)) h k =
      absurd (two_owners kept f one other k.1.1.0 h.1.1)
  one_finding (Unsound (TwoOwners f one other)) (Unsound (NoShare g place)) h k =
      absurd (two_owners kept f one other k.1.1.0 h.1.1)
  one_finding (Unsound (TwoBorrowers f one other)) (Unsound (TwoOwners g two another)) h k =
      absurd (two_owners kept g two another h.1.1.0 k.1.1)
  one_finding (Unsound (TwoBorrowers f one other)) (Unsound (TwoBorrowers g two another)) h k = tt
  one_finding (Unsound (TwoBorrowers f one other)) (Unsound (NoShare g place)) h k =
      absurd (two_borrowers kept f one other k.1.1.1 h.1.1.1)
  one_finding (Unsound (NoShare f at)) (Unsound (TwoOwners g two another)) h k =
      absurd (two_owners kept g two another h.1.1.0 k.1.1)
  one_finding (Unsound (NoShare f at)) (Unsound (TwoBorrowers g two another)) h k =
      absurd (two_borrowers kept g two another h.1.1.1 k.1.1.1)
  one_finding (Unsound (NoShare f at)) (Unsound (NoShare g place)) h k = tt
  one_finding (Unsound why) (Illegal other) h k = absurd (not-sound kept why h.1.1 k.1.1)
  one_finding (Illegal why) (Differs e) h k = absurd (audit_else kept walked e h.0.audit k)
  one_finding (Illegal why) (TableDiffers u c n z w) h k =
      absurd (not_first kept walked (TableDiffers u c n z w) k.1 h.0.tables)
  one_finding (Illegal why) (Unsound other) h k = absurd (not-sound kept other k.1.1 h.1.1)
  one_finding (Illegal why) (Illegal other) h k = tt

pub finding_once : FindingOnce
finding_once l kept walked = one_finding l kept walked
