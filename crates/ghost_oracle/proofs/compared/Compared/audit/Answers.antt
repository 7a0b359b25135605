use Rattle.std.proofs.Common.{refl, ap, subst, sym}
use Rattle.std.specs.Prelude.{unwrap_or, IfSome}
use Rattle.ghost_judge.specs.Audits.{IsFirstDifference}
use Rattle.ghost_spec.specs.States.{contents_in}
use Rattle.ghost_oracle.proofs.Comparing.{none_differs}
use Rattle.ghost_oracle.proofs.compared.Compared.audit.Goals as goal

pub returns-in-None-clause-none : goal.returns-in-None-clause-none
returns-in-None-clause-none c =
    (λ h. none_differs _ _ (ap (λ o. contents_in (unwrap_or o c.args.self.now.kept)) (sym c.in-None.is)), λ h. refl)

pub returns-in-Some-clause-first : goal.returns-in-Some-clause-first
returns-in-Some-clause-first c =
    subst
    (λ o. IfSome c.audit.result
    (IsFirstDifference (contents_in c.args.self.now.kept) (contents_in (unwrap_or o c.args.self.now.kept))))
    (sym c.in-Some.is) c.audit.ensures.first
