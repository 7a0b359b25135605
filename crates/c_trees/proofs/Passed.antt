-- Faults that a call passes on.
use Rattle.std.proofs.Common.{◌≡◌, sym, subst}
use Rattle.std.specs.Prelude.{IfErr, IsErrAnd, Result, Ok, Err}
use Rattle.std.proofs.lemmas.Result.{IfErr-at_err}

-- as another
pub passed_as : {T U E F : Type 0} (f : E → F) (P : E → Type 0) (Q : F → Type 0) (r : Result T F) (s : Result U E)
    (e : E)
    → s ≡ Err e
    → IsErrAnd r (λ z. z ≡ f e)
    → ((x : E) → P x → Q (f x))
    → IfErr s P
    → IfErr r Q
passed_as f P Q (Ok x) s e is same more h = tt
passed_as f P Q (Err y) s e is same more h = subst Q (sym same) (more e (IfErr-at_err P is h))

-- or as it is
pub passed_on : {T U E : Type 0} (P Q : E → Type 0) (r : Result T E) (s : Result U E) (e : E)
    → s ≡ Err e
    → IsErrAnd r (λ z. z ≡ e)
    → ((x : E) → P x → Q x)
    → IfErr s P
    → IfErr r Q
passed_on P Q r s e is same more h = passed_as (λ x. x) P Q r s e is same more h
