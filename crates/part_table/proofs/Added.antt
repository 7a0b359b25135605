-- The tries that a call added.
use Rattle.std.proofs.Common.{◌≡◌, ℕ, List, [], ◌∷◌, length, map, refl, sym, ap, ◌∙◌}
use Rattle.std.proofs.lemmas.List.{append_cancel_left}
use Rattle.part_table.specs.Known.{AddsTries, Known, Try}

abbrev pub timed : ℕ → List Try → List (ℕ × Try)
timed n ts = map (λ t. (n, t)) ts

untimed : (n : ℕ) (ts : List Try) → map (λ (e : ℕ × Try). e.1) (timed n ts) ≡ ts
untimed n [] = refl
untimed n (t ∷ ts) = ap (λ (l : List Try). t ∷ l) (untimed n ts)

-- are told by what is known before and after it
pub same_tries : (v w : Known) (ts us : List Try) → AddsTries ts v w → AddsTries us v w → ts ≡ us
same_tries v w ts us a b =
    let n = length v.own.log.calls in
    sym (untimed n ts)
    ∙ (ap (map (λ (e : ℕ × Try). e.1)) (append_cancel_left v.tries (timed n ts) (timed n us) (sym a ∙ b))
    ∙ untimed n us)
