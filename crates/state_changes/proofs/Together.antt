-- Texts in parts.
use Rattle.std.proofs.Common.{◌≡◌, ℕ, zero, suc, ◌+◌, List, [], ◌++◌, refl, sym, ap, subst, ◌∙◌, inl, inr, arith}
use Rattle.std.proofs.lemmas.List.{append_assoc, append-nil}
use Rattle.state_changes.specs.Changed.{ReportsValue, change_line}
use Rattle.state_changes.specs.Together.{Adds, Each, IsOnce, Then}

pub adds_then : (P Q : List ℕ → Type 0) (a b c : List ℕ) → Adds P a b → Adds Q b c → Adds (Then P Q) a c
adds_then P Q a b c (x, p, e) (y, q, f) = (x ++ y, (x, y, p, q, refl), f ∙ ap (λ t. t ++ y) e ∙ append_assoc a x y)

pub adds_none : (P : ℕ → List ℕ → Type 0) (a b : List ℕ) → b ≡ a → Adds (Each 0 P) a b
adds_none P a b e = ([], refl, e ∙ sym (append-nil a))

pub adds_next : (P : ℕ → List ℕ → Type 0) (n : ℕ) (a b c : List ℕ)
    → Adds (Each n P) a b
    → Adds (P n) b c
    → Adds (Each (suc n) P) a c
adds_next P n a b c x y = adds_then (Each n P) (P n) a b c x y

pub adds_more : (P : ℕ → List ℕ → Type 0) (n : ℕ) (a b c : List ℕ)
    → Adds (Each n P) a b
    → Adds (P n) b c
    → Adds (Each (n + 1) P) a c
adds_more P n a b c x y =
    subst (λ k. Adds (Each k P) a c) (let e : suc n ≡ n + 1 = omega arith in e) (adds_next P n a b c x y)

-- each text at most once

pub then_once : (P Q : List ℕ → Type 0) → IsOnce P → IsOnce Q → IsOnce (Then P Q)
then_once P Q h k s t (a, b, p, q, e) (c, d, r, u, f) =
    e ∙ ap (λ x. x ++ b) (h a c p r) ∙ ap (λ x. c ++ x) (k b d q u) ∙ sym f

pub each_once : (P : ℕ → List ℕ → Type 0) (n : ℕ) → ((v : ℕ) → IsOnce (P v)) → IsOnce (Each n P)
each_once P zero h s t p q = p ∙ sym q
each_once P (suc n) h s t p q = then_once (Each n P) (P n) (each_once P n h) (h n) s t p q

module _ {X : Type 0} (name : List ℕ) (text_of : X → List ℕ) (before after : X) where
  pub value_once : IsOnce (ReportsValue name text_of before after)
  value_once s t (inl (e, p)) (inl (f, q)) = p ∙ sym q
  value_once s t (inl (e, p)) (inr (f, q)) = absurd (f e)
  value_once s t (inr (e, p)) (inl (f, q)) = absurd (e f)
  value_once s t (inr (e, p)) (inr (f, q)) = p ∙ sym q

  pub told_same : (old : List ℕ) → before ≡ after → Adds (ReportsValue name text_of before after) old old
  told_same old e = ([], inl (e, refl), sym (append-nil old))

  pub told_other : (old new : List ℕ)
      → (before ≡ after → ⊥)
      → new ≡ old ++ change_line name (text_of before) (text_of after)
      → Adds (ReportsValue name text_of before after) old new
  told_other old new e is = (change_line name (text_of before) (text_of after), inr (e, refl), is)
