-- Calls counted by CPU.
use Rattle.std.proofs.Common.{◌≡◌, ◌≢◌, ℕ, zero, suc, ◌+◌, ◌<◌, ◌≤◌, List, [], ◌∷◌, length, Bool, true, false, cond, refl, sym, ap, ◌∙◌, arith, eq-eqb, ne_eqb}
use Rattle.std.specs.Prelude.{All, filter}
use Rattle.std.proofs.lemmas.List.Elements.{All-head, All-tail}
use mathlib.Core.Logic.{dite}
use native.Mathlib.Decide.{ℕ_discrete}
use Rattle.call_table.specs.declared.reply.Call.{Call}
use Rattle.reference_model.specs.model.History.{calls_by}

abbrev one_if : Bool → ℕ
one_if b = cond b 1 0

module _ (f : Call → Bool) where
  -- the calls of n CPUs from m on that are picked
  abbrev pub banded : ℕ → ℕ → List Call → ℕ
  banded m zero cs = 0
  banded m (suc n) cs = length (filter f (calls_by m cs)) + banded (suc m) n cs

  pick : (c : Call) (cs : List Call) → length (filter f (c ∷ cs)) ≡ one_if (f c) + length (filter f cs)
  pick c cs = go (f c)
    where
      go : (b : Bool) → length (cond b (c ∷ filter f cs) (filter f cs)) ≡ one_if b + length (filter f cs)
      go true = omega arith
      go false = omega arith

  by_same : (m : ℕ) (c : Call) (cs : List Call) → c.cpu ≡ m → calls_by m (c ∷ cs) ≡ c ∷ calls_by m cs
  by_same m c cs e = ap (λ b. cond b (c ∷ calls_by m cs) (calls_by m cs)) (eq-eqb c.cpu m e)

  by_other : (m : ℕ) (c : Call) (cs : List Call) → c.cpu ≢ m → calls_by m (c ∷ cs) ≡ calls_by m cs
  by_other m c cs ne = ap (λ b. cond b (c ∷ calls_by m cs) (calls_by m cs)) (ne_eqb c.cpu m ne)

  nothing : (m n : ℕ) → banded m n [] ≡ 0
  nothing m zero = refl
  nothing m (suc n) = let r = nothing (suc m) n in omega (arith, r)

  -- a call of a CPU before these
  before : (m n : ℕ) (c : Call) (cs : List Call) → c.cpu < m → banded m n (c ∷ cs) ≡ banded m n cs
  before m zero c cs lt = refl
  before m (suc n) c cs lt =
      let h : calls_by m (c ∷ cs) ≡ calls_by m cs = by_other m c cs (λ e. omega (arith, lt, e)) in
      ap (λ (l : List Call). length (filter f l) + banded (suc m) n (c ∷ cs)) h
      ∙ ap (λ k. length (filter f (calls_by m cs)) + k) (before (suc m) n c cs (omega (arith, lt)))

  added : (a b p : ℕ) → (p + a) + b ≡ p + (a + b)
  added a b p = omega arith

  moved : (a b p : ℕ) → a + (p + b) ≡ p + (a + b)
  moved a b p = omega arith

  -- a call of one of these
  within : (m n : ℕ) (c : Call) (cs : List Call)
      → m ≤ c.cpu
      → c.cpu < m + n
      → banded m n (c ∷ cs) ≡ one_if (f c) + banded m n cs
  within m zero c cs le lt = absurd (omega (arith, le, lt))
  within m (suc n) c cs le lt = dite (ℕ_discrete c.cpu m)
      (λ e. ap (λ (l : List Call). length (filter f l) + banded (suc m) n (c ∷ cs)) (by_same m c cs e)
      ∙ (ap (λ k. k + banded (suc m) n (c ∷ cs)) (pick c (calls_by m cs))
      ∙ (ap (λ k. (one_if (f c) + length (filter f (calls_by m cs))) + k) (before (suc m) n c cs (omega (arith, e)))
      ∙ added (length (filter f (calls_by m cs))) (banded (suc m) n cs) (one_if (f c)))))
      (λ ne. ap (λ (l : List Call). length (filter f l) + banded (suc m) n (c ∷ cs)) (by_other m c cs ne)
      ∙ (ap (λ k. length (filter f (calls_by m cs)) + k)
      (within (suc m) n c cs (omega (arith, le, ne)) (omega (arith, lt)))
      ∙ moved (length (filter f (calls_by m cs))) (banded (suc m) n cs) (one_if (f c))))

  -- all calls are of some CPU below n
  pub all_within : (n : ℕ) (cs : List Call) → All (λ c. c.cpu < n) cs → banded 0 n cs ≡ length (filter f cs)
  all_within n [] all = nothing 0 n
  all_within n (c ∷ cs) all = let lt = All-head (λ d. d.cpu < n) c cs all in
      within 0 n c cs (omega arith) (omega (arith, lt))
      ∙ (ap (λ k. one_if (f c) + k) (all_within n cs (All-tail (λ d. d.cpu < n) c cs all)) ∙ sym (pick c cs))
