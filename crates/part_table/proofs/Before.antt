-- The part of a history before one of a CPU's own calls, in a history that goes on.
use Rattle.std.proofs.Common.{◌≡◌, ℕ, zero, suc, ◌+◌, ◌≤◌, Bool, true, false, List, [], ◌∷◌, ◌++◌, length, append-nil, refl, sym, ap, ◌∙◌, arith}
use Rattle.std.specs.Prelude.{filter, ◌==◌, if◌then◌else◌}
use Rattle.std.proofs.lemmas.List.{append_assoc}
use Rattle.std.proofs.lemmas.List.Elements.{filter-append}
use Rattle.call_table.specs.declared.reply.Call.{Call}
use Rattle.reference_model.specs.model.History.{calls_by}
use Rattle.part_table.specs.Before.{before_own}
use Rattle.part_table.specs.Known.{StartsWith}

-- a front of a front, and of the calls that a test picks
pub starts_on : (xs ys zs : List Call) → StartsWith xs ys → StartsWith ys zs → StartsWith xs zs
starts_on xs ys zs a b = (b.0 ++ a.0, a.1 ∙ (ap (λ l. l ++ a.0) b.1 ∙ append_assoc zs b.0 a.0))

pub picked_front : (f : Call → Bool) (xs ys : List Call) → StartsWith xs ys → StartsWith (filter f xs) (filter f ys)
picked_front f xs ys s = (filter f s.0, ap (filter f) s.1 ∙ filter-append f ys s.0)

module _ (cpu : ℕ) where
  -- the history begins with it
  pub own_front : (n : ℕ) (log : List Call) → StartsWith log (before_own cpu n log)
  own_front n [] = ([], refl)
  own_front zero (c ∷ cs) = go (c.cpu == cpu) (own_front zero cs)
    where
      go : (b : Bool)
          → StartsWith cs (before_own cpu zero cs)
          → StartsWith (c ∷ cs) (if b then [] else c ∷ before_own cpu zero cs)
      go true h = (c ∷ cs, refl)
      go false h = (h.0, ap (λ l. c ∷ l) h.1)
  own_front (suc n) (c ∷ cs) = go (c.cpu == cpu) (own_front n cs) (own_front (suc n) cs)
    where
      go : (b : Bool)
          → StartsWith cs (before_own cpu n cs)
          → StartsWith cs (before_own cpu (suc n) cs)
          → StartsWith (c ∷ cs) (if b then c ∷ before_own cpu n cs else c ∷ before_own cpu (suc n) cs)
      go true h _ = (h.0, ap (λ l. c ∷ l) h.1)
      go false _ h = (h.0, ap (λ l. c ∷ l) h.1)

  -- so it does once more calls were made
  pub own_longer : (n : ℕ) (xs ys : List Call) → StartsWith (before_own cpu n (xs ++ ys)) (before_own cpu n xs)
  own_longer n [] ys = (before_own cpu n ys, refl)
  own_longer zero (c ∷ cs) ys = go (c.cpu == cpu) (own_longer zero cs ys)
    where
      go : (b : Bool)
          → StartsWith (before_own cpu zero (cs ++ ys)) (before_own cpu zero cs)
          → StartsWith (if b then [] else c ∷ before_own cpu zero (cs ++ ys))
          (if b then [] else c ∷ before_own cpu zero cs)
      go true h = ([], refl)
      go false h = (h.0, ap (λ l. c ∷ l) h.1)
  own_longer (suc n) (c ∷ cs) ys = go (c.cpu == cpu) (own_longer n cs ys) (own_longer (suc n) cs ys)
    where
      go : (b : Bool)
          → StartsWith (before_own cpu n (cs ++ ys)) (before_own cpu n cs)
          → StartsWith (before_own cpu (suc n) (cs ++ ys)) (before_own cpu (suc n) cs)
          → StartsWith
          (if b then c ∷ before_own cpu n (cs ++ ys) else c ∷ before_own cpu (suc n) (cs ++ ys))
          (if b then c ∷ before_own cpu n cs else c ∷ before_own cpu (suc n) cs)
      go true h _ = (h.0, ap (λ l. c ∷ l) h.1)
      go false _ h = (h.0, ap (λ l. c ∷ l) h.1)

  -- calls in front with some of the CPU's
  pub own_behind : (n m : ℕ) (xs ys : List Call)
      → n ≡ length (calls_by cpu xs) + m
      → before_own cpu n (xs ++ ys) ≡ xs ++ before_own cpu m ys
  own_behind n m [] ys e = let same : n ≡ m = omega (arith, e) in ap (λ k. before_own cpu k ys) same
  own_behind zero m (c ∷ cs) ys e = go (c.cpu == cpu) (own_behind zero m cs ys) e
    where
      go : (b : Bool)
          → (zero ≡ length (calls_by cpu cs) + m → before_own cpu zero (cs ++ ys) ≡ cs ++ before_own cpu m ys)
          → zero ≡ length (if b then c ∷ calls_by cpu cs else calls_by cpu cs) + m
          → (if b then [] else c ∷ before_own cpu zero (cs ++ ys)) ≡ c ∷ (cs ++ before_own cpu m ys)
      go true h e = absurd (omega (arith, e))
      go false h e = ap (λ l. c ∷ l) (h e)
  own_behind (suc n) m (c ∷ cs) ys e = go (c.cpu == cpu) (own_behind n m cs ys) (own_behind (suc n) m cs ys) e
    where
      go : (b : Bool)
          → (n ≡ length (calls_by cpu cs) + m → before_own cpu n (cs ++ ys) ≡ cs ++ before_own cpu m ys)
          → (suc n ≡ length (calls_by cpu cs) + m
          → before_own cpu (suc n) (cs ++ ys) ≡ cs ++ before_own cpu m ys)
          → suc n ≡ length (if b then c ∷ calls_by cpu cs else calls_by cpu cs) + m
          → (if b then c ∷ before_own cpu n (cs ++ ys) else c ∷ before_own cpu (suc n) (cs ++ ys))
          ≡ c ∷ (cs ++ before_own cpu m ys)
      go true h _ e = ap (λ l. c ∷ l) (h (omega (arith, e)))
      go false _ h e = ap (λ l. c ∷ l) (h e)

  -- the CPU made no more calls
  pub own_all : (n : ℕ) (log : List Call) → length (calls_by cpu log) ≤ n → before_own cpu n log ≡ log
  own_all n [] less = refl
  own_all zero (c ∷ cs) less = go (c.cpu == cpu) (own_all zero cs) less
    where
      go : (b : Bool)
          → (length (calls_by cpu cs) ≤ zero → before_own cpu zero cs ≡ cs)
          → length (if b then c ∷ calls_by cpu cs else calls_by cpu cs) ≤ zero
          → (if b then [] else c ∷ before_own cpu zero cs) ≡ c ∷ cs
      go true h less = absurd (omega (arith, less))
      go false h less = ap (λ l. c ∷ l) (h less)
  own_all (suc n) (c ∷ cs) less = go (c.cpu == cpu) (own_all n cs) (own_all (suc n) cs) less
    where
      go : (b : Bool)
          → (length (calls_by cpu cs) ≤ n → before_own cpu n cs ≡ cs)
          → (length (calls_by cpu cs) ≤ suc n → before_own cpu (suc n) cs ≡ cs)
          → length (if b then c ∷ calls_by cpu cs else calls_by cpu cs) ≤ suc n
          → (if b then c ∷ before_own cpu n cs else c ∷ before_own cpu (suc n) cs) ≡ c ∷ cs
      go true h _ less = ap (λ l. c ∷ l) (h (omega (arith, less)))
      go false _ h less = ap (λ l. c ∷ l) (h less)
