-- Giving one frame to a pool.
use Rattle.std.proofs.Common.{◌≡◌, ℕ, zero, suc, ◌<◌, ◌≤◌, List, [], ◌∷◌, refl, ap, sym, ◌∙◌, arith, inl, inr}
use Rattle.std.specs.Prelude.{◌⊎◌, ◌↔◌, Contains}
use Rattle.std.proofs.lemmas.Bool.{cases_lt, cases_order}
use Rattle.std.proofs.lemmas.Bool.Decides.{nat_tests}
use Rattle.page_state.specs.Trees.{Pool}
use Rattle.page_state.specs.Tables.{given}
use Rattle.page_state.proofs.Counts.{count_next}
use Rattle.hyp_pool.specs.Laws.{GivenSwap, GivenLength, GivenCount, GivenContains}

-- a frame below the first goes to the front
pub given-front : (f g : ℕ) (p : Pool) → f < g → given f (g ∷ p) ≡ f ∷ (g ∷ p)
given-front f g p h = grind (arith, nat_tests)

-- and any other goes behind it
pub given-behind : (f g : ℕ) (p : Pool) → g ≤ f → given f (g ∷ p) ≡ g ∷ given f p
given-behind f g p h = grind (arith, nat_tests)

-- a frame that goes to the front, and a smaller one after it
pair_in_front : (f g : ℕ) (p : Pool)
    → f < g
    → given f p ≡ f ∷ p
    → given g p ≡ g ∷ p
    → given f (given g p) ≡ given g (given f p)
pair_in_front f g p h a b =
    let left : given f (given g p) ≡ f ∷ (g ∷ p) = ap (given f) b ∙ given-front f g p h in
    let right : given g (given f p) ≡ f ∷ (g ∷ p) =
    ap (given g) a ∙ (given-behind g f p (omega arith) ∙ ap (λ q. f ∷ q) b) in
    left ∙ sym right

-- two frames at the front
swap_in_front : (f g : ℕ) (p : Pool) → given f p ≡ f ∷ p → given g p ≡ g ∷ p → given f (given g p) ≡ given g (given f p)
swap_in_front f g p a b = elim (cases_order f g) [
  | inl h ↦ rw h refl
  | inr (inl h) ↦ pair_in_front f g p h a b
  | inr (inr h) ↦ sym (pair_in_front g f p h b a)
]

-- one frame goes before the first, the other behind it
swap_around : (f g x : ℕ) (xs : Pool) → f < x → x ≤ g → given f (given g (x ∷ xs)) ≡ given g (given f (x ∷ xs))
swap_around f g x xs a b =
    let left : given f (given g (x ∷ xs)) ≡ f ∷ (x ∷ given g xs) =
    ap (given f) (given-behind g x xs b) ∙ given-front f x (given g xs) a in
    let right : given g (given f (x ∷ xs)) ≡ f ∷ (x ∷ given g xs) =
    ap (given g) (given-front f x xs a)
    ∙ (given-behind g f (x ∷ xs) (omega arith) ∙ ap (λ q. f ∷ q) (given-behind g x xs b)) in
    left ∙ sym right

-- both go behind it
swap_behind : (f g x : ℕ) (xs : Pool)
    → x ≤ f
    → x ≤ g
    → given f (given g xs) ≡ given g (given f xs)
    → given f (given g (x ∷ xs)) ≡ given g (given f (x ∷ xs))
swap_behind f g x xs a b e =
    let left : given f (given g (x ∷ xs)) ≡ x ∷ given f (given g xs) =
    ap (given f) (given-behind g x xs b) ∙ given-behind f x (given g xs) a in
    let right : given g (given f (x ∷ xs)) ≡ x ∷ given g (given f xs) =
    ap (given g) (given-behind f x xs a) ∙ given-behind g x (given f xs) b in
    left ∙ (ap (λ q. x ∷ q) e ∙ sym right)

pub given_swap : GivenSwap
given_swap f g [] = swap_in_front f g [] refl refl
given_swap f g (x ∷ xs) = elim (cases_lt f x) [
  | inl fx ↦ elim (cases_lt g x) [
    | inl gx ↦ swap_in_front f g (x ∷ xs) (given-front f x xs fx) (given-front g x xs gx)
    | inr xg ↦ swap_around f g x xs fx xg
  ]
  | inr xf ↦ elim (cases_lt g x) [
    | inl gx ↦ sym (swap_around g f x xs gx xf)
    | inr xg ↦ swap_behind f g x xs xf xg (given_swap f g xs)
  ]
]

pub given_length : GivenLength
given_length f [] = omega arith
given_length f (g ∷ gs) = elim (cases_lt f g) [
  | inl h ↦ rw (given-front f g gs h) (omega arith)
  | inr h ↦ rw (given-behind f g gs h) (omega (arith, given_length f gs))
]

pub given_count : GivenCount
given_count f g [] = refl
given_count f g (x ∷ xs) = elim (cases_lt f x) [
  | inl h ↦ rw (given-front f x xs h) refl
  | inr h ↦ rw (given-behind f x xs h)
      (omega (
        arith,
        given_count f g xs,
        count_next g x (given f xs),
        count_next g f (x ∷ xs),
        count_next g x xs,
        count_next g f xs,
      ))
]

-- a list contains its first element, and what the rest contains
pub contains_cons : (x g : ℕ) (xs : List ℕ) → Contains (x ∷ xs) g ↔ ((x ≡ g) ⊎ Contains xs g)
contains_cons x g xs = (to, from) where
  to : Contains (x ∷ xs) g → (x ≡ g) ⊎ Contains xs g
  to (zero, l, e) = inl e
  to (suc k, l, e) = inr (k, omega arith, e)

  from : (x ≡ g) ⊎ Contains xs g → Contains (x ∷ xs) g
  from (inl e) = (0, omega arith, e)
  from (inr w) = (suc w.0, omega (arith, w.1), w.2)

exchange : {A B C : Type 0} → (A ⊎ (B ⊎ C)) → (B ⊎ (A ⊎ C))
exchange (inl a) = inr (inl a)
exchange (inr (inl b)) = inl b
exchange (inr (inr c)) = inr (inr c)

under : {A B C : Type 0} → (B → C) → A ⊎ B → A ⊎ C
under f (inl a) = inl a
under f (inr b) = inr (f b)

pub given_contains : GivenContains
given_contains f g [] = contains_cons f g []
given_contains f g (x ∷ xs) = elim (cases_lt f x) [
  | inl h ↦ rw (given-front f x xs h) (contains_cons f g (x ∷ xs))
  | inr h ↦ rw (given-behind f x xs h) (
    (λ w. under (contains_cons x g xs).1
        (exchange (under (given_contains f g xs).0 ((contains_cons x g (given f xs)).0 w)))),
    (λ w. (contains_cons x g (given f xs)).1
        (under (given_contains f g xs).1 (exchange (under (contains_cons x g xs).0 w)))),
  )
]
