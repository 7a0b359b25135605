-- Places of lists that are lent, and what comes back.
use Rattle.std.proofs.Common.{arith, ◌≡◌, ◌∙◌, ℕ, zero, suc, ◌<◌, ◌==◌, is_some, option_map, unwrap_or, Bool, true, false, List, [], ◌∷◌, ◌++◌, length, slice_get, slice_set, Option, Some, None, refl, sym, ap, if◌then◌else◌}
use Rattle.std.proofs.lemmas.Bool.Decides.{nat_tests}
use Rattle.page_state.proofs.Cases.{by_test}
use Rattle.call_table.specs.declared.reply.Call.{Call}
use Rattle.reference_model.specs.model.Stored.{Stores}
use Rattle.reference_model.specs.model.Parts.{is_slot}
use Rattle.part_types.specs.Lent.{with_call}
use Rattle.part_types.specs.Logs.{StoredCalls}
use Rattle.hypercalls.specs.Stands.{at_place}

-- a part where it is used, and else none
abbrev pub when : {P : Type 0} → Bool → P → Option P
when used p = if used then Some p else None

pub is_when : {P : Type 0} (used : Bool) (p : P) → is_some (when used p) ≡ used
is_when true p = refl
is_when false p = refl

-- a place of a list
pub place : {P : Type 0} (xs : List P) (v : ℕ) → v < length xs → (x : P) × (slice_get xs v ≡ Some x)
place [] v h = absurd (omega (arith, h))
place (x ∷ xs) zero h = (x, refl)
place (x ∷ xs) (suc v) h = place xs v (omega (arith, h))

pub written : {X : Type 0} (xs : List X) (i : ℕ) (v : X) → i < length xs → slice_get (slice_set xs i v) i ≡ Some v
written [] i v h = absurd (omega (arith, h))
written (x ∷ xs) zero v h = refl
written (x ∷ xs) (suc i) v h = written xs i v (omega (arith, h))

pub kept : {X : Type 0} (xs : List X) (i j : ℕ) (v : X) → (j ≡ i → ⊥) → slice_get (slice_set xs i v) j ≡ slice_get xs j
kept [] i j v h = refl
kept (x ∷ xs) zero zero v h = absurd (h refl)
kept (x ∷ xs) zero (suc j) v h = refl
kept (x ∷ xs) (suc i) zero v h = refl
kept (x ∷ xs) (suc i) (suc j) v h = kept xs i j v (λ e. h (ap suc e))

-- what stands there is inside
pub get_inside : {X : Type 0} (xs : List X) (i : ℕ) (x : X) → slice_get xs i ≡ Some x → i < length xs
get_inside [] i x h = cc
get_inside (y ∷ ys) zero x h = omega arith
get_inside (y ∷ ys) (suc i) x h = let less = get_inside ys i x h in omega (arith, less)

pub set_same : {X : Type 0} (xs : List X) (i : ℕ) (v : X) → slice_get xs i ≡ Some v → slice_set xs i v ≡ xs
set_same [] i v h = refl
set_same (x ∷ xs) zero v h = let e : x ≡ v = cc in ap (λ y. y ∷ xs) (sym e)
set_same (x ∷ xs) (suc i) v h = ap (λ l. x ∷ l) (set_same xs i v h)

-- what stands at a slot, where there is one
abbrev pub get_at : {P : Type 0} → List P → Option ℕ → Option P
get_at xs None = None
get_at xs (Some v) = slice_get xs v

-- a list with what came back to a slot
abbrev pub put_list : {P : Type 0} → List P → Option ℕ → Option P → List P
put_list xs None o = xs
put_list xs (Some v) None = xs
put_list xs (Some v) (Some y) = slice_set xs v y

-- the slot is one of the list
abbrev pub Inside : Option ℕ → ℕ → Type 0
Inside None n = Unit {0}
Inside (Some v) n = v < n

pub inside_of : (slot : Option ℕ) (n : ℕ) → ((v : ℕ) → slot ≡ Some v → v < n) → Inside slot n
inside_of None n h = tt
inside_of (Some v) n h = h v refl

module _ {P : Type 0} (xs : List P) where
  pub is_at : (slot : Option ℕ) → Inside slot (length xs) → is_some (get_at xs slot) ≡ is_some slot
  is_at None h = refl
  is_at (Some v) h = ap is_some (place xs v h).1

  -- what came back unchanged
  pub put_same : (slot : Option ℕ) → Inside slot (length xs) → put_list xs slot (get_at xs slot) ≡ xs
  put_same None h = refl
  put_same (Some v) h = ap (put_list xs (Some v)) (place xs v h).1 ∙ set_same xs v (place xs v h).0 (place xs v h).1

-- what there is, and its calls
module _ {P X : Type 0} (blank : X) (f : P → X) (log : P → StoredCalls) where
  abbrev pub each_of : List P → ℕ → X × List Call
  each_of xs v = (at_place blank f (slice_get xs v), at_place [] (λ p. (log p).calls) (slice_get xs v))

  pair : {a b : X} {m n : List Call} → a ≡ b → m ≡ n → ◌≡◌ {A = X × List Call} (a, m) (b, n)
  pair d e = cc

  some_is : (a b : StoredCalls) → ◌≡◌ {A = Option StoredCalls} (Some a) (Some b) → a.calls ≡ b.calls
  some_is a b e = ap (λ o. unwrap_or (option_map (λ (g : StoredCalls). g.calls) o) []) e

  -- a part stores a call where it is used
  pub stores_one : (c : Call) (used : Bool) (p : P) (o : Option P)
      → option_map log o ≡ option_map (with_call c) (option_map log (when used p))
      → Stores used c (if used then unwrap_or (option_map f o) blank else f p) (f p, (log p).calls)
      (f (unwrap_or o p), (log (unwrap_or o p)).calls)
  stores_one c true p None e = absurd cc
  stores_one c true p (Some y) e = pair refl (some_is (log y) (with_call c (log p)) e)
  stores_one c false p None e = refl
  stores_one c false p (Some y) e = absurd cc

  -- and so does each place of a list
  pub stores_at : (c : Call) (xs : List P) (o : Option P) (slot : Option ℕ)
      → Inside slot (length xs)
      → option_map log o ≡ option_map (with_call c) (option_map log (get_at xs slot))
      → (v : ℕ)
      → Stores (is_slot slot v) c
      (if is_slot slot v then unwrap_or (option_map f o) blank else at_place blank f (slice_get xs v))
      (each_of xs v) (each_of (put_list xs slot o) v)
  stores_at c xs o None h e v = refl
  stores_at c xs None (Some u) h e v =
      absurd (let n = e ∙ ap (λ p. option_map (with_call c) (option_map log p)) (place xs u h).1 in cc)
  stores_at c xs (Some y) (Some u) h e v =
      let r = place xs u h in
      let calls : (log y).calls ≡ (log r.0).calls ++ c ∷ [] =
      some_is (log y) (with_call c (log r.0)) (e ∙ ap (λ p. option_map (with_call c) (option_map log p)) r.1) in
      by_test (v == u)
      (λ t. let i : v ≡ u = grind (arith, nat_tests) in rw t (
      let now = ap (slice_get (slice_set xs u y)) i ∙ written xs u y h in
      let was = ap (slice_get xs) i ∙ r.1 in
      pair (ap (at_place blank f) now)
      (ap (at_place [] (λ p. (log p).calls)) now ∙ calls
      ∙ ap (λ o. at_place [] (λ p. (log p).calls) o ++ c ∷ []) (sym was))))
      (λ t. rw t
      (ap (λ o. (at_place blank f o, at_place [] (λ p. (log p).calls) o))
      (kept xs u v y (λ i. let no = t in grind (arith, nat_tests)))))
