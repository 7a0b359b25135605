-- Lists of pairs as functions, and lists of views.
use Rattle.std.proofs.Common.{◌≡◌, ◌≢◌, ◌⊎◌, ℕ, zero, suc, ◌<◌, List, [], ◌∷◌, ◌++◌, length, set, Bool, true, false, true≢false, cond, eqb, refl, sym, ap, ◌∙◌, subst, ⊎_elim, inl, inr, arith, eq-eqb, ne_eqb, append_assoc}
use Rattle.std.specs.Prelude.{Option, Some, None, filter}
use mathlib.Core.Option.{some, some-ne-none, some-injective}
use mathlib.Core.Logic.{dite}
use native.Mathlib.Decide.{ℕ_discrete}
use lib.ListN.{get_elem?}
use Rattle.atomic_table.proofs.Lists.{at_set, set_else}
use Rattle.call_table.specs.declared.reply.Call.{Call}
use Rattle.reference_model.specs.model.Run.{Runs}
use Rattle.part_table.specs.declared.rule.View.{View}
use Rattle.part_table.specs.declared.slot.Slot.{Slot}
use Rattle.part_table.specs.Parts.{log_of}
use Rattle.part_table.specs.Rule.{Hands, held_at, seen_of, seen_with, tail}
use Rattle.part_table.specs.Known.{at, StartsWith}

module _ {X : Type 0} where
  pub at_same : (es : List (ℕ × X)) (k : ℕ) (x d : X) → at ((k, x) ∷ es) d k ≡ x
  at_same es k x d = ap (λ b. cond b x (at es d k)) (eq-eqb k k refl)

  pub at_other : (es : List (ℕ × X)) (k j : ℕ) (x d : X) → j ≢ k → at ((k, x) ∷ es) d j ≡ at es d j
  at_other es k j x d ne = ap (λ b. cond b x (at es d j)) (ne_eqb j k ne)

  pub set_at : (l : List X) (i : ℕ) (a b : X) → get_elem? l i ≡ some a → get_elem? (set l i b) i ≡ some b
  set_at [] i a b e = absurd (some-ne-none a (sym e))
  set_at (x ∷ xs) zero a b e = refl
  set_at (x ∷ xs) (suc i) a b e = set_at xs i a b e

  pub at_bound : (l : List X) (i : ℕ) (a : X) → get_elem? l i ≡ some a → i < length l
  at_bound [] i a e = absurd (some-ne-none a (sym e))
  at_bound (x ∷ xs) zero a e = omega arith
  at_bound (x ∷ xs) (suc i) a e = let r = at_bound xs i a e in omega arith

  pub at_end : (l : List X) (a b : X) (j : ℕ)
      → get_elem? (l ++ a ∷ []) j ≡ some b
      → (get_elem? l j ≡ some b) ⊎ ((j ≡ length l) × (a ≡ b))
  at_end [] a b zero e = inr (refl, some-injective a b e)
  at_end [] a b (suc j) e = absurd (some-ne-none b (sym e))
  at_end (x ∷ xs) a b zero e = inl e
  at_end (x ∷ xs) a b (suc j) e =
      ⊎_elim (λ t. inl t) (λ (t : (j ≡ length xs) × (a ≡ b)). inr (ap suc t.0, t.1)) (at_end xs a b j e)

module _ {A : Type 0} where
  -- what lies behind a first pair is the tail
  pub by_front : {cs es : Hands A} {e : ℕ × Option (Slot A)} → cs ≡ e ∷ es → cs ≡ e ∷ tail cs
  by_front {e = e} is = is ∙ ap (λ l. e ∷ l) (sym (ap tail is))

  abbrev pub first_of : Option (Slot A) → Hands A → Option (Slot A)
  first_of d [] = d
  first_of d (x ∷ xs) = x.1

  abbrev part_or : Slot A → Option (Slot A) → Slot A
  part_or d None = d
  part_or d (Some x) = x

  pub part_same : (x y : Slot A) → Some x ≡ Some y → x ≡ y
  part_same x y e = ap (part_or x) e

  -- a part that was held in a view is held in it after a step that keeps it held
  pub still_held : (views : List (View A)) (id : ℕ) (v w : View A) (k : ℕ) → get_elem? views id ≡ some v
      → ((x : Slot A) → held_at v.held k ≡ Some x → (y : Slot A) × (held_at w.held k ≡ Some y))
      → (j : ℕ) → ((u : View A) × (x : Slot A) × (get_elem? views j ≡ some u) × (held_at u.held k ≡ Some x))
      → (u : View A) × (x : Slot A) × (get_elem? (set views id w) j ≡ some u) × (held_at u.held k ≡ Some x)
  still_held views id v w k here keep j h = dite (ℕ_discrete j id)
      (λ e. let same : h.0 ≡ v = some-injective h.0 v (sym h.2 ∙ (ap (λ i. get_elem? views i) e ∙ here)) in
      let y = keep h.1 (subst (λ (u : View A). held_at u.held k ≡ Some h.1) same h.3) in
      (w, y.0, ap (λ i. get_elem? (set views id w) i) e ∙ set_at views id v w here, y.1))
      (λ ne. (h.0, h.1, set_else views id j w ne ∙ h.2, h.3))

  -- each seat after a step of one
  pub seats : (F : ℕ → View A → Type 0) (views : List (View A)) (id : ℕ) (w : View A)
      → F id w
      → ((j : ℕ) (u : View A) → j ≢ id → get_elem? views j ≡ some u → F j u)
      → (j : ℕ) (u : View A) → get_elem? (set views id w) j ≡ some u → F j u
  seats F views id w mine others j u e = ⊎_elim
      (λ (t : (j ≡ id) × (w ≡ u)). subst (λ (y : ℕ × View A). F y.0 y.1) (λ i. (sym t.0 i, t.1 i)) mine)
      (λ (t : (j ≢ id) × (get_elem? views j ≡ some u)). others j u t.0 t.1)
      (at_set views id j w u e)

pub picked_more : (f : Call → Bool) (cs : List Call) (c : Call)
    → f c ≡ true
    → filter f (cs ++ c ∷ []) ≡ filter f cs ++ c ∷ []
picked_more f [] c e = ap (λ b. cond b (c ∷ []) []) e
picked_more f (x ∷ xs) c e = go (f x) (picked_more f xs c e)
  where
    go : (b : Bool)
        → filter f (xs ++ c ∷ []) ≡ filter f xs ++ c ∷ []
        → cond b (x ∷ filter f (xs ++ c ∷ [])) (filter f (xs ++ c ∷ []))
        ≡ cond b (x ∷ filter f xs) (filter f xs) ++ c ∷ []
    go true ih = ap (λ l. x ∷ l) ih
    go false ih = ih

pub picked_same : (f : Call → Bool) (cs : List Call) (c : Call) → f c ≡ false → filter f (cs ++ c ∷ []) ≡ filter f cs
picked_same f [] c e = ap (λ b. cond b (c ∷ []) []) e
picked_same f (x ∷ xs) c e = go (f x) (picked_same f xs c e)
  where
    go : (b : Bool)
        → filter f (xs ++ c ∷ []) ≡ filter f xs
        → cond b (x ∷ filter f (xs ++ c ∷ [])) (filter f (xs ++ c ∷ [])) ≡ cond b (x ∷ filter f xs) (filter f xs)
    go true ih = ap (λ l. x ∷ l) ih
    go false ih = ih

-- more calls, and the part of a list still begins with what was seen
pub picked_longer : (f : Call → Bool) (cs : List Call) (c : Call) (ys : List Call)
    → StartsWith (filter f cs) ys
    → StartsWith (filter f (cs ++ c ∷ [])) ys
picked_longer f cs c ys s = go (f c) refl
  where
    go : (b : Bool) → f c ≡ b → StartsWith (filter f (cs ++ c ∷ [])) ys
    go true e = (s.0 ++ c ∷ [], picked_more f cs c e ∙ (ap (λ l. l ++ c ∷ []) s.1 ∙ append_assoc ys s.0 (c ∷ [])))
    go false e = (s.0, picked_same f cs c e ∙ s.1)

pub runs_more : {R : Type 0} (Go : R → Call → R → Type 0) (g : R) (cs : List Call) (m h : R) (c : Call)
    → Runs Go g cs m
    → Go m c h
    → Runs Go g (cs ++ c ∷ []) h
runs_more Go g [] m h c r s = (h, subst (λ y. Go y c h) (sym r) s, refl)
runs_more Go g (x ∷ xs) m h c r s = (r.0, r.1, runs_more Go r.0 xs m h c r.2 s)

module _ {A : Type 0} where
  -- what is held after a call, and what is then seen
  pub after_seen : (after : Hands A) (seen : List (ℕ × List Call)) (k : ℕ) (x : Slot A)
      → held_at after k ≡ Some x
      → at (seen_with after seen) [] k ≡ (log_of x).calls
  after_seen [] seen k x e = absurd cc
  after_seen (y ∷ ys) seen k x e = go (eqb k y.0) (after_seen ys seen k x) e
    where
      go : (b : Bool)
          → (held_at ys k ≡ Some x → at (seen_with ys seen) [] k ≡ (log_of x).calls)
          → cond b y.1 (held_at ys k) ≡ Some x
          → cond b (seen_of y.1 (at seen [] y.0)) (at (seen_with ys seen) [] k) ≡ (log_of x).calls
      go true ih e = ap (λ (o : Option (Slot A)). seen_of o (at seen [] y.0)) e
      go false ih e = ih e

  pub unused_seen : (after : Hands A) (seen : List (ℕ × List Call)) (k : ℕ)
      → held_at after k ≡ None
      → at (seen_with after seen) [] k ≡ at seen [] k
  unused_seen [] seen k e = refl
  unused_seen (y ∷ ys) seen k e = dite (ℕ_discrete k y.0)
      (λ is. at_head is (eqb k y.0) (eq-eqb k y.0 is) e)
      (λ ne. ap (λ b. cond b (seen_of y.1 (at seen [] y.0)) (at (seen_with ys seen) [] k)) (ne_eqb k y.0 ne)
      ∙ unused_seen ys seen k (sym (ap (λ b. cond b y.1 (held_at ys k)) (ne_eqb k y.0 ne)) ∙ e))
    where
      at_head : k ≡ y.0
          → (b : Bool)
          → b ≡ true
          → cond b y.1 (held_at ys k) ≡ None
          → cond b (seen_of y.1 (at seen [] y.0)) (at (seen_with ys seen) [] k) ≡ at seen [] k
      at_head is true t e = ap (λ (o : Option (Slot A)). seen_of o (at seen [] y.0)) e ∙ ap (at seen []) (sym is)
      at_head is false t e = absurd (true≢false (sym t))
