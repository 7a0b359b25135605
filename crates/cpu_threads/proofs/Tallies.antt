-- Tallies that grow.
use Rattle.std.proofs.Common.{◌≡◌, ℕ, zero, suc, ◌+◌, ◌<◌, ◌≤◌, ◌==◌, Bool, cond, true, false, List, [], ◌∷◌, ◌++◌, length, take, get_or, replicate, refl, sym, ap, ◌∙◌, subst, ⊎_elim, arith, length-append, length-set, ne_eqb, eq-eqb}
use Rattle.std.specs.Prelude.{Option, Some, None, filter, slice_get, slice_set, Vec}
use Rattle.std.specs.Vec.{vec_capacity}
use Rattle.std.proofs.lemmas.List.{get_or-set_other}
use Rattle.std.proofs.lemmas.List.Elements.{filter-append}
use Rattle.std.proofs.lemmas.Grind.{get_or-set_at}
use mathlib.Core.Logic.{dite}
use native.Mathlib.Decide.{ℕ_discrete}
use Rattle.call_table.specs.declared.reply.Call.{Call}
use Rattle.part_table.specs.Passes.{Pass}
use Rattle.part_table.proofs.Lists.{from}
use Rattle.cpu_threads.specs.declared.rooms.Tally.{Tally}
use Rattle.world.specs.declared.merge.Histories.{Histories}
use Rattle.cpu_threads.specs.Rooms.{AllFit, AllRoomy, Fits, Grew, HasOneMore, HasPlace, HaveRoom, IsZero, LogName, cpu_log, guest_log, number, of_pass, one_if, picks, shared_log, total, total_given, vms_log}
use Rattle.cpu_threads.proofs.Ends.{get_bound, get_end}
use Rattle.cpu_threads.proofs.Totals.{given_end, total_end}

module _ {X : Type 0} where
  take_suc : (xs : List X) (i : ℕ) (x : X) → slice_get xs i ≡ Some x → take (suc i) xs ≡ take i xs ++ x ∷ []
  take_suc [] i x e = absurd cc
  take_suc (y ∷ ys) zero x e = ap (λ z. z ∷ []) (ap (from y) e)
  take_suc (y ∷ ys) (suc i) x e = ap (λ l. y ∷ l) (take_suc ys i x e)

  pub take_more : (xs : List X) (i : ℕ) (x : X) → slice_get xs i ≡ Some x → take (i + 1) xs ≡ take i xs ++ x ∷ []
  take_more xs i x e = let plus : i + 1 ≡ suc i = omega arith in ap (λ n. take n xs) plus ∙ take_suc xs i x e

module _ (f : Call → Bool) where
  pub total_more : (ps : List (Option Pass)) (i : ℕ) (o : Option Pass)
      → slice_get ps i ≡ Some o
      → total f (take i ps) + of_pass f o ≡ total f (take (i + 1) ps)
  total_more ps i o at = sym (ap (total f) (take_more ps i o at) ∙ total_end f (take i ps) o)

  pub given_more : (ps : List Pass) (i : ℕ) (p : Pass)
      → slice_get ps i ≡ Some p
      → total_given f (take i ps) + of_pass f (Some p) ≡ total_given f (take (i + 1) ps)
  given_more ps i p at = sym (ap (total_given f) (take_more ps i p at) ∙ given_end f (take i ps) p)

  one_picked : (c : Call) → length (filter f (c ∷ [])) ≡ one_if (f c)
  one_picked c = go (f c)
    where
      go : (b : Bool) → length (cond b (c ∷ []) []) ≡ one_if b
      go true = refl
      go false = refl

  pub picked_more : (cs : List Call) (i : ℕ) (c : Call)
      → slice_get cs i ≡ Some c
      → length (filter f (take i cs)) + one_if (f c) ≡ length (filter f (take (i + 1) cs))
  picked_more cs i c at =
      sym
      (ap (λ (l : List Call). length (filter f l)) (take_more cs i c at)
      ∙ (ap (λ (l : List Call). length l) (filter-append f (take i cs) (c ∷ []))
      ∙ (length-append (filter f (take i cs)) (filter f (c ∷ []))
      ∙ ap (λ n. length (filter f (take i cs)) + n) (one_picked c))))

-- numbers, and one of them that grows
pub none_more : (xs : List ℕ) → HasOneMore None xs xs
none_more xs = (refl, λ j lt. omega arith)

pub past_more : (xs : List ℕ) (p : ℕ) → length xs ≤ p → HasOneMore (Some p) xs xs
past_more xs p past = (refl, λ j lt. zero_more j (ap one_if (ne_eqb j p (λ e. omega (arith, e, lt, past)))))
  where
    zero_more : (j : ℕ) → one_if (j == p) ≡ 0 → get_or xs j 0 ≡ get_or xs j 0 + one_if (j == p)
    zero_more j e = omega (arith, e)

pub place_more : (xs : List ℕ) (p x : ℕ)
    → p < length xs
    → x ≡ get_or xs p 0 + 1
    → HasOneMore (Some p) xs (slice_set xs p x)
place_more xs p x inside is = (
  length-set xs p x,
  λ j lt. dite (ℕ_discrete j p)
      (λ e. get_or-set_at xs p j x 0 e inside
      ∙ (is ∙ (ap (λ k. get_or xs k 0 + 1) (sym e) ∙ ap (λ b. get_or xs j 0 + one_if b) (sym (eq-eqb j p e)))))
      (λ ne. get_or-set_other xs p j x 0 ne ∙ zero_more j (ap one_if (ne_eqb j p ne))),
)
  where
    zero_more : (j : ℕ) → one_if (j == p) ≡ 0 → get_or xs j 0 ≡ get_or xs j 0 + one_if (j == p)
    zero_more j e = omega (arith, e)

-- tallies
pub place_still : (f : (Call → Bool) → ℕ) (a b : Tally) → Grew f a b → (log : LogName) → HasPlace a log → HasPlace b log
place_still f a b g vms_log h = tt
place_still f a b g shared_log h = tt
place_still f a b g (guest_log v) h = subst (λ n. v < n) (sym g.guests) h
place_still f a b g (cpu_log c) h = subst (λ n. c < n) (sym g.cpus) h

plus_assoc : (a b c : ℕ) → (a + b) + c ≡ a + (b + c)
plus_assoc a b c = omega arith

pub grew_on : (f g h : (Call → Bool) → ℕ) (a b c : Tally)
    → Grew f a b
    → Grew g b c
    → ((p : Call → Bool) → f p + g p ≡ h p)
    → Grew h a c
grew_on f g h a b c x y same = record {
  guests = y.guests ∙ x.guests;
  cpus = y.cpus ∙ x.cpus;
  each =
      λ log has. y.each log (place_still f a b x log has)
      ∙ (ap (λ n. n + g (picks log)) (x.each log has)
      ∙ (plus_assoc (number a log) (f (picks log)) (g (picks log))
      ∙ ap (λ n. number a log + n) (same (picks log))));
}

pub grew_none : (f : (Call → Bool) → ℕ) (a : Tally) → ((p : Call → Bool) → f p ≡ 0) → Grew f a a
grew_none f a none =
    record { guests = refl; cpus = refl; each = λ log has. let z = none (picks log) in omega (arith, z) }

-- one list more
pub all_roomy_more : {Z : Type 0} (counts : List ℕ) (n : ℕ) (rooms : List (Vec Call Z)) (v : Vec Call Z)
    → length rooms ≡ n
    → ((j : ℕ) (w : Vec Call Z) → slice_get rooms j ≡ Some w → (w.items ≡ []) × (get_or counts j 0 ≤ vec_capacity w))
    → v.items ≡ []
    → get_or counts n 0 ≤ vec_capacity v
    → (j : ℕ) (w : Vec Call Z)
    → slice_get (rooms ++ v ∷ []) j ≡ Some w
    → (w.items ≡ []) × (get_or counts j 0 ≤ vec_capacity w)
all_roomy_more {Z = Z} counts n rooms v long old empty room j w at = ⊎_elim
    (λ was. old j w was)
    (λ (t : (j ≡ length rooms) × (v ≡ w)). subst
    (λ (z : ℕ × Vec Call Z). (z.1.items ≡ []) × (get_or counts z.0 0 ≤ vec_capacity z.1))
    (λ i. (sym (t.0 ∙ long) i, t.1 i)) (empty, room))
    (get_end rooms v w j at)

-- a tally of no calls
abbrev pub zeros : ℕ → List ℕ
zeros n = replicate n 0

zero_there : (n j : ℕ) → get_or (zeros n) j 0 ≡ 0
zero_there zero j = refl
zero_there (suc n) zero = refl
zero_there (suc n) (suc j) = zero_there n j

long_zero : (n : ℕ) → length (zeros n) ≡ n
long_zero zero = refl
long_zero (suc n) = ap suc (long_zero n)

pub is_zero : (n : ℕ) (t : Tally)
    → t.vms ≡ 0
    → t.shared ≡ 0
    → t.guests.items ≡ zeros 64
    → t.cpus.items ≡ zeros n
    → IsZero n t
is_zero n t no_vms no_shared guests cpus =
    record {
      guests = ap (λ (l : List ℕ). length l) guests ∙ long_zero 64;
      cpus = ap (λ (l : List ℕ). length l) cpus
          ∙ long_zero n;
      each = none;
    }
  where
    none : (log : LogName) → HasPlace t log → number t log ≡ 0
    none vms_log h = no_vms
    none shared_log h = no_shared
    none (guest_log v) h = ap (λ (l : List ℕ). get_or l v 0) guests ∙ zero_there 64 v
    none (cpu_log c) h = ap (λ (l : List ℕ). get_or l c 0) cpus ∙ zero_there n c

plus_none : (x a b : ℕ) → x ≡ a + b → a ≡ 0 → x ≡ b
plus_none x a b e z = omega (arith, e, z)

-- a tally of the passes that are at home, and then of those that are given
module _ (n : ℕ) (ps : List (Option Pass)) (gs : List Pass) (a b c : Tally) (z : IsZero n a)
    (x : Grew (λ p. total p ps) a b) (y : Grew (λ p. total_given p gs) b c) where
  counted : (log : LogName) → HasPlace a log → number c log ≡ total (picks log) ps + total_given (picks log) gs
  counted log has = let all =
      grew_on (λ p. total p ps) (λ p. total_given p gs) (λ p. total p ps + total_given p gs) a b c x y (λ p. refl) in
      plus_none (number c log) (number a log) (total (picks log) ps + total_given (picks log) gs) (all.each log has)
      (z.each log has)

  fits : {Z : Type 0} (log : LogName)
      → HasPlace a log
      → (v : Vec Call Z)
      → v.items ≡ []
      → number c log ≤ vec_capacity v
      → Fits (picks log) ps gs v
  fits log has v empty room = (empty, subst (λ k. k ≤ vec_capacity v) (counted log has) room)

  guest_fits : {Z : Type 0} (rooms : List (Vec Call Z))
      → AllRoomy c.guests.items rooms
      → AllFit (λ v. picks (guest_log v)) ps gs 64 rooms
  guest_fits rooms r = (
    r.0 ∙ (y.guests ∙ (x.guests ∙ z.guests)),
    λ j v at. let e = r.1 j v at in
        fits (guest_log j) (subst (λ k. j < k) (r.0 ∙ (y.guests ∙ x.guests)) (get_bound rooms j v at)) v e.0 e.1,
  )

  cpu_fits : {Z : Type 0} (rooms : List (Vec Call Z))
      → AllRoomy c.cpus.items rooms
      → AllFit (λ v. picks (cpu_log v)) ps gs n rooms
  cpu_fits rooms r = (
    r.0 ∙ (y.cpus ∙ (x.cpus ∙ z.cpus)),
    λ j v at. let e = r.1 j v at in
        fits (cpu_log j) (subst (λ k. j < k) (r.0 ∙ (y.cpus ∙ x.cpus)) (get_bound rooms j v at)) v e.0 e.1,
  )

  pub have_room : (h : Histories)
      → h.vms.items ≡ []
      → c.vms ≤ vec_capacity h.vms
      → h.shared.items ≡ []
      → c.shared ≤ vec_capacity h.shared
      → AllRoomy c.guests.items h.guests.items
      → AllRoomy c.cpus.items h.cpus.items
      → HaveRoom ps gs n h
  have_room h no_vms vms no_shared shared guests cpus = record {
    vms = fits vms_log tt h.vms no_vms vms;
    shared = fits shared_log tt h.shared no_shared shared;
    guests = guest_fits h.guests.items guests;
    cpus = cpu_fits h.cpus.items cpus;
  }
