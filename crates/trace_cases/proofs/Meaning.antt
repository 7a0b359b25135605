-- An expectation of which nothing is missed is met.
use Rattle.std.proofs.Common.{◌≡◌, refl, sym, ◌∙◌, ap, subst, arith, ℕ, zero, suc, Bool, true, false, ◌||◌, List, [], ◌∷◌, ◌++◌}
use Rattle.std.specs.Prelude.{All, Contains, codes, if◌then◌else◌}
use Rattle.std.specs.Str.{bytes_eq}
use Rattle.std.proofs.lemmas.List.Elements.{All-cons, All-head, All-tail}
use Rattle.std.proofs.lemmas.Slice.Eq.{bytes_eq-Decides}
use Rattle.race_outcomes.specs.declared.finding.Outcome.{Outcome}
use Rattle.trace_race.specs.declared.course.Asked.{Asked}
use Rattle.trace_check.specs.Misses.{Miss}
use Rattle.trace_outcomes.specs.Texts.{is_among, kinds_at, text_at, with_kind, with_kinds}
use Rattle.trace_cases.specs.Kinds.{is_open, kinds}
use Rattle.trace_cases.specs.Meaning.{UnmissedIsMet, told_at}
use Rattle.trace_cases.specs.Races.{never_at, never_missed, other_missed, other_text, others_missed}

by_bool : {P : Type 0} (b : Bool) → (b ≡ true → P) → (b ≡ false → P) → P
by_bool true t f = t refl
by_bool false t f = f refl

or_false : (b : Bool) → (b || false) ≡ b
or_false true = refl
or_false false = refl

or_true : (b : Bool) → (b || true) ≡ true
or_true true = refl
or_true false = refl

or_assoc : (a b c : Bool) → ((a || b) || c) ≡ (a || (b || c))
or_assoc true b c = refl
or_assoc false b c = refl

same_or : (p q : Bool) → (q ≡ true → p ≡ true) → p ≡ (p || q)
same_or true q h = refl
same_or false true h = h refl
same_or false false h = refl

off : {P : Type 0} → false ≡ true → P
off h = cc

-- a text among others
among_append : (xs ys : List (List ℕ)) (k : List ℕ) → is_among (xs ++ ys) k ≡ (is_among xs k || is_among ys k)
among_append [] ys k = refl
among_append (x ∷ xs) ys k =
    ap (λ b. bytes_eq x k || b) (among_append xs ys k) ∙ sym (or_assoc (bytes_eq x k) (is_among xs k) (is_among ys k))

kind_among : (acc : List (List ℕ)) (x k : List ℕ) → is_among (with_kind acc x) k ≡ (is_among acc k || bytes_eq x k)
kind_among acc x k =
    by_bool (is_among acc x)
    (λ e. ap (λ b. is_among (if b then acc else acc ++ x ∷ []) k) e
    ∙ same_or (is_among acc k) (bytes_eq x k)
    (λ f. subst (λ t. is_among acc t ≡ true) ((bytes_eq-Decides x k).0 f) e))
    (λ e. ap (λ b. is_among (if b then acc else acc ++ x ∷ []) k) e ∙ among_append acc (x ∷ []) k
    ∙ ap (λ b. is_among acc k || b) (or_false (bytes_eq x k)))

kinds_among : (acc xs : List (List ℕ)) (k : List ℕ) → is_among (with_kinds acc xs) k ≡ (is_among acc k || is_among xs k)
kinds_among acc [] k = sym (or_false (is_among acc k))
kinds_among acc (x ∷ more) k =
    kinds_among (with_kind acc x) more k ∙ ap (λ b. b || is_among more k) (kind_among acc x k)
    ∙ or_assoc (is_among acc k) (bytes_eq x k) (is_among more k)

contains : (xs : List (List ℕ)) (k : List ℕ) → is_among xs k ≡ true → Contains xs k
contains [] k e = off e
contains (x ∷ xs) k e =
    by_bool (bytes_eq x k) (λ f. (0, omega arith, (bytes_eq-Decides x k).0 f))
    (λ f. let r = contains xs k (sym (ap (λ b. b || is_among xs k) f) ∙ e) in (suc r.0, omega (arith, r.1), r.2))

among : (xs : List (List ℕ)) (k : List ℕ) → Contains xs k → is_among xs k ≡ true
among [] k (i, less, is) = absurd (omega (arith, less))
among (x ∷ xs) k (zero, less, is) = ap (λ b. b || is_among xs k) ((bytes_eq-Decides x k).1 is)
among (x ∷ xs) k (suc i, less, is) =
    ap (λ b. bytes_eq x k || b) (among xs k (i, omega (arith, less), is)) ∙ or_true (bytes_eq x k)

-- no miss at all
some_miss : {P : Type 0} {m : Miss} {ms : List Miss} → m ∷ ms ≡ [] → P
some_miss e = cc

first_none : (xs ys : List Miss) → xs ++ ys ≡ [] → xs ≡ []
first_none [] ys e = refl
first_none (x ∷ xs) ys e = some_miss e

last_none : (xs ys : List Miss) → xs ++ ys ≡ [] → ys ≡ []
last_none [] ys e = e
last_none (x ∷ xs) ys e = some_miss e

both_none : (xs ys : List Miss) → xs ≡ [] → ys ≡ [] → xs ++ ys ≡ []
both_none xs ys e f = ap (λ l. l ++ ys) e ∙ f

none_of : {X : Type 0} (P : X → Type 0) → All P []
none_of P k d less = absurd (omega (arith, less))

module _ (steps : List Asked) (number : ℕ) (text : List ℕ) (wanted : List (List ℕ)) (place : ℕ) where
  after : Outcome → List Outcome → Bool → List Miss
  after o more b =
      if b then other_missed steps number text wanted place more else (number, other_text steps text place o) ∷ []

  others_met : (found : List Outcome)
      → other_missed steps number text wanted place found ≡ []
      → All (Contains wanted) (told_at found place)
  unfolding after
  others_met [] e = none_of (Contains wanted)
  others_met (o ∷ more) e =
      by_bool (is_among wanted (text_at place o.replies.items))
      (λ f. All-cons (Contains wanted) (text_at place o.replies.items) (told_at more place)
      (contains wanted (text_at place o.replies.items) f) (others_met more (sym (ap (after o more) f) ∙ e)))
      (λ f. some_miss (sym (ap (after o more) f) ∙ e))

  met_others : (found : List Outcome)
      → All (Contains wanted) (told_at found place)
      → other_missed steps number text wanted place found ≡ []
  unfolding after
  met_others [] h = refl
  met_others (o ∷ more) h =
      ap (after o more)
      (among wanted (text_at place o.replies.items)
      (All-head (Contains wanted) (text_at place o.replies.items) (told_at more place) h))
      ∙ met_others more (All-tail (Contains wanted) (text_at place o.replies.items) (told_at more place) h)

module _ (number : ℕ) (found : List Outcome) (place : ℕ) where
  at_among : (k : List ℕ) → is_among (kinds_at found place) k ≡ is_among (told_at found place) k
  at_among k = kinds_among [] (told_at found place) k

  never : List ℕ → Bool → List Miss
  never kind b = if b then [] else (number, codes "never " ++ kind) ∷ []

  nevers_met : (ks : List (List ℕ))
      → never_missed number (kinds_at found place) ks ≡ []
      → All (Contains (told_at found place)) ks
  unfolding never
  nevers_met [] e = none_of (Contains (told_at found place))
  nevers_met (k ∷ ks) e =
      by_bool (is_among (kinds_at found place) k)
      (λ f. All-cons (Contains (told_at found place)) k ks (contains (told_at found place) k (sym (at_among k) ∙ f))
      (nevers_met ks
      (last_none (never_at number (kinds_at found place) k) (never_missed number (kinds_at found place) ks) e)))
      (λ f. some_miss
      (sym (ap (never k) f)
      ∙ first_none (never_at number (kinds_at found place) k)
      (never_missed number (kinds_at found place) ks) e))

  met_nevers : (ks : List (List ℕ))
      → All (Contains (told_at found place)) ks
      → never_missed number (kinds_at found place) ks ≡ []
  unfolding never
  met_nevers [] h = refl
  met_nevers (k ∷ ks) h =
      both_none (never_at number (kinds_at found place) k) (never_missed number (kinds_at found place) ks)
      (ap (never k) (at_among k ∙ among (told_at found place) k (All-head (Contains (told_at found place)) k ks h)))
      (met_nevers ks (All-tail (Contains (told_at found place)) k ks h))

-- unless others may come, too
module _ (steps : List Asked) (found : List Outcome) (place number : ℕ) (text : List ℕ) where
  asked : Bool → List Miss
  asked b = if b then [] else other_missed steps number text (kinds text) place found

  open_met : others_missed steps number text (kinds text) place found ≡ []
      → is_open text ≡ false
      → All (Contains (kinds text)) (told_at found place)
  unfolding asked
  open_met e shut = others_met steps number text (kinds text) place found (sym (ap asked shut) ∙ e)

  met_open : (is_open text ≡ false → All (Contains (kinds text)) (told_at found place))
      → others_missed steps number text (kinds text) place found ≡ []
  unfolding asked
  met_open h =
      by_bool (is_open text) (λ f. ap asked f)
      (λ f. ap asked f ∙ met_others steps number text (kinds text) place found (h f))

pub unmissed_met : UnmissedIsMet
unmissed_met steps found place number text =
    let own = others_missed steps number text (kinds text) place found in
    let rest = never_missed number (kinds_at found place) (kinds text) in (
      λ e. record {
        among = open_met steps found place number text (first_none own rest e);
        comes = nevers_met number found place (kinds text) (last_none own rest e);
      },
      λ m. both_none own rest (met_open steps found place number text m.among)
          (met_nevers number found place (kinds text) m.comes),
    )
