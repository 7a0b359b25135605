-- Lists of findings, one after another.
use Rattle.std.proofs.Common.{◌≡◌, ℕ, zero, suc, ◌+◌, ◌-◌, ◌^◌, true, false, ◌<◌, ◌≤◌, List, [], ◌∷◌, ◌++◌, length, take, get_or, Option, Some, None, refl, sym, ap, subst, ◌∙◌, append_assoc, add-one, arith}
use Rattle.std.specs.Prelude.{option_to_list, slice_get}
use Rattle.std.specs.List.{filter_map, list_any}
use Rattle.std.specs.Prelude.{nat_le, not, if◌then◌else◌}
use Rattle.std.proofs.lemmas.Bool.Decides.{nat_tests}
use Rattle.std.proofs.lemmas.List.{take_more}
use Rattle.std.proofs.lemmas.List.Elements.{filter_map-append}
use Rattle.std.proofs.lemmas.Option.{slice_get-get_or}
use Rattle.walked_tables.specs.declared.reached.Reached.{Reached}
use Rattle.image_findings.specs.Findings.{clash_of, clashes_of, given_by, mapped_in, mapped_of, met_in, met_of}
use Rattle.image_findings.specs.Unborrowed.{first_from, is_of}
use Rattle.image_findings.specs.declared.unborrowed.Side.{Side}
use Rattle.image_findings.specs.declared.claim.Claim.{Claim}
use Rattle.image_findings.specs.declared.finding.Finding.{Finding}

append_nil : {X : Type 0} (xs : List X) → xs ++ [] ≡ xs
append_nil [] = refl
append_nil (x ∷ xs) = ap (λ ys. x ∷ ys) (append_nil xs)

taken_all : {X : Type 0} (xs : List X) (n : ℕ) → length xs ≤ n → take n xs ≡ xs
taken_all [] zero h = refl
taken_all [] (suc n) h = refl
taken_all (x ∷ xs) zero h = absurd (omega arith)
taken_all (x ∷ xs) (suc n) h = ap (λ ys. x ∷ ys) (taken_all xs n (omega arith))

module _ {X Y : Type 0} (h : X → Option Y) where
  one_given : (x : X) (o : Option Y) → h x ≡ o → filter_map h (x ∷ []) ≡ option_to_list (h x)
  one_given x None e = rw e refl
  one_given x (Some y) e = rw e refl

  pub none_given : (xs : List X) (start : List Y) → start ≡ start ++ filter_map h (take 0 xs)
  none_given xs start = sym (append_nil start)

  pub more_given : (xs : List X) (i : ℕ) (d : X) (start now next : List Y)
      → i < length xs
      → now ≡ start ++ filter_map h (take i xs)
      → next ≡ now ++ option_to_list (h (get_or xs i d))
      → next ≡ start ++ filter_map h (take (i + 1) xs)
  more_given xs i d start now next inside e n =
      let x = get_or xs i d in
      let step =
      ap (filter_map h) (take_more xs i d inside)
      ∙ (filter_map-append h (take i xs) (x ∷ [])
      ∙ ap (λ z. filter_map h (take i xs) ++ z) (one_given x (h x) refl)) in
      n
      ∙ (ap (λ z. z ++ option_to_list (h x)) e
      ∙ (append_assoc start (filter_map h (take i xs)) (option_to_list (h x))
      ∙ ap (λ z. start ++ z) (sym step)))

  pub all_given : (xs : List X) (i : ℕ) (start now : List Y)
      → length xs ≤ i
      → now ≡ start ++ filter_map h (take i xs)
      → now ≡ start ++ filter_map h xs
  all_given xs i start now past e = e ∙ ap (λ ys. start ++ filter_map h ys) (taken_all xs i past)

-- one more element, in lists that are told by their first ones
joined_more : {Y : Type 0} (start before part now next : List Y)
    → now ≡ start ++ before
    → next ≡ now ++ part
    → next ≡ start ++ (before ++ part)
joined_more start before part now next e n = n ∙ (ap (λ z. z ++ part) e ∙ append_assoc start before part)

given_at : {X : Type 0} (f : X → List Finding) (xs : List X) (i : ℕ) (d : X)
    → i < length xs
    → given_by f (slice_get xs i) ≡ f (get_or xs i d)
given_at f xs i d inside = ap (given_by f) (slice_get-get_or xs i d inside)

pub more_clashes : (claims : List Claim) (i : ℕ) (d : Claim) (start now next : List Finding)
    → i < length claims
    → now ≡ start ++ clashes_of claims i
    → next ≡ now ++ filter_map (clash_of (get_or claims i d)) (take i claims)
    → next ≡ start ++ clashes_of claims (i + 1)
unfolding clashes_of
more_clashes claims i d start now next inside e n =
    let part = given_at (λ claim. filter_map (clash_of claim) (take i claims)) claims i d inside in
    let all : next ≡ start ++ clashes_of claims (suc i) =
    joined_more start (clashes_of claims i) _ now next e (n ∙ ap (λ z. now ++ z) (sym part)) in
    subst (λ k. next ≡ start ++ clashes_of claims k) (sym (add-one i)) all

pub no_clashes : (claims : List Claim) (start : List Finding) → start ≡ start ++ clashes_of claims 0
unfolding clashes_of
no_clashes claims start = sym (append_nil start)

pub more_mapped : (claims : List Claim) (tables : List Reached) (i : ℕ) (d : Reached) (start now next : List Finding)
    → i < length tables
    → now ≡ start ++ mapped_in claims tables i
    → next ≡ now ++ filter_map (mapped_of (get_or tables i d)) claims
    → next ≡ start ++ mapped_in claims tables (i + 1)
unfolding mapped_in
more_mapped claims tables i d start now next inside e n =
    let part = given_at (λ table. filter_map (mapped_of table) claims) tables i d inside in
    let all : next ≡ start ++ mapped_in claims tables (suc i) =
    joined_more start (mapped_in claims tables i) _ now next e (n ∙ ap (λ z. now ++ z) (sym part)) in
    subst (λ k. next ≡ start ++ mapped_in claims tables k) (sym (add-one i)) all

pub no_mapped : (claims : List Claim) (tables : List Reached) (start : List Finding)
    → start ≡ start ++ mapped_in claims tables 0
unfolding mapped_in
no_mapped claims tables start = sym (append_nil start)

pub more_met : (tables : List Reached) (i : ℕ) (d : Reached) (start now next : List Finding)
    → i < length tables
    → now ≡ start ++ met_in tables i
    → next ≡ now ++ filter_map (met_of (get_or tables i d)) (take i tables)
    → next ≡ start ++ met_in tables (i + 1)
unfolding met_in
more_met tables i d start now next inside e n =
    let part = given_at (λ table. filter_map (met_of table) (take i tables)) tables i d inside in
    let all : next ≡ start ++ met_in tables (suc i) =
    joined_more start (met_in tables i) _ now next e (n ∙ ap (λ z. now ++ z) (sym part)) in
    subst (λ k. next ≡ start ++ met_in tables k) (sym (add-one i)) all

pub no_met : (tables : List Reached) (start : List Finding) → start ≡ start ++ met_in tables 0
unfolding met_in
no_met tables start = sym (append_nil start)

-- frames of a range one by one
first_step : (side : Side) (claims : List Claim) (frame n : ℕ)
    → first_from side claims frame (suc n)
    ≡ (if nat_le (2 ^ 64) frame then None
    else (if not (list_any (is_of side frame) claims) then Some frame else first_from side claims (frame + 1) n))
unfolding first_from
first_step side claims frame n = refl

no_frame : (side : Side) (claims : List Claim) (frame : ℕ) → first_from side claims frame 0 ≡ None
unfolding first_from
no_frame side claims frame = refl

at_step : (side : Side) (claims : List Claim) (frame count i : ℕ)
    → i < count
    → first_from side claims (frame + i) (count - i)
    ≡ (if nat_le (2 ^ 64) (frame + i) then None
    else (if not (list_any (is_of side (frame + i)) claims) then Some (frame + i)
    else first_from side claims (frame + i + 1) (count - (i + 1))))
at_step side claims frame count i h =
    let e : count - i ≡ suc (count - (i + 1)) = omega arith in
    ap (first_from side claims (frame + i)) e ∙ first_step side claims (frame + i) (count - (i + 1))

pub past_frames : (side : Side) (claims : List Claim) (frame count i : ℕ) (goal : Option ℕ)
    → i < count
    → 2 ^ 64 ≤ frame + i
    → first_from side claims (frame + i) (count - i) ≡ goal
    → None ≡ goal
past_frames side claims frame count i goal h past e =
    let t : nat_le (2 ^ 64) (frame + i) ≡ true = grind (arith, nat_tests) in
    let here = at_step side claims frame count i h in
    sym (rw t at here) ∙ e

pub found_frame : (side : Side) (claims : List Claim) (frame count i : ℕ) (goal : Option ℕ)
    → i < count
    → frame + i < 2 ^ 64
    → list_any (is_of side (frame + i)) claims ≡ false
    → first_from side claims (frame + i) (count - i) ≡ goal
    → Some (frame + i) ≡ goal
found_frame side claims frame count i goal h small none e =
    let t : nat_le (2 ^ 64) (frame + i) ≡ false = grind (arith, nat_tests) in
    let here = at_step side claims frame count i h in
    sym (rw (t, none) at here) ∙ e

pub next_frame : (side : Side) (claims : List Claim) (frame count i : ℕ) (goal : Option ℕ)
    → i < count
    → frame + i < 2 ^ 64
    → list_any (is_of side (frame + i)) claims ≡ true
    → first_from side claims (frame + i) (count - i) ≡ goal
    → first_from side claims (frame + (i + 1)) (count - (i + 1)) ≡ goal
next_frame side claims frame count i goal h small some e =
    let t : nat_le (2 ^ 64) (frame + i) ≡ false = grind (arith, nat_tests) in
    let here = at_step side claims frame count i h in
    let same : frame + (i + 1) ≡ frame + i + 1 = omega arith in
    ap (λ f. first_from side claims f (count - (i + 1))) same ∙ (sym (rw (t, some) at here) ∙ e)

pub first_frame : (side : Side) (claims : List Claim) (frame count : ℕ)
    → first_from side claims (frame + 0) (count - 0) ≡ first_from side claims frame count
first_frame side claims frame count =
    let f : frame + 0 ≡ frame = omega arith in
    let n : count - 0 ≡ count = omega arith in
    ap (λ k. first_from side claims k (count - 0)) f ∙ ap (first_from side claims frame) n

pub no_more_frames : (side : Side) (claims : List Claim) (frame count i : ℕ) (goal : Option ℕ)
    → count ≤ i
    → first_from side claims (frame + i) (count - i) ≡ goal
    → None ≡ goal
no_more_frames side claims frame count i goal h e =
    let n : count - i ≡ 0 = omega arith in
    sym (no_frame side claims (frame + i)) ∙ (ap (first_from side claims (frame + i)) (sym n) ∙ e)
