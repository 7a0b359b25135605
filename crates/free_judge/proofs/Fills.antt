-- States with free frames that no memory has.
use Rattle.std.proofs.Common.{◌≡◌, ℕ, zero, suc, ◌<◌, ◌≤◌, ◌^◌, List, [], ◌∷◌, length, map, get_or, refl, ap, sym, ◌∙◌, arith}
use Rattle.std.specs.Prelude.{Bool, true, false, ◌==◌, ◌||◌, nat_lt, if◌then◌else◌}
use Rattle.std.proofs.lemmas.Bool.Decides.{nat_tests}
use Rattle.std.proofs.lemmas.List.Elements.{All-head, All-tail}
use mathlib.Core.Path.{fun_ext}
use Rattle.reference_model.specs.model.Owner.{is_free}
use Rattle.reference_model.specs.model.State.{Guest, Contents, no_guest}
use Rattle.freedoms.specs.OwnTables.{OwnTables, bare_guest, without_tables}
use Rattle.ghost_spec.specs.declared.parts.GhostGuest.{GhostGuest}
use Rattle.ghost_spec.specs.Kept.{AreLowFrames}
use Rattle.ghost_spec.specs.States.{guest_in}
use Rattle.free_judge.specs.Asked.{filled_guest, filled_by, asked_guest, asked_by, AreOutside}

IsNone : ℕ → Type 0
IsNone f = f ≡ 67108864

pub low-frames : (fs : List ℕ) → AreOutside fs → AreLowFrames fs
low-frames [] h = tt
low-frames (f ∷ fs) h =
    let e : f ≡ 67108864 = All-head (λ g. g ≡ 67108864) f fs h in
    let low : f ≤ 2 ^ 62 = omega arith in
    (low, low-frames fs (All-tail (λ g. g ≡ 67108864) f fs h))

other : (f g : ℕ) → f ≡ 67108864 → g < 67108864 → (f == g) ≡ false
other f g e h = grind (arith, nat_tests)

or-none : (a b : Bool) → a ≡ false → b ≡ false → (a || b) ≡ false
or-none false b p q = q
or-none true b p q = cc

-- no memory frame is one of them
pub none-outside : (fs : List ℕ) (g : ℕ) → AreOutside fs → g < 67108864 → is_free fs g ≡ false
none-outside [] g h less = refl
none-outside (f ∷ fs) g h less =
    or-none (f == g) (is_free fs g) (other f g (All-head (λ k. k ≡ 67108864) f fs h) less)
    (none-outside fs g (All-tail (λ k. k ≡ 67108864) f fs h) less)

-- a list of guests of which each is filled

none-below : (v : ℕ) → nat_lt v 0 ≡ false
none-below v = grind (arith, nat_tests)

some-below : (n : ℕ) → nat_lt 0 (suc n) ≡ true
some-below n = grind (arith, nat_tests)

more-below : (v n : ℕ) → nat_lt (suc v) (suc n) ≡ nat_lt v n
more-below v n = grind (arith, nat_tests)

abbrev guest-free : List ℕ → Guest → Bool → Guest
guest-free fs g b = record (bare_guest g) { free = if b then fs else [] }

got-filled : (fs : List ℕ) (xs : List GhostGuest) (v : ℕ)
    → get_or (map (λ g. filled_guest false fs 0 (guest_in g)) xs) v no_guest
    ≡ guest-free fs (get_or (map guest_in xs) v no_guest) (nat_lt v (length xs))
got-filled fs [] v = ap (guest-free fs no_guest) (sym (none-below v))
got-filled fs (x ∷ xs) zero = filled-zero ∙ ap (guest-free fs (guest_in x)) (sym (some-below (length xs)))
  where
    filled-zero : filled_guest false fs 0 (guest_in x) ≡ guest-free fs (guest_in x) true
    filled-zero = refl
got-filled fs (x ∷ xs) (suc v) =
    got-filled fs xs v ∙ ap (guest-free fs (get_or (map guest_in xs) v no_guest)) (sym (more-below v (length xs)))

pub guests-filled : (fs : List ℕ) (xs : List GhostGuest)
    → length xs ≡ 64
    → ◌≡◌ {A = ℕ → Guest} (λ v. get_or (map (λ g. filled_guest false fs 0 (guest_in g)) xs) v no_guest)
    (λ v. filled_guest false fs v (get_or (map guest_in xs) v no_guest))
guests-filled fs xs e =
    fun_ext
    (λ v. got-filled fs xs v ∙ ap (λ (n : ℕ). guest-free fs (get_or (map guest_in xs) v no_guest) (nat_lt v n)) e)

-- with no frame a filled state has none

if-same : (b : Bool) (xs : List ℕ) → ◌≡◌ {A = List ℕ} (if b then xs else xs) xs
if-same true xs = refl
if-same false xs = refl

pub filled-none : (s : Contents) → filled_by false [] s ≡ without_tables s
filled-none s =
    ap (λ (g : ℕ → Guest). record (without_tables s) { guest = g })
    (fun_ext
    (λ v. ap (λ (free : List ℕ). record (bare_guest (s.guest v)) { free = free }) (if-same (nat_lt v 64) [])))

-- filled, asked or as it is, a state has the same but for tables and free frames

bare-filled : (b : Bool) (fs : List ℕ) (v : ℕ) (g : Guest)
    → bare_guest (filled_guest b fs v g) ≡ bare_guest (asked_guest b g)
bare-filled true fs v g = refl
bare-filled false fs v g = refl

bare-asked : (b : Bool) (g : Guest) → bare_guest (asked_guest b g) ≡ bare_guest g
bare-asked true g = refl
bare-asked false g = refl

pub filled-alike : (b : Bool) (fs : List ℕ) (s : Contents) → OwnTables (filled_by b fs s) (asked_by b s)
filled-alike b fs s =
    ap (λ (g : ℕ → Guest). record (without_tables s) { guest = g }) (fun_ext (λ v. bare-filled b fs v (s.guest v)))

pub asked-alike : (b : Bool) (s : Contents) → OwnTables (asked_by b s) s
asked-alike b s =
    ap (λ (g : ℕ → Guest). record (without_tables s) { guest = g }) (fun_ext (λ v. bare-asked b (s.guest v)))
