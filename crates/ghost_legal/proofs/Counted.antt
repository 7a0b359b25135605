-- What pieces in order hold: each frame once at most.
use Rattle.std.proofs.Common.{◌≡◌, ℕ, zero, suc, ◌<◌, ◌≤◌, Bool, true, false, List, [], ◌∷◌, length, get_or, Option, Some, None, refl, sym, ap, subst, ◌∙◌, arith}
use Rattle.std.specs.Prelude.{◌&&◌}
use Rattle.std.proofs.lemmas.List.Sums.{sum_by-cons}
use Rattle.page_state.specs.Regions.{end_of, is_in_range}
use Rattle.page_state.proofs.Cases.{by_test}
use Rattle.ghost_trees.proofs.Overlaid.{within_means}
use Rattle.reference_model.specs.help.Conditions.{one}
use Rattle.ghost_legal.specs.declared.finding.Holder.{Holder}
use Rattle.ghost_legal.specs.declared.held.Held.{Held}
use Rattle.ghost_legal.specs.AllHeld.{held_count, IsHeldIn}
use Rattle.ghost_legal.specs.Frames.{held_at, held_frames, holder_of, holder_on}
use Rattle.ghost_legal.specs.Ranges.{at, AreInOrder, BeginsFrom}
use Rattle.ghost_legal.proofs.InOrder.{outside_before, outside_behind}

-- the holder passes the test, where there is one
abbrev pub passes : (Holder → Bool) → Option Holder → Bool
passes test None = false
passes test (Some h) = test h

module _ (test : Holder → Bool) (f : ℕ) where
  here : Held → ℕ
  here h = one (is_in_range h.frames f && test (holder_on h f))

  none_here : (h : Held) → is_in_range h.frames f ≡ false → one (is_in_range h.frames f && test (holder_on h f)) ≡ 0
  none_here h t = rw t refl

  some_here : (h : Held)
      → is_in_range h.frames f ≡ true
      → one (is_in_range h.frames f && test (holder_on h f)) ≡ one (test (holder_on h f))
  some_here h t = rw t refl

  none_from : (hs : List Held) (low : ℕ)
      → AreInOrder held_frames hs
      → BeginsFrom held_frames low hs
      → f < low
      → held_count test f hs ≡ 0
  none_from [] low o b less = refl
  none_from (h ∷ hs) low o b less =
      let more = none_from hs (end_of h.frames) o.1 o.0 (omega (arith, b, less)) in
      let first = none_here h (outside_before h.frames.first.0 h.frames.count f (omega (arith, b, less))) in
      let all = sum_by-cons (λ h. one (is_in_range h.frames f && test (holder_on h f))) h hs in
      omega (arith, all, first, more)

  pub counted : (hs : List Held) → AreInOrder held_frames hs → held_count test f hs ≡ one (passes test (held_at hs f))
  counted [] o = refl
  counted (h ∷ hs) o =
      let all = sum_by-cons (λ h. one (is_in_range h.frames f && test (holder_on h f))) h hs in
      by_test (is_in_range h.frames f)
      (λ t. let w = within_means h.frames.first.0 h.frames.count f t in
      let more = none_from hs (end_of h.frames) o.1 o.0 w.1 in
      let first = some_here h t in
      let is : one (passes test (held_at (h ∷ hs) f)) ≡ one (test (holder_on h f)) = rw t refl in
      omega (arith, all, first, more, is))
      (λ t. let more = counted hs o.1 in
      let first = none_here h t in
      let is : one (passes test (held_at (h ∷ hs) f)) ≡ one (passes test (held_at hs f)) = rw t refl in
      omega (arith, all, first, more, is))

begins_at : (hs : List Held) (low k : ℕ) (d : Held)
    → AreInOrder held_frames hs
    → BeginsFrom held_frames low hs
    → k < length hs
    → low ≤ (get_or hs k d).frames.first.0
begins_at [] low k d o b less = absurd (omega (arith, less))
begins_at (h ∷ hs) low zero d o b less = b
begins_at (h ∷ hs) low (suc k) d o b less = let more =
    begins_at hs (end_of h.frames) k d o.1 o.0 (omega (arith, less)) in
    omega (arith, b, more)

found : (hs : List Held) (k : ℕ) (d : Held) (f : ℕ)
    → AreInOrder held_frames hs
    → k < length hs
    → is_in_range (get_or hs k d).frames f ≡ true
    → at held_frames hs f ≡ Some (get_or hs k d)
found [] k d f o less t = absurd (omega (arith, less))
found (h ∷ hs) zero d f o less t = rw t refl
found (h ∷ hs) (suc k) d f o less t =
    let behind = begins_at hs (end_of h.frames) k d o.1 o.0 (omega (arith, less)) in
    let r = (get_or hs k d).frames in
    let w = within_means r.first.0 r.count f t in
    rw (outside_behind h.frames.first.0 h.frames.count f (omega (arith, behind, w.0)))
    (found hs k d f o.1 (omega (arith, less)) t)

-- what a piece has is found there
pub held-found : (hs : List Held) (h : Holder) (f : ℕ)
    → AreInOrder held_frames hs
    → IsHeldIn hs h f
    → held_at hs f ≡ Some h
held-found hs h f o a =
    let x = a.1 in
    let e = a.3 in
    let t : is_in_range (get_or hs a.0 x).frames f ≡ true = subst (λ y. is_in_range y.frames f ≡ true) (sym e) a.4.0 in
    ap (λ y. holder_of y f) (found hs a.0 x f o a.2 t ∙ ap Some e) ∙ ap Some a.4.1

-- what is found is a piece's
pub found-held : (hs : List Held) (h : Holder) (f : ℕ) → held_at hs f ≡ Some h → IsHeldIn hs h f
found-held [] h f e = cc
found-held (x ∷ hs) h f e = by_test (is_in_range x.frames f)
    (λ t. let is : Some (holder_on x f) ≡ Some h = rw t at e in
    let same : holder_on x f ≡ h = cc in
    (0, x, omega arith, refl, (t, same)))
    (λ t. let is : held_at hs f ≡ Some h = rw t at e in
    let more = found-held hs h f is in
    (suc more.0, more.1, omega (arith, more.2), more.3, more.4))
