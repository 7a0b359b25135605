-- Frames of a range, one by one, until a record denies one.
use Rattle.std.proofs.Common.{◌≡◌, ℕ, suc, ◌+◌, ◌-◌, ◌^◌, ◌<◌, ◌≤◌, true, false, Option, Some, None, refl, sym, ap, ◌∙◌, arith}
use Rattle.std.specs.Prelude.{nat_le, if◌then◌else◌}
use Rattle.std.proofs.lemmas.Bool.Decides.{nat_tests}
use Rattle.image_trees.specs.Records.{denied_from, is_denied}

module _ (record_of : ℕ → Option ℕ) (tree : ℕ) where
  step : (frame n : ℕ)
      → denied_from record_of tree frame (suc n)
      ≡ (if nat_le (2 ^ 63) frame then None
      else (if is_denied tree (record_of frame) then Some frame else denied_from record_of tree (frame + 1) n))
  unfolding denied_from
  step frame n = refl

  none : (frame : ℕ) → denied_from record_of tree frame 0 ≡ None
  unfolding denied_from
  none frame = refl

  at_step : (frame count i : ℕ)
      → i < count
      → denied_from record_of tree (frame + i) (count - i)
      ≡ (if nat_le (2 ^ 63) (frame + i) then None
      else (if is_denied tree (record_of (frame + i)) then Some (frame + i)
      else denied_from record_of tree (frame + i + 1) (count - (i + 1))))
  at_step frame count i h =
      let e : count - i ≡ suc (count - (i + 1)) = omega arith in
      ap (denied_from record_of tree (frame + i)) e ∙ step (frame + i) (count - (i + 1))

  pub past_frames : (frame count i : ℕ) (goal : Option ℕ)
      → i < count
      → 2 ^ 63 ≤ frame + i
      → denied_from record_of tree (frame + i) (count - i) ≡ goal
      → None ≡ goal
  past_frames frame count i goal h past e =
      let t : nat_le (2 ^ 63) (frame + i) ≡ true = grind (arith, nat_tests) in
      let here = at_step frame count i h in
      sym (rw t at here) ∙ e

  pub found_frame : (frame count i : ℕ) (goal : Option ℕ)
      → i < count
      → frame + i < 2 ^ 63
      → is_denied tree (record_of (frame + i)) ≡ true
      → denied_from record_of tree (frame + i) (count - i) ≡ goal
      → Some (frame + i) ≡ goal
  found_frame frame count i goal h small found e =
      let t : nat_le (2 ^ 63) (frame + i) ≡ false = grind (arith, nat_tests) in
      let here = at_step frame count i h in
      sym (rw (t, found) at here) ∙ e

  pub next_frame : (frame count i : ℕ) (goal : Option ℕ)
      → i < count
      → frame + i < 2 ^ 63
      → is_denied tree (record_of (frame + i)) ≡ false
      → denied_from record_of tree (frame + i) (count - i) ≡ goal
      → denied_from record_of tree (frame + (i + 1)) (count - (i + 1)) ≡ goal
  next_frame frame count i goal h small other e =
      let t : nat_le (2 ^ 63) (frame + i) ≡ false = grind (arith, nat_tests) in
      let here = at_step frame count i h in
      let same : frame + (i + 1) ≡ frame + i + 1 = omega arith in
      ap (λ f. denied_from record_of tree f (count - (i + 1))) same ∙ (sym (rw (t, other) at here) ∙ e)

  pub first_frame : (frame count : ℕ)
      → denied_from record_of tree (frame + 0) (count - 0) ≡ denied_from record_of tree frame count
  first_frame frame count =
      let f : frame + 0 ≡ frame = omega arith in
      let n : count - 0 ≡ count = omega arith in
      ap (λ k. denied_from record_of tree k (count - 0)) f ∙ ap (denied_from record_of tree frame) n

  pub no_more_frames : (frame count i : ℕ) (goal : Option ℕ)
      → count ≤ i
      → denied_from record_of tree (frame + i) (count - i) ≡ goal
      → None ≡ goal
  no_more_frames frame count i goal h e =
      let n : count - i ≡ 0 = omega arith in
      sym (none (frame + i)) ∙ (ap (denied_from record_of tree (frame + i)) (sym n) ∙ e)
