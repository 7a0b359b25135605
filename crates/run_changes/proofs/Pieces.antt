-- What changed on a piece of pages along which both maps go on.
use Rattle.std.proofs.Common.{◌≡◌, ℕ, ◌+◌, ◌-◌, ◌^◌, ◌<◌, ◌≤◌, true, false, List, [], ◌∷◌, Option, Some, None, refl, sym, ap, subst, ◌∙◌, arith}
use Rattle.std.proofs.lemmas.Bool.Decides.{nat_tests}
use Rattle.page_state.proofs.Cases.{by_lt}
use Rattle.page_state.proofs.Common.{if-true, if-false}
use Rattle.page_state.specs.Map.{is_within}
use Rattle.run_list.specs.declared.run.Run.{Run}
use Rattle.run_list.specs.Runs.{AreInReach, run_map, map_updated, option_advance}
use Rattle.run_list.proofs.Maps.{run_high}
use Rattle.run_changes.specs.declared.change.Change.{Change}
use Rattle.run_changes.specs.Changes.{advance_change, AdvancesApart, IsDifference}

within : (a n p : ℕ) → a ≤ p → p < a + n → is_within a n p ≡ true
within a n p h k = grind (arith, nat_tests)

before : (a n p : ℕ) → p < a → is_within a n p ≡ false
before a n p h = grind (arith, nat_tests)

behind : (a n p : ℕ) → a + n ≤ p → is_within a n p ≡ false
behind a n p h = grind (arith, nat_tests)

some-same : {V : Type 0} (v w : V) → ◌≡◌ {A = Option V} (Some v) (Some w) → v ≡ w
some-same v w e = cc

module _ {V : Type 0} (advance : V → ℕ → V) where
  -- no run has a page that code can't reach
  pub none_end : (can : V → ℕ → Type 0) (rs : List (Run V)) (p : ℕ)
      → AreInReach can rs
      → 2 ^ 63 ≤ p
      → run_map advance rs p ≡ None
  none_end can [] p r h = refl
  none_end can (x ∷ rs) p r h = run_high advance x rs p (omega (arith, r.0.pages, h)) ∙ none_end can rs p r.1 h

  module _ (apart : AdvancesApart advance) where
    options_apart : (a b : Option V) (n : ℕ) → option_advance advance a n ≡ option_advance advance b n → a ≡ b
    options_apart None None n e = refl
    options_apart None (Some w) n e = absurd (let f : ◌≡◌ {A = Option V} None (Some (advance w n)) = e in cc)
    options_apart (Some v) None n e = absurd (let f : ◌≡◌ {A = Option V} (Some (advance v n)) None = e in cc)
    options_apart (Some v) (Some w) n e = ap Some (apart v w n (some-same (advance v n) (advance w n) e))

    further : (a b : Option V) (d : Option (Change V)) (n : ℕ)
        → IsDifference a b d
        → IsDifference (option_advance advance a n) (option_advance advance b n)
        (option_advance (advance_change advance) d n)
    further a b None n h = ap (λ o. option_advance advance o n) h
    further a b (Some c) n h = (
      ap (λ o. option_advance advance o n) h.0,
      ap (λ o. option_advance advance o n) h.1,
      λ e. h.2 (options_apart a b n e),
    )

    -- a map goes on from a page up to another
    abbrev GoesOn : ℕ → ℕ → (ℕ → Option V) → Type 0
    GoesOn low high m = (p : ℕ) → low ≤ p → p < high → m p ≡ option_advance advance (m low) (p - low)

    -- up to a page all is found, and nothing else
    abbrev Front : ℕ → (ℕ → Option V) → (ℕ → Option V) → (ℕ → Option (Change V)) → Type 0
    Front low b a found = (p : ℕ) → p < low → IsDifference (b p) (a p) (found p)

    abbrev Back : ℕ → (ℕ → Option (Change V)) → Type 0
    Back low found = (p : ℕ) → low ≤ p → found p ≡ None

    module _ (b a : ℕ → Option V) (found new : ℕ → Option (Change V)) (low high : ℕ) (d : Option (Change V))
        (less : low < high) (is : IsDifference (b low) (a low) d)
        (laid : new ≡ map_updated (advance_change advance) found low (high - low) d) where
      at : (p : ℕ) → new p ≡ map_updated (advance_change advance) found low (high - low) d p
      at p = ap (λ m. m p) laid

      on : (p : ℕ) → low ≤ p → p < high → new p ≡ option_advance (advance_change advance) d (p - low)
      on p h k =
          at p
          ∙ if-true (is_within low (high - low) p) (option_advance (advance_change advance) d (p - low)) (found p)
          (within low (high - low) p h (omega (arith, k, less)))

      off : (p : ℕ) → is_within low (high - low) p ≡ false → new p ≡ found p
      off p h =
          at p
          ∙ if-false (is_within low (high - low) p) (option_advance (advance_change advance) d (p - low))
          (found p) h

      pub front_piece : (old : Front low b a found) (goes_b : GoesOn low high b) (goes_a : GoesOn low high a)
          → Front high b a new
      front_piece old goes_b goes_a p h =
          by_lt p low
          (λ l. subst (IsDifference (b p) (a p)) (sym (off p (before low (high - low) p l))) (old p l))
          (λ g.
          subst (IsDifference (b p) (a p)) (sym (on p g h))
          (subst (λ x. IsDifference x (a p) (option_advance (advance_change advance) d (p - low))) (sym (goes_b p g h))
          (subst
          (λ x. IsDifference (option_advance advance (b low) (p - low)) x
          (option_advance (advance_change advance) d (p - low)))
          (sym (goes_a p g h)) (further (b low) (a low) d (p - low) is))))

      pub back_piece : Back low found → Back high new
      back_piece old p h = off p (behind low (high - low) p (omega (arith, h, less))) ∙ old p (omega (arith, h, less))
