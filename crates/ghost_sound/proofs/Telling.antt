-- What is told isn't sound, and nothing is told of what is.
use Rattle.std.proofs.Common.{◌≡◌, ℕ, Some, None}
use Rattle.std.specs.Prelude.{◌↔◌}
use Rattle.reference_model.specs.model.State.{Contents}
use Rattle.ghost_sound.specs.declared.finding.Place.{Place}
use Rattle.ghost_sound.specs.declared.finding.Unsound.{Unsound}
use Rattle.ghost_sound.specs.declared.finding.Unsound.TheVariants.{TwoOwners, TwoBorrowers, NoShare}
use Rattle.ghost_sound.specs.declared.leaves.Side.TheVariants.{Owns, Borrows}
use Rattle.ghost_sound.specs.declared.pairs.Pair.{Pair}
use Rattle.ghost_sound.specs.inner.Pairs.{IsHeldOnce, IsTwice}
use Rattle.ghost_sound.specs.Laws.{SoundElse}
use Rattle.ghost_sound.specs.Sound.{HasOneBorrower, HasOneOwner, IsSound, IsUnsharedAt, IsUnsound}
use Rattle.ghost_sound.proofs.States.{borrows-from, borrows-to, owns-from, owns-to}

module _ (s : Contents) where
  pub not-sound : (u : Unsound) → IsUnsound s u → IsSound s → ⊥
  not-sound (TwoOwners f one other) h k = let e =
      k.one_owner f one.tree one.page.0 other.tree other.page.0 h.first h.second in
      h.differ e.0 e.1
  not-sound (TwoBorrowers f one other) h k = let e =
      k.one_borrower f one.tree one.page.0 other.tree other.page.0 h.1.first h.1.second in
      h.1.differ e.0 e.1
  not-sound (NoShare f at) h k = h.2.unshared (k.shares f at.tree at.page.0 h.2.borrowed)

  pub one-owner : IsHeldOnce Owns s → HasOneOwner s
  one-owner h f a page b other x y = h f a page b other (owns-from f _ x) (owns-from f _ y)

  pub one-borrower : IsHeldOnce Borrows s → HasOneBorrower s
  one-borrower h f a page b other x y = h f a page b other (borrows-from f _ x) (borrows-from f _ y)

  pub told-of : (u : Unsound) → IsUnsound s u → (Some u ≡ None) ↔ IsSound s
  told-of u h = (λ e. absurd (cc), λ k. absurd (not-sound u h k))

  pub owners-are : (p : Pair) → IsTwice Owns s p → IsUnsound s (TwoOwners p.frame p.one p.other)
  owners-are p h = record { first = owns-to p.frame _ h.first; second = owns-to p.frame _ h.second; differ = h.differ }

  pub borrowers-are : (p : Pair)
      → IsHeldOnce Owns s
      → IsTwice Borrows s p
      → IsUnsound s (TwoBorrowers p.frame p.one p.other)
  borrowers-are p one h = (
    one-owner one,
    record { first = borrows-to p.frame _ h.first; second = borrows-to p.frame _ h.second; differ = h.differ },
  )

  pub stray-is : (f : ℕ) (at : Place)
      → IsHeldOnce Owns s
      → IsHeldOnce Borrows s
      → IsUnsharedAt s f at
      → IsUnsound s (NoShare f at)
  stray-is f at one other h = (one-owner one, one-borrower other, h)

pub sound_else : SoundElse
sound_else s why k h = not-sound s why h k
