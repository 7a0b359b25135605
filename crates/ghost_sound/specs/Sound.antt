-- The soundness of a state, from its maps only, and the reasons why it isn't sound. Frames that are
-- no memory count too.
use Rattle.std.specs.Prelude.{◌≡◌, ℕ}
use Rattle.descriptor.specs.declared.State.TheVariants.{SharedOwned, SharedBorrowed}
use Rattle.reference_model.specs.claims.Sound.{Holds, Maps}
use Rattle.reference_model.specs.model.State.{Contents}
use Rattle.ghost_sound.specs.declared.finding.Place.{Place}
use Rattle.ghost_sound.specs.declared.finding.Unsound.{Unsound}
use Rattle.ghost_sound.specs.declared.finding.Unsound.TheVariants.{TwoOwners, TwoBorrowers, NoShare}

module _ (s : Contents) where
  -- at most one entry of a frame is its owner's: a leaf in state Owned or SharedOwned
  abbrev pub HasOneOwner : Type 0
  HasOneOwner =
      (f a page b other : ℕ) → Holds s a page f → Holds s b other f → (b ≡ a) × (other ≡ page)

  -- at most one is a borrower's
  abbrev pub HasOneBorrower : Type 0
  HasOneBorrower =
      (f a page b other : ℕ)
      → Maps s a page f SharedBorrowed
      → Maps s b other f SharedBorrowed
      → (b ≡ a) × (other ≡ page)

  -- somebody shares the frame
  abbrev pub IsShared : ℕ → Type 0
  IsShared f = (component : ℕ) × (page : ℕ) × Maps s component page f SharedOwned

  -- each frame that is borrowed is shared
  abbrev pub HasShares : Type 0
  HasShares = (f component page : ℕ) → Maps s component page f SharedBorrowed → IsShared f

  -- the maps are sound
  pub record IsSound : Type 0 where
    pub one_owner : HasOneOwner
    pub one_borrower : HasOneBorrower
    pub shares : HasShares

  -- two entries are owners' of the frame, at two places
  pub record AreTwoOwners (f : ℕ) (one other : Place) : Type 0 where
    pub first : Holds s one.tree one.page.0 f
    pub second : Holds s other.tree other.page.0 f
    pub differ : other.tree ≡ one.tree → other.page.0 ≡ one.page.0 → ⊥

  -- two entries are borrowers' of the frame, at two places
  pub record AreTwoBorrowers (f : ℕ) (one other : Place) : Type 0 where
    pub first : Maps s one.tree one.page.0 f SharedBorrowed
    pub second : Maps s other.tree other.page.0 f SharedBorrowed
    pub differ : other.tree ≡ one.tree → other.page.0 ≡ one.page.0 → ⊥

  -- the frame is borrowed there, and nobody shares it
  pub record IsUnsharedAt (f : ℕ) (at : Place) : Type 0 where
    pub borrowed : Maps s at.tree at.page.0 f SharedBorrowed
    pub unshared : IsShared f → ⊥

  -- the fault is there, and no earlier one is
  abbrev pub IsUnsound : Unsound → Type 0
  IsUnsound (TwoOwners f one other) = AreTwoOwners f one other
  IsUnsound (TwoBorrowers f one other) = HasOneOwner × AreTwoBorrowers f one other
  IsUnsound (NoShare f at) = HasOneOwner × HasOneBorrower × IsUnsharedAt f at
