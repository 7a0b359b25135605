-- What holds if no finding is named.
use Rattle.std.specs.Prelude.{◌≡◌, ℕ, ◌+◌, ◌^◌, ◌<◌, true, List, [], length, slice_get, Some}
use Rattle.std.specs.List.{filter_map, list_any}
use Rattle.image_findings.specs.Claims.{borrows, owns, shares}
use Rattle.image_findings.specs.Findings.{are_apart, clashes_of, has_frame}
use Rattle.image_findings.specs.Unborrowed.{is_of, unborrowed_of, unshared_of}
use Rattle.image_findings.specs.declared.claim.Claim.{Claim}
use Rattle.image_findings.specs.declared.unborrowed.Side.TheVariants.{Sharer, Borrower}

-- two claims have a frame
pub record HaveFrame (claims : List Claim) (i j : ℕ) (a b : Claim) (frame : ℕ) : Type 0 where
  pub order : i < j
  pub first : slice_get claims i ≡ Some a
  pub second : slice_get claims j ≡ Some b
  pub in_first : has_frame a frame ≡ true
  pub in_second : has_frame b frame ≡ true

-- if no clash is named, two claims own a frame only if the host names a tree as the owner and the
-- tree maps it
abbrev pub HaveOneOwner : Type 0
HaveOneOwner =
    (claims : List Claim) (i j : ℕ) (a b : Claim) (frame : ℕ)
    → clashes_of claims (length claims) ≡ []
    → HaveFrame claims i j a b frame
    → owns a ≡ true
    → owns b ≡ true
    → are_apart a b ≡ true

-- and no two borrow one
abbrev pub HaveOneBorrower : Type 0
HaveOneBorrower =
    (claims : List Claim) (i j : ℕ) (a b : Claim) (frame : ℕ)
    → clashes_of claims (length claims) ≡ []
    → HaveFrame claims i j a b frame
    → borrows a ≡ true
    → borrows b ≡ true
    → ⊥

-- if no share is named, each frame that a claim shares has a borrower
abbrev pub AreBorrowed : Type 0
AreBorrowed =
    (claims : List Claim) (i k : ℕ) (a : Claim)
    → filter_map (unborrowed_of claims) claims ≡ []
    → slice_get claims i ≡ Some a
    → shares a ≡ true
    → k < a.count
    → a.frame + a.count < 2 ^ 64
    → list_any (is_of Borrower (a.frame + k)) claims ≡ true

-- if no borrower is named, each frame that a claim borrows has one who shares it
abbrev pub AreShared : Type 0
AreShared =
    (claims : List Claim) (i k : ℕ) (a : Claim)
    → filter_map (unshared_of claims) claims ≡ []
    → slice_get claims i ≡ Some a
    → borrows a ≡ true
    → k < a.count
    → a.frame + a.count < 2 ^ 64
    → list_any (is_of Sharer (a.frame + k)) claims ≡ true
