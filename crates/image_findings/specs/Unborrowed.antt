-- Frames that are shared and that nobody borrows, or borrowed and that nobody shares.
use Rattle.std.specs.Prelude.{ℕ, zero, suc, ◌+◌, ◌^◌, ◌&&◌, not, nat_le, Bool, List, Option, Some, None, option_map, if◌then◌else◌}
use Rattle.std.specs.List.{list_any}
use Rattle.image_findings.specs.Claims.{borrows, shares}
use Rattle.image_findings.specs.Findings.{has_frame}
use Rattle.image_findings.specs.declared.claim.Claim.{Claim}
use Rattle.image_findings.specs.declared.unborrowed.Side.{Side}
use Rattle.image_findings.specs.declared.unborrowed.Side.TheVariants.{Sharer, Borrower}
use Rattle.image_findings.specs.declared.finding.Finding.{Finding}
use Rattle.image_findings.specs.declared.finding.Finding.TheVariants.{NoBorrower, Unshared}

-- a claim is on this side of a share
abbrev pub is_on : Side → Claim → Bool
is_on Sharer c = shares c
is_on Borrower c = borrows c

-- and has a frame
abbrev pub is_of : Side → ℕ → Claim → Bool
is_of side frame c = is_on side c && has_frame c frame

-- the first of `count` frames from one on that no claim has on this side; frames are below 2^64
unfoldable pub first_from : Side → List Claim → (frame count : ℕ) → Option ℕ
first_from side claims frame zero = None
first_from side claims frame (suc n) =
    if nat_le (2 ^ 64) frame then None
    else (if not (list_any (is_of side frame) claims) then Some frame
    else first_from side claims (frame + 1) n)

-- what a claim shares and nobody borrows
abbrev pub unborrowed_of : List Claim → Claim → Option Finding
unborrowed_of claims claim =
    if not (shares claim) then None
    else option_map (λ frame. NoBorrower frame claim)
    (first_from Borrower claims claim.frame claim.count)

-- what a claim borrows and nobody shares
abbrev pub unshared_of : List Claim → Claim → Option Finding
unshared_of claims claim =
    if not (borrows claim) then None
    else option_map (λ frame. Unshared frame claim)
    (first_from Sharer claims claim.frame claim.count)
