-- The worked rows of the limits, computed.
use Rattle.std.proofs.Common.{zero, suc, ◌^◌, ◌≤◌, refl, arith, [], ◌∷◌, All, AllPairs}
use Rattle.page_state.specs.declared.layout.Region.{Region}
use Rattle.page_state.specs.LayoutFaults.{IsAccepted, AreDisjoint}
use Rattle.page_state.specs.Regions.{end_of}
use Rattle.page_state.specs.Limits.{memory, LargestRow, PastLimitsRow}

-- what holds of one region
one-region : (P : Region → Type 0) (a : Region) → P a → All P (a ∷ [])
one-region P a p zero d h = p
one-region P a p (suc k) d h = absurd (omega (arith, h))

no-pair : (Q : Region → Region → Type 0) (a : Region) → AllPairs Q (a ∷ [])
no-pair Q a i zero d less inside = absurd (omega (arith, less))
no-pair Q a i (suc j) d less inside = absurd (omega (arith, inside))

accepted : IsAccepted (memory 0x80000)
accepted = record {
  few = omega arith;
  pages = (one-region (λ r. 1 ≤ r.pages.count) _ (omega arith), omega arith);
  limits = (one-region (λ r. end_of r.pages ≤ 2 ^ 26) _ (omega arith), omega arith);
  disjoint = no-pair (λ r s. AreDisjoint r.pages s.pages) _;
  carve = refl;
}

pub largest_row : LargestRow
largest_row = (
  record {
    memory = accepted;
    config =
        record {
          some_cpus = omega arith;
          cpus = omega arith;
          some_calls = omega arith;
          calls = omega arith;
          known = refl;
        };
    depth = refl;
  },
  record {
    memory = accepted;
    config =
        record {
          some_cpus = omega arith;
          cpus = omega arith;
          some_calls = omega arith;
          calls = omega arith;
          known = refl;
        };
    depth = refl;
  },
  record { some_cpus = omega arith; cpus = omega arith; some_calls = omega arith; calls = omega arith; known = refl },
)

pub past_limits_row : PastLimitsRow
past_limits_row = (
  (λ h. let k = h.1 in absurd (omega (arith, k))),
  (λ h. let k = h.cpus in absurd (omega (arith, k))),
  (λ h. let k = h.some_cpus in absurd (omega (arith, k))),
  (λ h. let k = h.calls in absurd (omega (arith, k))),
  (λ h. let k = h.some_calls in absurd (omega (arith, k))),
  (λ h. let k = h.known in cc),
  (λ h. let k = h.depth in absurd (omega (arith, k))),
)
