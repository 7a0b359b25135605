-- The worked rows of the conditions, computed.
use Rattle.std.proofs.Common.{◌≡◌, ℕ, ◌+◌, refl, ap, arith, inl, inr}
use Rattle.std.specs.Prelude.{◌⊎◌}
use Rattle.page_state.specs.declared.entry.Entry.{Entry}
use Rattle.page_state.specs.declared.entry.Entry.TheVariants.{Annotated}
use Rattle.page_state.specs.EntryTests.{entry_frame, annotation}
use Rattle.reference_model.specs.rows.ConditionRows.{HostAloneRow, HostSharedRow, HypRow, GuestRow, RowsOfEach, KeepersRow, MovesRow}

-- an entry that is neither of two
neither : {e a b : Entry} → (e ≡ a → ⊥) → (e ≡ b → ⊥) → (e ≡ a) ⊎ (e ≡ b) → ⊥
neither p q (inl h) = p h
neither p q (inr h) = q h

-- entries of other frames, and annotations of other numbers
other-frame : {e d : Entry} → e ≡ d → (entry_frame e ≡ entry_frame d → ⊥) → ⊥
other-frame h n = n (ap entry_frame h)

abbrev number_of : Entry → ℕ
number_of (Annotated owner) = owner.0
number_of e = 0

other-number : {m n : ℕ} → annotation m ≡ annotation n → m ≡ n
other-number h = ap number_of h

pub host_alone_row : HostAloneRow
host_alone_row =
    let six : 6 ≡ 5 → ⊥ = λ (e : 6 ≡ 5). absurd (omega (arith, e)) in (
      inl refl,
      inr refl,
      neither (λ h. cc) (λ h. cc),
      neither (λ h. cc) (λ h. other-frame h six),
      inl refl,
      inr refl,
      neither (λ h. cc) (λ h. other-frame h six),
      neither (λ h. cc) (λ h. cc),
      neither (λ h. cc) (λ h. cc),
    )

pub host_shared_row : HostSharedRow
host_shared_row =
    let two : 2 ≡ 1 → ⊥ = λ (e : 2 ≡ 1). absurd (omega (arith, e)) in
    let nine : 9 ≡ 5 → ⊥ = λ (e : 9 ≡ 5). absurd (omega (arith, e)) in
    let four : 2 ≡ 2 + 2 → ⊥ = λ (e : 2 ≡ 2 + 2). absurd (omega (arith, e)) in (
      refl,
      (λ h. cc),
      refl,
      (λ h. two (other-number h)),
      refl,
      (λ h. other-frame h nine),
      refl,
      (λ h. four (other-number h)),
      refl,
      (λ h. cc),
    )

pub hyp_row : HypRow
hyp_row = refl

pub guest_row : GuestRow
guest_row = (refl, refl, refl)

pub rows_of_each : RowsOfEach
rows_of_each = refl

pub keepers_row : KeepersRow
keepers_row = (refl, refl, refl)

pub moves_row : MovesRow
moves_row = (refl, refl, refl, refl, refl, refl, refl, refl, refl, refl)
