-- Which replies are stored.
use Rattle.std.proofs.Common.{◌≡◌, ◌≢◌, refl, inl, inr, ◌⊎◌, true, false}
use Rattle.call_table.specs.declared.reply.Refusal.TheVariants as refusals
use Rattle.call_table.specs.declared.reply.Reply.{Reply}
use Rattle.call_table.specs.declared.reply.Reply.TheVariants.{Done, Refused}
use Rattle.reference_model.specs.model.History.{IsStored}
use Rattle.trace_race.specs.Made.{is_stored}

-- a reply is stored, or a log was full
pub kept_cases : (reply : Reply)
    → reply ≢ Refused refusals.Contended
    → (IsStored reply × (is_stored reply ≡ true)) ⊎ ((reply ≡ Refused refusals.LogFull) × (is_stored reply ≡ false))
kept_cases (Done value) other = inl (tt, refl)
kept_cases (Refused refusals.Perm) other = inl (tt, refl)
kept_cases (Refused refusals.NoVm) other = inl (tt, refl)
kept_cases (Refused refusals.NoMemory) other = inl (tt, refl)
kept_cases (Refused refusals.Busy) other = inl (tt, refl)
kept_cases (Refused refusals.Invalid) other = inl (tt, refl)
kept_cases (Refused refusals.NoPool) other = inl (tt, refl)
kept_cases (Refused refusals.LogFull) other = inr (refl, refl)
kept_cases (Refused refusals.Contended) other = absurd (other refl)

-- a reply that is stored
pub stored_is : (reply : Reply) → is_stored reply ≡ true → IsStored reply
stored_is (Done value) e = tt
stored_is (Refused refusals.Perm) e = tt
stored_is (Refused refusals.NoVm) e = tt
stored_is (Refused refusals.NoMemory) e = tt
stored_is (Refused refusals.Busy) e = tt
stored_is (Refused refusals.Invalid) e = tt
stored_is (Refused refusals.NoPool) e = tt
stored_is (Refused refusals.LogFull) e = cc
stored_is (Refused refusals.Contended) e = cc
