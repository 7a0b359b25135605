-- What is read from and written to, and how it counts its failures.
use Rattle.std.specs.Prelude.{◌≡◌, ℕ, ◌+◌, min, Result, Ok, Err, MatchResult}
use Rattle.trace_reader.specs.declared.outcome.EngineFault.{EngineFault}
use Rattle.trace_reader.specs.declared.outcome.EngineFault.TheVariants.{Read, Write, NoMemory}

-- a count of failures after one more; the greatest number of 64 bits stays
abbrev pub one_more : ℕ → ℕ
one_more n = min (n + 1) 18446744073709551615

-- a call that fails is counted, and no other
abbrev pub Counts : {X E : Type 0} → ℕ → ℕ → Result X E → Type 0
Counts before after r = MatchResult r (λ _. after ≡ before) (λ _. after ≡ one_more before)

-- a failed read is reported exactly if the source has failed, which was once
abbrev pub ReportsRead : {X : Type 0} → ℕ → ℕ → Result X EngineFault → Type 0
ReportsRead before after (Ok x) = after ≡ before
ReportsRead before after (Err Read) = after ≡ one_more before
ReportsRead before after (Err Write) = ⊥
ReportsRead before after (Err NoMemory) = after ≡ before
