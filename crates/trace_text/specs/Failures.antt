-- How a replay can fail, and how a source and a sink count their failures.
use Rattle.std.specs.Prelude.{◌≡◌, ℕ, List, take, Option, Result, Ok, Err, MatchResult}
use Rattle.std.specs.Io.KnownBytes.{Appends}
use Rattle.trace_reader.specs.Devices.{one_more}
use Rattle.trace_reader.specs.declared.outcome.EngineFault.{EngineFault}
use Rattle.trace_reader.specs.declared.outcome.EngineFault.TheVariants.{Read, Write, NoMemory}

-- a sink takes all bytes, or, if it fails, a front of them
abbrev pub WritesAll : {X E : Type 0}
    → Option (List ℕ)
    → Option (List ℕ)
    → Result X E
    → List ℕ
    → Type 0
WritesAll old new r bytes =
    MatchResult r (λ _. Appends old new bytes)
    (λ _. (count : ℕ) × Appends old new (take count bytes))

-- a failed write is reported exactly if the sink has failed, which was once; no read is made
abbrev pub ReportsWrite : {X : Type 0} → ℕ → ℕ → Result X EngineFault → Type 0
ReportsWrite before after (Ok x) = after ≡ before
ReportsWrite before after (Err Read) = ⊥
ReportsWrite before after (Err Write) = after ≡ one_more before
ReportsWrite before after (Err NoMemory) = after ≡ before

-- a failed read is reported exactly if the source has failed, which was once
abbrev pub CountsReads : {X : Type 0} → ℕ → ℕ → Result X EngineFault → Type 0
CountsReads before after (Ok x) = after ≡ before
CountsReads before after (Err Read) = after ≡ one_more before
CountsReads before after (Err Write) = after ≡ before
CountsReads before after (Err NoMemory) = after ≡ before

-- and it counts a failed write if and only if the sink failed
abbrev pub CountsWrites : {X : Type 0} → ℕ → ℕ → Result X EngineFault → Type 0
CountsWrites before after (Ok x) = after ≡ before
CountsWrites before after (Err Read) = after ≡ before
CountsWrites before after (Err Write) = after ≡ one_more before
CountsWrites before after (Err NoMemory) = after ≡ before
