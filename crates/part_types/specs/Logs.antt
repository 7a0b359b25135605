-- The view of a log in contracts.
use Rattle.std.specs.Prelude.{◌≡◌, ℕ, ◌+◌, List, [], length}
use Rattle.call_table.specs.declared.reply.Call.{Call}

-- the stored calls, the oldest first, and how many more can be stored
pub record StoredCalls : Type 0 where
  pub calls : List Call
  pub room : ℕ

-- a log that can store `most` calls in all
abbrev pub IsOfSize : ℕ → StoredCalls → Type 0
IsOfSize most log = length log.calls + log.room ≡ most

-- a log in which no call is stored yet
pub record IsNewLog (most : ℕ) (log : StoredCalls) : Type 0 where
  pub empty : log.calls ≡ []
  pub size : IsOfSize most log
