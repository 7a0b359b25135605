-- The part of a history that comes before one of a CPU's own calls.
use Rattle.std.specs.Prelude.{ℕ, zero, suc, ◌==◌, List, [], ◌∷◌, if◌then◌else◌}
use Rattle.call_table.specs.declared.reply.Call.{Call}

-- the calls before the one that follows the CPU's first n: all calls, if the CPU made no more
abbrev pub before_own : ℕ → ℕ → List Call → List Call
before_own cpu n [] = []
before_own cpu zero (c ∷ cs) = if c.cpu == cpu then [] else c ∷ before_own cpu zero cs
before_own cpu (suc n) (c ∷ cs) =
    if c.cpu == cpu then c ∷ before_own cpu n cs else c ∷ before_own cpu (suc n) cs
