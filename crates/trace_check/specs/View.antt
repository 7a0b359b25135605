-- What lists of the code hold.
use Rattle.std.specs.Prelude.{◌≡◌, ℕ, List, ◌++◌, map}
use Rattle.std.specs.Global.{Global}
use Rattle.std.specs.declared.vec.Vec.{Vec}
use Rattle.trace_text.specs.declared.report.ReportLine.{ReportLine}
use Rattle.trace_check.specs.declared.missing.Miss.{Miss}

-- what lines reported
abbrev pub told_in : List (Vec ReportLine Global) → List (List ReportLine)
told_in told = map (λ reported. reported.items) told

-- misses: the number of a line, and the mistake there
abbrev pub misses_in : List Miss → List (ℕ × List ℕ)
misses_in misses = map (λ miss. (miss.line, miss.said.items)) misses

-- misses are added to those of a list
abbrev pub AddsMisses : Vec Miss Global → Vec Miss Global → List (ℕ × List ℕ) → Type 0
AddsMisses old new misses = misses_in new.items ≡ misses_in old.items ++ misses

-- lines
abbrev pub lines_in : List (Vec ℕ Global) → List (List ℕ)
lines_in lines = map (λ line. line.items) lines

-- lines are added to those of a list
abbrev pub AddsLines : Vec (Vec ℕ Global) Global → Vec (Vec ℕ Global) Global → List (List ℕ)
    → Type 0
AddsLines old new lines = lines_in new.items ≡ lines_in old.items ++ lines
