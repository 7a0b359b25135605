-- The lines of a trace by their places, and one that a session carried out.
use Rattle.std.specs.Borrow.{Bor}
use Rattle.std.specs.Prelude.{ℕ, ◌+◌, List, [], map, slice_index_or, Result}
use Rattle.trace_text.specs.declared.session.Reported.{Reported}
use Rattle.trace_text.specs.declared.session.Session.{Session}
use Rattle.trace_text.specs.declared.session.Stop.{Stop}
use Rattle.trace_text.specs.Oracles.{agreed}
use Rattle.trace_text.specs.Replay.{IsPlayed}
use Rattle.trace_text.specs.View.{answer_of, standing_of}

-- the lines of a trace, and one by its place from 0 on
abbrev pub lines_in : List (Bor (List ℕ)) → List (List ℕ)
lines_in lines = map (λ line. line.now) lines

abbrev pub line_at : List (Bor (List ℕ)) → ℕ → List ℕ
line_at lines place = slice_index_or (lines_in lines) place []

-- the line at a place was carried out by a session, with this result
abbrev pub IsPlayedAt : {A : Type 0}
    → List (Bor (List ℕ))
    → ℕ
    → Session A
    → Result Reported Stop
    → Session A
    → Type 0
IsPlayedAt lines place old result new =
    IsPlayed agreed (place + 1) (line_at lines place) (standing_of old) (answer_of new result)
    (standing_of new)
