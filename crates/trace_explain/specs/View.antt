-- What code holds, in the words of explanations.
use Rattle.std.proofs.Common.{Bor}
use Rattle.std.specs.Prelude.{ℕ, ◌+◌, Bool, List, map, string_bytes, Option}
use Rattle.call_table.specs.declared.step.Step.{Step}
use Rattle.trace_explain.specs.declared.explaining.Look.{Look}
use Rattle.trace_explain.specs.Carried.{IsCarried}
use Rattle.trace_explain.specs.Explained.{faulty, line_with}
use Rattle.trace_explain.specs.Looks.{Look as SeenLook}
use Rattle.trace_text.specs.declared.fault.Fault.{Fault}
use Rattle.trace_text.specs.declared.session.Reported.{Reported}
use Rattle.trace_text.specs.declared.session.Session.{Session}
use Rattle.trace_text.specs.ByPlace.{line_at, lines_in}
use Rattle.trace_text.specs.View.{lines_reported, standing_of}

-- looks
abbrev pub looks_in : List Look → List SeenLook
looks_in looks = map (λ look. (look.place, string_bytes look.before)) looks

-- the same, and a text got its shown part
abbrev pub IsCarriedAt : {A : Type 0}
    → Bool
    → List (Bor (List ℕ))
    → ℕ
    → Session A
    → List ℕ
    → Session A
    → List ℕ
    → Option Fault
    → Type 0
IsCarriedAt shown lines place old before new after fault =
    IsCarried shown (place + 1) (line_at lines place) (standing_of old) before
    (standing_of new) after fault

-- the explanation of a line that a session carried out
abbrev pub told_line : {A : Type 0}
    → Session A
    → List ℕ
    → Option (ℕ × Step)
    → List Look
    → Reported
    → List ℕ
told_line session line asked looks reported =
    line_with line asked (looks_in looks) (lines_reported session reported)
    (standing_of session).machine

-- the report of a line with a fault
abbrev pub told_fault : List ℕ → List (Bor (List ℕ)) → ℕ → Fault → List ℕ
told_fault name lines place fault = faulty name (lines_in lines) place (line_at lines place) fault
