-- What the expectation of a step means that may be made in any order.
use Rattle.std.specs.Prelude.{◌≡◌, ◌↔◌, ℕ, false, List, [], All, Contains, map}
use Rattle.race_outcomes.specs.declared.finding.Outcome.{Outcome}
use Rattle.trace_race.specs.declared.course.Asked.{Asked}
use Rattle.trace_outcomes.specs.Texts.{text_at}
use Rattle.trace_cases.specs.Kinds.{is_open, kinds}
use Rattle.trace_cases.specs.Races.{text_missed}

-- the replies to the step at a place in some outcomes
abbrev pub told_at : List Outcome → ℕ → List (List ℕ)
told_at found place = map (λ o. text_at place o.replies.items) found

-- each outcome's reply to the step at a place is a listed text, unless others may come, too; and
-- each listed text comes
pub record IsMet (found : List Outcome) (place : ℕ) (text : List ℕ) : Type 0 where
  pub among : is_open text ≡ false → All (Contains (kinds text)) (told_at found place)
  pub comes : All (Contains (told_at found place)) (kinds text)

-- an expectation has no miss if and only if it is met
abbrev pub UnmissedIsMet : Type 0
UnmissedIsMet =
    (steps : List Asked) (found : List Outcome) (place number : ℕ) (text : List ℕ)
    → (text_missed steps found place number text ≡ []) ↔ IsMet found place text
