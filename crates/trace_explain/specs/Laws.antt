-- Laws of explanations.
use Rattle.std.specs.Prelude.{◌≡◌, ℕ, ◌+◌, List, [], ◌∷◌, Option, Ok, Err}
use Rattle.trace_reader.specs.declared.outcome.Outcome.{Outcome}
use Rattle.trace_text.specs.Session.{Answer, Standing}
use Rattle.call_table.specs.declared.step.Step.{Step}
use Rattle.reference_model.specs.model.Rule.{Reads, Rule}
use Rattle.reference_model.specs.model.Rules.{step_rule}
use Rattle.trace_explain.specs.Causes.{tests_of}
use Rattle.trace_explain.specs.Explained.{Explains}

-- the tests of two rules have the same words
pub record HaveSameWords (a b : Rule) : Type 0 where
  pub valid : a.valid.failing ≡ b.valid.failing
  pub has_vm : a.has_vm.failing ≡ b.has_vm.failing
  pub ready : a.ready.failing ≡ b.ready.failing
  pub allowed : a.allowed.failing ≡ b.allowed.failing

-- the words of a step's rule are the same whatever it reads, so a cause is that of the test that
-- failed
abbrev pub SameWords : Type 0
SameWords = (step : Step) (x : Reads) → HaveSameWords ((step_rule step).rule x) (tests_of step)

module _ (only : Option ℕ) (name : List ℕ) (all : List (List ℕ)) where
  -- the run of an explanation: the answer of each line that was carried out, and the trace's
  -- progress then
  abbrev pub run_of : (place : ℕ) (old : Standing) (lines : List (List ℕ)) (text : List ℕ)
      (outcome : Outcome)
      → Explains only name all place old lines text outcome
      → List (Answer × Standing)
  run_of place old [] text outcome ended = []
  run_of place old (line ∷ rest) text outcome (Err stop, new, played, said) = (Err stop, new) ∷ []
  run_of place old (line ∷ rest) text outcome
      (Ok told, new, played, (block, more, made, is, follows)) = (Ok told, new)
      ∷ run_of (place + 1) new rest more outcome follows

-- two texts that explain the same run of the same lines are one, and so are their outcomes
abbrev pub OneText : Type 0
OneText =
    (only : Option ℕ) (name : List ℕ) (all : List (List ℕ)) (place : ℕ) (old : Standing)
    (lines : List (List ℕ)) (text other : List ℕ) (outcome end : Outcome)
    (e : Explains only name all place old lines text outcome)
    (f : Explains only name all place old lines other end)
    → run_of only name all place old lines text outcome e
    ≡ run_of only name all place old lines other end f
    → (text ≡ other) × (outcome ≡ end)
