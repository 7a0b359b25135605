-- The decision of a step: a refusal or its changes.
use Rattle.std.specs.Prelude.{ℕ, Bool, Option, Some, None, Result, Ok, Err}
use Rattle.reference_model.specs.declared.changes.Changes.{Changes}
use Rattle.call_table.specs.declared.reply.Refusal.{Refusal}
use Rattle.call_table.specs.declared.step.Step.{Step}
use Rattle.page_state.specs.Layouts.{Layout}
use Rattle.reference_model.specs.model.Parts.{lacks_slot}
use Rattle.reference_model.specs.model.Rules.{names}
use Rattle.reference_model.specs.model.Rule.{Rule}
use Rattle.reference_model.specs.model.Step.{first_test, rule_of}
use Rattle.reference_model.specs.model.Used.{Used}

-- the decision of a rule: the refusal of the first of its four tests that fails, or its changes
abbrev pub decided : Rule → Bool → Result Changes Refusal
decided r lacks = elim (first_test r lacks) [ Some why ↦ Err why | None ↦ Ok r.changes ]

-- the decision of a step: this is the contract of a call's `decide`
abbrev pub decides : Layout → ℕ → Option ℕ → Step → Used → Result Changes Refusal
decides l cpu slot step x = decided (rule_of l cpu slot step x) (lacks_slot (names step) slot)
