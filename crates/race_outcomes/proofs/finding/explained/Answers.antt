use Rattle.std.proofs.Common.{◌≡◌, ℕ, List, [], subst, Vec, Global}
use Rattle.std.specs.Prelude.{Contains, MatchOption, None, Option, Some}
use Rattle.page_state.specs.Layouts.{Layout}
use Rattle.page_state.specs.LayoutView.{layout_of}
use Rattle.reference_model.specs.model.State.{Reference}
use Rattle.ghost_spec.specs.States.{ghost_state}
use Rattle.race_outcomes.specs.declared.finding.Outcome.{Outcome}
use Rattle.race_outcomes.specs.declared.node.Turn.{Turn}
use Rattle.race_outcomes.specs.Orders.{AllOutcomes, IsExplained}
use Rattle.race_outcomes.proofs.Found.{none_gives, one_gives}
use Rattle.race_outcomes.proofs.finding.explained.Goals as goal

by_order : (l : Layout) (s : Reference) (turns : List Turn) (wanted : List (Option (Vec ℕ Global))) (os : List Outcome)
    → AllOutcomes l s turns wanted os
    → (o : Option (Vec ℕ Global))
    → MatchOption o (os ≡ []) (λ v. (x : Outcome) × Contains os x × (v.items ≡ x.order.items))
    → IsExplained l s turns wanted o
by_order l s turns wanted os all None h = none_gives l s turns wanted os all h
by_order l s turns wanted os all (Some v) h = one_gives l s turns wanted os h.0 v.items all h.1 h.2

pub returns-in-Ok-clause-order : goal.returns-in-Ok-clause-order
returns-in-Ok-clause-order g c =
    let os = c.in_ok-found.found.items in
    let order = c.in-Ok.order in
    by_order (layout_of c.args.state.now.layout)
    (ghost_state c.args.state.now) c.args.turns.now c.args.wanted.now os c.in_ok-found.ensures.all order
    (subst
    (λ xs. MatchOption order (xs ≡ [])
    (λ v. (x : Outcome) × Contains xs x × (v.items ≡ x.order.items))) c.as_slice.ensures.value c.in-Ok.ensures)
