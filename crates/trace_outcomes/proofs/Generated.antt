-- No step of a trace releases a VM whose generation is the greatest u64.
use Rattle.std.proofs.Common.{◌≡◌, ℕ, ◌+◌, ◌<◌, ◌≤◌, ◌^◌, arith, false, inl, inr, refl, subst, sym, true, ◌⊎◌, List, [], ◌∷◌, length, take}
use Rattle.std.proofs.lemmas.List.{length-take}
use Rattle.page_state.proofs.Common.{both}
use Rattle.page_state.specs.Layouts.{Layout}
use Rattle.call_table.specs.declared.reply.Reply.{Reply}
use Rattle.reference_model.specs.model.State.{Reference}
use Rattle.reference_model.specs.model.Step.{predict_step}
use Rattle.race_outcomes.specs.declared.finding.OutcomesFault.{OutcomesFault}
use Rattle.race_outcomes.specs.declared.finding.OutcomesFault.TheVariants.{Generation, NoMemory, TooMany}
use Rattle.race_outcomes.specs.declared.node.Turn.{Turn}
use Rattle.race_outcomes.specs.Orders.{IsOutcomesFault, IsStepFault, Leads, Point, is_wanting, replies_along, model_reply}
use Rattle.race_outcomes.proofs.Counts.{order_few}
use Rattle.race_outcomes.proofs.Told.{told_plain, told_want}
use Rattle.trace_race.specs.Judged.{HasGenerationsTo}
use Rattle.trace_race.proofs.Generations.{foretold_to, next_to, stays_to}
use Rattle.trace_outcomes.specs.Made.{IsNoGeneration}
use Rattle.std.specs.Prelude.{Option, Vec}
use Rattle.std.specs.Global.{Global}

module _ (l : Layout) where
  told_low : (n : ℕ) (s : Reference) (turn : Turn)
      → 1 ≤ n
      → HasGenerationsTo n s.contents
      → HasGenerationsTo (n + 1) (model_reply l s turn).1.contents
  told_low n s turn some low = by_want (both (is_wanting turn (predict_step l s turn.cpu turn.step).0))
    where
      by_want : (is_wanting turn (predict_step l s turn.cpu turn.step).0 ≡ true)
          ⊎ (is_wanting turn (predict_step l s turn.cpu turn.step).0 ≡ false)
          → HasGenerationsTo (n + 1) (model_reply l s turn).1.contents
      by_want (inl so) =
          subst (λ (r : Reply × Reference). HasGenerationsTo (n + 1) r.1.contents) (sym (told_want l s turn so))
          (stays_to n some l s turn.cpu turn.step low)
      by_want (inr not-so) =
          subst (λ (r : Reply × Reference). HasGenerationsTo (n + 1) r.1.contents) (sym (told_plain l s turn not-so))
          (foretold_to n some l s turn.cpu turn.step low)

  pub along_low : (n : ℕ) (s : Reference) (turns : List Turn)
      → 1 ≤ n
      → HasGenerationsTo n s.contents
      → HasGenerationsTo (n + length turns) (replies_along l s turns).1.contents
  along_low n s [] some low = subst (λ k. HasGenerationsTo k s.contents) (omega arith) low
  along_low n s (t ∷ more) some low =
      subst (λ k. HasGenerationsTo k (replies_along l s (t ∷ more)).1.contents) (omega arith)
      (along_low (n + 1) (model_reply l s t).1 more (omega arith) (told_low n s t some low))

  leads_low : (turns : List Turn) (n : ℕ) (order : List ℕ) (p q : Point)
      → 1 ≤ n
      → Leads l turns p order q
      → HasGenerationsTo n p.state.contents
      → HasGenerationsTo (n + length order) q.state.contents
  leads_low turns n [] p q some h low =
      subst (λ (x : Point). HasGenerationsTo (n + 0) x.state.contents) (sym h)
      (subst (λ k. HasGenerationsTo k p.state.contents) (omega arith) low)
  leads_low turns n (place ∷ more) p q some h low =
      let made =
      subst (λ (x : Point). HasGenerationsTo (n + 1) x.state.contents) (sym h.1.made)
      (told_low n p.state h.1.turn some low) in
      subst (λ k. HasGenerationsTo k q.state.contents) (omega arith)
      (leads_low turns (n + 1) more h.0 q (omega arith) h.2 made)

  pub none_last : (s : Reference) (turns : List Turn) (n : ℕ) (wanted : List (Option (Vec ℕ Global))) (limit : ℕ)
      (fault : OutcomesFault)
      → 1 ≤ n
      → n + length turns + 1 < 2 ^ 64
      → HasGenerationsTo n s.contents
      → IsOutcomesFault l s turns wanted limit fault
      → IsNoGeneration fault
  none_last s turns n wanted limit (TooMany made) some few low h = tt
  none_last s turns n wanted limit Generation some few low h =
      let short = order_few l turns s h.order h.point h.leads in
      let there = leads_low turns n h.order _ h.point some h.leads low in
      h.last
      (next_to (n + length h.order) h.point.state.contents h.turn.cpu h.turn.step (omega (arith, short, few)) there)
  none_last s turns n wanted limit NoMemory some few low h = tt

  pub steps_refused : (s : Reference) (turns : List Turn) (n : ℕ) (fault : OutcomesFault)
      → 1 ≤ n
      → n + length turns + 1 < 2 ^ 64
      → HasGenerationsTo n s.contents
      → IsStepFault l s turns fault
      → fault ≡ NoMemory
  steps_refused s turns n (TooMany made) some few low h = absurd h
  steps_refused s turns n Generation some few low (k, turn, at, last) =
      let there = along_low n s (take k turns) some low in
      let short = length-take k turns in
      absurd
      (last
      (next_to (n + length (take k turns)) (replies_along l s (take k turns)).1.contents turn.cpu turn.step
      (omega (arith, short, few)) there))
  steps_refused s turns n NoMemory some few low h = refl
