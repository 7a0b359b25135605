-- The gate hears of each call that a pass makes.
use Rattle.std.proofs.Common.{◌≡◌, ℕ, ◌+◌, ⊎_elim, ◌∙◌, ◌++◌, ◌∷◌, [], ap, subst, length, length-append, arith}
use Rattle.page_state.proofs.Cases.{by_lt}
use Rattle.call_table.specs.declared.reply.Reply.{Reply}
use Rattle.call_table.specs.declared.step.Step.{Step}
use Rattle.reference_model.specs.model.History.{IsStored}
use Rattle.part_table.specs.Known.{Known}
use Rattle.cpu_threads.specs.Machines.{FullInTheEnd, StoresInTheEnd}
use Rattle.trace_race.specs.Made.{Calls}
use Rattle.trace_race.specs.Workers.{HearsEach}
use Rattle.trace_race.proofs.Kept.{kept_cases}

module _ (Heard : ℕ → Type 0) where
  -- no call more
  pub hears_none : (v w : Known) → length w.own.log.calls ≡ length v.own.log.calls → HearsEach Heard v w
  hears_none v w same number above below = absurd (omega (arith, same, above, below))

  -- one call more
  hears_one : (v w : Known)
      → length w.own.log.calls ≡ length v.own.log.calls + 1
      → Heard (length v.own.log.calls + 1)
      → HearsEach Heard v w
  hears_one v w more heard number above below = let is : length v.own.log.calls + 1 ≡ number =
      omega (arith, more, above, below) in
      subst Heard is heard

  pub hears_call : (step : Step) (reply : Reply) (v w : Known)
      → Calls step reply v w
      → (IsStored reply → Heard (length v.own.log.calls + 1))
      → HearsEach Heard v w
  hears_call step reply v w c heard = ⊎_elim
      (λ k.
      let s : StoresInTheEnd step reply v w = c.stored k.0 in
      let calls : w.own.log.calls ≡ v.own.log.calls ++ s.stores.call ∷ [] =
      ap (λ g. g.calls) s.stores.own
      ∙ ap (λ (k : Known). k.own.log.calls ++ s.stores.call ∷ []) s.met.same in
      hears_one v w (ap length calls ∙ length-append v.own.log.calls (s.stores.call ∷ [])) (heard k.0))
      (λ k.
      let f : FullInTheEnd step v w = c.full k.0 in
      hears_none v w (ap (λ (k : Known). length k.own.log.calls) f.full.same
      ∙ ap (λ (k : Known). length k.own.log.calls) f.met.same))
      (kept_cases reply c.answered)

  pub hears_on : (u v w : Known) → HearsEach Heard u v → HearsEach Heard v w → HearsEach Heard u w
  hears_on u v w first next number above below = by_lt number (length v.own.log.calls + 1)
      (λ less. first number above (omega (arith, less)))
      (λ more. next number (omega (arith, more)) below)
