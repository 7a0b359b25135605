-- The state that the model steps from.
use Rattle.std.proofs.Common.{◌≡◌, ℕ, refl, ap, sym, ◌∙◌, subst}
use Rattle.std.specs.Prelude.{Bool, true, false, Option, Some, None}
use Rattle.call_table.specs.declared.reply.Reply.{Reply}
use Rattle.call_table.specs.declared.step.Step.{Step}
use Rattle.call_table.specs.declared.step.Step.TheVariants.{Topup, ReclaimPool, FinishGuest}
use Rattle.page_state.proofs.Common.{if-true, if-false}
use Rattle.page_state.specs.Layouts.{Layout}
use Rattle.reference_model.specs.model.Rules.{guest_slot}
use Rattle.reference_model.specs.model.State.{Contents, Cpu}
use Rattle.freedoms.specs.declared.Freedoms.{Freedoms}
use Rattle.freedoms.specs.Ample.{asks_pool}
use Rattle.freedoms.specs.Freedoms.{is_read, view}
use Rattle.freedoms.specs.OwnTables.{OwnTables, without_tables}
use Rattle.free_judge.specs.Asked.{asked_by, asked_of, IsPredictedAmply}
use Rattle.free_judge.specs.Freely.{stepped_from, IsReady, IsPredictedFreely}
use Rattle.free_judge.specs.PoolByRows.{asked_slot, IsAskedOf}

bare-asked : (b : Bool) (s : Contents) → b ≡ false → asked_by b s ≡ without_tables s
bare-asked true s h = cc
bare-asked false s h = refl

bare-kept : (w : Freedoms) (l : Layout) (s : Contents) (slot : Option ℕ) (step : Step) (reply : Reply) (g : Contents)
    → IsAskedOf w l (view w l s) slot step reply g
    → IsAskedOf w l (view w l s) slot step reply (asked_by true g)
bare-kept w l s None step reply g h = ap (asked_by true) h
bare-kept w l s (Some v) step reply g h =
    record { held = h.held; held_is = h.held_is; ready_is = ap (asked_by true) h.ready_is }

pub no-asked : (step : Step) → is_read step ≡ true → asks_pool step ≡ false
no-asked (Topup vm) h = cc
no-asked (ReclaimPool vm) h = cc
no-asked FinishGuest h = cc
no-asked step h = refl

-- a step that asks no pool steps from the state that is seen
pub from-seen : (w : Freedoms) (l : Layout) (s : Contents) (k : Cpu) (step : Step) (reply : Reply) (r : Contents)
    → asks_pool step ≡ false
    → IsAskedOf w l s (asked_slot k step) step reply r ≡ (r ≡ s)
from-seen w l s k step reply r asks =
    ap (λ (o : Option ℕ). IsAskedOf w l s o step reply r) (if-false (asks_pool step) (guest_slot k step) None asks)

pub asked-cpu : (w : Freedoms) (l : Layout) (s : Contents) (slot : Option ℕ) (step : Step) (reply : Reply)
    (g : Contents)
    → IsAskedOf w l s slot step reply g
    → g.cpu ≡ s.cpu
asked-cpu w l s None step reply g h = ap (λ (x : Contents). x.cpu) h
asked-cpu w l s (Some v) step reply g h = ap (λ (x : Contents). x.cpu) h.ready_is

module _ (w : Freedoms) (l : Layout) (s : Contents) (cpu : ℕ) (step : Step) (reply : Reply) (g : Contents) where
  pub ready-read : is_read step ≡ true → g ≡ without_tables s → IsReady w l s cpu step reply (asked_of step g)
  ready-read read e =
      let from : stepped_from w l s step ≡ without_tables s =
      if-true (is_read step) (without_tables s) (view w l s) read in
      let asks = no-asked step read in
      subst (λ (X : Type 0). X)
      (sym (from-seen w l (stepped_from w l s step) (s.cpu cpu) step reply (asked_of step g) asks))
      (bare-asked (asks_pool step) g asks ∙ ap without_tables e ∙ sym from)

  by-asked : (b : Bool)
      → asks_pool step ≡ b
      → IsAskedOf w l (view w l s) (asked_slot (s.cpu cpu) step) step reply g
      → IsAskedOf w l (view w l s) (asked_slot (s.cpu cpu) step) step reply (asked_by (asks_pool step) g)
  by-asked true asks h =
      subst (λ (c : Bool). IsAskedOf w l (view w l s) (asked_slot (s.cpu cpu) step) step reply (asked_by c g))
      (sym asks) (bare-kept w l s (asked_slot (s.cpu cpu) step) step reply g h)
  by-asked false asks h =
      let e : g ≡ view w l s =
      subst (λ (X : Type 0). X) (from-seen w l (view w l s) (s.cpu cpu) step reply g asks) h in
      subst (λ (X : Type 0). X)
      (sym (from-seen w l (view w l s) (s.cpu cpu) step reply (asked_of step g) asks))
      (bare-asked (asks_pool step) g asks ∙ ap without_tables e)

  pub ready-seen : is_read step ≡ false
      → IsAskedOf w l (view w l s) (asked_slot (s.cpu cpu) step) step reply g
      → IsReady w l s cpu step reply (asked_of step g)
  ready-seen read h =
      subst
      (λ (x : Contents). IsAskedOf w l x (asked_slot (s.cpu cpu) step) step reply (asked_of step g))
      (sym (if-false (is_read step) (without_tables s) (view w l s) read)) (by-asked (asks_pool step) refl h)

pub told-freely : (w : Freedoms) (l m : Layout) (s b : Contents) (cpu : ℕ) (step : Step) (said reply : Reply)
    (after : Contents)
    → m ≡ l
    → IsReady w l s cpu step said (asked_of step b)
    → IsPredictedAmply m b cpu step reply after
    → IsPredictedFreely w l s cpu step said reply after
told-freely w l m s b cpu step said reply after e from told =
    let t = subst (λ (k : Layout). IsPredictedAmply k b cpu step reply after) e told in
    record { ready = asked_of step b; from = from; reply_is = t.reply_is; contents_are = t.contents_are }
