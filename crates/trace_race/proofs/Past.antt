-- Calls of a run: those in front, and that there are none past the 64 guests and the layout's CPUs.
use Rattle.std.proofs.Common.{◌≡◌, ℕ, ◌+◌, ◌<◌, ◌≤◌, ◌==◌, suc, zero, false, refl, sym, ap, subst, ◌∙◌, arith, List, [], ◌∷◌, ◌++◌, All, Option, Some, None}
use Rattle.std.proofs.lemmas.List.Elements.{All-append, All-cons, All-nil, All-tail, filter-append}
use Rattle.page_state.specs.Layouts.{Layout}
use Rattle.page_state.proofs.Common.{eq-other}
use Rattle.call_table.specs.declared.reply.Call.{Call}
use Rattle.reference_model.specs.model.Boot.{CanBoot, boot}
use Rattle.reference_model.specs.model.History.{calls_by, calls_on}
use Rattle.reference_model.specs.model.Parts.{Part, guest_part, is_slot}
use Rattle.reference_model.specs.model.Rules.{call_uses, names}
use Rattle.reference_model.specs.model.Reached.{IsReached}
use Rattle.reference_model.specs.model.Run.{IsRun, Runs}
use Rattle.reference_model.specs.model.State.{Reference}
use Rattle.reference_model.specs.model.Step.{Steps, used_by}
use Rattle.reference_model.proofs.Ends.{filter-false}
use Rattle.reference_model.proofs.Rely.{reached_relies}
use Rattle.world.proofs.Headline.{runs_after}

-- a run is one and then another
pub split : {S : Type 0} (Go : S → Call → S → Type 0) (cs ds : List Call) (s t : S)
    → Runs Go s (cs ++ ds) t
    → (m : S) × Runs Go s cs m × Runs Go m ds t
split Go [] ds s t h = (s, refl, h)
split Go (c ∷ cs) ds s t h = let r = split Go cs ds h.0 t h.2 in (r.0, (h.0, h.1, r.1), r.2)

-- what holds of all holds of those behind
pub behind_all : {X : Type 0} (P : X → Type 0) (xs ys : List X) → All P (xs ++ ys) → All P ys
behind_all P [] ys all = all
behind_all P (x ∷ xs) ys all = behind_all P xs ys (All-tail P x (xs ++ ys) all)

none_in_front : {X : Type 0} (xs ys : List X) → xs ++ ys ≡ [] → xs ≡ []
none_in_front [] ys e = refl
none_in_front (x ∷ xs) ys e = absurd cc

pub front_none : (p : Part) (cs ds : List Call) → calls_on p (cs ++ ds) ≡ [] → calls_on p cs ≡ []
front_none p cs ds e = none_in_front (calls_on p cs) (calls_on p ds) (sym (filter-append (call_uses p) cs ds) ∙ e)

pub front_by : (cpu : ℕ) (cs ds : List Call) → calls_by cpu (cs ++ ds) ≡ [] → calls_by cpu cs ≡ []
front_by cpu cs ds e =
    none_in_front (calls_by cpu cs) (calls_by cpu ds) (sym (filter-append (λ (c : Call). c.cpu == cpu) cs ds) ∙ e)

low_slot : (slot : Option ℕ) (v : ℕ) → ((u : ℕ) → slot ≡ Some u → u < 64) → 64 ≤ v → is_slot slot v ≡ false
low_slot None v low past = refl
low_slot (Some u) v low past = let less = low u refl in eq-other v u (λ e. omega (arith, e, less, past))

module _ (l : Layout) (ready : CanBoot l) where
  -- the slot of a call of a run is one of the 64
  slot_low : (done : List Call) (c : Call) (s t : Reference)
      → IsRun l done s
      → c.cpu < l.config.cpus
      → Steps l s c t
      → (v : ℕ)
      → 64 ≤ v
      → call_uses (guest_part v) c ≡ false
  slot_low done c s t run inside step v past =
      let reached : IsReached l (names c.step) c.slot c.cpu (used_by c s) =
      record { ready = ready; log = done; state = s; run = run; used = refl } in
      low_slot c.slot v
      (reached_relies l c.cpu c.slot c.step (used_by c s) inside step.on.slot ∣ reached ∣₁).slot_low past

  none_past : (done cs : List Call) (s t : Reference)
      → IsRun l done s
      → All (λ c. c.cpu < l.config.cpus) cs
      → Runs (Steps l) s cs t
      → (v : ℕ)
      → 64 ≤ v
      → calls_on (guest_part v) cs ≡ []
  none_past done [] s t run inside goes v past = refl
  none_past done (c ∷ cs) s t run inside goes v past =
      let first : c.cpu < l.config.cpus = inside 0 c (omega arith) in
      let longer : IsRun l (done ++ c ∷ []) goes.0 = record {
        cpus =
            All-append (λ (d : Call). d.cpu < l.config.cpus) done (c ∷ []) run.cpus
            (All-cons (λ (d : Call). d.cpu < l.config.cpus) c [] first
            (All-nil (λ (d : Call). d.cpu < l.config.cpus)));
        leads = runs_after (Steps l) done (c ∷ []) (boot l) s goes.0 run.leads (goes.0, goes.1, refl);
      } in
      filter-false (call_uses (guest_part v)) c cs (slot_low done c s goes.0 run first goes.1 v past)
      ∙ none_past (done ++ c ∷ []) cs goes.0 t longer (λ k d less. inside (suc k) d (omega (arith, less))) goes.2 v past

  -- so no call of a run uses a part past them
  pub no_guest_calls : (cs : List Call) (t : Reference)
      → IsRun l cs t
      → (v : ℕ)
      → 64 ≤ v
      → calls_on (guest_part v) cs ≡ []
  no_guest_calls cs t run v past =
      none_past [] cs (boot l) t
      (record { cpus = All-nil (λ (d : Call). d.cpu < l.config.cpus); leads = refl }) run.cpus run.leads v past

-- and none is of a CPU past its layout's
pub none_by : (most : ℕ) (cs : List Call) → All (λ c. c.cpu < most) cs → (cpu : ℕ) → most ≤ cpu → calls_by cpu cs ≡ []
none_by most [] inside cpu past = refl
none_by most (c ∷ cs) inside cpu past =
    let first : c.cpu < most = inside 0 c (omega arith) in
    filter-false (λ (d : Call). d.cpu == cpu) c cs (eq-other c.cpu cpu (λ e. omega (arith, e, first, past)))
    ∙ none_by most cs (λ k d less. inside (suc k) d (omega (arith, less))) cpu past
