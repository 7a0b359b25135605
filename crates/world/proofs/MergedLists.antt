-- The logs of one legal history, and the lists that have all their calls.
use Rattle.std.proofs.Common.{◌≡◌, ℕ, ◌<◌, ◌≤◌, ◌++◌, List, [], ◌∷◌, All, sym, ap, ◌∙◌, arith, suc, refl}
use Rattle.std.specs.Prelude.{IfErr, Result, Ok, Err, Option, Some, None, ◌==◌, false}
use Rattle.std.proofs.lemmas.List.Elements.{All-append, All-cons, All-nil}
use Rattle.page_state.proofs.Cases.{by_lt}
use Rattle.page_state.proofs.Common.{eq-other}
use Rattle.call_table.specs.declared.reply.Call.{Call}
use Rattle.page_state.specs.Layouts.{Layout}
use Rattle.reference_model.proofs.Ends.{filter-false, parts_history, parts_run}
use Rattle.reference_model.proofs.Rely.{reached_relies}
use Rattle.reference_model.specs.model.Boot.{boot, CanBoot}
use Rattle.reference_model.specs.model.History.{calls_on, calls_by}
use Rattle.reference_model.specs.model.Parts.{Part, vm_part, shared_part, guest_part, is_slot}
use Rattle.reference_model.specs.model.Rules.{call_uses, names}
use Rattle.reference_model.specs.model.Reached.{IsReached}
use Rattle.reference_model.specs.model.Run.{Runs, IsRun}
use Rattle.reference_model.specs.model.State.{Reference}
use Rattle.reference_model.specs.model.Step.{Steps, used_by}
use Rattle.world.specs.declared.merge.Histories.{Histories}
use Rattle.world.specs.declared.merge.MergeFault.{MergeFault}
use Rattle.world.specs.declared.merge.MergeFault.TheVariants.{NoOrder}
use Rattle.world.specs.Merges.{HistoryMerges, IsMerged, IsOfHistory, MergedHistory, MergedRun, log_by, log_on}
use Rattle.world.proofs.Headline.{runs_after}
use Rattle.world.proofs.Merging.{log_past}

low_slot : (slot : Option ℕ) (v : ℕ) → ((u : ℕ) → slot ≡ Some u → u < 64) → 64 ≤ v → is_slot slot v ≡ false
low_slot None v low past = refl
low_slot (Some u) v low past = let less = low u refl in eq-other v u (λ e. omega (arith, e, less, past))

module _ (l : Layout) (ready : CanBoot l) where
  -- the slot of a call of a run is one of the 64
  slot_low : (done : List Call) (c : Call) (s t : Reference)
      → IsRun l done s
      → c.cpu < l.config.cpus
      → Steps l s c t
      → (v : ℕ)
      → 64 ≤ v
      → call_uses (guest_part v) c ≡ false
  slot_low done c s t run inside step v past =
      let reached : IsReached l (names c.step) c.slot c.cpu (used_by c s) =
      record { ready = ready; log = done; state = s; run = run; used = refl } in
      low_slot c.slot v
      (reached_relies l c.cpu c.slot c.step (used_by c s) inside step.on.slot ∣ reached ∣₁).slot_low past

  -- so no call of a run uses a part past them
  none_past : (done cs : List Call) (s t : Reference)
      → IsRun l done s
      → All (λ c. c.cpu < l.config.cpus) cs
      → Runs (Steps l) s cs t
      → (v : ℕ)
      → 64 ≤ v
      → calls_on (guest_part v) cs ≡ []
  none_past done [] s t run inside goes v past = refl
  none_past done (c ∷ cs) s t run inside goes v past =
      let first : c.cpu < l.config.cpus = inside 0 c (omega arith) in
      let longer : IsRun l (done ++ c ∷ []) goes.0 = record {
        cpus =
            All-append (λ (d : Call). d.cpu < l.config.cpus) done (c ∷ []) run.cpus
            (All-cons (λ (d : Call). d.cpu < l.config.cpus) c [] first
            (All-nil (λ (d : Call). d.cpu < l.config.cpus)));
        leads = runs_after (Steps l) done (c ∷ []) (boot l) s goes.0 run.leads (goes.0, goes.1, refl);
      } in
      filter-false (call_uses (guest_part v)) c cs (slot_low done c s goes.0 run first goes.1 v past)
      ∙ none_past (done ++ c ∷ []) cs goes.0 t longer (λ k d less. inside (suc k) d (omega (arith, less))) goes.2 v past

-- no call of a run is of a CPU past its layout's
none_by : (most : ℕ) (cs : List Call) → All (λ c. c.cpu < most) cs → (cpu : ℕ) → most ≤ cpu → calls_by cpu cs ≡ []
none_by most [] inside cpu past = refl
none_by most (c ∷ cs) inside cpu past =
    let first : c.cpu < most = inside 0 c (omega arith) in
    filter-false (λ (d : Call). d.cpu == cpu) c cs (eq-other c.cpu cpu (λ e. omega (arith, e, first, past)))
    ∙ none_by most cs (λ k d less. inside (suc k) d (omega (arith, less))) cpu past

module _ (h : Histories) (o : IsOfHistory h) where
  on_parts : (p : Part) → calls_on p o.log ≡ log_on h p
  on_parts vm_part = sym (o.logs.vms ∙ ap (λ x. x.1) o.history.vms)
  on_parts shared_part = sym (o.logs.shared ∙ ap (λ x. x.1) o.history.shared)
  on_parts (guest_part v) = by_lt v 64
      (λ less. sym (o.logs.guest v less ∙ ap (λ x. x.1) (o.history.guest v less)))
      (λ past. none_past o.layout o.ready [] o.log (boot o.layout) o.history.end
      (record { cpus = All-nil (λ (d : Call). d.cpu < o.layout.config.cpus); leads = refl }) o.history.run.cpus
      o.history.run.leads v past
      ∙ sym (log_past h.guests.items v (let few = o.logs.guests in omega (arith, few, past))))

  by_cpus : (cpu : ℕ) → calls_by cpu o.log ≡ log_by h cpu
  by_cpus cpu = by_lt cpu o.layout.config.cpus
      (λ less. sym (o.logs.cpu cpu less ∙ ap (λ x. x.1) (o.history.cpu cpu less)))
      (λ past. none_by o.layout.config.cpus o.log o.history.run.cpus cpu past
      ∙ sym (log_past h.cpus.items cpu (let few = o.logs.cpus in omega (arith, few, past))))

pub history_merges : HistoryMerges
history_merges h o = record { on = on_parts h o; by = by_cpus h o }

pub merged_history : MergedHistory
merged_history h o all m = let n = history_merges h o in
    parts_history o.layout o.kept o.log all o.history (λ p. m.on p ∙ sym (n.on p)) (λ cpu. m.by cpu ∙ sym (n.by cpu))

pub merged_run : MergedRun
merged_run l h log all t run n m =
    parts_run l log all t run (λ p. m.on p ∙ sym (n.on p)) (λ cpu. m.by cpu ∙ sym (n.by cpu))

-- where no list has all calls of the logs, they aren't those of one history
pub never_stuck : {X : Type 0} (h : Histories) (r : Result X MergeFault)
    → IfErr r (λ f. f ≡ NoOrder → (all : List Call) → IsMerged h all → ⊥)
    → IfErr r (λ f. f ≡ NoOrder → IsOfHistory h → ⊥)
never_stuck h (Ok x) k = tt
never_stuck h (Err f) k = λ is o. k is o.log (history_merges h o)
