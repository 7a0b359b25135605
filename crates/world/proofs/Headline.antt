-- What holds after any list of steps, made one after another.
use Rattle.std.proofs.Common.{◌≡◌, ℕ, ◌+◌, ◌<◌, zero, suc, refl, ap, sym, ◌∙◌, subst, arith, List, [], ◌∷◌, ◌++◌, map, length, take, get_or, All}
use Rattle.std.proofs.Math.Logic.{∥∥₁_elim, ∥∥₁_map}
use Rattle.std.proofs.lemmas.List.{map_push}
use Rattle.std.proofs.lemmas.List.Elements.{All-append, All-cons, All-nil}
use Rattle.std.proofs.Math.Seq.{take-suc}
use Rattle.call_table.specs.declared.reply.Call.{Call}
use Rattle.call_table.specs.declared.reply.Reply.{Reply}
use Rattle.call_table.specs.declared.step.Step.{Step}
use Rattle.page_state.specs.Layouts.{Layout}
use Rattle.reference_model.specs.model.Boot.{boot, CanBoot}
use Rattle.reference_model.specs.help.Conditions.{IsUsable, Legal}
use Rattle.reference_model.specs.model.Run.{Runs, IsRun}
use Rattle.reference_model.specs.model.State.{Reference}
use Rattle.reference_model.specs.model.Rules.{guest_slot}
use Rattle.reference_model.specs.model.Step.{Steps}
use Rattle.reference_model.specs.model.Used.{used_of}
use Rattle.reference_model.proofs.Steps.{refusal_keeps}
use Rattle.reference_model.proofs.conditions.Canonical.{canonical_once, run_canonical, run_fails_by_maps}
use Rattle.reference_model.proofs.conditions.HeldFrames.{hand_stays, run_held_stays}
use Rattle.reference_model.proofs.conditions.Isolates.{run_isolated}
use Rattle.reference_model.proofs.conditions.RunsLegal.{ready-usable, run_legal, run_rows, run_sound}
use Rattle.reference_model.proofs.conditions.SoundOnce.{kept_out_once, sound_once}
use Rattle.hypercalls.specs.declared.parts.Parts.{Parts}
use Rattle.hypercalls.specs.Stands.{parts_layout, state_of, HasHistory}
use Rattle.hypercalls.specs.Whole.{call_of, IsStep}
use Rattle.world.specs.Headline.{IsRight, CallKeeps, Headline}
use Rattle.world.specs.Laws.{Goes}
use Rattle.ghost_oracle.proofs.Reached.{run_to}
use Rattle.world.proofs.WalkedState.{row_prop}
use Rattle.world.proofs.Runs.{runs_from, known, layout_stays, all_of_parts}

-- one run after another
pub runs_after : {S : Type 0} (Go : S → Call → S → Type 0) (cs ds : List Call) (s m t : S)
    → Runs Go s cs m
    → Runs Go m ds t
    → Runs Go s (cs ++ ds) t
runs_after Go [] ds s m t h k = subst (λ x. Runs Go x ds t) (sym h) k
runs_after Go (c ∷ cs) ds s m t h k = (h.0, h.1, runs_after Go cs ds h.0 m t h.2 k)

-- the slot that a step finds
slot_named : (l : Layout) (s t : Reference) (c : Call)
    → Steps l s c t
    → c.slot ≡ guest_slot (s.contents.cpu c.cpu) c.step
unfolding used_of
slot_named l s t c step = step.on.slot

-- the calls of some steps with these replies lead from parts to others
pub record Made {A : Type 0} (p : Parts A) (steps : List (ℕ × Step)) (replies : List Reply) (q : Parts A) : Type 0 where
  pub calls : List Call
  pub asked : map (λ c. (c.cpu, c.step)) calls ≡ steps
  pub replied : map (λ c. c.reply) calls ≡ replies
  pub goes : Runs Goes p calls q

module _ {A : Type 0} (p : Parts A) where
  pub made_none : (q : Parts A) → p ≡ q → Made p [] [] q
  made_none q h = record { calls = []; asked = refl; replied = refl; goes = h }

  pub made_more : (steps : List (ℕ × Step)) (replies : List Reply) (q t : Parts A) (cpu : ℕ) (step : Step)
      (reply : Reply)
      → cpu < q.layout.config.cpus
      → IsStep q cpu step reply t
      → Made p steps replies q
      → Made p (steps ++ (cpu, step) ∷ []) (replies ++ reply ∷ []) t
  made_more steps replies q t cpu step reply inside is m =
      let c = call_of q cpu step reply in
      record {
        calls = m.calls ++ c ∷ [];
        asked = map_push (λ (d : Call). (d.cpu, d.step)) m.calls c ∙ ap (λ xs. xs ++ (cpu, step) ∷ []) m.asked;
        replied = map_push (λ (d : Call). d.reply) m.calls c ∙ ap (λ xs. xs ++ reply ∷ []) m.replied;
        goes =
            runs_after Goes m.calls (c ∷ []) p q t m.goes (t, record { inside = inside; call = refl; step = is }, refl);
      }

  -- by the step that stands at a place of a list
  pub made_next : (steps : List (ℕ × Step)) (i : ℕ) (other : ℕ × Step) (replies items : List Reply) (q t : Parts A)
      (reply : Reply)
      → i < length steps
      → (get_or steps i other).0 < q.layout.config.cpus
      → IsStep q (get_or steps i other).0 (get_or steps i other).1 reply t
      → items ≡ replies ++ reply ∷ []
      → Made p (take i steps) replies q
      → Made p (take (i + 1) steps) items t
  made_next steps i other replies items q t reply less inside is pushed m =
      let asked : ℕ × Step = get_or steps i other in
      let next : i + 1 ≡ suc i = omega arith in
      let longer : take i steps ++ asked ∷ [] ≡ take (i + 1) steps =
      sym (take-suc steps i other less) ∙ ap (λ (n : ℕ). take n steps) (sym next) in
      subst (λ ss. Made p ss items t) longer
      (subst (λ rs. Made p (take i steps ++ asked ∷ []) rs t) (sym pushed)
      (made_more (take i steps) replies q t asked.0 asked.1 reply inside is m))

  module _ (q : Parts A) (h : HasHistory p) (calls : List Call) (goes : Runs Goes p calls q) where
    abbrev l : Layout
    l = parts_layout p

    -- a run from the boot state through the steps, as far as they have come
    so_far : (done : List Call) (s : Reference)
        → All (λ c. c.cpu < l.config.cpus) done
        → Runs (Steps l) (state_of p) done s
        → IsRun l (h.log ++ done) s
    so_far done s inside run = let begins = run_to p h in
        record {
          cpus = All-append (λ (c : Call). c.cpu < l.config.cpus) h.log done begins.cpus inside;
          leads = runs_after (Steps l) h.log done (boot l) (state_of p) s begins.leads run;
        }

    ends : IsRun l (h.log ++ calls) (state_of q)
    ends = so_far calls (state_of q) (known calls p q goes) (runs_from calls p q goes)

    same : parts_layout q ≡ l
    same = layout_stays calls p q goes

    ready_after : CanBoot (parts_layout q)
    ready_after = subst CanBoot (sym same) h.ready

    run_after : IsRun (parts_layout q) (h.log ++ calls) (state_of q)
    run_after = subst (λ (k : Layout). IsRun k (h.log ++ calls) (state_of q)) (sym same) ends

    each : (done left : List Call) (c : Call) (s t : Reference)
        → calls ≡ done ++ c ∷ left
        → Runs (Steps l) (state_of p) done s
        → Steps l s c t
        → CallKeeps l s c t
    each done left c s t e run step =
        let inside : All (λ d. d.cpu < l.config.cpus) (done ++ c ∷ left) =
        subst (λ (ds : List Call). All (λ d. d.cpu < l.config.cpus) ds) e (known calls p q goes) in
        let to_here : IsRun l (h.log ++ done) s = so_far done s (front done (c ∷ left) inside) run in
        record {
          sound = run_sound l (h.log ++ done) s h.ready to_here;
          rows = λ f m. run_rows l (h.log ++ done) s h.ready to_here f m;
          trees = run_canonical l (h.log ++ done) s h.ready to_here;
          by_maps =
              run_fails_by_maps l (h.log ++ done) s c.cpu c.slot c.step h.ready to_here (first done c left inside)
              (slot_named l s t c step);
          refused = λ why r. refusal_keeps l s t c why step r;
          isolated =
              λ v f alive owned. run_isolated l (h.log ++ done) s t c v f h.ready
              (first done c left inside) to_here step alive owned;
          held =
              λ v f had. run_held_stays l (h.log ++ done) s t c v f h.ready (first done c left inside) to_here step had;
          in_hand = λ k f had. hand_stays l s t c k f step had;
        }
      where
        front : (cs ds : List Call) → All (λ d. d.cpu < l.config.cpus) (cs ++ ds) → All (λ d. d.cpu < l.config.cpus) cs
        front [] ds all = All-nil (λ (d : Call). d.cpu < l.config.cpus)
        front (b ∷ cs) ds all =
            All-cons (λ (d : Call). d.cpu < l.config.cpus) b cs (all zero b (omega (arith)))
            (front cs ds (λ k d less. all (suc k) d (omega arith)))

        first : (cs : List Call) (b : Call) (ds : List Call)
            → All (λ d. d.cpu < l.config.cpus) (cs ++ b ∷ ds)
            → b.cpu < l.config.cpus
        first [] b ds all = all zero b (omega arith)
        first (a ∷ cs) b ds all = first cs b ds (λ k d less. all (suc k) d (omega arith))

-- what the parts stand for afterwards is right, whichever their history is
right : {A : Type 0} (p q : Parts A) (calls : List Call) → ∥ HasHistory p ∥₁ → Runs Goes p calls q → IsRight q
right p q calls past goes =
    let l : Layout = parts_layout q in
    let s : Reference = state_of q in
    let legal : ∥ IsUsable l × Legal l s.contents ∥₁ =
    ∥∥₁_map past
    (λ h. (
      ready-usable l (ready_after p q h calls goes),
      run_legal l (h.log ++ calls) s (ready_after p q h calls goes) (run_after p q h calls goes),
    )) in
    record {
      agree = all_of_parts q;
      rows =
          λ f m. ∥∥₁_elim past (row_prop _ _)
          (λ h. run_rows l (h.log ++ calls) s (ready_after p q h calls goes) (run_after p q h calls goes) f m);
      sound = sound_once l s.contents legal;
      kept_out = kept_out_once l s.contents legal;
      trees = canonical_once l s.contents (∥∥₁_map legal (λ h. h.1));
    }

pub headline : {A : Type 0} (p q : Parts A) (steps : List (ℕ × Step)) (replies : List Reply)
    → ∥ HasHistory p ∥₁
    → Made p steps replies q
    → Headline p steps replies q
headline p q steps replies past m = record {
  layout = layout_stays m.calls p q m.goes;
  right = right p q m.calls past m.goes;
  run = ∥∥₁_map past (λ h. record {
    before = h.log;
    calls = m.calls;
    asked = m.asked;
    replied = m.replied;
    begins = run_to p h;
    ends = ends p q h m.calls m.goes;
    each = each p q h m.calls m.goes;
  });
}
