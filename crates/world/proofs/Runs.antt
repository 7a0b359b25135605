-- Any list of steps is a run of the reference step.
use Rattle.std.proofs.Common.{◌≡◌, ◌∙◌, ◌<◌, zero, suc, List, [], ◌∷◌, Option, Some, None, All, slice_index_or, ap, sym, subst, arith}
use Rattle.call_table.specs.declared.reply.Call.{Call}
use Rattle.page_state.specs.Layouts.{Layout}
use Rattle.reference_model.specs.model.Run.{Runs}
use Rattle.reference_model.specs.claims.Sound.{Sound}
use Rattle.reference_model.specs.model.State.{Reference}
use Rattle.reference_model.proofs.conditions.Isolates.{run_isolated, run_kept_out}
use Rattle.reference_model.proofs.conditions.Canonical.{run_canonical}
use Rattle.reference_model.proofs.conditions.RunsLegal.{run_sound, run_rows}
use Rattle.reference_model.specs.model.Step.{Steps}
use Rattle.reference_model.specs.claims.TreeLaws.{AreCanonical}
use Rattle.component.specs.declared.Component.{Component}
use Rattle.guest_component.specs.declared.body.Body.{Body}
use Rattle.hypercalls.specs.declared.parts.Parts.{Parts}
use Rattle.hypercalls.specs.Stands.{parts_layout, state_of}
use Rattle.world.specs.Headline.{KeepsOut, RowsAgree}
use Rattle.world.specs.HeadlineLaws.{StepsRight}
use Rattle.world.specs.Laws.{Goes, StepsRun, StepsIsolate, Agrees, GuestAgrees, AllAgree}
use Rattle.hypercalls.proofs.AtBoot.{ready}

module _ {A : Type 0} where
  -- from the state that the parts stand for
  pub runs_from : (cs : List Call) (p q : Parts A)
      → Runs Goes p cs q
      → Runs (Steps (parts_layout p)) (state_of p) cs (state_of q)
  runs_from [] p q h = ap state_of h
  runs_from (c ∷ cs) p q (b, go, rest) =
      let first : Steps (parts_layout p) (state_of p) c (state_of b) =
      subst (λ (x : Call). Steps (parts_layout p) (state_of p) x (state_of b)) (sym go.call) go.step.steps in (
        state_of b,
        first,
        subst (λ (l : Layout). Runs (Steps l) (state_of b) cs (state_of q)) go.step.layout (runs_from cs b q rest),
      )

  -- the calls are of CPUs of the layout
  pub known : (cs : List Call) (p q : Parts A) → Runs Goes p cs q → All (λ c. c.cpu < p.layout.config.cpus) cs
  known [] p q h k d less = absurd (omega (arith, less))
  known (c ∷ cs) p q (b, go, rest) zero d less = go.inside
  known (c ∷ cs) p q (b, go, rest) (suc k) d less =
      let same : b.layout.config.cpus ≡ p.layout.config.cpus = ap (λ l. l.config.cpus) go.step.layout in
      subst (λ n. (slice_index_or cs k d).cpu < n) same (known cs b q rest k d (omega (arith, less)))

  pub steps_run : StepsRun A
  steps_run m config p q cs booted h =
      record {
        cpus = known cs p q h;
        leads =
            subst (λ (s : Reference). Runs (Steps (parts_layout p)) s cs (state_of q)) (sym booted.stands)
            (runs_from cs p q h);
      }

  agrees : (c : Component A) → Agrees c
  agrees c = record { walk = c.agree; coarsest = c.coarsest }

  guest_agrees : (o : Option (Body A)) → GuestAgrees o
  guest_agrees None = tt
  guest_agrees (Some b) = agrees b.map

  -- all trees of some parts agree with their maplets
  pub all_of_parts : (q : Parts A) → AllAgree q
  all_of_parts q =
      record {
        shared = (agrees q.shared.host, agrees q.shared.hyp);
        guests = λ k d less. guest_agrees (slice_index_or q.guests.items k d).guest.body;
      }

  -- the layout stays
  pub layout_stays : (cs : List Call) (p q : Parts A) → Runs Goes p cs q → parts_layout q ≡ parts_layout p
  layout_stays [] p q h = sym (ap parts_layout h)
  layout_stays (c ∷ cs) p q (b, go, rest) = layout_stays cs b q rest ∙ go.step.layout

  -- the reference step that a step from there is
  step_from : (p q r : Parts A) (c : Call)
      → parts_layout q ≡ parts_layout p
      → Goes q c r
      → (c.cpu < (parts_layout p).config.cpus) × Steps (parts_layout p) (state_of q) c (state_of r)
  step_from p q r c same go =
      let step : Steps (parts_layout q) (state_of q) c (state_of r) =
      subst (λ (x : Call). Steps (parts_layout q) (state_of q) x (state_of r)) (sym go.call) go.step.steps in
      subst (λ (l : Layout). (c.cpu < l.config.cpus) × Steps l (state_of q) c (state_of r)) same (go.inside, step)

  pub steps_isolate : StepsIsolate A
  steps_isolate m config p q r cs c v f booted h go alive owned =
      let step = step_from p q r c (layout_stays cs p q h) go in
      run_isolated (parts_layout p) cs (state_of q) (state_of r) c v f (ready m config p booted) step.0
      (steps_run m config p q cs booted h) step.1 alive owned

  pub steps_right : StepsRight A
  steps_right m config p q cs booted h =
      let l : Layout = parts_layout p in
      let s : Reference = state_of q in
      let same = sym (layout_stays cs p q h) in
      let from_boot = ready m config p booted in
      let run = steps_run m config p q cs booted h in
      record {
        agree = all_of_parts q;
        rows = subst (λ (k : Layout). RowsAgree k s.contents) same (λ f memory. run_rows l cs s from_boot run f memory);
        sound = subst (λ (k : Layout). Sound k s.contents) same (run_sound l cs s from_boot run);
        kept_out =
            subst (λ (k : Layout). KeepsOut k s.contents) same
            (λ v f component page state owned maps. run_kept_out l cs s v f component page state from_boot run
            owned maps);
        trees = subst (λ (k : Layout). AreCanonical k s.contents) same (run_canonical l cs s from_boot run);
      }
