-- Steps that were made on a world, and the machine that is made of it.
use Rattle.std.proofs.Common.{◌≡◌, ℕ, zero, suc, ◌+◌, ◌<◌, ◌≤◌, refl, sym, ap, subst, ◌∙◌, arith, inl, inr, true, false, List, [], ◌∷◌, ◌++◌, filter, get_or, length, map, Option, Some, slice_get, take}
use Rattle.std.specs.Prelude.{slice_index_or}
use Rattle.std.proofs.lemmas.List.{append-nil, append_assoc, map-append, take_all}
use Rattle.std.proofs.lemmas.List.Elements.{filter-append}
use Rattle.std.proofs.lemmas.Option.{same_Some}
use Rattle.std.proofs.Math.Seq.{take-suc}
use Rattle.page_state.specs.declared.layout.Config.{Config}
use Rattle.page_state.specs.declared.layout.Layout.{Layout as TheLayout}
use Rattle.page_state.specs.Layouts.{Layout}
use Rattle.page_state.specs.LayoutView.{layout_of}
use Rattle.page_state.specs.Regions.{Memory}
use Rattle.page_state.proofs.Cases.{by_test}
use Rattle.call_table.specs.declared.reply.Call.{Call}
use Rattle.call_table.specs.declared.reply.Refusal.TheVariants as refusals
use Rattle.call_table.specs.declared.reply.Reply.{Reply}
use Rattle.call_table.specs.declared.reply.Reply.TheVariants.{Done, Refused}
use Rattle.call_table.specs.declared.step.Step.{Step}
use Rattle.reference_model.specs.model.Boot.{CanBoot}
use Rattle.reference_model.specs.model.History.{IsHistory, IsStored, Kept, calls_by, calls_on}
use Rattle.reference_model.specs.model.Run.{IsRun, Runs}
use Rattle.reference_model.specs.model.State.{Reference}
use Rattle.reference_model.specs.model.Rules.{names}
use Rattle.reference_model.specs.model.Step.{Steps, is_full, rooms_by}
use Rattle.reference_model.specs.model.Stored.{StoresCall}
use Rattle.reference_model.proofs.History.{history_grows}
use Rattle.reference_model.proofs.Steps.{end_once}
use Rattle.part_types.specs.declared.parts.CpuState.{CpuState}
use Rattle.hypercalls.specs.declared.parts.Parts.{Parts}
use Rattle.hypercalls.specs.Booted.{IsBooted}
use Rattle.hypercalls.specs.Stands.{HasHistory, kept_of, parts_layout, state_of}
use Rattle.hypercalls.specs.Whole.{IsStep, call_of, is_log_full}
use Rattle.hypercalls.proofs.AtBoot.{at_boot, ready}
use Rattle.ghost_oracle.proofs.Reached.{run_to}
use Rattle.world.specs.Laws.{Goes}
use Rattle.world.proofs.Headline.{runs_after}
use Rattle.world.proofs.Runs.{layout_stays, steps_run}
use Rattle.part_table.specs.declared.rule.Begun.{Begun}
use Rattle.part_table.specs.declared.slot.Slot.{Slot}
use Rattle.part_table.specs.Parts.{IsOwn, log_of, part_of, parts}
use Rattle.part_table.specs.Passes.{Opened}
use Rattle.part_table.specs.Beginnings.{no_own, own_in}
use Rattle.part_table.specs.Slots.{slots_of}
use Rattle.part_table.proofs.Left.{there}
use Rattle.part_table.proofs.Lists.{or_of_get}
use Rattle.part_table.proofs.TakenApart.{own_at, part_at, slots_long}
use Rattle.cpu_threads.specs.Machines.{IsMachineOf, Machine, begun_of}
use Rattle.trace_race.proofs.NotFull.{no_log}
use Rattle.trace_race.specs.declared.course.Asked.{Asked}
use Rattle.trace_race.specs.Judged.{told_of}
use Rattle.trace_race.specs.Made.{HasBegun, HasRun, HaveBooted, asked_with, is_stored, stored_in}

-- ---- steps, one after another

asked_more : (steps : List Asked) (replies : List Reply) (a : Asked) (reply : Reply)
    → length replies ≡ length steps
    → asked_with (steps ++ a ∷ []) (replies ++ reply ∷ []) ≡ asked_with steps replies ++ (a.cpu, a.step, reply) ∷ []
asked_more [] [] a reply long = refl
asked_more [] (r ∷ replies) a reply long = absurd (omega (arith, long))
asked_more (b ∷ steps) [] a reply long = absurd (omega (arith, long))
asked_more (b ∷ steps) (r ∷ replies) a reply long =
    ap (λ xs. (b.cpu, b.step, r) ∷ xs) (asked_more steps replies a reply (omega (arith, long)))

pub below_as : (n : ℕ) (k l : TheLayout) → k ≡ l → n < k.config.cpus → n < l.config.cpus
below_as n k l same below = subst (λ (x : TheLayout). n < x.config.cpus) same below

length-push : {X : Type 0} (xs : List X) (x : X) → length (xs ++ x ∷ []) ≡ length xs + 1
length-push [] x = refl
length-push (y ∷ xs) x = ap suc (length-push xs x) ∙ omega arith

module _ {A : Type 0} (p : Parts A) where
  pub run_first : (steps : List Asked) (replies : List Reply) → replies ≡ [] → HasRun p (take 0 steps) replies p
  run_first steps replies none =
      subst (λ (rs : List Reply). HasRun p [] rs p) (sym none)
      (record { count = refl; calls = []; asked = refl; goes = refl })

  run_more : (q r : Parts A) (steps : List Asked) (replies : List Reply) (a : Asked) (reply : Reply)
      → a.cpu < q.layout.config.cpus
      → IsStep q a.cpu a.step reply r
      → HasRun p steps replies q
      → HasRun p (steps ++ a ∷ []) (replies ++ reply ∷ []) r
  run_more q r steps replies a reply inside step h =
      let c = call_of q a.cpu a.step reply in
      let long = h.count in
      record {
        count = let m = length-push replies reply in let n = length-push steps a in omega (arith, m, n, long);
        calls = h.calls ++ c ∷ [];
        asked =
            map-append (λ (d : Call). (d.cpu, d.step, d.reply)) h.calls (c ∷ [])
            ∙ ap (λ xs. xs ++ (a.cpu, a.step, reply) ∷ []) h.asked ∙ sym (asked_more steps replies a reply long);
        goes =
            runs_after Goes h.calls (c ∷ []) p q r h.goes
            (r, record { inside = inside; call = refl; step = step }, refl);
      }

  pub run_next : (q r : Parts A) (steps : List Asked) (i : ℕ) (d : Asked) (replies next : List Reply) (reply : Reply)
      → i < length steps
      → q.layout ≡ p.layout
      → (get_or steps i d).cpu < p.layout.config.cpus
      → IsStep q (get_or steps i d).cpu (get_or steps i d).step reply r
      → next ≡ replies ++ reply ∷ []
      → HasRun p (take i steps) replies q → HasRun p (take (i + 1) steps) next r
  run_next q r steps i d replies next reply less same inside step pushed h =
      let a : Asked = get_or steps i d in
      let number : i + 1 ≡ suc i = omega arith in
      let longer : take i steps ++ a ∷ [] ≡ take (i + 1) steps =
      sym (take-suc steps i d less) ∙ ap (λ (n : ℕ). take n steps) (sym number) in
      let below : a.cpu < q.layout.config.cpus = subst (λ (l : TheLayout). a.cpu < l.config.cpus) (sym same) inside in
      subst (λ (z : List Asked × List Reply). HasRun p z.0 z.1 r) (λ k. (longer k, sym pushed k))
      (run_more q r (take i steps) replies a reply below step h)

  pub run_all : (q : Parts A) (steps : List Asked) (i : ℕ) (replies : List Reply)
      → length steps ≤ i
      → HasRun p (take i steps) replies q
      → HasRun p steps replies q
  run_all q steps i replies past h = subst (λ (ss : List Asked). HasRun p ss replies q) (take_all i steps past) h

-- ---- the history of these steps

-- the calls of a list that are stored, with one call more
kept_one : (cs : List Call) (c : Call) → stored_in (cs ++ c ∷ []) ≡ stored_in cs ++ stored_in (c ∷ [])
kept_one cs c = filter-append (λ (d : Call). is_stored d.reply) cs (c ∷ [])

stored_one : (c : Call) → is_stored c.reply ≡ true → stored_in (c ∷ []) ≡ c ∷ []
stored_one c e = rw e refl

unstored_one : (c : Call) → is_stored c.reply ≡ false → stored_in (c ∷ []) ≡ []
unstored_one c e = rw e refl

stored_reply : (reply : Reply) → IsStored reply → is_stored reply ≡ true
stored_reply (Done value) h = refl
stored_reply (Refused refusals.Perm) h = refl
stored_reply (Refused refusals.NoVm) h = refl
stored_reply (Refused refusals.NoMemory) h = refl
stored_reply (Refused refusals.Busy) h = refl
stored_reply (Refused refusals.Invalid) h = refl
stored_reply (Refused refusals.NoPool) h = refl
stored_reply (Refused refusals.LogFull) h = absurd h
stored_reply (Refused refusals.Contended) h = absurd h

-- a call that finds a log full isn't stored
full_reply : (l : Layout) (s t : Reference) (c : Call)
    → Steps l s c t
    → is_full (names c.step) c.slot (rooms_by c s) ≡ true
    → is_stored c.reply ≡ false
full_reply l s t c h full = elim h.on.answers [
  | inl f ↦ ap is_stored f.reply
  | inr a ↦ let both : true ≡ false = sym full ∙ a.room in absurd cc
]

module _ {A : Type 0} where
  -- parts have this history
  pub record HasLog (p : Parts A) (log : List Call) : Type 0 where
    pub ready : CanBoot (parts_layout p)
    pub history : IsHistory (parts_layout p) (kept_of p) log

  abbrev as_history : (p : Parts A) (log : List Call) → HasLog p log → HasHistory p
  as_history p log h = record { ready = h.ready; log = log; history = h.history }

  log_step : (p q : Parts A) (c : Call) (log : List Call)
      → Goes p c q
      → HasLog p log
      → HasLog q (log ++ stored_in (c ∷ []))
  log_step p q c log go h =
      let l : Layout = parts_layout p in
      let step = go.step in
      let steps : Steps l (state_of p) c (state_of q) =
      subst (λ (x : Call). Steps l (state_of p) x (state_of q)) (sym go.call) step.steps in
      let full : is_full (names c.step) c.slot (rooms_by c (state_of p)) ≡ is_log_full p c.cpu c.step =
      ap (λ (x : Call). is_full (names x.step) x.slot (rooms_by x (state_of p))) go.call in
      let to_q : (cs : List Call) → IsHistory l (kept_of q) cs → HasLog q cs =
      λ cs k. record {
        ready = subst CanBoot (sym step.layout) h.ready;
        history = subst (λ (x : Layout). IsHistory x (kept_of q) cs) (sym step.layout) k;
      } in
      by_test (is_log_full p c.cpu c.step)
      (λ e.
      let none : stored_in (c ∷ []) ≡ [] = unstored_one c (full_reply l (state_of p) (state_of q) c steps (full ∙ e)) in
      subst (HasLog q) (sym (ap (λ xs. log ++ xs) none ∙ append-nil log))
      (to_q log (subst (λ (k : Kept). IsHistory l k log) (sym (step.full e)) h.history)))
      (λ e.
      let end_is : state_of p ≡ h.history.end =
      end_once l log (state_of p) h.history.end (run_to p (as_history p log h)) h.history.run in
      let one : stored_in (c ∷ []) ≡ c ∷ [] = stored_one c (stored_reply c.reply (step.stored e)) in
      let stores =
      subst (λ (x : Call). StoresCall x (state_of q).contents (kept_of p) (kept_of q)) (sym go.call)
      (step.stores e) in
      let more =
      history_grows l (kept_of p) (kept_of q) log c (state_of q) h.history
      (subst (λ (s : Reference). Steps l s c (state_of q)) end_is steps) (step.stored e) go.inside stores in
      subst (λ xs. HasLog q (log ++ xs)) (sym one) (to_q (log ++ c ∷ []) more))

  log_along : (cs : List Call) (p q : Parts A) (log : List Call)
      → Runs Goes p cs q
      → HasLog p log
      → HasLog q (log ++ stored_in cs)
  log_along [] p q log goes h = subst (HasLog q) (sym (append-nil log)) (subst (λ (x : Parts A). HasLog x log) goes h)
  log_along (c ∷ cs) p q log goes h =
      let rest = log_along cs goes.0 q (log ++ stored_in (c ∷ [])) goes.2 (log_step p goes.0 c log goes.1 h) in
      let first : stored_in (c ∷ cs) ≡ stored_in (c ∷ []) ++ stored_in cs =
      filter-append (λ (d : Call). is_stored d.reply) (c ∷ []) cs in
      subst (HasLog q) (append_assoc log (stored_in (c ∷ [])) (stored_in cs) ∙ ap (λ xs. log ++ xs) (sym first)) rest

  -- and the parts then
  pub has_log : (m : Memory) (config : Config) (p q : Parts A) (cs : List Call)
      → IsBooted m config p
      → Runs Goes p cs q
      → HasLog q (stored_in cs)
  has_log m config p q cs booted goes =
      let h = at_boot m config p booted in
      let none : h.log ≡ [] =
      no_log p.layout.config.cpus h.log h.history.run.cpus
      (λ cpu less. sym (ap (λ z. z.1) (h.history.cpu cpu less)) ∙ booted.no_calls.cpus cpu) in
      log_along cs p q [] goes
      (record { ready = h.ready; history = subst (IsHistory (parts_layout p) (kept_of p)) none h.history })

  pub history_of : (p q : Parts A) (steps : List Asked) (replies : List Reply)
      → HaveBooted p
      → HasRun p steps replies q
      → HasHistory q
  history_of p q steps replies b run = as_history q (stored_in run.calls) (has_log b.0 b.1 p q run.calls b.2 run.goes)

  -- ---- the machine of these parts

  log_there : (xs : List (Slot A)) (k : ℕ) (x : Slot A)
      → slice_get xs k ≡ Some x
      → slice_index_or (map (λ (y : Slot A). (log_of y).calls) xs) k [] ≡ (log_of x).calls
  log_there [] k x e = absurd cc
  log_there (y ∷ xs) zero x e = ap (λ (z : Slot A). (log_of z).calls) (same_Some y x e)
  log_there (y ∷ xs) (suc k) x e = log_there xs k x e

  pub has_begun : (p q : Parts A) (steps : List Asked) (replies : List Reply) (it : Machine)
      → HaveBooted p
      → HasRun p steps replies q
      → IsMachineOf q it
      → HasBegun it.table steps replies
  has_begun p q steps replies it b run made =
      let h : HasLog q (stored_in run.calls) = has_log b.0 b.1 p q run.calls b.2 run.goes in
      let past : HasHistory q = as_history q (stored_in run.calls) h in
      let same : layout_of it.table.layout ≡ parts_layout q = ap layout_of made.layout in
      let cpus : it.table.layout.config.cpus ≡ q.layout.config.cpus =
      ap (λ (l : TheLayout). l.config.cpus) made.layout in
      let all : IsRun (parts_layout q) run.calls (state_of q) =
      subst (λ (l : Layout). IsRun l run.calls (state_of q)) (sym (layout_stays run.calls p q run.goes))
      (steps_run b.0 b.1 p q run.calls b.2 run.goes) in
      record {
        ready = subst CanBoot (sym same) h.ready;
        replied = run.count;
        calls = run.calls;
        asked = run.asked;
        at = state_of q;
        run = subst (λ (l : Layout). IsRun l run.calls (state_of q)) (sym same) all;
        stored_run = subst (λ (l : Layout). IsRun l (stored_in run.calls) (state_of q)) (sym same) (run_to q past);
        logs = λ k below.
            let x = there (slots_of q) k (let n = slots_long q past in omega (arith, below, n)) in
            sym (part_at q past k x.0 x.1).1 ∙ sym (log_there (slots_of q) k x.0 x.1)
            ∙ ap (λ (g : Begun). slice_index_or g.logs k []) (sym made.begun);
        count =
            ap (λ (g : Begun). length g.owns) made.begun
            ∙ (let n = q.counted in let m = q.cpus.ok.0 in omega (arith, n, m, cpus));
        owns = λ cpu below.
            let k = there q.cpus.items cpu (omega (arith, below, cpus, q.counted, q.cpus.ok.0)) in
            let is : own_in it.table.begun cpu ≡ k.0 =
            ap (λ (g : Begun). own_in g cpu) made.begun ∙ or_of_get q.cpus.items cpu no_own k.0 k.1 in
            let mine = own_at q past cpu k.0 k.1 in
            let end_is : h.history.end ≡ state_of q =
            end_once (parts_layout q) (stored_in run.calls) h.history.end (state_of q) h.history.run
            (run_to q past) in
            let own : IsOwn (layout_of it.table.layout) (state_of q) cpu k.0 =
            subst (λ (z : Layout × Reference). IsOwn z.0 z.1 cpu k.0) (λ i. (sym same i, end_is i)) mine.1 in
            subst
            (λ (o : CpuState). (calls_by cpu (stored_in run.calls) ≡ o.log.calls)
            × IsOwn (layout_of it.table.layout) (state_of q) cpu o)
            (sym is) (sym mine.0, own);
      }
