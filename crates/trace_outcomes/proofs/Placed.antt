-- A step that a full log refused, in the one history: between its CPU's calls before it and the next, a log that would
-- store it is full in the model's state.
use Rattle.std.proofs.Common.{◌≡◌, ℕ, zero, suc, ◌+◌, ◌<◌, ◌==◌, Bool, true, false, refl, sym, ap, subst, ◌∙◌, arith, inl, inr, ◌⊎◌, List, [], ◌∷◌, ◌++◌, filter, length, length-append, append-nil, map, take, cond, eqb, Option, Some, None}
use Rattle.std.specs.Prelude.{All, Contains, if◌then◌else◌}
use Rattle.std.proofs.lemmas.List.{append_assoc}
use Rattle.std.proofs.lemmas.List.Elements.{All-cons, All-head, All-nil, All-tail, filter-append}
use Rattle.page_state.specs.declared.layout.Layout.{Layout as TheLayout}
use Rattle.page_state.specs.LayoutView.{layout_of}
use Rattle.page_state.specs.Layouts.{Layout}
use Rattle.call_table.specs.declared.reply.Call.{Call}
use Rattle.call_table.specs.declared.reply.Refusal.TheVariants as refusals
use Rattle.call_table.specs.declared.reply.Reply.{Reply}
use Rattle.call_table.specs.declared.reply.Reply.TheVariants.{Done, Refused}
use Rattle.call_table.specs.declared.step.Step.{Step}
use Rattle.reference_model.specs.model.Boot.{boot}
use Rattle.reference_model.specs.model.History.{IsStored, calls_by, calls_on}
use Rattle.reference_model.specs.model.Rules.{guest_slot, names}
use Rattle.reference_model.specs.model.Run.{IsRun, Runs}
use Rattle.reference_model.specs.model.State.{Cpu, Reference}
use Rattle.reference_model.specs.model.Step.{Steps}
use Rattle.part_types.specs.declared.parts.CpuState.{CpuState}
use Rattle.part_types.specs.View.{cpu_of}
use Rattle.hypercalls.specs.Uses.{parts_of}
use Rattle.part_table.proofs.Before.{own_behind, own_front}
use Rattle.part_table.specs.Answered.{MakesCall}
use Rattle.part_table.specs.Before.{before_own}
use Rattle.part_table.specs.Does.{only_cpu}
use Rattle.part_table.specs.Known.{IsSame, Known, StartsWith}
use Rattle.part_table.specs.Parts.{in_order, part_of}
use Rattle.race_outcomes.proofs.OwnSlots.{same_slots}
use Rattle.race_outcomes.proofs.Runs.{told_by}
use Rattle.race_outcomes.specs.Laws.{HasFullLog, before_own as before, is_log_full, stored_answers}
use Rattle.trace_race.proofs.Kept.{kept_cases}
use Rattle.trace_race.specs.Made.{CallsIn, FindsFull, IsCpus, MakeAll, is_stored, known_with}
use Rattle.trace_outcomes.proofs.FullAt.{full_there, own_taken}

-- `before_own` of both crates
same_before : (cpu n : ℕ) (xs : List Call) → before cpu n xs ≡ before_own cpu n xs
same_before cpu zero [] = refl
same_before cpu (suc n) [] = refl
same_before cpu zero (c ∷ xs) = ap (λ ys. if c.cpu == cpu then [] else c ∷ ys) (same_before cpu zero xs)
same_before cpu (suc n) (c ∷ xs) =
    ap (λ ys. if c.cpu == cpu then c ∷ ys else c ∷ before cpu (suc n) xs) (same_before cpu n xs)
    ∙ ap (λ ys. if c.cpu == cpu then c ∷ before_own cpu n xs else c ∷ ys) (same_before cpu (suc n) xs)

taken : {X : Type 0} (xs ys : List X) → take (length xs) (xs ++ ys) ≡ xs
taken [] ys = refl
taken (x ∷ xs) ys = ap (λ zs. x ∷ zs) (taken xs ys)

both_run : {S : Type 0} (Go : S → Call → S → Type 0) (xs ys : List Call) (s t u : S)
    → Runs Go s xs t
    → Runs Go t ys u
    → Runs Go s (xs ++ ys) u
both_run Go [] ys s t u h k = subst (λ x. Runs Go x ys u) (sym h) k
both_run Go (c ∷ xs) ys s t u h k = (h.0, h.1, both_run Go xs ys h.0 t u h.2 k)

-- what holds of all holds of the front
all_front : (P : Call → Type 0) (xs ys : List Call) → All P (xs ++ ys) → All P xs
all_front P [] ys h = All-nil P
all_front P (x ∷ xs) ys h =
    All-cons P x xs (All-head P x (xs ++ ys) h) (all_front P xs ys (All-tail P x (xs ++ ys) h))

all_before : (cpu n : ℕ) (P : Call → Type 0) (xs : List Call) → All P xs → All P (before_own cpu n xs)
all_before cpu n P xs h =
    let front = own_front cpu n xs in
    all_front P (before_own cpu n xs) front.0 (subst (All P) front.1 h)

-- a reply is of a full log, or stored
stored_reply : (r : Reply) → IsStored r → is_log_full r ≡ false
stored_reply (Done v) h = refl
stored_reply (Refused refusals.Perm) h = refl
stored_reply (Refused refusals.NoVm) h = refl
stored_reply (Refused refusals.Contended) h = refl
stored_reply (Refused refusals.NoMemory) h = refl
stored_reply (Refused refusals.Busy) h = refl
stored_reply (Refused refusals.Invalid) h = refl
stored_reply (Refused refusals.NoPool) h = refl
stored_reply (Refused refusals.LogFull) h = absurd h

cons_first : (a : Step × Reply) (more : List (Step × Reply))
    → stored_answers (a ∷ more) ≡ stored_answers (a ∷ []) ++ stored_answers more
cons_first a more = by (is_log_full a.1) refl
  where
    by : (b : Bool) → is_log_full a.1 ≡ b → stored_answers (a ∷ more) ≡ stored_answers (a ∷ []) ++ stored_answers more
    by true e = rw e refl
    by false e = rw e refl

module _ (key : TheLayout) (cpu : ℕ) where
  abbrev l : Layout
  l = layout_of key

  -- a pass's own state is that in which a run leaves its CPU, with its calls
  record IsAt (v : Known) : Type 0 where
    layout : v.layout ≡ key
    cpu_is : v.cpu ≡ cpu
    log : List Call
    state : Reference
    runs : Runs (Steps l) (boot l) log state
    calls : calls_by cpu log ≡ v.own.log.calls
    own : cpu_of v.own ≡ state.contents.cpu cpu

  only_here : (c : ℕ) (own : CpuState) → only_cpu c own c ≡ Some own
  only_here c own = ap (λ b. cond b (Some own) None) (let e : eqb c c ≡ true = search (arith) in e)

  made_at : (step : Step) (reply : Reply) (v w : Known) → MakesCall step reply v w → IsAt v → IsAt w
  made_at step reply v w a at =
      let is : w.layout ≡ key = a.layout ∙ at.layout in
      let by : w.cpu ≡ cpu = a.cpu ∙ at.cpu_is in
      let here = a.left.cpus w.cpu w.own (only_here w.cpu w.own) in
      record {
        layout = is;
        cpu_is = by;
        log = a.left.log;
        state = a.left.history.end;
        runs =
            subst
            (λ (k : TheLayout). Runs (Steps (layout_of k)) (boot (layout_of k)) a.left.log
            a.left.history.end)
            is a.left.history.run.leads;
        calls = ap (λ k. calls_by k a.left.log) (sym by) ∙ sym here.0;
        own = here.1.content ∙ ap (λ k. a.left.history.end.contents.cpu k) by;
      }

  same_at : (v w : Known) → IsSame v w → IsAt v → IsAt w
  same_at v w s at = record {
    layout = ap (λ (k : Known). k.layout) s ∙ at.layout;
    cpu_is = ap (λ (k : Known). k.cpu) s ∙ at.cpu_is;
    log = at.log;
    state = at.state;
    runs = at.runs;
    calls = at.calls ∙ ap (λ (k : Known). k.own.log.calls) (sym s);
    own = ap (λ (k : Known). cpu_of k.own) s ∙ at.own;
  }

  module _ (whole : List Call) where
    -- a pass after these steps with their replies
    record IsLater (v w : Known) (answers : List (Step × Reply)) : Type 0 where
      at : IsAt v → IsAt w
      calls : StartsWith w.own.log.calls v.own.log.calls
      count : length w.own.log.calls ≡ length v.own.log.calls + length (stored_answers answers)
      kept : filter (λ a. is_stored a.1) answers ≡ stored_answers answers

    one_later : (a : Step × Reply) (v w : Known) → CallsIn l whole a.0 a.1 v w → IsLater v w (a ∷ [])
    one_later a v w c = elim (kept_cases a.1 c.answered) [
      | inl k ↦
          let s = c.stored k.0 in
          let none : is_log_full a.1 ≡ false = stored_reply a.1 k.0 in
          let one : stored_answers (a ∷ []) ≡ a ∷ [] = rw none refl in
          let more : w.own.log.calls ≡ v.own.log.calls ++ s.stores.call ∷ [] =
          ap (λ g. g.calls) s.stores.own
          ∙ ap (λ (k : Known). k.own.log.calls ++ s.stores.call ∷ []) s.met.same in
          record {
            at = λ at. made_at a.0 a.1 s.last w s.stores (same_at v s.last s.met.same at);
            calls = (s.stores.call ∷ [], more);
            count =
                ap length more ∙ length-append v.own.log.calls (s.stores.call ∷ [])
                ∙ ap (λ (xs : List (Step × Reply)). length v.own.log.calls + length xs) (sym one);
            kept = (let both : filter (λ (x : Step × Reply). is_stored x.1) (a ∷ []) ≡ a ∷ [] = rw k.1 refl in both)
                ∙ sym one;
          }
      | inr k ↦
          let same = (c.full k.0).0 in
          let none : stored_answers (a ∷ []) ≡ [] =
          ap (λ (r : Reply). stored_answers ((a.0, r) ∷ [])) k.0 in
          let own : w.own.log.calls ≡ v.own.log.calls = ap (λ (k : Known). k.own.log.calls) same in
          record {
            at = same_at v w same;
            calls = ([], own ∙ sym (append-nil v.own.log.calls));
            count =
                ap length own
                ∙ (let z : length v.own.log.calls ≡ length v.own.log.calls + 0 = omega arith in z)
                ∙ ap (λ (xs : List (Step × Reply)). length v.own.log.calls + length xs) (sym none);
            kept = (let both : filter (λ (x : Step × Reply). is_stored x.1) (a ∷ []) ≡ [] = rw k.1 refl in both)
                ∙ sym none;
          }
    ]

    more_later : (u v w : Known) (a : Step × Reply) (more : List (Step × Reply))
        → IsLater u v (a ∷ [])
        → IsLater v w more
        → IsLater u w (a ∷ more)
    more_later u v w a more f g = record {
      at = λ at. g.at (f.at at);
      calls = (
        f.calls.0 ++ g.calls.0,
        g.calls.1
            ∙ (ap (λ cs. cs ++ g.calls.0) f.calls.1 ∙ append_assoc u.own.log.calls f.calls.0 g.calls.0),
      );
      count =
          let n = f.count in
          let m = g.count in
          let k = length-append (stored_answers (a ∷ [])) (stored_answers more) in
          let e = ap (λ (xs : List (Step × Reply)). length xs) (cons_first a more) in
          omega (arith, n, m, k, e);
      kept =
          filter-append (λ (x : Step × Reply). is_stored x.1) (a ∷ []) more
          ∙ (λ i. f.kept i ++ g.kept i)
          ∙ sym (cons_first a more);
    }

    none_later : (v : Known) → IsLater v v []
    none_later v = record {
      at = λ at. at;
      calls = ([], sym (append-nil v.own.log.calls));
      count = omega arith;
      kept = refl;
    }

    all_later : (v w : Known) (answers : List (Step × Reply))
        → MakeAll (CallsIn l whole) v answers w
        → IsLater v w answers
    all_later v w [] made = subst (λ (k : Known). IsLater v k []) (sym made) (none_later v)
    all_later v w (a ∷ more) made =
        more_later v made.0 w a more (one_later a v made.0 made.1) (all_later made.0 w more made.2)

    -- the pass where a full log refused a step
    record IsRefused (v last : Known) (answers : List (Step × Reply)) (step : Step) : Type 0 where
      pass : Known
      later : IsLater v pass answers
      goes_on : StartsWith last.own.log.calls pass.own.log.calls
      full : FindsFull l whole step pass

    refused : (v last : Known) (answers after : List (Step × Reply)) (step : Step)
        → MakeAll (CallsIn l whole) v (answers ++ (step, Refused refusals.LogFull) ∷ after) last
        → IsRefused v last answers step
    refused v last [] after step made = record {
      pass = v;
      later = none_later v;
      goes_on = (all_later v last ((step, Refused refusals.LogFull) ∷ after) made).calls;
      full = (made.1.full refl).1;
    }
    refused v last (a ∷ answers) after step made = let r = refused made.0 last answers after step made.2 in record {
      pass = r.pass;
      later = more_later v made.0 r.pass a answers (one_later a v made.0 made.1) r.later;
      goes_on = r.goes_on;
      full = r.full;
    }

  module _ (answers : List (Step × Reply)) (at : Reference) (front log : List Call)
      (is : IsCpus key cpu answers at front log) (begins : IsRun l front at)
      (stored : All (λ c. IsStored c.reply) (front ++ log))
      (inside : All (λ c. c.cpu < l.config.cpus) (front ++ log)) where
    -- no reply is of a part that was taken
    pub kept_answers : filter (λ a. is_stored a.1) answers ≡ stored_answers answers
    kept_answers = (all_later (front ++ log) (known_with key cpu is.first) is.last answers is.makes).kept

    first_at : IsAt (known_with key cpu is.first)
    first_at = record {
      layout = refl;
      cpu_is = refl;
      log = front;
      state = at;
      runs = begins.leads;
      calls = sym is.first_calls;
      own = is.first_is.content;
    }

    module _ (earlier after : List (Step × Reply)) (step : Step)
        (there : answers ≡ earlier ++ (step, Refused refusals.LogFull) ∷ after) where
      found : IsRefused (front ++ log) (known_with key cpu is.first) is.last earlier step
      found =
          refused (front ++ log) (known_with key cpu is.first) is.last earlier after step
          (subst
          (λ (xs : List (Step × Reply)). MakeAll (CallsIn l (front ++ log)) (known_with key cpu is.first) xs is.last)
          there is.makes)

      at_pass : IsAt found.pass
      at_pass = found.later.at first_at

      abbrev k : ℕ
      k = length (stored_answers earlier)

      abbrev calls : List Call
      calls = front ++ before_own cpu k log

      calls_are : before_own cpu (length found.pass.own.log.calls) (front ++ log) ≡ calls
      calls_are =
          own_behind cpu (length found.pass.own.log.calls) k front log
          (found.later.count ∙ ap (λ (cs : List Call). length cs + k) is.first_calls)

      own_calls : calls_by cpu calls ≡ found.pass.own.log.calls
      own_calls =
          ap (calls_by cpu) (sym calls_are)
          ∙ own_taken cpu (length found.pass.own.log.calls) (front ++ log)
          ∙ ap (take (length found.pass.own.log.calls)) (is.own ∙ found.goes_on.1)
          ∙ taken found.pass.own.log.calls found.goes_on.0

      module _ (u : Reference) (leads : Runs (Steps l) at (before cpu k log) u) where
        run : IsRun l calls u
        run = record {
          cpus = all_parts (λ (c : Call). c.cpu < l.config.cpus) inside;
          leads =
              both_run (Steps l) front (before_own cpu k log) (boot l) at u begins.leads
              (subst (λ (cs : List Call). Runs (Steps l) at cs u) (same_before cpu k log) leads);
        }
          where
            all_parts : (P : Call → Type 0) → All P (front ++ log) → All P calls
            all_parts P h =
                subst (All P) calls_are (all_before cpu (length found.pass.own.log.calls) P (front ++ log) h)

        slot : guest_slot (cpu_of found.pass.own) step ≡ guest_slot (u.contents.cpu cpu) step
        slot =
            ap (λ (c : Cpu). guest_slot c step) at_pass.own
            ∙ same_slots l cpu at_pass.log calls (boot l) at_pass.state u at_pass.runs run.leads
            (ap (map told_by) (at_pass.calls ∙ sym own_calls)) step

        calls_there : before_own found.pass.cpu (length found.pass.own.log.calls) (front ++ log) ≡ calls
        calls_there =
            ap (λ c. before_own c (length found.pass.own.log.calls) (front ++ log)) at_pass.cpu_is ∙ calls_are

        pub full_at : HasFullLog u cpu step
        full_at =
            full_there l calls u run
            (subst (All (λ (c : Call). IsStored c.reply)) calls_are
            (all_before cpu (length found.pass.own.log.calls) (λ (c : Call). IsStored c.reply) (front ++ log) stored))
            cpu step (by found.full)
          where
            by : FindsFull l (front ++ log) step found.pass
                → (length (calls_by cpu calls) ≡ l.config.log)
                ⊎ ((n : ℕ)
                × Contains (in_order (parts_of (names step) (guest_slot (u.contents.cpu cpu) step))) n
                × (length (calls_on (part_of n) calls) ≡ l.config.log))
            by (inl e) =
                inl
                ((λ i. length (calls_by (sym at_pass.cpu_is i) (sym calls_there i))) ∙ e)
            by (inr f) = inr (
              f.0,
              subst (λ (o : Option ℕ). Contains (in_order (parts_of (names step) o)) f.0) slot f.1,
              ap (λ (cs : List Call). length (calls_on (part_of f.0) cs)) (sym calls_there) ∙ f.2,
            )
