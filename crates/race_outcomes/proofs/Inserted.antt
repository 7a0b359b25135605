-- Steps that a full log refused, put into the run of the stored calls: each comes just before its CPU's next call, or
-- at the end.
use Rattle.std.proofs.Common.{◌≡◌, ℕ, zero, suc, ◌+◌, ◌<◌, ◌≤◌, ◌==◌, Bool, true, false, not, refl, sym, ap, subst, ◌∙◌, arith, inl, inr, ◌⊎◌, List, [], ◌∷◌, ◌++◌, drop, length, map}
use Rattle.std.specs.Prelude.{if◌then◌else◌}
use Rattle.std.proofs.lemmas.Bool.{cases_lt}
use Rattle.page_state.proofs.Common.{both, eq-other, eq-same, eq-self, if-false, if-true}
use Rattle.page_state.specs.Layouts.{Layout}
use Rattle.call_table.specs.declared.reply.Call.{Call}
use Rattle.call_table.specs.declared.reply.Refusal.TheVariants as refusals
use Rattle.call_table.specs.declared.reply.Reply.{Reply}
use Rattle.call_table.specs.declared.reply.Reply.TheVariants.{Done, Refused}
use Rattle.call_table.specs.declared.step.Step.{Step}
use Rattle.reference_model.proofs.Steps.{step_exists}
use Rattle.reference_model.specs.model.History.{calls_by}
use Rattle.reference_model.specs.model.Rules.{guest_slot}
use Rattle.reference_model.specs.model.Run.{Runs}
use Rattle.reference_model.specs.model.State.{Reference}
use Rattle.reference_model.specs.model.Step.{Steps, predict_step}
use Rattle.ghost_spec.proofs.Predictions.{predicted-full}
use Rattle.race_outcomes.specs.declared.node.Turn.{Turn}
use Rattle.race_outcomes.specs.Laws.{HasFullLog, StoredRunsAreOutcomes, answers_of, before_own, is_log_full, stored_answers}
use Rattle.race_outcomes.proofs.Runs.{runs_are_outcomes, told_by}

-- the answers of each CPU
abbrev Answers : Type 0
Answers = ℕ → List (Step × Reply)

-- the same with other answers of a CPU
abbrev put : ℕ → List (Step × Reply) → Answers → Answers
put cpu rest a j = if cpu == j then rest else a j

-- CPUs from a number on have none
abbrev IsBelow : ℕ → Answers → Type 0
IsBelow b a = (j : ℕ) → b ≤ j → a j ≡ []

is_full_reply : (r : Reply) → is_log_full r ≡ true → r ≡ Refused refusals.LogFull
is_full_reply (Done v) e = absurd cc
is_full_reply (Refused refusals.Perm) e = absurd cc
is_full_reply (Refused refusals.NoVm) e = absurd cc
is_full_reply (Refused refusals.Contended) e = absurd cc
is_full_reply (Refused refusals.NoMemory) e = absurd cc
is_full_reply (Refused refusals.Busy) e = absurd cc
is_full_reply (Refused refusals.Invalid) e = absurd cc
is_full_reply (Refused refusals.NoPool) e = absurd cc
is_full_reply (Refused refusals.LogFull) e = refl

some : {X : Type 0} {x : X} {xs : List X} → x ∷ xs ≡ [] → ⊥
some e = cc

-- the answers that a log stored, with one more in front
stored_more : (x : Step × Reply) (xs : List (Step × Reply))
    → is_log_full x.1 ≡ false
    → stored_answers (x ∷ xs) ≡ x ∷ stored_answers xs
stored_more x xs e = if-true (not (is_log_full x.1)) (x ∷ stored_answers xs) (stored_answers xs) (ap not e)

stored_same : (x : Step × Reply) (xs : List (Step × Reply))
    → is_log_full x.1 ≡ true
    → stored_answers (x ∷ xs) ≡ stored_answers xs
stored_same x xs e = if-false (not (is_log_full x.1)) (x ∷ stored_answers xs) (stored_answers xs) (ap not e)

-- a CPU's answers with one in front, and those without it
module _ (cpu : ℕ) (x : Step × Reply) (rest : List (Step × Reply)) (a : Answers) (e : a cpu ≡ x ∷ rest) where
  back : (j : ℕ) → (if cpu == j then x ∷ rest else a j) ≡ a j
  back j = by (both (cpu == j))
    where
      by : ((cpu == j) ≡ true) ⊎ ((cpu == j) ≡ false) → (if cpu == j then x ∷ rest else a j) ≡ a j
      by (inl mine) = if-true (cpu == j) (x ∷ rest) (a j) mine ∙ sym e ∙ ap a (eq-same cpu j mine)
      by (inr other) = if-false (cpu == j) (x ∷ rest) (a j) other

  put_below : (b : ℕ) → IsBelow b a → IsBelow b (put cpu rest a)
  put_below b none j le = by (both (cpu == j))
    where
      by : ((cpu == j) ≡ true) ⊎ ((cpu == j) ≡ false) → put cpu rest a j ≡ []
      by (inl mine) = absurd (some (sym e ∙ ap a (eq-same cpu j mine) ∙ none j le))
      by (inr other) = if-false (cpu == j) rest (a j) other ∙ none j le

put_here : (cpu : ℕ) (rest : List (Step × Reply)) (a : Answers) → put cpu rest a cpu ≡ rest
put_here cpu rest a = if-true (cpu == cpu) rest (a cpu) (eq-self cpu)

own_first : (cpu : ℕ) (c : Call) (cs : List Call) → (c.cpu == cpu) ≡ true → before_own cpu 0 (c ∷ cs) ≡ []
own_first cpu c cs e = if-true (c.cpu == cpu) [] (c ∷ before_own cpu 0 cs) e

own_more : (cpu n : ℕ) (c : Call) (cs : List Call)
    → (c.cpu == cpu) ≡ true
    → before_own cpu (suc n) (c ∷ cs) ≡ c ∷ before_own cpu n cs
own_more cpu n c cs e = if-true (c.cpu == cpu) (c ∷ before_own cpu n cs) (c ∷ before_own cpu (suc n) cs) e

others_more : (cpu n : ℕ) (c : Call) (cs : List Call)
    → (c.cpu == cpu) ≡ false
    → before_own cpu n (c ∷ cs) ≡ c ∷ before_own cpu n cs
others_more cpu zero c cs e = if-false (c.cpu == cpu) [] (c ∷ before_own cpu zero cs) e
others_more cpu (suc n) c cs e = if-false (c.cpu == cpu) (c ∷ before_own cpu n cs) (c ∷ before_own cpu (suc n) cs) e

call_first : (a b : Bool) (c : Call) (calls : List Call) (x : Step × Reply) (rest old : List (Step × Reply))
    → a ≡ b
    → ◌≡◌ {A = Step × Reply} (told_by c) x
    → map told_by calls ≡ (if b then rest else old)
    → ◌≡◌ {A = List (Step × Reply)} (map told_by (if a then c ∷ calls else calls)) (if b then x ∷ rest else old)
call_first true true c calls x rest old e f g = cc
call_first false false c calls x rest old e f g = g
call_first true false c calls x rest old e f g = absurd (cc)
call_first false true c calls x rest old e f g = absurd (cc)

module _ (l : Layout) where
  -- a run whose calls of each CPU are these steps with their replies
  record IsWhole (s t : Reference) (a : Answers) : Type 0 where
    log : List Call
    runs : Runs (Steps l) s log t
    each : (cpu : ℕ) → map told_by (calls_by cpu log) ≡ a cpu

  -- calls of these steps with their replies, but for those that a full log refused
  record AreStored (s : Reference) (log : List Call) (a : Answers) : Type 0 where
    each : (cpu : ℕ) → map told_by (calls_by cpu log) ≡ stored_answers (a cpu)
    full : (cpu : ℕ) (before after : List (Step × Reply)) (step : Step)
        → a cpu ≡ before ++ (step, Refused refusals.LogFull) ∷ after
        → (u : Reference)
        → Runs (Steps l) s (before_own cpu (length (stored_answers before)) log) u
        → HasFullLog u cpu step

  -- with a call in front
  with_call : (s u t : Reference) (c : Call) (cpu : ℕ) (x : Step × Reply) (rest : List (Step × Reply)) (a : Answers)
      → Steps l s c u
      → c.cpu ≡ cpu
      → ◌≡◌ {A = Step × Reply} (told_by c) x
      → a cpu ≡ x ∷ rest
      → IsWhole u t (put cpu rest a)
      → IsWhole s t a
  with_call s u t c cpu x rest a h by told e w = record {
    log = c ∷ w.log;
    runs = (u, h, w.runs);
    each = λ j.
        call_first (c.cpu == j) (cpu == j) c (calls_by j w.log) x rest (a j) (ap (λ k. k == j) by) told (w.each j)
        ∙ back cpu x rest a e j;
  }

  -- the call of a step that a full log refuses
  record IsFullCall (s : Reference) (cpu : ℕ) (step : Step) : Type 0 where
    call : Call
    by : call.cpu ≡ cpu
    told : ◌≡◌ {A = Step × Reply} (told_by call) (step, Refused refusals.LogFull)
    steps : Steps l s call s

  full_call : (s : Reference) (cpu : ℕ) (step : Step) → HasFullLog s cpu step → IsFullCall s cpu step
  full_call s cpu step full =
      let one = step_exists l s cpu step in
      let is : ◌≡◌ {A = Reply × Reference} (predict_step l s cpu step) (Refused refusals.LogFull, s) =
      predicted-full l s cpu step (guest_slot (s.contents.cpu cpu) step) refl full in
      record {
        call = one.0;
        by = one.1;
        told = same one.0 step (Refused refusals.LogFull) one.2 (one.3 ∙ ap (λ (p : Reply × Reference). p.0) is);
        steps = subst (Steps l s one.0) (ap (λ (p : Reply × Reference). p.1) is) one.4;
      }
    where
      same : (c : Call) (p : Step) (r : Reply) → c.step ≡ p → c.reply ≡ r → ◌≡◌ {A = Step × Reply} (told_by c) (p, r)
      same c p r e f = cc

  -- behind an answer that a full log refused
  behind_full : (s : Reference) (log : List Call) (cpu : ℕ) (x : Step × Reply) (rest : List (Step × Reply))
      (a : Answers)
      → is_log_full x.1 ≡ true
      → a cpu ≡ x ∷ rest
      → AreStored s log a
      → AreStored s log (put cpu rest a)
  behind_full s log cpu x rest a is e h = record {
    each = λ j. each j (both (cpu == j));
    full = λ j before after step f u runs. full j before after step f u runs (both (cpu == j));
  }
    where
      each : (j : ℕ)
          → ((cpu == j) ≡ true) ⊎ ((cpu == j) ≡ false)
          → map told_by (calls_by j log) ≡ stored_answers (put cpu rest a j)
      each j (inl mine) =
          h.each j
          ∙ ap stored_answers (ap a (sym (eq-same cpu j mine)) ∙ e)
          ∙ stored_same x rest is
          ∙ ap stored_answers (sym (if-true (cpu == j) rest (a j) mine))
      each j (inr other) = h.each j ∙ ap stored_answers (sym (if-false (cpu == j) rest (a j) other))

      full : (j : ℕ) (before after : List (Step × Reply)) (step : Step)
          → put cpu rest a j ≡ before ++ (step, Refused refusals.LogFull) ∷ after
          → (u : Reference)
          → Runs (Steps l) s (before_own j (length (stored_answers before)) log) u
          → ((cpu == j) ≡ true) ⊎ ((cpu == j) ≡ false)
          → HasFullLog u j step
      full j before after step f u runs (inl mine) =
          h.full j (x ∷ before) after step
          (ap a (sym (eq-same cpu j mine)) ∙ e ∙ ap (λ xs. x ∷ xs) (sym (if-true (cpu == j) rest (a j) mine) ∙ f)) u
          (subst (λ (xs : List (Step × Reply)). Runs (Steps l) s (before_own j (length xs) log) u)
          (sym (stored_same x before is)) runs)
      full j before after step f u runs (inr other) =
          h.full j before after step (sym (if-false (cpu == j) rest (a j) other) ∙ f) u runs

  -- behind a call
  behind_call : (s u : Reference) (c : Call) (cs : List Call) (rest : List (Step × Reply)) (a : Answers)
      → Steps l s c u
      → is_log_full c.reply ≡ false
      → a c.cpu ≡ told_by c ∷ rest
      → AreStored s (c ∷ cs) a
      → AreStored u cs (put c.cpu rest a)
  behind_call s u c cs rest a go is e h = record {
    each = λ j. each j (both (c.cpu == j));
    full = λ j before after step f v runs. full j before after step f v runs (both (c.cpu == j));
  }
    where
      each : (j : ℕ)
          → ((c.cpu == j) ≡ true) ⊎ ((c.cpu == j) ≡ false)
          → map told_by (calls_by j cs) ≡ stored_answers (put c.cpu rest a j)
      each j (inl mine) =
          let here : told_by c ∷ map told_by (calls_by j cs) ≡ told_by c ∷ stored_answers rest =
          ap (map told_by) (sym (if-true (c.cpu == j) (c ∷ calls_by j cs) (calls_by j cs) mine))
          ∙ h.each j
          ∙ ap stored_answers (ap a (sym (eq-same c.cpu j mine)) ∙ e)
          ∙ stored_more (told_by c) rest is in
          ap (drop 1) here ∙ ap stored_answers (sym (if-true (c.cpu == j) rest (a j) mine))
      each j (inr other) =
          ap (map told_by) (sym (if-false (c.cpu == j) (c ∷ calls_by j cs) (calls_by j cs) other))
          ∙ h.each j
          ∙ ap stored_answers (sym (if-false (c.cpu == j) rest (a j) other))

      full : (j : ℕ) (before after : List (Step × Reply)) (step : Step)
          → put c.cpu rest a j ≡ before ++ (step, Refused refusals.LogFull) ∷ after
          → (v : Reference)
          → Runs (Steps l) u (before_own j (length (stored_answers before)) cs) v
          → ((c.cpu == j) ≡ true) ⊎ ((c.cpu == j) ≡ false)
          → HasFullLog v j step
      full j before after step f v runs (inl mine) =
          h.full j (told_by c ∷ before) after step
          (ap a (sym (eq-same c.cpu j mine)) ∙ e
          ∙ ap (λ xs. told_by c ∷ xs) (sym (if-true (c.cpu == j) rest (a j) mine) ∙ f)) v
          (subst (λ (k : ℕ). Runs (Steps l) s (before_own j k (c ∷ cs)) v)
          (sym (ap length (stored_more (told_by c) before is)))
          (subst (λ (xs : List Call). Runs (Steps l) s xs v)
          (sym (own_more j (length (stored_answers before)) c cs mine)) (u, go, runs)))
      full j before after step f v runs (inr other) =
          h.full j before after step (sym (if-false (c.cpu == j) rest (a j) other) ∙ f) v
          (subst (λ (xs : List Call). Runs (Steps l) s xs v)
          (sym (others_more j (length (stored_answers before)) c cs other)) (u, go, runs))

  module _ (t : Reference) where
    -- at the end, all that is left of a CPU was refused
    ends_own : (cpu b : ℕ)
        → ((a : Answers) → AreStored t [] a → IsBelow b a → a cpu ≡ [] → IsWhole t t a)
        → (xs : List (Step × Reply)) (a : Answers)
        → a cpu ≡ xs
        → AreStored t [] a
        → IsBelow b a
        → IsWhole t t a
    ends_own cpu b next [] a e h none = next a h none e
    ends_own cpu b next ((step, reply) ∷ rest) a e h none =
        by (both (is_log_full reply)) (ends_own cpu b next rest (put cpu rest a) (put_here cpu rest a))
      where
        by : ((is_log_full reply) ≡ true) ⊎ ((is_log_full reply) ≡ false)
            → (AreStored t [] (put cpu rest a) → IsBelow b (put cpu rest a) → IsWhole t t (put cpu rest a))
            → IsWhole t t a
        by (inl is) more =
            let r = is_full_reply reply is in
            let f = full_call t cpu step
            (h.full cpu [] rest step (e ∙ ap (λ (q : Reply). (step, q) ∷ rest) r) t refl) in
            with_call t t t f.call cpu (step, reply) rest a f.steps f.by
            (f.told ∙ ap (λ (q : Reply). (step, q)) (sym r)) e
            (more (behind_full t [] cpu (step, reply) rest a is e h) (put_below cpu (step, reply) rest a e b none))
        by (inr not) more =
            absurd (some (sym (stored_more (step, reply) rest not) ∙ ap stored_answers (sym e) ∙ sym (h.each cpu)))

    ends : (b : ℕ) (a : Answers) → AreStored t [] a → IsBelow b a → IsWhole t t a
    ends zero a h none = record { log = []; runs = refl; each = λ cpu. sym (none cpu (omega arith)) }
    ends (suc b) a h none =
        ends_own b (suc b)
        (λ c k low own. ends b c k (λ j le. by c low own j (cases_lt b j) le)) (a b) a refl h none
      where
        by : (c : Answers) → IsBelow (suc b) c → c b ≡ [] → (j : ℕ) → (b < j) ⊎ (j ≤ b) → b ≤ j → c j ≡ []
        by c low own j (inl less) le = low j (omega arith)
        by c low own j (inr more) le = let same : b ≡ j = omega arith in ap c (sym same) ∙ own

    -- before a call, what a full log refused to its CPU
    front : (s u : Reference) (c : Call) (cs : List Call) (b : ℕ)
        → Steps l s c u
        → ((a : Answers) → AreStored u cs a → IsBelow b a → IsWhole u t a)
        → (xs : List (Step × Reply)) (a : Answers)
        → a c.cpu ≡ xs
        → AreStored s (c ∷ cs) a
        → IsBelow b a
        → IsWhole s t a
    front s u c cs b go next [] a e h none =
        absurd
        (some
        (ap (map told_by) (sym (if-true (c.cpu == c.cpu) (c ∷ calls_by c.cpu cs) (calls_by c.cpu cs) (eq-self c.cpu)))
        ∙ h.each c.cpu ∙ ap stored_answers e))
    front s u c cs b go next ((step, reply) ∷ rest) a e h none =
        by (both (is_log_full reply)) (front s u c cs b go next rest (put c.cpu rest a) (put_here c.cpu rest a))
      where
        by : ((is_log_full reply) ≡ true) ⊎ ((is_log_full reply) ≡ false)
            → (AreStored s (c ∷ cs) (put c.cpu rest a)
            → IsBelow b (put c.cpu rest a)
            → IsWhole s t (put c.cpu rest a))
            → IsWhole s t a
        by (inl is) more =
            let r = is_full_reply reply is in
            let f = full_call s c.cpu step
            (h.full c.cpu [] rest step (e ∙ ap (λ (q : Reply). (step, q) ∷ rest) r) s
            (subst (λ (xs : List Call). Runs (Steps l) s xs s) (sym (own_first c.cpu c cs (eq-self c.cpu))) refl)) in
            with_call s s t f.call c.cpu (step, reply) rest a f.steps f.by
            (f.told ∙ ap (λ (q : Reply). (step, q)) (sym r)) e
            (more (behind_full s (c ∷ cs) c.cpu (step, reply) rest a is e h)
            (put_below c.cpu (step, reply) rest a e b none))
        by (inr not) more =
            let same : told_by c ∷ map told_by (calls_by c.cpu cs) ≡ (step, reply) ∷ stored_answers rest =
            ap (map told_by)
            (sym (if-true (c.cpu == c.cpu) (c ∷ calls_by c.cpu cs) (calls_by c.cpu cs) (eq-self c.cpu)))
            ∙ h.each c.cpu ∙ ap stored_answers e ∙ stored_more (step, reply) rest not in
            let one : ◌≡◌ {A = Step × Reply} (told_by c) (step, reply) = cc in
            let is : is_log_full c.reply ≡ false = ap (λ (z : Step × Reply). is_log_full z.1) one ∙ not in
            let here : a c.cpu ≡ told_by c ∷ rest = e ∙ ap (λ (z : Step × Reply). z ∷ rest) (sym one) in
            with_call s u t c c.cpu (told_by c) rest a go refl refl here
            (next (put c.cpu rest a) (behind_call s u c cs rest a go is here h)
            (put_below c.cpu (told_by c) rest a here b none))

    inserted : (b : ℕ) (log : List Call) (s : Reference) (a : Answers)
        → Runs (Steps l) s log t
        → AreStored s log a
        → IsBelow b a
        → IsWhole s t a
    inserted b [] s a runs h none =
        subst (λ (x : Reference). IsWhole x t a) (sym runs)
        (ends b a (subst (λ (x : Reference). AreStored x [] a) runs h) none)
    inserted b (c ∷ cs) s a runs h none =
        front s runs.0 c cs b runs.1 (λ d k low. inserted b cs runs.0 d runs.2 k low) (a c.cpu) a refl h none

-- the CPUs of steps are below a number
bounded : (turns : List Turn) (rs : List Reply) → (b : ℕ) × IsBelow b (λ cpu. answers_of cpu turns rs)
bounded [] rs = (0, λ j le. refl)
bounded (t ∷ ts) [] = (0, λ j le. refl)
bounded (t ∷ ts) (r ∷ rs) =
    let rest = bounded ts rs in (
      suc (t.cpu + rest.0),
      λ j le.
          if-false (t.cpu == j) ((t.step, r) ∷ answers_of j ts rs) (answers_of j ts rs)
          (eq-other t.cpu j (λ e. omega arith))
          ∙ rest.1 j (omega arith),
    )

pub stored_runs_are_outcomes : StoredRunsAreOutcomes
stored_runs_are_outcomes l s t turns rs log runs calls theirs =
    let b = bounded turns rs in
    let w =
    inserted l t b.0 log s (λ cpu. answers_of cpu turns rs) runs (record { each = calls.each; full = calls.full }) b.1
    in
    runs_are_outcomes l s t turns rs w.log w.runs (record { count = calls.count; each = w.each }) theirs
