-- One legal history gives an outcome.
use Rattle.std.proofs.Common.{◌≡◌, ℕ, zero, suc, ◌<◌, ◌≤◌, ◌==◌, Bool, true, false, refl, sym, ap, subst, ◌∙◌, arith, inl, inr, ◌⊎◌, List, [], ◌∷◌, ◌++◌, drop, get_or, length, map, Option, Some, None, take}
use Rattle.std.specs.Prelude.{◌||◌, All, not, if◌then◌else◌}
use Rattle.std.proofs.lemmas.Bool.{cases_lt}
use Rattle.std.proofs.lemmas.List.Elements.{All-append, All-cons, All-filter, All-head, All-nil, All-tail, All-weaker, filter_passes}
use Rattle.std.proofs.lemmas.Option.{same_Some}
use Rattle.page_state.specs.LayoutView.{layout_of}
use Rattle.page_state.specs.Layouts.{Layout}
use Rattle.page_state.proofs.Common.{both, eq-same, if-false, if-true}
use Rattle.call_table.specs.declared.reply.Call.{Call}
use Rattle.call_table.specs.declared.reply.Refusal.{Refusal}
use Rattle.call_table.specs.declared.reply.Refusal.TheVariants as refusals
use Rattle.call_table.specs.declared.reply.Reply.{Reply}
use Rattle.call_table.specs.declared.reply.Reply.TheVariants.{Refused}
use Rattle.call_table.specs.declared.step.Step.{Step}
use Rattle.reference_model.specs.model.Boot.{boot}
use Rattle.reference_model.specs.model.History.{IsStored, calls_by}
use Rattle.reference_model.specs.model.Parts.{lacks_slot}
use Rattle.reference_model.specs.model.Rules.{names}
use Rattle.reference_model.specs.model.Run.{IsRun, Runs}
use Rattle.reference_model.specs.model.State.{Reference}
use Rattle.reference_model.specs.model.Step.{Answered, Steps, fails, is_short, or_else, refusal, rule_of, used_by}
use Rattle.reference_model.specs.model.Used.{Used}
use Rattle.reference_model.proofs.Steps.{log_full_keeps}
use Rattle.race_outcomes.specs.declared.node.Turn.{Turn}
use Rattle.race_outcomes.specs.Laws.{AreTheirs, HasFullLog, answers_of, before_own, is_want, stored_answers}
use Rattle.race_outcomes.specs.Orders.{AreWanted, IsOutcome, replies_along, model_reply}
use Rattle.race_outcomes.proofs.Inserted.{stored_runs_are_outcomes}
use Rattle.race_outcomes.proofs.Told.{call_told}
use Rattle.trace_race.specs.declared.course.Asked.{Asked}
use Rattle.trace_race.specs.Courses.{in_order_of}
use Rattle.trace_race.specs.Judged.{told_of}
use Rattle.trace_race.specs.Made.{answers_of as answers_asked, asked_with, is_stored, stored_in}
use Rattle.trace_race.proofs.Kept.{stored_is}
use Rattle.trace_race.proofs.Past.{behind_all}
use Rattle.trace_outcomes.specs.Laws.{HistoriesAreOutcomes, RacesAreReported, turns_replied}
use Rattle.trace_outcomes.specs.Races.{first_of, no_replies, nothing_wanted, raced_of, first_replies, turns_of, turns_raced}
use Rattle.trace_outcomes.proofs.Placed.{full_at, kept_answers}

module _ (cpu : ℕ) where
  -- its answers
  asked_same : (steps : List Asked) (rs : List Reply)
      → answers_of cpu (turns_replied steps rs) rs ≡ answers_asked cpu steps rs
  asked_same [] rs = refl
  asked_same (a ∷ steps) [] = refl
  asked_same (a ∷ steps) (r ∷ rs) =
      ap (λ (xs : List (Step × Reply)). if a.cpu == cpu then (a.step, r) ∷ xs else xs) (asked_same steps rs)

  -- a CPU that isn't there has none
  none_asked : (n : ℕ)
      → n ≤ cpu
      → (steps : List Asked) (rs : List Reply)
      → All (λ a. a.cpu < n) steps
      → answers_of cpu (turns_replied steps rs) rs ≡ []
  none_asked n less [] rs h = refl
  none_asked n less (a ∷ steps) [] h = refl
  none_asked n less (a ∷ steps) (r ∷ rs) h =
      by_own (both (a.cpu == cpu)) (none_asked n less steps rs (All-tail (λ (x : Asked). x.cpu < n) a steps h))
    where
      by_own : ((a.cpu == cpu) ≡ true) ⊎ ((a.cpu == cpu) ≡ false)
          → answers_of cpu (turns_replied steps rs) rs ≡ []
          → answers_of cpu (turns_replied (a ∷ steps) (r ∷ rs)) (r ∷ rs) ≡ []
      by_own (inl own) rest =
          let there : a.cpu < n = All-head (λ (x : Asked). x.cpu < n) a steps h in
          let same = eq-same a.cpu cpu own in
          absurd (omega arith)
      by_own (inr other) rest = rw other rest

  none_called : (n : ℕ) → n ≤ cpu → (log : List Call) → All (λ c. c.cpu < n) log → calls_by cpu log ≡ []
  none_called n less [] h = refl
  none_called n less (c ∷ log) h =
      by_own (both (c.cpu == cpu)) (none_called n less log (All-tail (λ (x : Call). x.cpu < n) c log h))
    where
      by_own : ((c.cpu == cpu) ≡ true) ⊎ ((c.cpu == cpu) ≡ false) → calls_by cpu log ≡ [] → calls_by cpu (c ∷ log) ≡ []
      by_own (inl own) rest =
          let there : c.cpu < n = All-head (λ (x : Call). x.cpu < n) c log h in
          let same = eq-same c.cpu cpu own in
          absurd (omega arith)
      by_own (inr other) rest = rw other rest

same_count : (steps : List Asked) (rs : List Reply)
    → length rs ≡ length steps
    → length (turns_replied steps rs) ≡ length steps
same_count [] rs n = refl
same_count (a ∷ steps) [] n = absurd (omega arith)
same_count (a ∷ steps) (r ∷ rs) n = ap suc (same_count steps rs (omega (arith, n)))

all_theirs : (steps : List Asked) (rs : List Reply) → AreTheirs (turns_replied steps rs) rs
all_theirs [] rs = tt
all_theirs (a ∷ steps) [] = tt
all_theirs (a ∷ steps) (r ∷ rs) = (refl, all_theirs steps rs)

-- a refusal that a test gives is stored
stored_test : (a b c d e : Bool) (why : Refusal)
    → or_else
    (if a then Some refusals.Invalid
    else if b then Some refusals.NoVm
    else if c then Some refusals.Busy
    else if d then Some refusals.Perm
    else None)
    (if e then Some refusals.NoPool else None)
    ≡ Some why
    → is_stored (Refused why) ≡ true
stored_test true b c d e why h = ap (λ w. is_stored (Refused w)) (sym (same_Some refusals.Invalid why h))
stored_test false true c d e why h = ap (λ w. is_stored (Refused w)) (sym (same_Some refusals.NoVm why h))
stored_test false false true d e why h = ap (λ w. is_stored (Refused w)) (sym (same_Some refusals.Busy why h))
stored_test false false false true e why h = ap (λ w. is_stored (Refused w)) (sym (same_Some refusals.Perm why h))
stored_test false false false false true why h = ap (λ w. is_stored (Refused w)) (sym (same_Some refusals.NoPool why h))
stored_test false false false false false why h = absurd cc

stored_why : (l : Layout) (cpu : ℕ) (slot : Option ℕ) (step : Step) (x : Used) (why : Refusal)
    → fails l cpu slot step x ≡ Some why
    → is_stored (Refused why) ≡ true
unfolding fails refusal
stored_why l cpu slot step x why h =
    let r = rule_of l cpu slot step x in
    stored_test (not r.valid.passes) (lacks_slot (names step) slot || not r.has_vm.passes) (not r.ready.passes)
    (not r.allowed.passes) (is_short l.depth r.changes x) why h

-- an answer is stored
stored_answer : (l : Layout) (cpu : ℕ) (slot : Option ℕ) (step : Step) (reply : Reply) (x y : Used)
    → Answered l cpu slot step true x reply y
    → is_stored reply ≡ true
stored_answer l cpu slot step reply x y (inl m) = ap is_stored m.reply_is
stored_answer l cpu slot step reply x y (inr (inl r)) =
    ap is_stored r.reply_is ∙ stored_why l cpu slot step x r.why r.fail
stored_answer l cpu slot step reply x y (inr (inr w)) = ap is_stored w.reply_is

-- a call that isn't stored keeps the state
unstored_keeps : (l : Layout) (s t : Reference) (c : Call) → Steps l s c t → is_stored c.reply ≡ false → t ≡ s
unstored_keeps l s t c h none = elim h.on.answers [
  | inl f ↦ log_full_keeps l s t c h f.reply
  | inr a ↦
      let kept : is_stored c.reply ≡ true =
      stored_answer l c.cpu c.slot c.step c.reply (used_by c s) h.after a.answered in
      absurd (let differ : true ≡ false = sym kept ∙ none in cc)
]

-- so the calls of a run that are stored are a run
stored_run : (l : Layout) (calls : List Call) (s t : Reference)
    → Runs (Steps l) s calls t
    → Runs (Steps l) s (stored_in calls) t
stored_run l [] s t h = h
stored_run l (c ∷ calls) s t h = by (both (is_stored c.reply)) (stored_run l calls h.0 t h.2)
  where
    by : ((is_stored c.reply) ≡ true) ⊎ ((is_stored c.reply) ≡ false)
        → Runs (Steps l) h.0 (stored_in calls) t
        → Runs (Steps l) s (stored_in (c ∷ calls)) t
    by (inl kept) rest =
        subst (λ (xs : List Call). Runs (Steps l) s xs t)
        (sym (if-true (is_stored c.reply) (c ∷ stored_in calls) (stored_in calls) kept)) (h.0, h.1, rest)
    by (inr none) rest =
        subst (λ (xs : List Call). Runs (Steps l) s xs t)
        (sym (if-false (is_stored c.reply) (c ∷ stored_in calls) (stored_in calls) none))
        (subst (λ (x : Reference). Runs (Steps l) x (stored_in calls) t) (unstored_keeps l s h.0 c h.1 none) rest)

no_middle : {X : Type 0} (xs ys : List X) (x : X) → [] ≡ xs ++ x ∷ ys → ⊥
no_middle [] ys x e = cc
no_middle (z ∷ xs) ys x e = cc

-- a call is told what its step is told
told_by_call : (l : Layout) (s t : Reference) (c : Call)
    → Steps l s c t
    → ◌≡◌ {A = Reply × Reference} (model_reply l s (record { cpu = c.cpu; step = c.step; wants = is_want c.reply }))
    (c.reply, t)
told_by_call l s t c h = call_told l s t c (is_want c.reply) h refl

-- the steps of a run, made in order, are told its replies
told_run : (l : Layout) (calls : List Call) (s t : Reference) (steps : List Asked) (rs : List Reply)
    → length rs ≡ length steps
    → told_of calls ≡ asked_with steps rs
    → Runs (Steps l) s calls t
    → ◌≡◌ {A = List Reply × Reference} (replies_along l s (turns_replied steps rs)) (rs, t)
told_run l [] s t [] [] n e run = λ i. ([], run i)
told_run l [] s t [] (r ∷ rs) n e run = absurd (omega (arith, n))
told_run l [] s t (a ∷ steps) [] n e run = absurd (omega (arith, n))
told_run l [] s t (a ∷ steps) (r ∷ rs) n e run = absurd cc
told_run l (c ∷ calls) s t [] rs n e run = absurd cc
told_run l (c ∷ calls) s t (a ∷ steps) [] n e run = absurd cc
told_run l (c ∷ calls) s t (a ∷ steps) (r ∷ rs) n e run =
    let head : (c.cpu, c.step, c.reply) ≡ (a.cpu, a.step, r) =
    ap (λ (z : List (ℕ × Step × Reply)). get_or z 0 (c.cpu, c.step, c.reply)) e in
    let tail : told_of calls ≡ asked_with steps rs = ap (λ (z : List (ℕ × Step × Reply)). drop 1 z) e in
    let turn : Turn = record { cpu = a.cpu; step = a.step; wants = is_want r } in
    let one : model_reply l s turn ≡ (r, run.0) =
    sym (ap (λ (z : ℕ × Step × Reply). model_reply l s (record { cpu = z.0; step = z.1; wants = is_want z.2 })) head)
    ∙ told_by_call l s run.0 c run.1 ∙ ap (λ (z : ℕ × Step × Reply). (z.2, run.0)) head in
    let rest = told_run l calls run.0 t steps rs (omega (arith, n)) tail run.2 in
    let more : List Turn = turns_replied steps rs in
    ap (λ (z : Reply × Reference). (z.0 ∷ (replies_along l z.1 more).0, (replies_along l z.1 more).1)) one
    ∙ ap (λ (z : List Reply × Reference). (r ∷ z.0, z.1)) rest

dropped_below : (n k : ℕ) (steps : List Asked) → All (λ a. a.cpu < n) steps → All (λ a. a.cpu < n) (drop k steps)
dropped_below n zero steps h = h
dropped_below n (suc k) [] h = h
dropped_below n (suc k) (a ∷ steps) h = dropped_below n k steps (All-tail (λ (x : Asked). x.cpu < n) a steps h)

same_drop : {X Y : Type 0} (n : ℕ) (xs : List X) (ys : List Y)
    → length xs ≡ length ys
    → length (drop n xs) ≡ length (drop n ys)
same_drop zero xs ys e = e
same_drop (suc n) [] [] e = refl
same_drop (suc n) [] (y ∷ ys) e = absurd (omega (arith, e))
same_drop (suc n) (x ∷ xs) [] e = absurd (omega (arith, e))
same_drop (suc n) (x ∷ xs) (y ∷ ys) e = same_drop n xs ys (omega (arith, e))

same_take : {X Y : Type 0} (n : ℕ) (xs : List X) (ys : List Y)
    → length xs ≡ length ys
    → length (take n xs) ≡ length (take n ys)
same_take zero xs ys e = refl
same_take (suc n) [] [] e = refl
same_take (suc n) [] (y ∷ ys) e = absurd (omega (arith, e))
same_take (suc n) (x ∷ xs) [] e = absurd (omega (arith, e))
same_take (suc n) (x ∷ xs) (y ∷ ys) e = ap suc (same_take n xs ys (omega (arith, e)))

pub histories_are_outcomes : HistoriesAreOutcomes
histories_are_outcomes l start steps rs count below h = (
  ap (λ (z : List Reply × Reference). z.0) first,
  subst (λ (s : Reference). IsOutcome l s (turns_replied raced told) told)
      (sym (ap (λ (z : List Reply × Reference). z.1) first)) outcome,
)
  where
    raced : List Asked
    raced = drop start steps

    told : List Reply
    told = drop start rs

    front : List Call
    front = stored_in h.first

    first : ◌≡◌ {A = List Reply × Reference}
        (replies_along l (boot l) (turns_replied (take start steps) (take start rs)))
        (take start rs, h.at)
    first =
        told_run l h.first (boot l) h.at (take start steps) (take start rs)
        (same_take start rs steps count) h.asked h.begins.leads

    inside : All (λ c. c.cpu < l.config.cpus) h.log
    inside = behind_all (λ (c : Call). c.cpu < l.config.cpus) front h.log h.run.cpus

    inside_here : All (λ c. c.cpu < h.key.config.cpus) (front ++ h.log)
    inside_here =
        subst (λ (m : Layout). All (λ c. c.cpu < m.config.cpus) (front ++ h.log)) (sym h.key_is) h.run.cpus

    begins : IsRun (layout_of h.key) front h.at
    begins =
        subst (λ (m : Layout). IsRun m front h.at) (sym h.key_is)
        (record {
          cpus =
              All-filter (λ (c : Call). is_stored c.reply) (λ (c : Call). c.cpu < l.config.cpus) h.first
              h.begins.cpus;
          leads = stored_run l h.first (boot l) h.at h.begins.leads;
        })

    stored : All (λ c. IsStored c.reply) (front ++ h.log)
    stored =
        All-append (λ (c : Call). IsStored c.reply) front h.log
        (All-weaker (λ (c : Call). is_stored c.reply ≡ true) (λ (c : Call). IsStored c.reply)
        (λ c e. stored_is c.reply e) front (filter_passes (λ (c : Call). is_stored c.reply) h.first))
        h.stored

    none_there : (cpu : ℕ) → l.config.cpus ≤ cpu → answers_of cpu (turns_replied raced told) told ≡ []
    none_there cpu more = none_asked cpu l.config.cpus more raced told (dropped_below l.config.cpus start steps below)

    each : (cpu : ℕ)
        → map (λ (c : Call). (c.step, c.reply)) (calls_by cpu h.log)
        ≡ stored_answers (answers_of cpu (turns_replied raced told) told)
    each cpu = by_place (cases_lt cpu l.config.cpus)
      where
        by_place : (cpu < l.config.cpus) ⊎ (l.config.cpus ≤ cpu)
            → map (λ (c : Call). (c.step, c.reply)) (calls_by cpu h.log)
            ≡ stored_answers (answers_of cpu (turns_replied raced told) told)
        by_place (inl less) =
            (h.each cpu less).calls
            ∙ kept_answers h.key cpu (answers_asked cpu raced told) h.at front h.log (h.each cpu less) begins stored
            inside_here
            ∙ ap stored_answers (sym (asked_same cpu raced told))
        by_place (inr more) =
            ap (map (λ (c : Call). (c.step, c.reply))) (none_called cpu l.config.cpus more h.log inside)
            ∙ ap stored_answers (sym (none_there cpu more))

    full : (cpu : ℕ) (earlier after : List (Step × Reply)) (step : Step)
        → answers_of cpu (turns_replied raced told) told ≡ earlier ++ (step, Refused refusals.LogFull) ∷ after
        → (u : Reference)
        → Runs (Steps l) h.at (before_own cpu (length (stored_answers earlier)) h.log) u
        → HasFullLog u cpu step
    full cpu earlier after step e u runs = by_place (cases_lt cpu l.config.cpus)
      where
        by_place : (cpu < l.config.cpus) ⊎ (l.config.cpus ≤ cpu) → HasFullLog u cpu step
        by_place (inl less) =
            full_at h.key cpu (answers_asked cpu raced told) h.at front h.log (h.each cpu less) begins stored
            inside_here earlier after step (sym (asked_same cpu raced told) ∙ e) u
            (subst
            (λ (m : Layout). Runs (Steps m) h.at (before_own cpu (length (stored_answers earlier)) h.log) u)
            (sym h.key_is) runs)
        by_place (inr more) =
            absurd (no_middle earlier after (step, Refused refusals.LogFull) (sym (none_there cpu more) ∙ e))

    outcome : IsOutcome l h.at (turns_replied raced told) told
    outcome =
        stored_runs_are_outcomes l h.at h.end (turns_replied raced told) told h.log h.goes
        (record {
          count = same_drop start rs steps count
              ∙ sym (same_count raced told (same_drop start rs steps count));
          each = each;
          full = full;
        })
        (all_theirs raced told)

-- ---- where no step is told `nomemory`

none_want : (steps : List Asked) (rs : List Reply)
    → length rs ≡ length steps
    → All (λ r. is_want r ≡ false) rs
    → turns_replied steps rs ≡ turns_of steps (no_replies steps)
none_want [] rs n h = refl
none_want (a ∷ steps) [] n h = absurd (omega (arith, n))
none_want (a ∷ steps) (r ∷ rs) n h =
    (λ i. record { cpu = a.cpu; step = a.step; wants = All-head (λ (x : Reply). is_want x ≡ false) r rs h i }
    ∷ none_want steps rs (omega (arith, n)) (All-tail (λ (x : Reply). is_want x ≡ false) r rs h) i)

told_drop : (n : ℕ) (steps : List Asked) → no_replies (drop n steps) ≡ drop n (no_replies steps)
told_drop zero steps = refl
told_drop (suc n) [] = refl
told_drop (suc n) (a ∷ steps) = told_drop n steps

told_take : (n : ℕ) (steps : List Asked) → no_replies (take n steps) ≡ take n (no_replies steps)
told_take zero steps = refl
told_take (suc n) [] = refl
told_take (suc n) (a ∷ steps) = ap (λ xs. None ∷ xs) (told_take n steps)

dropped_all : (n : ℕ) (rs : List Reply) → All (λ r. is_want r ≡ false) rs → All (λ r. is_want r ≡ false) (drop n rs)
dropped_all zero rs h = h
dropped_all (suc n) [] h = h
dropped_all (suc n) (r ∷ rs) h = dropped_all n rs (All-tail (λ (x : Reply). is_want x ≡ false) r rs h)

taken_all : (n : ℕ) (rs : List Reply) → All (λ r. is_want r ≡ false) rs → All (λ r. is_want r ≡ false) (take n rs)
taken_all zero rs h = All-nil (λ (x : Reply). is_want x ≡ false)
taken_all (suc n) [] h = h
taken_all (suc n) (r ∷ rs) h =
    All-cons (λ (x : Reply). is_want x ≡ false) r (take n rs) (All-head (λ (x : Reply). is_want x ≡ false) r rs h)
    (taken_all n rs (All-tail (λ (x : Reply). is_want x ≡ false) r rs h))

all_wanted : (steps : List Asked) (told : List (Option Reply)) → AreWanted (nothing_wanted steps) told
all_wanted [] told = tt
all_wanted (a ∷ steps) [] = tt
all_wanted (a ∷ steps) (t ∷ told) = (tt, all_wanted steps told)

pub races_are_reported : RacesAreReported
races_are_reported m a rs found booted count below h wants all =
    (told, all.complete raced outcome (all_wanted (raced_of a) (map Some raced)))
  where
    n : ℕ
    n = in_order_of a

    raced : List Reply
    raced = drop n rs

    from : List Reply × Reference
    from = replies_along m.layout (boot m.layout) (turns_replied (take n a.steps) (take n rs))

    base : (from.0 ≡ take n rs) × IsOutcome m.layout from.1 (turns_replied (drop n a.steps) raced) raced
    base = histories_are_outcomes m.layout n a.steps rs count below h

    first_turns : turns_replied (take n a.steps) (take n rs) ≡ turns_of (first_of a) (take n (no_replies a.steps))
    first_turns =
        none_want (take n a.steps) (take n rs) (same_take n rs a.steps count) (taken_all n rs wants)
        ∙ ap (turns_of (first_of a)) (told_take n a.steps)

    raced_turns : turns_replied (drop n a.steps) raced ≡ turns_raced a (no_replies a.steps)
    raced_turns =
        none_want (drop n a.steps) raced (same_drop n rs a.steps count) (dropped_all n rs wants)
        ∙ ap (turns_of (raced_of a)) (told_drop n a.steps)

    along : ◌≡◌ {A = List Reply × Reference} from (first_replies m a (no_replies a.steps))
    along =
        ap (replies_along m.layout (boot m.layout)) first_turns
        ∙ ap (λ (s : Reference). replies_along m.layout s (turns_of (first_of a) (take n (no_replies a.steps))))
        (sym booted)

    told : (first_replies m a (no_replies a.steps)).0 ≡ take n rs
    told = sym (ap (λ (z : List Reply × Reference). z.0) along) ∙ base.0

    outcome : IsOutcome m.layout (first_replies m a (no_replies a.steps)).1 (turns_raced a (no_replies a.steps)) raced
    outcome =
        subst (λ (z : Reference × List Turn). IsOutcome m.layout z.0 z.1 raced)
        (λ i. ((along i).1, raced_turns i)) base.1
