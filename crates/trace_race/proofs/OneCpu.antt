-- The steps of one CPU are a run.
use Rattle.std.proofs.Common.{◌≡◌, ◌≢◌, ℕ, zero, suc, ◌<◌, refl, sym, ap, subst, ◌∙◌, ⊎_elim, inl, inr, ◌⊎◌, Bool, true, false, ◌==◌, List, [], ◌∷◌, ◌++◌, All, drop, filter, get_or, map, take}
use Rattle.std.proofs.lemmas.List.Elements.{All-append, All-cons, All-head, All-nil, All-tail, filter-append}
use Rattle.page_state.proofs.Common.{eq-same}
use Rattle.call_table.specs.declared.reply.Call.{Call}
use Rattle.call_table.specs.declared.reply.Reply.{Reply}
use Rattle.call_table.specs.declared.step.Step.{Step}
use Rattle.reference_model.specs.model.History.{IsStored, calls_by}
use Rattle.trace_race.specs.declared.course.Asked.{Asked}
use Rattle.trace_race.specs.Judged.{told_of}
use Rattle.trace_race.specs.Made.{answers_of, asked_with, is_stored, stored_in}
use Rattle.trace_race.specs.Laws.{OneCpuRuns}
use Rattle.trace_race.proofs.Ends.{told}
use Rattle.trace_race.proofs.Kept.{stored_is}
use Rattle.trace_race.proofs.Made.{cases, map-append, others_answer, own_answer, same-number}
use Rattle.trace_race.proofs.Past.{behind_all}

-- where there is no reply there is no answer
none_answered : (cpu : ℕ) (steps : List Asked) → answers_of cpu steps [] ≡ []
none_answered cpu [] = refl
none_answered cpu (a ∷ steps) = refl

-- a number that is another's
apart : (m n cpu : ℕ) → m ≡ cpu → n ≢ cpu → (m == n) ≡ false
apart m n cpu is other = ⊎_elim
    (λ (e : (m == n) ≡ true). absurd (other (sym (eq-same m n e) ∙ is)))
    (λ (e : (m == n) ≡ false). e)
    (cases (m == n))

-- another CPU has no answer
none_of : (j cpu : ℕ)
    → j ≢ cpu
    → (steps : List Asked) (replies : List Reply)
    → All (λ a. a.cpu ≡ cpu) steps
    → answers_of j steps replies ≡ []
none_of j cpu other [] replies all = refl
none_of j cpu other (a ∷ more) [] all = refl
none_of j cpu other (a ∷ more) (reply ∷ replies) all =
    others_answer j a more reply replies (apart a.cpu j cpu (All-head (λ (a : Asked). a.cpu ≡ cpu) a more all) other)
    ∙ none_of j cpu other more replies (All-tail (λ (a : Asked). a.cpu ≡ cpu) a more all)

no_calls : (cs : List Call) → map told cs ≡ [] → cs ≡ []
no_calls [] e = refl
no_calls (c ∷ cs) e = absurd (let no = e in cc)

abbrev Is : ℕ → Call → Type 0
Is cpu c = c.cpu ≡ cpu

own_call : (cpu : ℕ) (c : Call) (cs : List Call)
    → (c.cpu == cpu) ≡ true
    → (calls_by cpu cs ≡ cs) × All (Is cpu) cs
    → (calls_by cpu (c ∷ cs) ≡ c ∷ cs) × All (Is cpu) (c ∷ cs)
own_call cpu c cs e rest =
    let here : calls_by cpu (c ∷ cs) ≡ c ∷ calls_by cpu cs = rw e refl in
    (here ∙ ap (λ xs. c ∷ xs) rest.0, All-cons (Is cpu) c cs (eq-same c.cpu cpu e) rest.1)

-- another's call is one of a CPU that has none
others_call : (cpu : ℕ) (c : Call) (cs : List Call)
    → (c.cpu == cpu) ≡ false
    → (c.cpu ≢ cpu → calls_by c.cpu (c ∷ cs) ≡ [])
    → ⊥
others_call cpu c cs e none =
    let ne : c.cpu ≢ cpu =
    (λ is. let same : (c.cpu == cpu) ≡ true = ap (λ m. c.cpu == m) (sym is) ∙ same-number c.cpu in
    let both = sym same ∙ e in
    cc) in
    let here : calls_by c.cpu (c ∷ cs) ≡ c ∷ calls_by c.cpu cs = rw (same-number c.cpu) refl in
    let no : c ∷ calls_by c.cpu cs ≡ [] = sym here ∙ none ne in
    cc

skipped : (cpu j : ℕ) (c : Call) (cs : List Call)
    → (c.cpu == cpu) ≡ true
    → j ≢ cpu
    → calls_by j (c ∷ cs) ≡ []
    → calls_by j cs ≡ []
skipped cpu j c cs e ne none = let skip : calls_by j (c ∷ cs) ≡ calls_by j cs =
    rw (apart c.cpu j cpu (eq-same c.cpu cpu e) ne) refl in
    sym skip ∙ none

-- so all calls are the CPU's
all_by : (n cpu : ℕ) (log : List Call)
    → All (λ d. d.cpu < n) log
    → ((j : ℕ) → j < n → j ≢ cpu → calls_by j log ≡ [])
    → (calls_by cpu log ≡ log) × All (Is cpu) log
all_by n cpu [] all none = (refl, All-nil (Is cpu))
all_by n cpu (c ∷ cs) all none = ⊎_elim
    (λ (e : (c.cpu == cpu) ≡ true). own_call cpu c cs e
    (all_by n cpu cs (All-tail (λ (d : Call). d.cpu < n) c cs all)
    (λ j below ne. skipped cpu j c cs e ne (none j below ne))))
    (λ (e : (c.cpu == cpu) ≡ false). absurd
    (others_call cpu c cs e (none c.cpu (All-head (λ (d : Call). d.cpu < n) c cs all))))
    (cases (c.cpu == cpu))

-- answers of so many steps, and of those behind them
answers_parted : (cpu n : ℕ) (steps : List Asked) (replies : List Reply)
    → answers_of cpu steps replies
    ≡ answers_of cpu (take n steps) (take n replies) ++ answers_of cpu (drop n steps) (drop n replies)
answers_parted cpu zero steps replies = refl
answers_parted cpu (suc n) [] replies = refl
answers_parted cpu (suc n) (a ∷ steps) [] = sym (none_answered cpu (drop n steps))
answers_parted cpu (suc n) (a ∷ steps) (reply ∷ replies) =
    by (cases (a.cpu == cpu)) (answers_parted cpu n steps replies)
  where
    by : ((a.cpu == cpu) ≡ true) ⊎ ((a.cpu == cpu) ≡ false)
        → answers_of cpu steps replies
        ≡ answers_of cpu (take n steps) (take n replies) ++ answers_of cpu (drop n steps) (drop n replies)
        → answers_of cpu (a ∷ steps) (reply ∷ replies)
        ≡ answers_of cpu (take (suc n) (a ∷ steps)) (take (suc n) (reply ∷ replies))
        ++ answers_of cpu (drop n steps) (drop n replies)
    by (inl own) rest =
        own_answer cpu a steps reply replies own ∙ ap (λ xs. (a.step, reply) ∷ xs) rest
        ∙ sym
        (ap (λ xs. xs ++ answers_of cpu (drop n steps) (drop n replies))
        (own_answer cpu a (take n steps) reply (take n replies) own))
    by (inr other) rest =
        others_answer cpu a steps reply replies other ∙ rest
        ∙ sym
        (ap (λ xs. xs ++ answers_of cpu (drop n steps) (drop n replies))
        (others_answer cpu a (take n steps) reply (take n replies) other))

-- the calls of steps of one CPU, those that are stored
module _ (cpu : ℕ) where
  first_told : (calls : List Call) (steps : List Asked) (replies : List Reply)
      → All (λ a. a.cpu ≡ cpu) steps
      → told_of calls ≡ asked_with steps replies
      → (map told (stored_in calls) ≡ filter (λ a. is_stored a.1) (answers_of cpu steps replies))
      × All (Is cpu) (stored_in calls)
  first_told [] [] replies all e = (refl, All-nil (Is cpu))
  first_told [] (a ∷ steps) [] all e = (refl, All-nil (Is cpu))
  first_told [] (a ∷ steps) (r ∷ replies) all e = absurd cc
  first_told (c ∷ calls) [] replies all e = absurd cc
  first_told (c ∷ calls) (a ∷ steps) [] all e = absurd cc
  first_told (c ∷ calls) (a ∷ steps) (r ∷ replies) all e =
      let head : (c.cpu, c.step, c.reply) ≡ (a.cpu, a.step, r) =
      ap (λ (l : List (ℕ × Step × Reply)). get_or l 0 (c.cpu, c.step, c.reply)) e in
      let tail : told_of calls ≡ asked_with steps replies = ap (λ (l : List (ℕ × Step × Reply)). drop 1 l) e in
      let own : a.cpu ≡ cpu = All-head (λ (x : Asked). x.cpu ≡ cpu) a steps all in
      let rest = first_told calls steps replies (All-tail (λ (x : Asked). x.cpu ≡ cpu) a steps all) tail in
      let one : ◌≡◌ {A = Step × Reply} (told c) (a.step, r) = ap (λ (z : ℕ × Step × Reply). (z.1, z.2)) head in
      let is : Is cpu c = ap (λ (z : ℕ × Step × Reply). z.0) head ∙ own in
      let answer : answers_of cpu (a ∷ steps) (r ∷ replies) ≡ (a.step, r) ∷ answers_of cpu steps replies =
      own_answer cpu a steps r replies (ap (λ m. a.cpu == m) (sym own) ∙ same-number a.cpu) in
      subst
      (λ xs. (map told (stored_in (c ∷ calls)) ≡ filter (λ (x : Step × Reply). is_stored x.1) xs)
      × All (Is cpu) (stored_in (c ∷ calls)))
      (sym answer)
      (by (is_stored c.reply) refl (ap (λ (z : Step × Reply). is_stored z.1) one) one is rest)
    where
      by : (b : Bool)
          → is_stored c.reply ≡ b
          → is_stored c.reply ≡ is_stored r
          → told c ≡ (a.step, r)
          → Is cpu c
          → (map told (stored_in calls) ≡ filter (λ (x : Step × Reply). is_stored x.1) (answers_of cpu steps replies))
          × All (Is cpu) (stored_in calls)
          → (map told (stored_in (c ∷ calls))
          ≡ filter (λ (x : Step × Reply). is_stored x.1) ((a.step, r) ∷ answers_of cpu steps replies))
          × All (Is cpu) (stored_in (c ∷ calls))
      by true kept same one is rest = let also : is_stored r ≡ true = sym same ∙ kept in
          let calls_are : stored_in (c ∷ calls) ≡ c ∷ stored_in calls = rw kept refl in
          let answers_are : filter (λ (x : Step × Reply). is_stored x.1) ((a.step, r) ∷ answers_of cpu steps replies) ≡ (a.step, r) ∷ filter (λ (x : Step × Reply). is_stored x.1) (answers_of cpu steps replies) =
          rw also refl in (
            ap (map told) calls_are ∙ (λ i. one i ∷ rest.0 i)
                ∙ sym answers_are,
            subst (All (Is cpu)) (sym calls_are) (All-cons (Is cpu) c (stored_in calls) is rest.1),
          )
      by false kept same one is rest = let also : is_stored r ≡ false = sym same ∙ kept in
          let calls_are : stored_in (c ∷ calls) ≡ stored_in calls = rw kept refl in
          let answers_are : filter (λ (x : Step × Reply). is_stored x.1) ((a.step, r) ∷ answers_of cpu steps replies) ≡ filter (λ (x : Step × Reply). is_stored x.1) (answers_of cpu steps replies) =
          rw also refl in
          (ap (map told) calls_are ∙ rest.0 ∙ sym answers_are, subst (All (Is cpu)) (sym calls_are) rest.1)

  dropped_own : (n : ℕ) (steps : List Asked) → All (λ a. a.cpu ≡ cpu) steps → All (λ a. a.cpu ≡ cpu) (drop n steps)
  dropped_own zero steps all = all
  dropped_own (suc n) [] all = all
  dropped_own (suc n) (a ∷ steps) all = dropped_own n steps (All-tail (λ (x : Asked). x.cpu ≡ cpu) a steps all)

  taken_own : (n : ℕ) (steps : List Asked) → All (λ a. a.cpu ≡ cpu) steps → All (λ a. a.cpu ≡ cpu) (take n steps)
  taken_own zero steps all = All-nil (λ (x : Asked). x.cpu ≡ cpu)
  taken_own (suc n) [] all = all
  taken_own (suc n) (a ∷ steps) all =
      All-cons (λ (x : Asked). x.cpu ≡ cpu) a (take n steps) (All-head (λ (x : Asked). x.cpu ≡ cpu) a steps all)
      (taken_own n steps (All-tail (λ (x : Asked). x.cpu ≡ cpu) a steps all))

-- a list of calls, those that are stored, is stored
all_stored : (calls : List Call) → All (λ c. IsStored c.reply) (stored_in calls)
all_stored [] = All-nil (λ (c : Call). IsStored c.reply)
all_stored (c ∷ calls) = by (is_stored c.reply) refl (all_stored calls)
  where
    by : (b : Bool)
        → is_stored c.reply ≡ b
        → All (λ d. IsStored d.reply) (stored_in calls)
        → All (λ d. IsStored d.reply) (stored_in (c ∷ calls))
    by true kept rest =
        subst (All (λ d. IsStored d.reply))
        (sym (let is : stored_in (c ∷ calls) ≡ c ∷ stored_in calls = rw kept refl in is))
        (All-cons (λ (d : Call). IsStored d.reply) c (stored_in calls) (stored_is c.reply kept) rest)
    by false kept rest =
        subst (All (λ d. IsStored d.reply))
        (sym (let is : stored_in (c ∷ calls) ≡ stored_in calls = rw kept refl in is)) rest

pub one_cpu_runs : OneCpuRuns
one_cpu_runs key cpu start steps replies inside all h =
    let raced = drop start steps in
    let told_raced = drop start replies in
    let by =
    all_by key.config.cpus cpu h.log
    (behind_all (λ (c : Call). c.cpu < key.config.cpus) (stored_in h.first) h.log h.run.cpus)
    (λ j less other. no_calls (calls_by j h.log)
    ((h.each j less).calls
    ∙ ap (filter (λ (a : Step × Reply). is_stored a.1))
    (none_of j cpu other raced told_raced (dropped_own cpu start steps all)))) in
    let first =
    first_told cpu h.first (take start steps) (take start replies) (taken_own cpu start steps all) h.asked in
    let second : map told h.log ≡ filter (λ (a : Step × Reply). is_stored a.1) (answers_of cpu raced told_raced) =
    ap (map told) (sym by.0) ∙ (h.each cpu inside).calls in (
      stored_in h.first ++ h.log,
      h.end,
      h.run,
      All-append (λ (c : Call). IsStored c.reply) (stored_in h.first) h.log (all_stored h.first) h.stored,
      All-append (Is cpu) (stored_in h.first) h.log first.1 by.1,
      map-append told (stored_in h.first) h.log ∙ (λ i. first.0 i ++ second i)
          ∙ sym
          (filter-append (λ (a : Step × Reply). is_stored a.1)
          (answers_of cpu (take start steps) (take start replies)) (answers_of cpu raced told_raced))
          ∙ ap (filter (λ (a : Step × Reply). is_stored a.1)) (sym (answers_parted cpu start steps replies)),
    )
