-- The one history along a merged list, and the order of its steps.
use Rattle.std.proofs.Common.{◌≡◌, ℕ, ◌<◌, ◌≤◌, ◌==◌, zero, suc, refl, sym, ap, subst, ◌∙◌, inl, inr, true, false, List, [], ◌∷◌, ◌++◌, All, drop, filter, length, map, take, arith}
use Rattle.std.specs.Prelude.{Bool, slice_index}
use Rattle.std.proofs.lemmas.List.{length-map}
use Rattle.std.proofs.lemmas.List.Elements.{All-cons, All-head, All-nil, All-tail, filter-append}
use Rattle.page_state.specs.Layouts.{Layout}
use Rattle.page_state.specs.LayoutView.{layout_of}
use Rattle.page_state.proofs.Cases.{by_lt}
use Rattle.page_state.proofs.Common.{both, eq-other, eq-same}
use Rattle.call_table.specs.declared.reply.Call.{Call}
use Rattle.call_table.specs.declared.reply.Reply.{Reply}
use Rattle.call_table.specs.declared.step.Step.{Step}
use Rattle.reference_model.specs.model.Boot.{boot}
use Rattle.reference_model.specs.model.History.{IsStored, calls_by, calls_on}
use Rattle.reference_model.specs.model.Parts.{Part}
use Rattle.reference_model.specs.model.Rules.{call_uses}
use Rattle.reference_model.specs.model.Run.{IsRun, Runs}
use Rattle.reference_model.specs.model.State.{Reference}
use Rattle.reference_model.specs.model.Step.{Steps}
use Rattle.reference_model.proofs.Ends.{filter-false, filter-true, parts_run}
use Rattle.reference_model.proofs.Steps.{end_once}
use Rattle.trace_race.specs.declared.course.Asked.{Asked}
use Rattle.trace_race.specs.Judged.{told_of}
use Rattle.trace_race.specs.Made.{AreBelow, OneHistory, answers_of, asked_with, is_stored, stored_in}
use Rattle.trace_race.specs.Ordered.{IsMergedOf, OrdersBy, behind, own_from}
use Rattle.trace_race.specs.Orders.{HasOrder, answered, calls_of, made_by, stored_of}
use Rattle.trace_race.proofs.OwnSteps.{cons-head, cons-tail, one_list, own_here, own_others, own_unstored}
use Rattle.trace_race.proofs.Past.{behind_all, none_by, split}
use Rattle.trace_race.proofs.Skipping.{behind_same}
use Rattle.trace_race.proofs.Staying.{Stays, count, stays}

-- ---- what holds of all calls

all_picked : {X : Type 0} (P : X → Type 0) (f : X → Bool) (xs : List X) → All P xs → All P (filter f xs)
all_picked P f [] all = All-nil P
all_picked P f (x ∷ xs) all =
    let more = all_picked P f xs (All-tail P x xs all) in
    elim (both (f x)) [
      | inl t ↦ subst (All P) (sym (filter-true f x xs t)) (All-cons P x (filter f xs) (All-head P x xs all) more)
      | inr t ↦ subst (All P) (sym (filter-false f x xs t)) more
    ]

-- it holds of all if it holds of each CPU's
all_by : (P : Call → Type 0) (xs : List Call) → ((k : ℕ) → All P (calls_by k xs)) → All P xs
all_by P [] each = All-nil P
all_by P (x ∷ xs) each =
    All-cons P x xs
    (All-head P x (calls_by x.cpu xs)
    (subst (All P) (filter-true (λ (c : Call). c.cpu == x.cpu) x xs (same x.cpu)) (each x.cpu)))
    (all_by P xs (λ k. elim (both (x.cpu == k)) [
      | inl t ↦
          All-tail P x (calls_by k xs) (subst (All P) (filter-true (λ (c : Call). c.cpu == k) x xs t) (each k))
      | inr t ↦ subst (All P) (filter-false (λ (c : Call). c.cpu == k) x xs t) (each k)
    ]))
  where
    same : (n : ℕ) → (n == n) ≡ true
    same n = grind (arith)

all_as : (P : Call → Type 0) (xs ys : List Call)
    → ((k : ℕ) → calls_by k xs ≡ calls_by k ys)
    → All P ys
    → All P xs
all_as P xs ys by all =
    all_by P xs (λ k. subst (All P) (sym (by k)) (all_picked P (λ (c : Call). c.cpu == k) ys all))

all_mapped : {X Y : Type 0} (P : Y → Type 0) (f : X → Y) (xs : List X) → All (λ x. P (f x)) xs → All P (map f xs)
all_mapped P f [] all = All-nil P
all_mapped P f (x ∷ xs) all =
    All-cons P (f x) (map f xs) (All-head (λ x. P (f x)) x xs all)
    (all_mapped P f xs (All-tail (λ x. P (f x)) x xs all))

picked_mapped : {X Y : Type 0} (f : Y → Bool) (g : X → Y) (xs : List X)
    → filter f (map g xs) ≡ map g (filter (λ x. f (g x)) xs)
picked_mapped f g [] = refl
picked_mapped f g (x ∷ xs) = elim (both (f (g x))) [
  | inl t ↦
      filter-true f (g x) (map g xs) t ∙ ap (λ ys. g x ∷ ys) (picked_mapped f g xs)
      ∙ ap (map g) (sym (filter-true (λ x. f (g x)) x xs t))
  | inr t ↦
      filter-false f (g x) (map g xs) t ∙ picked_mapped f g xs
      ∙ ap (map g) (sym (filter-false (λ x. f (g x)) x xs t))
]

map_map : {X Y Z : Type 0} (f : Y → Z) (g : X → Y) (xs : List X) → map f (map g xs) ≡ map (λ x. f (g x)) xs
map_map f g [] = refl
map_map f g (x ∷ xs) = ap (λ ys. f (g x) ∷ ys) (map_map f g xs)

-- ---- the run in another order of the calls after `start`

module _ (l : Layout) (start : ℕ) (steps : List Asked) (replies : List Reply) (h : OneHistory l start steps replies)
    (begins : IsRun l (stored_in h.first) h.at) (rest : List Call)
    (on : (p : Part) → calls_on p rest ≡ calls_on p h.log)
    (by : (k : ℕ) → calls_by k rest ≡ calls_by k h.log) where
  abbrev first : List Call
  first = stored_in h.first

  whole_on : (p : Part) → calls_on p (first ++ rest) ≡ calls_on p (first ++ h.log)
  whole_on p =
      filter-append (call_uses p) first rest ∙ ap (λ cs. calls_on p first ++ cs) (on p)
      ∙ sym (filter-append (call_uses p) first h.log)

  whole_by : (k : ℕ) → calls_by k (first ++ rest) ≡ calls_by k (first ++ h.log)
  whole_by k =
      filter-append (λ (c : Call). c.cpu == k) first rest ∙ ap (λ cs. calls_by k first ++ cs) (by k)
      ∙ sym (filter-append (λ (c : Call). c.cpu == k) first h.log)

  pub run : IsRun l (first ++ rest) h.end
  run = parts_run l (first ++ h.log) (first ++ rest) h.end h.run whole_on whole_by

  pub goes : Runs (Steps l) h.at rest h.end
  goes =
      let s = split (Steps l) first rest (boot l) h.end run.leads in
      subst (λ (u : Reference). Runs (Steps l) u rest h.end)
      (end_once l first s.0 h.at (record { cpus = begins.cpus; leads = s.1 }) begins) s.2

-- ---- the steps of a CPU

-- as many of a CPU's steps are stored as it has calls
first_count : (k : ℕ) (cs : List Call) (steps : List Asked) (replies : List Reply)
    → told_of cs ≡ asked_with steps replies
    → length (calls_by k (stored_in cs)) ≡ length (made_by k (stored_of (answered steps replies)))
first_count k [] [] replies e = refl
first_count k [] (a ∷ steps) [] e = refl
first_count k [] (a ∷ steps) (r ∷ replies) e = absurd (let no = e in cc)
first_count k (c ∷ cs) [] replies e = absurd (let no = e in cc)
first_count k (c ∷ cs) (a ∷ steps) [] e = absurd (let no = e in cc)
first_count k (c ∷ cs) (a ∷ steps) (r ∷ replies) e =
    let same : ◌≡◌ {A = ℕ × Step × Reply} (c.cpu, c.step, c.reply) (a.cpu, a.step, r) = cons-head e in
    let cpu_is : c.cpu ≡ a.cpu = ap (λ (t : ℕ × Step × Reply). t.0) same in
    let reply_is : c.reply ≡ r = ap (λ (t : ℕ × Step × Reply). t.2) same in
    let more = first_count k cs steps replies (cons-tail e) in
    elim (both (is_stored r)) [
      | inl kept ↦
          let here : stored_in (c ∷ cs) ≡ c ∷ stored_in cs =
          filter-true (λ (d : Call). is_stored d.reply) c cs (ap is_stored reply_is ∙ kept) in
          elim (both (a.cpu == k)) [
            | inl t ↦
                ap length (ap (calls_by k) here
                ∙ filter-true (λ (d : Call). d.cpu == k) c (stored_in cs) (ap (λ n. n == k) cpu_is ∙ t))
                ∙ ap suc more ∙ sym (ap length (own_here k a r (answered steps replies) kept t))
            | inr t ↦
                ap length (ap (calls_by k) here
                ∙ filter-false (λ (d : Call). d.cpu == k) c (stored_in cs) (ap (λ n. n == k) cpu_is ∙ t))
                ∙ more ∙ sym (ap length (own_others k a r (answered steps replies) t))
          ]
      | inr lost ↦
          ap (λ xs. length (calls_by k xs))
          (filter-false (λ (d : Call). is_stored d.reply) c cs (ap is_stored reply_is ∙ lost))
          ∙ more ∙ sym (ap length (own_unstored k a r (answered steps replies) lost))
    ]

abbrev tagged : ℕ → Step × Reply → ℕ × Step × Reply
tagged k a = (k, a.0, a.1)

-- the calls of a CPU, by their steps and replies alone
calls_tagged : (k : ℕ) (cs : List Call)
    → told_of (calls_by k cs) ≡ map (tagged k) (map (λ c. (c.step, c.reply)) (calls_by k cs))
calls_tagged k [] = refl
calls_tagged k (c ∷ cs) = elim (both (c.cpu == k)) [
  | inl t ↦
      let here : calls_by k (c ∷ cs) ≡ c ∷ calls_by k cs = filter-true (λ (d : Call). d.cpu == k) c cs t in
      ap told_of here ∙ (λ i. (eq-same c.cpu k t i, c.step, c.reply) ∷ calls_tagged k cs i)
      ∙ sym (ap (λ xs. map (tagged k) (map (λ (c : Call). (c.step, c.reply)) xs)) here)
  | inr t ↦
      let here : calls_by k (c ∷ cs) ≡ calls_by k cs = filter-false (λ (d : Call). d.cpu == k) c cs t in
      ap told_of here ∙ calls_tagged k cs
      ∙ sym (ap (λ xs. map (tagged k) (map (λ (c : Call). (c.step, c.reply)) xs)) here)
]

-- and so the answers to a CPU
answers_tagged : (k : ℕ) (steps : List Asked) (replies : List Reply)
    → map (tagged k) (filter (λ a. is_stored a.1) (answers_of k steps replies))
    ≡ calls_of (made_by k (stored_of (answered steps replies)))
answers_tagged k [] replies = refl
answers_tagged k (a ∷ steps) [] = refl
answers_tagged k (a ∷ steps) (r ∷ replies) =
    let more = answers_tagged k steps replies in
    elim (both (a.cpu == k)) [
      | inl t ↦
          let mine : answers_of k (a ∷ steps) (r ∷ replies) ≡ (a.step, r) ∷ answers_of k steps replies = rw t refl in
          elim (both (is_stored r)) [
            | inl kept ↦
                ap (λ xs. map (tagged k) (filter (λ (a : Step × Reply). is_stored a.1) xs)) mine
                ∙ ap (map (tagged k)) (filter-true (λ (a : Step × Reply). is_stored a.1) (a.step, r)
                (answers_of k steps replies) kept)
                ∙ (λ i. (sym (eq-same a.cpu k t) i, a.step, r) ∷ more i)
                ∙ sym (ap calls_of (own_here k a r (answered steps replies) kept t))
            | inr lost ↦
                ap (λ xs. map (tagged k) (filter (λ (a : Step × Reply). is_stored a.1) xs)) mine
                ∙ ap (map (tagged k)) (filter-false (λ (a : Step × Reply). is_stored a.1) (a.step, r)
                (answers_of k steps replies) lost)
                ∙ more ∙ sym (ap calls_of (own_unstored k a r (answered steps replies) lost))
          ]
      | inr t ↦
          let others : answers_of k (a ∷ steps) (r ∷ replies) ≡ answers_of k steps replies = rw t refl in
          ap (λ xs. map (tagged k) (filter (λ (a : Step × Reply). is_stored a.1) xs)) others ∙ more
          ∙ sym (ap calls_of (own_others k a r (answered steps replies) t))
    ]

-- no step is of a CPU past the last
none_made : (n k : ℕ)
    → n ≤ k
    → (steps : List Asked) (replies : List Reply)
    → AreBelow n steps
    → made_by k (stored_of (answered steps replies)) ≡ []
none_made n k past [] replies below = refl
none_made n k past (a ∷ steps) [] below = refl
none_made n k past (a ∷ steps) (r ∷ replies) below =
    let here : a.cpu < n = All-head (λ (a : Asked). a.cpu < n) a steps below in
    own_others k a r (answered steps replies) (eq-other a.cpu k (λ e. omega (arith, e, here, past)))
    ∙ none_made n k past steps replies (All-tail (λ (a : Asked). a.cpu < n) a steps below)

-- ---- the order along a merged list

module _ (l : Layout) (start : ℕ) (steps : List Asked) (replies : List Reply) (calls : List (ℕ × Step × Reply))
    (m : IsMergedOf l start steps replies calls) (below : AreBelow l.config.cpus (drop start steps)) where
  abbrev h : OneHistory l start steps replies
  h = m.history

  abbrev after : List Asked
  after = drop start steps

  abbrev given : List Reply
  given = drop start replies

  kept : Stays (λ (c : Call). c.cpu) call_uses (stored_in h.first) h.log m.all
  kept = stays (λ (c : Call). c.cpu) call_uses (stored_in h.first) h.log m.all m.on m.by

  -- the calls of each CPU are its steps
  own : (k : ℕ) → told_of (calls_by k kept.rest) ≡ calls_of (made_by k (stored_of (answered after given)))
  own k = by_lt k l.config.cpus
      (λ less. ap told_of (kept.by_is k) ∙ calls_tagged k h.log ∙ ap (map (tagged k)) (h.each k less).calls
      ∙ answers_tagged k after given)
      (λ past. ap told_of (kept.by_is k ∙ none_by l.config.cpus h.log logs_below k past)
      ∙ sym (ap calls_of (none_made l.config.cpus k past after given below)))
    where
      logs_below : All (λ c. c.cpu < l.config.cpus) h.log
      logs_below = behind_all (λ (c : Call). c.cpu < l.config.cpus) (stored_in h.first) h.log h.run.cpus

  all_below : All (λ c. c.cpu < l.config.cpus) m.all
  all_below = all_as (λ (c : Call). c.cpu < l.config.cpus) m.all (stored_in h.first ++ h.log) m.by h.run.cpus

  pub calls_below : All (λ c. c.0 < l.config.cpus) calls
  calls_below =
      subst (All (λ (c : ℕ × Step × Reply). c.0 < l.config.cpus)) m.told
      (all_mapped (λ (c : ℕ × Step × Reply). c.0 < l.config.cpus)
      (λ (c : Call). (c.cpu, c.step, c.reply)) m.all all_below)

  -- the CPUs of the calls that stay
  module _ (counts cpus : List ℕ)
      (each : (k : ℕ) → slice_index counts k ≡ length (own_from k 0 (take start steps) (take start replies)))
      (is : cpus ≡ behind (slice_index counts) (map (λ c. c.0) calls)) where
    cpus_are : cpus ≡ map (λ c. c.cpu) kept.rest
    cpus_are =
        is
        ∙ behind_same (slice_index counts) (count (λ (c : Call). c.cpu) call_uses (stored_in h.first))
        (map (λ (c : ℕ × Step × Reply). c.0) calls)
        (λ k. each k ∙ sym (first_count k h.first (take start steps) (take start replies) h.asked))
        ∙ ap (behind (count (λ (c : Call). c.cpu) call_uses (stored_in h.first)))
        (ap (map (λ (c : ℕ × Step × Reply). c.0)) (sym m.told)
        ∙ map_map (λ (c : ℕ × Step × Reply). c.0) (λ (c : Call). (c.cpu, c.step, c.reply)) m.all)
        ∙ sym kept.cpus_are

    pub cpus_below : All (λ k. k < l.config.cpus) cpus
    cpus_below =
        subst (All (λ k. k < l.config.cpus)) (sym cpus_are)
        (all_mapped (λ k. k < l.config.cpus) (λ (c : Call). c.cpu) kept.rest
        (all_as (λ (c : Call). c.cpu < l.config.cpus) kept.rest h.log kept.by_is
        (behind_all (λ (c : Call). c.cpu < l.config.cpus) (stored_in h.first) h.log h.run.cpus)))

    pub fits : (k : ℕ) → length (filter (λ n. n == k) cpus) ≡ length (own_from k 0 after given)
    fits k =
        ap (λ xs. length (filter (λ n. n == k) xs)) cpus_are
        ∙ ap length (picked_mapped (λ n. n == k) (λ (c : Call). c.cpu) kept.rest)
        ∙ length-map (calls_by k kept.rest) (λ (c : Call). c.cpu)
        ∙ sym (length-map (calls_by k kept.rest) (λ (c : Call). (c.cpu, c.step, c.reply)))
        ∙ ap length (own k)
        ∙ length-map (made_by k (stored_of (answered after given))) (λ (a : Asked × Reply). (a.0.cpu, a.0.step, a.1))

    pub has_order : (lines : List ℕ) → OrdersBy after given cpus lines → HasOrder l start steps replies lines
    unfolding kept
    has_order lines o = record {
      order = o.order;
      lines_are = o.lines_are;
      each = o.each;
      history = h;
      log = kept.rest;
      on = kept.on_is;
      by = kept.by_is;
      goes = goes l start steps replies h m.begins kept.rest kept.on_is kept.by_is;
      run = run l start steps replies h m.begins kept.rest kept.on_is kept.by_is;
      told = one_list (λ (c : ℕ × Step × Reply). c.0) (told_of kept.rest) (calls_of o.order) (
          map_map (λ (c : ℕ × Step × Reply). c.0) (λ (c : Call). (c.cpu, c.step, c.reply)) kept.rest
          ∙ sym cpus_are ∙ sym o.cpus_are
          ∙ sym (map_map (λ (c : ℕ × Step × Reply). c.0) (λ (a : Asked × Reply). (a.0.cpu, a.0.step, a.1)) o.order)
          ) (λ k.
          picked_mapped (λ (c : ℕ × Step × Reply). c.0 == k) (λ (c : Call). (c.cpu, c.step, c.reply)) kept.rest
          ∙ own k ∙ ap calls_of (sym (o.each k))
          ∙ sym
          (picked_mapped (λ (c : ℕ × Step × Reply). c.0 == k)
          (λ (a : Asked × Reply). (a.0.cpu, a.0.step, a.1)) o.order)
          );
    }
