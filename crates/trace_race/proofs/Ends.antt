-- The calls that each CPU's pass has made are its calls in the history at whose end the machine is.
use Rattle.std.proofs.Common.{◌≡◌, ℕ, ◌+◌, ◌<◌, ◌==◌, Bool, suc, refl, sym, ap, subst, ◌∙◌, inl, inr, List, [], ◌∷◌, ◌++◌, All, drop, filter, length, length-append, map, Option, Some, slice_get, arith}
use Rattle.std.proofs.lemmas.List.{append_assoc, append-nil}
use Rattle.std.proofs.lemmas.List.Elements.{filter-append}
use Rattle.page_state.specs.Layouts.{Layout}
use Rattle.page_state.specs.LayoutView.{layout_of}
use Rattle.page_state.proofs.Cases.{by_lt}
use Rattle.call_table.specs.declared.reply.Call.{Call}
use Rattle.call_table.specs.declared.reply.Reply.{Reply}
use Rattle.call_table.specs.declared.step.Step.{Step}
use Rattle.reference_model.specs.model.Boot.{boot}
use Rattle.reference_model.specs.model.History.{IsStored, calls_by, calls_on}
use Rattle.reference_model.specs.model.Parts.{Part, guest_part, shared_part, vm_part}
use Rattle.reference_model.specs.model.Rules.{call_uses}
use Rattle.reference_model.specs.model.Run.{IsRun, Runs}
use Rattle.reference_model.specs.model.State.{Reference}
use Rattle.reference_model.specs.model.Step.{Steps}
use Rattle.reference_model.proofs.Ends.{parts_run}
use Rattle.reference_model.proofs.Steps.{end_once}
use Rattle.part_types.specs.declared.parts.CpuState.{CpuState}
use Rattle.world.specs.declared.merge.Histories.{Histories}
use Rattle.world.specs.Merges.{IsMerged}
use Rattle.part_table.specs.declared.slot.Slot.{Slot}
use Rattle.part_table.specs.Endings.{IsEndFor}
use Rattle.part_table.specs.Parts.{part_of}
use Rattle.part_table.specs.Passes.{Opened, Pass, first_known}
use Rattle.part_table.specs.Before.{before_own}
use Rattle.part_table.specs.Known.{AreFronts, Known}
use Rattle.part_table.specs.Beginnings.{no_own, own_in}
use Rattle.part_table.proofs.Before.{own_behind}
use Rattle.part_table.proofs.Left.{there}
use Rattle.part_table.proofs.Lists.{or_of_get}
use Rattle.cpu_threads.specs.Ends.{AllGiven, AreOf, OfGiven}
use Rattle.cpu_threads.specs.Machines.{FullInTheEnd, StoresInTheEnd}
use Rattle.trace_race.proofs.FullLogs.{made_in}
use Rattle.trace_race.proofs.Kept.{kept_cases}
use Rattle.trace_race.proofs.Made.{at_place, map-append}
use Rattle.trace_race.proofs.Past.{behind_all, front_by, front_none, no_guest_calls, none_by, split}
use Rattle.trace_race.specs.declared.course.Asked.{Asked}
use Rattle.trace_race.specs.Ordered.{IsOfLogs}
use Rattle.trace_race.specs.Made.{AreDone, AreMade, CallsIn, FindsFull, IsCpus, MakeAll, Makes, OneHistory, answers_of, is_stored, stored_in}

-- what is told of a call
abbrev pub told : Call → Step × Reply
told c = (c.step, c.reply)

-- a stored call is one more
pub one_stored : (step : Step) (reply : Reply) (v w : Known)
    → StoresInTheEnd step reply v w
    → map told w.own.log.calls ≡ map told v.own.log.calls ++ (step, reply) ∷ []
one_stored step reply v w s =
    let calls : w.own.log.calls ≡ v.own.log.calls ++ s.stores.call ∷ [] =
    ap (λ l. l.calls) s.stores.own
    ∙ ap (λ (k : Known). k.own.log.calls ++ s.stores.call ∷ []) s.met.same in
    let one : told s.stores.call ≡ (step, reply) =
    ap told s.stores.call_is in
    ap (map told) calls
    ∙ (map-append told v.own.log.calls (s.stores.call ∷ []) ∙ ap (λ x. map told v.own.log.calls ++ x ∷ []) one)

-- where a log is full nothing is added
none_stored : (step : Step) (v w : Known) → FullInTheEnd step v w → map told w.own.log.calls ≡ map told v.own.log.calls
none_stored step v w f =
    ap (λ (k : Known). map told k.own.log.calls) f.full.same
    ∙ ap (λ (k : Known). map told k.own.log.calls) f.met.same

abbrev kept : List (Step × Reply) → List (Step × Reply)
kept answers = filter (λ a. is_stored a.1) answers

-- so calls add those of them that are stored
made_calls : (v w : Known) (answers : List (Step × Reply))
    → Makes v answers w
    → map told w.own.log.calls ≡ map told v.own.log.calls ++ kept answers
made_calls v w [] made = ap (λ (k : Known). map told k.own.log.calls) made ∙ sym (append-nil (map told v.own.log.calls))
made_calls v w (a ∷ more) made =
    let rest = made_calls made.0 w more made.2 in
    elim (kept_cases a.1 made.1.answered) [
      | inl k ↦
          let one = one_stored a.0 a.1 v made.0 (made.1.stored k.0) in
          let first : kept (a ∷ more) ≡ a ∷ kept more = rw k.1 refl in
          rest
          ∙ (ap (λ xs. xs ++ kept more) one
          ∙ ((rw append_assoc refl) ∙ ap (λ xs. map told v.own.log.calls ++ xs) (sym first)))
      | inr k ↦
          let one = none_stored a.0 v made.0 (made.1.full k.0) in
          let first : kept (a ∷ more) ≡ kept more = rw k.1 refl in
          rest ∙ (ap (λ xs. xs ++ kept more) one ∙ ap (λ xs. map told v.own.log.calls ++ xs) (sym first))
    ]

-- the passes are of the table
pub are_of : (t : Opened) (steps : List Asked) (replies : List Reply) (passes : List Pass)
    → AreDone t steps replies passes
    → AreOf t passes
are_of t steps replies passes done j p there = (done.each j p there).of

-- each CPU's pass is given
pub all_of : (t : Opened) (steps : List Asked) (replies : List Reply) (passes : List Pass)
    → AreDone t steps replies passes
    → AllGiven t.layout passes
all_of t steps replies passes done cpu less =
    let there = at_place passes cpu (let n = done.count in omega (arith, n, less)) in
    record { place = cpu; pass = there.0; there = there.1; cpu = (done.each cpu there.0 there.1).cpu_is }

-- a call adds at most one to the own list
counted : (l : Layout) (log : List Call) (step : Step) (reply : Reply) (v w : Known)
    → CallsIn l log step reply v w
    → (d : ℕ) × (length w.own.log.calls ≡ length v.own.log.calls + d) × (w.cpu ≡ v.cpu)
counted l log step reply v w c = elim (kept_cases reply c.answered) [
  | inl k ↦
      let s : StoresInTheEnd step reply v w = c.stored k.0 in (
        1,
        ap (λ l. length l.calls) s.stores.own
            ∙ (ap (λ (k : Known). length (k.own.log.calls ++ s.stores.call ∷ [])) s.met.same
            ∙ length-append v.own.log.calls (s.stores.call ∷ [])),
        s.stores.cpu ∙ ap (λ (k : Known). k.cpu) s.met.same,
      )
  | inr k ↦
      let same = (c.full k.0).0 in
      let own : length w.own.log.calls ≡ length v.own.log.calls =
      ap (λ (k : Known). length k.own.log.calls) same in
      (0, omega (arith, own), ap (λ (k : Known). k.cpu) same)
]

-- Calls behind others of the same parts and CPUs are full where these are, for a CPU whose own list has its calls of
-- the others
module _ (l : Layout) (xs zs ys : List Call) (on : (p : Part) → calls_on p xs ≡ calls_on p zs)
    (by : (cpu : ℕ) → calls_by cpu xs ≡ calls_by cpu zs) where
  picked_as : (f : Call → Bool) (cpu n m : ℕ)
      → filter f xs ≡ filter f zs
      → n ≡ length (calls_by cpu xs) + m
      → filter f (before_own cpu n (xs ++ ys)) ≡ filter f (before_own cpu n (zs ++ ys))
  picked_as f cpu n m same e =
      let there : List Call = before_own cpu m ys in
      ap (filter f) (own_behind cpu n m xs ys e) ∙ filter-append f xs there
      ∙ ap (λ cs. cs ++ filter f there) same ∙ sym (filter-append f zs there)
      ∙ ap (filter f)
      (sym (own_behind cpu n m zs ys (e ∙ ap (λ (cs : List Call). length cs + m) (by cpu))))

  full_as : (step : Step) (v : Known) (m : ℕ)
      → length v.own.log.calls ≡ length (calls_by v.cpu xs) + m
      → FindsFull l (zs ++ ys) step v
      → FindsFull l (xs ++ ys) step v
  full_as step v m e (inl f) =
      inl
      (ap (λ (cs : List Call). length cs)
      (picked_as (λ (c : Call). c.cpu == v.cpu) v.cpu (length v.own.log.calls) m (by v.cpu) e)
      ∙ f)
  full_as step v m e (inr f) = inr (
    f.0,
    f.1,
    ap (λ (cs : List Call). length cs)
        (picked_as (call_uses (part_of f.0)) v.cpu (length v.own.log.calls) m (on (part_of f.0)) e)
        ∙ f.2,
  )

  pub makes_as : (v w : Known) (m : ℕ) (answers : List (Step × Reply))
      → length v.own.log.calls ≡ length (calls_by v.cpu xs) + m
      → MakeAll (CallsIn l (zs ++ ys)) v answers w
      → MakeAll (CallsIn l (xs ++ ys)) v answers w
  makes_as v w m [] e made = made
  makes_as v w m (a ∷ more) e made =
      let next = counted l (zs ++ ys) a.0 a.1 v made.0 made.1 in
      let grown : length made.0.own.log.calls ≡ length v.own.log.calls + next.0 = next.1 in
      let same : length (calls_by made.0.cpu xs) ≡ length (calls_by v.cpu xs) =
      ap (λ (c : ℕ). length (calls_by c xs)) next.2 in (
        made.0,
        record {
          answered = made.1.answered;
          stored = made.1.stored;
          full = λ why. let f = made.1.full why in
              (f.0, full_as a.0 v m e f.1);
        },
        makes_as made.0 w (m + next.0) more (omega (arith, grown, same, e)) made.2,
      )

-- a list without its front
cut : {X : Type 0} (xs ys zs : List X) → xs ++ ys ≡ xs ++ zs → ys ≡ zs
cut [] ys zs e = e
cut (x ∷ xs) ys zs e = cut xs ys zs (ap (λ l. drop 1 l) e)

module _ {A : Type 0} (t : Opened) (start : ℕ) (steps : List Asked) (replies : List Reply) (passes : List Pass)
    (found : List (Slot A)) (cpus : List CpuState)
    (made : AreMade t start steps replies passes) (end : IsEndFor t found cpus (OfGiven passes)) where
  abbrev l : Layout
  l = layout_of t.layout

  abbrev first : List Call
  first = stored_in made.begun.calls

  abbrev after : List Call
  after = end.goes_on.after

  abbrev whole : List Call
  whole = end.end.left.log

  abbrev last : Reference
  last = end.end.left.history.end

  -- what comes first in the machine's history are the calls of the world that it was made of
  same_on : (p : Part) → calls_on p first ≡ calls_on p end.goes_on.first
  same_on vm_part = made.begun.logs 0 (omega arith) ∙ sym (end.goes_on.on 0 (omega arith))
  same_on shared_part = made.begun.logs 1 (omega arith) ∙ sym (end.goes_on.on 1 (omega arith))
  same_on (guest_part v) = by_lt v 64
      (λ less. made.begun.logs (suc (suc v)) (omega (arith, less))
      ∙ sym (end.goes_on.on (suc (suc v)) (omega (arith, less))))
      (λ past. no_guest_calls l made.begun.ready first made.begun.at made.begun.stored_run v past
      ∙ sym
      (front_none (guest_part v) end.goes_on.first after
      (ap (calls_on (guest_part v)) (sym end.goes_on.log_is)
      ∙ no_guest_calls l made.begun.ready whole last end.end.left.history.run v past)))

  same_by : (cpu : ℕ) → calls_by cpu first ≡ calls_by cpu end.goes_on.first
  same_by cpu = by_lt cpu t.layout.config.cpus
      (λ less.
      let k = there t.begun.owns cpu (let n = made.begun.count in omega (arith, n, less)) in
      (made.begun.owns cpu less).0 ∙ ap (λ (o : CpuState). o.log.calls) (or_of_get t.begun.owns cpu no_own k.0 k.1)
      ∙ sym (end.goes_on.by cpu k.0 k.1))
      (λ past. none_by t.layout.config.cpus first made.begun.stored_run.cpus cpu past
      ∙ sym
      (front_by cpu end.goes_on.first after
      (ap (calls_by cpu) (sym end.goes_on.log_is)
      ∙ none_by t.layout.config.cpus whole end.end.left.history.run.cpus cpu past)))

  all_on : (p : Part) → calls_on p (first ++ after) ≡ calls_on p whole
  all_on p =
      filter-append (call_uses p) first after ∙ ap (λ cs. cs ++ calls_on p after) (same_on p)
      ∙ sym (filter-append (call_uses p) end.goes_on.first after) ∙ ap (calls_on p) (sym end.goes_on.log_is)

  all_by : (cpu : ℕ) → calls_by cpu (first ++ after) ≡ calls_by cpu whole
  all_by cpu =
      filter-append (λ (c : Call). c.cpu == cpu) first after ∙ ap (λ cs. cs ++ calls_by cpu after) (same_by cpu)
      ∙ sym (filter-append (λ (c : Call). c.cpu == cpu) end.goes_on.first after)
      ∙ ap (calls_by cpu) (sym end.goes_on.log_is)

  -- so the steps before `start`, in the trace's order, and then the calls of the machine are a run
  run : IsRun l (first ++ after) last
  run = parts_run l whole (first ++ after) last end.end.left.history.run all_on all_by

  goes : Runs (Steps l) made.begun.at after last
  goes =
      let s = split (Steps l) first after (boot l) last run.leads in
      subst (λ (u : Reference). Runs (Steps l) u after last)
      (end_once l first s.0 made.begun.at
      (record { cpus = made.begun.stored_run.cpus; leads = s.1 }) made.begun.stored_run) s.2

  each : (cpu : ℕ)
      → cpu < t.layout.config.cpus
      → (p : Pass) × (slice_get passes cpu ≡ Some p)
      → IsCpus t.layout cpu (answers_of cpu (drop start steps) (drop start replies)) made.begun.at first after
  each cpu less given =
      let p = given.0 in
      let answers = answers_of cpu (drop start steps) (drop start replies) in
      let one = made.done.each cpu p given.1 in
      let state : slice_get cpus cpu ≡ Some p.knows.own =
      subst (λ (c : ℕ). slice_get cpus c ≡ Some p.knows.own) one.cpu_is (end.own cpu p given.1) in
      let calls : p.knows.own.log.calls ≡ calls_by cpu whole = (end.end.left.cpus cpu p.knows.own state).0 in
      let begun = made.begun.owns cpu less in
      let long : length (calls_by cpu first) ≡ length (own_in t.begun cpu).log.calls =
      ap (λ (cs : List Call). length cs) begun.0 in
      let parted : calls_by cpu whole ≡ calls_by cpu first ++ calls_by cpu after =
      sym (all_by cpu) ∙ filter-append (λ (c : Call). c.cpu == cpu) first after in
      let both : map told (calls_by cpu first) ++ map told (calls_by cpu after) ≡ map told (calls_by cpu first) ++ kept answers =
      sym (map-append told (calls_by cpu first) (calls_by cpu after)) ∙ ap (map told) (sym (calls ∙ parted))
      ∙ made_calls (first_known t cpu) p.knows answers one.makes
      ∙ ap (λ (cs : List Call). map told cs ++ kept answers) (sym begun.0) in
      record {
        calls = cut (map told (calls_by cpu first)) (map told (calls_by cpu after)) (kept answers) both;
        first = own_in t.begun cpu;
        first_is = begun.1;
        first_calls = sym begun.0;
        last = p.knows;
        makes = makes_as l first end.goes_on.first after same_on same_by (first_known t cpu) p.knows 0 answers
            (omega (arith, long))
            (subst (λ (cs : List Call). MakeAll (CallsIn l cs) (first_known t cpu) answers p.knows) end.goes_on.log_is
            (made_in t found cpus end.end cpu p.knows answers begun.1.size one.makes state
            (subst (λ (c : ℕ). AreFronts t.layout.config.log c whole p.knows.tries) one.cpu_is
            (end.tried cpu p given.1))));
        own = all_by cpu ∙ sym calls;
      }

  -- the one history
  pub one_history : OneHistory (layout_of t.layout) start steps replies
  one_history = record {
    key = t.layout;
    key_is = refl;
    first = made.begun.calls;
    asked = made.begun.asked;
    at = made.begun.at;
    begins = made.begun.run;
    log = after;
    end = last;
    goes = goes;
    run = run;
    stored =
        behind_all (λ (c : Call). IsStored c.reply) end.goes_on.first after
        (subst (All (λ c. IsStored c.reply)) end.goes_on.log_is end.end.left.history.stored);
    each = λ cpu less. each cpu less (at_place passes cpu (let n = made.done.count in omega (arith, n, less)));
  }

  -- the logs of a whole list of its calls are those of this history
  pub of_logs : (logs : Histories) → IsMerged logs whole → IsOfLogs l start steps replies logs
  unfolding one_history
  of_logs logs m = record {
    history = one_history;
    begins = made.begun.stored_run;
    merged = record { on = λ p. all_on p ∙ m.on p; by = λ cpu. all_by cpu ∙ m.by cpu };
  }
