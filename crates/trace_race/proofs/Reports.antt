-- The parts of a race's report, put together.
use Rattle.std.proofs.Common.{◌≡◌, ℕ, refl, sym, ap, subst, ◌∙◌, inl, inr, List, [], ◌∷◌, ◌++◌, ◌+◌, zero, suc, length, take, arith, Bool, true, false, Option, Some, None, Result, Ok, Err, IfOk, IfSome, OnErr}
use Rattle.std.specs.Prelude.{◌⊎◌, MatchOption, MatchResult}
use Rattle.std.specs.Io.KnownBytes.{Appends, Keeps}
use Rattle.std.proofs.lemmas.List.{take_all}
use Rattle.page_state.specs.declared.entry.PageRange.{PageRange}
use Rattle.page_state.specs.Regions.{memory_of}
use Rattle.call_table.specs.declared.reply.Reply.{Reply}
use Rattle.trace_lines.specs.declared.response.Response.{Response}
use Rattle.trace_lines.specs.Settings.{config_of}
use Rattle.trace_reader.specs.Reading.{lines_of}
use Rattle.trace_reader.specs.declared.outcome.Outcome.{Outcome}
use Rattle.trace_reader.specs.declared.outcome.Outcome.TheVariants as outcomes
use Rattle.trace_text.specs.declared.fault.Fault.{Fault}
use Rattle.trace_text.specs.declared.report.ReportLine.TheVariants as report
use Rattle.trace_text.specs.declared.session.Stop.TheVariants as stops
use Rattle.trace_text.specs.Played.{WritesFront}
use Rattle.trace_text.specs.Texts.{text_of_report}
use Rattle.trace_text.specs.Worlds.{IsBootOf, Machine}
use Rattle.trace_text.proofs.Fronts.{appends_keeps}
use Rattle.trace_reader.proofs.KnownBytes.{appends_both}
use Rattle.trace_text.proofs.ReplayLemmas.{appends_none}
use Rattle.trace_text.specs.declared.session.Stop.{Stop}
use Rattle.trace_race.specs.Booted.{StopsBoot, boot_response}
use Rattle.trace_race.specs.declared.course.Asked.{Asked}
use Rattle.trace_race.specs.Courses.{Asking, course_of, in_order_of, nothing_asked}
use Rattle.page_state.specs.Layouts.{Layout}
use Rattle.ghost_judge.specs.declared.disagreement.Disagreement.{Disagreement}
use Rattle.trace_reader.specs.declared.outcome.EngineFault.{EngineFault}
use Rattle.trace_text.specs.Oracles.{audited_lines}
use Rattle.trace_text.specs.Replay.{outcome_of}
use Rattle.trace_race.specs.declared.fault.RaceFault.{RaceFault}
use Rattle.trace_race.specs.declared.fault.RaceFault.TheVariants.{Engine}
use Rattle.trace_race.specs.declared.reading.Read.{Read}
use Rattle.trace_race.specs.declared.reading.Read.TheVariants as reads
use Rattle.trace_race.specs.Readings.{asked_in}
use Rattle.trace_race.specs.Made.{OneHistory}
use Rattle.trace_race.specs.Orders.{IsOrder, idle_order}
use Rattle.trace_race.specs.Raced.{AreMadeOn, HasOneHistory, IsBegunOf, IsBootLine, IsIdle, IsNoRun, IsRaceBegun, IsRaceOf, IsRaced, IsRead, IsRun, WritesTextFront, boot_text, end_text, found_text, run_text, step_lines, steps_text}
use Rattle.trace_race.specs.Told.{BeginsStop, RunBegins, RunEnds, StepsBegin, StepsEnd, ReportsBegun, ReportsRace, ReportsStop}

-- ---- an answer of a replay's kind

pub engine_ok : (answer : Result Outcome EngineFault) (result : Result Outcome RaceFault) (P : Outcome → Type 0)
    → MatchResult answer (λ outcome. result ≡ Ok outcome) (λ fault. result ≡ Err (Engine fault))
    → IfOk answer P
    → IfOk result P
engine_ok (Ok outcome) result P is h = subst (λ r. IfOk r P) (sym is) h
engine_ok (Err fault) result P is h = subst (λ r. IfOk r P) (sym is) tt

pub engine_err : (answer : Result Outcome EngineFault) (result : Result Outcome RaceFault) (P : Type 0)
    → MatchResult answer (λ outcome. result ≡ Ok outcome) (λ fault. result ≡ Err (Engine fault))
    → OnErr answer P
    → OnErr result P
engine_err (Ok outcome) result P is h = subst (λ r. OnErr r P) (sym is) tt
engine_err (Err fault) result P is h = subst (λ r. OnErr r P) (sym is) h

-- ---- fronts of texts

take_past : (xs ys : List ℕ) (n : ℕ) → take (length xs + n) (xs ++ ys) ≡ xs ++ take n ys
take_past [] ys n = ap (λ k. take k ys) (let z : 0 + n ≡ n = omega arith in z)
take_past (x ∷ xs) ys n =
    ap (λ k. take k (x ∷ (xs ++ ys))) (let z : suc (length xs) + n ≡ suc (length xs + n) = omega arith in z)
    ∙ ap (λ ls. x ∷ ls) (take_past xs ys n)

front_in : (n : ℕ) (xs ys : List ℕ) → (k : ℕ) × (take k (xs ++ ys) ≡ take n xs)
front_in zero xs ys = (0, refl)
front_in (suc n) [] ys = (0, refl)
front_in (suc n) (x ∷ xs) ys = let r = front_in n xs ys in (suc r.0, ap (λ ls. x ∷ ls) r.1)

-- a front of a text is one of it and more
pub text_first : (old new : Option (List ℕ)) (xs ys : List ℕ)
    → WritesTextFront xs old new
    → WritesTextFront (xs ++ ys) old new
text_first old new xs ys h = let k = front_in h.0 xs ys in (k.0, subst (Appends old new) (sym k.1) h.1)

-- and so are all of it and a front of what follows
pub text_behind : (old mid new : Option (List ℕ)) (xs ys : List ℕ)
    → Appends old mid xs
    → WritesTextFront ys mid new
    → WritesTextFront (xs ++ ys) old new
text_behind old mid new xs ys written h = (
  length xs + h.0,
  subst (Appends old new) (sym (take_past xs ys h.0)) (appends_both old mid new xs (take h.0 ys) written h.1),
)

text_whole : (old new : Option (List ℕ)) (xs : List ℕ) → Appends old new xs → WritesTextFront xs old new
text_whole old new xs written =
    (length xs, subst (Appends old new) (sym (take_all (length xs) xs (omega arith))) written)

-- ---- after the steps

-- the text if nothing was found
none_told : (judged : List Disagreement) (audited : Option Disagreement) (order : List ℕ) (n : ℕ) (steps : List Asked)
    → judged ≡ []
    → audited ≡ None
    → n ≡ length steps
    → found_text judged audited order n ≡ end_text (length steps) order
none_told judged audited order n steps no_judged no_audited count =
    ap (λ ds. found_text ds audited order n) no_judged
    ∙ (ap (λ o. found_text [] o order n) no_audited ∙ ap (λ k. found_text [] None order k) count)

module _ (ordered : Bool) where
  -- the order's history is one
  pub one_of : (l : Layout) (start : ℕ) (steps : List Asked) (replies : List Reply) (order : List ℕ)
      → IsOrder ordered l start steps replies order
      → OneHistory l start steps replies
  one_of l start steps replies order is = by_kind ordered is
    where
      by_kind : (b : Bool) → IsOrder b l start steps replies order → OneHistory l start steps replies
      by_kind false h = h.1
      by_kind true h = h.1.history

  pub made_ends : (l : Layout) (start : ℕ) (steps : List Asked) (replies : List Reply) (judged : List Disagreement)
      (audited : Option Disagreement) (order : List ℕ) (n : ℕ) (old mid new : Option (List ℕ)) (outcome : Outcome)
      → judged ≡ []
      → audited ≡ None
      → n ≡ length steps
      → IsOrder ordered l start steps replies order → Appends old mid (text_of_report (step_lines steps replies))
      → (outcome ≡ outcome_of (length judged + length (audited_lines audited)))
      × Appends mid new (found_text judged audited order n)
      → StepsEnd ordered l start steps replies old new outcome
  made_ends l start steps replies judged audited order n old mid new outcome no_judged no_audited count is told found =
      let clean : outcome ≡ outcomes.Clean =
      found.0
      ∙ (ap (λ o. outcome_of (length judged + length (audited_lines o))) no_audited
      ∙ ap (λ (ds : List Disagreement). outcome_of (length ds + 0)) no_judged) in (
        clean,
        order,
        is,
        appends_both old mid new (text_of_report (step_lines steps replies)) (end_text (length steps) order) told
            (subst (Appends mid new) (none_told judged audited order n steps no_judged no_audited count) found.1),
      )

  pub made_begins : (l : Layout) (start : ℕ) (steps : List Asked) (replies : List Reply) (judged : List Disagreement)
      (audited : Option Disagreement) (order : List ℕ) (n : ℕ) (old mid new : Option (List ℕ))
      → judged ≡ []
      → audited ≡ None
      → n ≡ length steps
      → IsOrder ordered l start steps replies order
      → Appends old mid (text_of_report (step_lines steps replies))
      → WritesTextFront (found_text judged audited order n) mid new
      → StepsBegin ordered l start steps replies old new
  made_begins l start steps replies judged audited order n old mid new no_judged no_audited count is told front =
      inr (
        order,
        is,
        text_behind old mid new (text_of_report (step_lines steps replies)) (end_text (length steps) order) told
            (subst (λ xs. WritesTextFront xs mid new)
            (none_told judged audited order n steps no_judged no_audited count) front),
      )

  -- the lines of the steps alone
  pub made_halts : (l : Layout) (start : ℕ) (steps : List Asked) (replies : List Reply) (old mid : Option (List ℕ))
      → Appends old mid (text_of_report (step_lines steps replies))
      → StepsBegin ordered l start steps replies old mid
  made_halts l start steps replies old mid told =
      inl (text_whole old mid (text_of_report (step_lines steps replies)) told)

  -- a front of them
  pub made_fails : (l : Layout) (start : ℕ) (steps : List Asked) (replies : List Reply) (old new : Option (List ℕ))
      → WritesFront (step_lines steps replies) old new
      → StepsBegin ordered l start steps replies old new
  made_fails l start steps replies old new front = inl front

  -- ---- after the boot line

  pub run_ends : (m : Machine) (a : Asking) (replies : List Reply) (line : Response) (old mid new : Option (List ℕ))
      (outcome : Outcome)
      → line ≡ boot_response m
      → length replies ≡ length a.steps
      → Appends old mid (text_of_report (report.Response line ∷ []))
      → StepsEnd ordered m.layout (in_order_of a) a.steps replies mid new outcome
      → RunEnds ordered m a old new outcome
  run_ends m a replies line old mid new outcome is count first rest = (
    rest.0,
    replies,
    count,
    one_of m.layout (in_order_of a) a.steps replies rest.1 rest.2,
    rest.1,
    rest.2,
    appends_both old mid new (boot_text m) (steps_text a.steps replies rest.1)
        (subst (λ l. Appends old mid (text_of_report (report.Response l ∷ []))) is first) rest.3,
  )

  pub run_begins : (m : Machine) (a : Asking) (replies : List Reply) (line : Response) (old mid new : Option (List ℕ))
      → line ≡ boot_response m
      → length replies ≡ length a.steps
      → HasOneHistory m a replies
      → Appends old mid (text_of_report (report.Response line ∷ []))
      → StepsBegin ordered m.layout (in_order_of a) a.steps replies mid new
      → RunBegins ordered m a old new
  run_begins m a replies line old mid new is count one first (inl front) =
      inr (
        replies,
        count,
        one,
        inl
            (text_behind old mid new (boot_text m) (text_of_report (step_lines a.steps replies))
            (subst (λ l. Appends old mid (text_of_report (report.Response l ∷ []))) is first) front),
      )
  run_begins m a replies line old mid new is count one first (inr rest) =
      inr (
        replies,
        count,
        one,
        inr (
          rest.0,
          rest.1,
          text_behind old mid new (boot_text m) (steps_text a.steps replies rest.0)
              (subst (λ l. Appends old mid (text_of_report (report.Response l ∷ []))) is first) rest.2,
        ),
      )

  -- the boot line alone
  pub run_halts : (m : Machine) (a : Asking) (line : Response) (old mid : Option (List ℕ))
      → line ≡ boot_response m
      → Appends old mid (text_of_report (report.Response line ∷ []))
      → RunBegins ordered m a old mid
  run_halts m a line old mid is first =
      inl
      (text_whole old mid (boot_text m)
      (subst (λ l. Appends old mid (text_of_report (report.Response l ∷ []))) is first))

  -- a front of it
  pub run_fails : (m : Machine) (a : Asking) (line : Response) (old new : Option (List ℕ))
      → line ≡ boot_response m
      → WritesFront (report.Response line ∷ []) old new
      → RunBegins ordered m a old new
  run_fails m a line old new is front = inl (subst (λ l. WritesFront (report.Response l ∷ []) old new) is front)

  -- ---- what a whole trace asks for

  race_of : (a : Asking) (number : ℕ) (carve : PageRange) (text : List ℕ) (outcome : Outcome)
      → a.boot ≡ Some number
      → a.told.carve ≡ Some carve
      → IsNoRun a carve number text outcome ⊎ IsRun ordered a carve text outcome → IsRaceOf ordered a text outcome
  race_of a number carve text outcome boot there run =
      subst
      (λ b. MatchOption b (IsIdle ordered text outcome)
      (λ number. MatchOption a.told.carve (IsIdle ordered text outcome)
      (λ carve. IsNoRun a carve number text outcome ⊎ IsRun ordered a carve text outcome)))
      (sym boot)
      (subst
      (λ o. MatchOption o (IsIdle ordered text outcome)
      (λ carve. IsNoRun a carve number text outcome ⊎ IsRun ordered a carve text outcome))
      (sym there) run)

  pub race_ends : (a : Asking) (number : ℕ) (carve : PageRange) (m : Machine) (old new : Option (List ℕ))
      (outcome : Outcome)
      → a.boot ≡ Some number
      → a.told.carve ≡ Some carve
      → IsBootOf (memory_of a.told.regions carve) (config_of a.told) m
      → RunEnds ordered m a old new outcome → ReportsRace ordered (Ok a) old new outcome
  race_ends a number carve m old new outcome boot there booted ends = (
    run_text m a.steps ends.1 ends.4,
    race_of a number carve _ outcome boot there
        (inr
        record {
          machine = m;
          replies = ends.1;
          made = record { booted = booted; count = ends.2; history = ends.3 };
          order = ends.4;
          ordered_is = ends.5;
          text_is = refl;
          outcome_is = ends.0;
        }),
    ends.6,
  )

  begun_boot : (a : Asking) (number : ℕ) (carve : PageRange) (m : Machine) (text : List ℕ)
      → a.boot ≡ Some number
      → a.told.carve ≡ Some carve
      → IsBootOf (memory_of a.told.regions carve) (config_of a.told) m
      → (text ≡ boot_text m)
      ⊎ ((replies : List Reply)
      × AreMadeOn m a carve replies
      × (text ≡ boot_text m ++ text_of_report (step_lines a.steps replies)))
      → IsBootLine a text
  begun_boot a number carve m text boot there booted is = record {
    number = number;
    carve = carve;
    boot = boot;
    carve_is = there;
    machine = m;
    booted = booted;
    text_is = is;
  }

  pub race_begins : (a : Asking) (number : ℕ) (carve : PageRange) (m : Machine) (old new : Option (List ℕ))
      → a.boot ≡ Some number
      → a.told.carve ≡ Some carve
      → IsBootOf (memory_of a.told.regions carve) (config_of a.told) m
      → RunBegins ordered m a old new → ReportsBegun ordered (Ok a) old new
  race_begins a number carve m old new boot there booted (inl front) =
      inr (boot_text m, inr (begun_boot a number carve m (boot_text m) boot there booted (inl refl)), front)
  race_begins a number carve m old new boot there booted (inr (replies, count, one, inl front)) = inr (
    boot_text m ++ text_of_report (step_lines a.steps replies),
    inr
        (begun_boot a number carve m (boot_text m ++ text_of_report (step_lines a.steps replies)) boot there booted
        (inr (replies, record { booted = booted; count = count; history = one }, refl))),
    front,
  )
  race_begins a number carve m old new boot there booted (inr (replies, count, one, inr (order, is, front))) = inr (
    run_text m a.steps replies order,
    inl (
      outcomes.Clean,
      race_of a number carve _ outcomes.Clean boot there
          (inr
          record {
            machine = m;
            replies = replies;
            made = record { booted = booted; count = count; history = one };
            order = order;
            ordered_is = is;
            text_is = refl;
            outcome_is = refl;
          }),
    ),
    front,
  )

  -- no machine
  pub boot_fails : (a : Asking) (number : ℕ) (carve : PageRange) (stop : Stop) (old new : Option (List ℕ))
      (outcome : Outcome)
      → a.boot ≡ Some number
      → a.told.carve ≡ Some carve
      → StopsBoot (memory_of a.told.regions carve) (config_of a.told) stop
      → ReportsStop number stop old new outcome → ReportsRace ordered (Ok a) old new outcome
  boot_fails a number carve (stops.Fault fault) old new outcome boot there refused told = (
    text_of_report (report.Fault number fault ∷ []),
    race_of a number carve _ outcome boot there
        (inl record { fault = fault; refused = refused; text_is = refl; outcome_is = told.0 }),
    told.1,
  )
  boot_fails a number carve stops.NoMemory old new outcome boot there refused told = absurd told

  pub boot_fault_begins : (a : Asking) (number : ℕ) (carve : PageRange) (stop : Stop) (old new : Option (List ℕ))
      → a.boot ≡ Some number
      → a.told.carve ≡ Some carve
      → StopsBoot (memory_of a.told.regions carve) (config_of a.told) stop
      → BeginsStop number stop old new → ReportsBegun ordered (Ok a) old new
  boot_fault_begins a number carve (stops.Fault fault) old new boot there refused front = inr (
    text_of_report (report.Fault number fault ∷ []),
    inl (
      outcomes.Fault,
      race_of a number carve _ outcomes.Fault boot there
          (inl record { fault = fault; refused = refused; text_is = refl; outcome_is = refl }),
    ),
    front,
  )
  boot_fault_begins a number carve stops.NoMemory old new boot there refused none = inl none

  -- a line's fault
  pub fault_ends : (r : Read) (line : ℕ) (fault : Fault) (old new : Option (List ℕ)) (outcome : Outcome)
      → r ≡ reads.Fault line fault
      → (outcome ≡ outcomes.Fault) × Appends old new (text_of_report (report.Fault line fault ∷ []))
      → ReportsRace ordered (asked_in r) old new outcome
  fault_ends r line fault old new outcome is told =
      subst (λ (x : Read). ReportsRace ordered (asked_in x) old new outcome) (sym is)
      (text_of_report (report.Fault line fault ∷ []), (refl, told.0), told.1)

  pub fault_begins : (r : Read) (line : ℕ) (fault : Fault) (old new : Option (List ℕ))
      → r ≡ reads.Fault line fault
      → WritesFront (report.Fault line fault ∷ []) old new
      → ReportsBegun ordered (asked_in r) old new
  fault_begins r line fault old new is front =
      subst (λ (x : Read). ReportsBegun ordered (asked_in x) old new) (sym is)
      (inr (text_of_report (report.Fault line fault ∷ []), refl, front))

  -- no boot
  idle_of : (a : Asking) (text : List ℕ) (outcome : Outcome)
      → (a.boot ≡ None) ⊎ (a.told.carve ≡ None)
      → IsIdle ordered text outcome
      → IsRaceOf ordered a text outcome
  idle_of a text outcome (inl none) idle = rw none idle
  idle_of a text outcome (inr none) idle = by_boot a.boot
    where
      by_boot : (boot : Option ℕ)
          → MatchOption boot (IsIdle ordered text outcome)
          (λ number. MatchOption a.told.carve (IsIdle ordered text outcome)
          (λ carve. IsNoRun a carve number text outcome ⊎ IsRun ordered a carve text outcome))
      by_boot None = idle
      by_boot (Some number) = rw none idle

  pub idle_ends : (a : Asking) (old new : Option (List ℕ)) (outcome : Outcome)
      → (a.boot ≡ None) ⊎ (a.told.carve ≡ None)
      → (outcome ≡ outcomes.Clean) × Appends old new (end_text 0 (idle_order ordered))
      → ReportsRace ordered (Ok a) old new outcome
  idle_ends a old new outcome none told =
      (end_text 0 (idle_order ordered), idle_of a _ outcome none (refl, told.0), told.1)

  pub idle_begins : (a : Asking) (old new : Option (List ℕ))
      → (a.boot ≡ None) ⊎ (a.told.carve ≡ None)
      → WritesTextFront (end_text 0 (idle_order ordered)) old new
      → ReportsBegun ordered (Ok a) old new
  idle_begins a old new none front =
      inr (end_text 0 (idle_order ordered), inl (outcomes.Clean, idle_of a _ outcomes.Clean none (refl, refl)), front)

-- ---- what reading comes to

pub raced : (ordered : Bool) (bytes old new : Option (List ℕ)) (asked : Result Asking (ℕ × Fault)) (outcome : Outcome)
    → IfSome bytes (λ all. course_of 1 nothing_asked (lines_of all) ≡ asked)
    → ReportsRace ordered asked old new outcome
    → IsRaced ordered bytes old new outcome
raced ordered bytes old new asked outcome read told =
    record { text = told.0; written = told.2; report = by_bytes bytes read }
  where
    by_bytes : (bytes : Option (List ℕ))
        → IfSome bytes (λ all. course_of 1 nothing_asked (lines_of all) ≡ asked)
        → IfSome bytes (λ all. IsRead ordered (course_of 1 nothing_asked (lines_of all)) told.0 outcome)
    by_bytes None read = tt
    by_bytes (Some all) read = subst (λ r. IsRead ordered r told.0 outcome) (sym read) told.1

pub begun : (ordered : Bool) (bytes old new : Option (List ℕ)) (asked : Result Asking (ℕ × Fault))
    → IfSome bytes (λ all. course_of 1 nothing_asked (lines_of all) ≡ asked)
    → ReportsBegun ordered asked old new
    → IsRaceBegun ordered bytes old new
begun ordered bytes old new asked read (inl none) = inl (subst (λ o. Appends old o []) (sym none) (appends_none old))
begun ordered bytes old new asked read (inr told) =
    inr record { text = told.0; written = told.2; report = by_bytes bytes read }
  where
    by_bytes : (bytes : Option (List ℕ))
        → IfSome bytes (λ all. course_of 1 nothing_asked (lines_of all) ≡ asked)
        → IfSome bytes (λ all. IsBegunOf ordered (course_of 1 nothing_asked (lines_of all)) told.0)
    by_bytes None read = tt
    by_bytes (Some all) read = subst (λ r. IsBegunOf ordered r told.0) (sym read) told.1

pub nothing_begun : (ordered : Bool) (bytes old : Option (List ℕ)) → IsRaceBegun ordered bytes old old
nothing_begun ordered bytes old = inl (appends_none old)

-- ---- what a buffer passes on

pub raced_on : (ordered : Bool) (bytes old mid new : Option (List ℕ)) (outcome : Outcome)
    → IsRaced ordered bytes old mid outcome
    → Keeps mid new
    → IsRaced ordered bytes old new outcome
raced_on ordered bytes old mid new outcome raced keeps =
    record { text = raced.text; written = appends_keeps old mid new _ raced.written keeps; report = raced.report }

pub begun_on : (ordered : Bool) (bytes old mid new : Option (List ℕ))
    → IsRaceBegun ordered bytes old mid
    → Keeps mid new
    → IsRaceBegun ordered bytes old new
begun_on ordered bytes old mid new (inl none) keeps = inl (appends_keeps old mid new [] none keeps)
begun_on ordered bytes old mid new (inr front) keeps =
    inr
    record {
      text = front.text;
      written = (front.written.0, appends_keeps old mid new _ front.written.1 keeps);
      report = front.report;
    }
