-- What a report that broke off says of its trace, and which step lines are answered.
use Rattle.std.proofs.Common.{◌≡◌, ℕ, ◌+◌, refl, ap, sym, ◌∙◌, subst, arith, inl, inr, List, [], ◌∷◌, ◌++◌, length, map, take, None, Ok, Err}
use Rattle.std.proofs.Math.Seq.{take-append_seam}
use Rattle.std.proofs.lemmas.List.{append-nil, append_assoc}
use Rattle.call_table.specs.declared.reply.Call.{Call}
use Rattle.call_table.specs.declared.step.Step.{Step}
use Rattle.trace_reader.specs.Reading.{lines_of}
use Rattle.trace_reader.specs.declared.outcome.Outcome.{Outcome}
use Rattle.trace_reader.specs.declared.outcome.Outcome.TheVariants as outcomes
use Rattle.trace_text.specs.declared.report.ReportLine.{ReportLine}
use Rattle.trace_text.specs.declared.report.ReportLine.TheVariants as report
use Rattle.trace_text.specs.declared.session.Stop.TheVariants as stops
use Rattle.trace_text.specs.BrokenOff.{AllAnswered, BeginningReports, BegunWrites, FirstAnswered, ReportsFront, asking, replying}
use Rattle.trace_text.specs.Laws.{ReportsBoot, ReportsNoBoot, ReportsRun, reported_replies, reply_of, reported_reply, steps_asked}
use Rattle.trace_text.specs.Oracles.{Gives}
use Rattle.trace_text.specs.Replay.{IsBeginning, IsPlayed, IsReport, end_line, outcome_of}
use Rattle.trace_text.specs.Reports.{Begins}
use Rattle.trace_text.specs.Session.{Answer, Standing, at_start}
use Rattle.trace_text.specs.Texts.{text_of_report}
use Rattle.trace_text.specs.Worlds.{Machine}
use Rattle.trace_text.proofs.ReplayLemmas.{text_of_report-append}
use Rattle.trace_text.proofs.ToldRuns.{trace_runs}

module _ (gives : Gives) where
  -- the report of no line, behind lines that are none
  at_once : (number : ℕ) (old : Standing) (trace : List (List ℕ)) (lines : List ReportLine)
      → lines ≡ []
      → ReportsFront gives number old trace lines
  at_once number old trace lines e = record {
    front = [];
    rest = trace;
    parts = refl;
    last = end_line old ∷ [];
    few = omega arith;
    outcome = outcome_of old.disagreements;
    report = (ap (λ ls. ls ++ end_line old ∷ []) e, refl);
  }

  whole : (number : ℕ) (old : Standing) (lines : List ReportLine)
      → lines ≡ end_line old ∷ []
      → ReportsFront gives number old [] lines
  whole number old lines e =
      record {
        front = [];
        rest = [];
        parts = refl;
        last = [];
        few = omega arith;
        outcome = outcome_of old.disagreements;
        report = (append-nil lines ∙ e, refl);
      }

  faulted : (number : ℕ) (old : Standing) (line : List ℕ) (rest : List (List ℕ)) (lines : List ReportLine)
      (answer : Answer) (new : Standing)
      → IsPlayed gives number line old answer new
      → Begins number answer (λ more end. IsReport gives (number + 1) new [] more end) lines outcomes.Fault
      → ReportsFront gives number old (line ∷ rest) lines
  faulted number old line rest lines answer new played begins = record {
    front = line ∷ [];
    rest = rest;
    parts = refl;
    last = [];
    few = omega arith;
    outcome = outcomes.Fault;
    report = (
      answer,
      new,
      played,
      subst
          (λ ls. Begins number answer (λ more end. IsReport gives (number + 1) new [] more end) ls outcomes.Fault)
          (sym (append-nil lines)) begins,
    );
  }

  going_on : (number : ℕ) (old : Standing) (line : List ℕ) (rest : List (List ℕ)) (lines told more : List ReportLine)
      (new : Standing)
      → IsPlayed gives number line old (Ok told) new
      → lines ≡ told ++ more
      → ReportsFront gives (number + 1) new rest more
      → ReportsFront gives number old (line ∷ rest) lines
  going_on number old line rest lines told more new played e r = record {
    front = line ∷ r.front;
    rest = r.rest;
    parts = ap (λ ls. line ∷ ls) r.parts;
    last = r.last;
    few = r.few;
    outcome = r.outcome;
    report =
        (Ok told, new, played, (more ++ r.last, ap (λ ls. ls ++ r.last) e ∙ append_assoc told more r.last, r.report));
  }

  one_more : (number : ℕ) (old : Standing) (line : List ℕ) (rest : List (List ℕ)) (lines : List ReportLine)
      (answer : Answer) (new : Standing) (outcome : Outcome)
      → IsPlayed gives number line old answer new
      → ((more : List ReportLine)
      → IsBeginning gives (number + 1) new rest more
      → ReportsFront gives (number + 1) new rest more)
      → Begins number answer (λ more end. IsBeginning gives (number + 1) new rest more) lines outcome
      → ReportsFront gives number old (line ∷ rest) lines
  one_more number old line rest lines (Err (stops.Fault fault)) new outcome played on begins =
      faulted number old line rest lines (Err (stops.Fault fault)) new played (begins.0, refl)
  one_more number old line rest lines (Err stops.NoMemory) new outcome played on begins = absurd begins
  one_more number old line rest lines (Ok told) new outcome played on begins =
      going_on number old line rest lines told begins.0 new played begins.1 (on begins.0 begins.2)

  front_of : (trace : List (List ℕ)) (number : ℕ) (old : Standing) (lines : List ReportLine)
      → IsBeginning gives number old trace lines
      → ReportsFront gives number old trace lines
  front_of [] number old lines (inl e) = at_once number old [] lines e
  front_of [] number old lines (inr (outcome, e)) = whole number old lines e.0
  front_of (line ∷ rest) number old lines (inl e) = at_once number old (line ∷ rest) lines e
  front_of (line ∷ rest) number old lines (inr h) =
      one_more number old line rest lines h.0 h.1 h.2 h.3 (λ more k. front_of rest (number + 1) h.1 more k) h.4

pub beginning_reports : (gives : Gives) → BeginningReports gives
beginning_reports gives number start trace lines h = front_of gives trace number start lines h

-- texts

pub begun_writes : (gives : Gives) → BegunWrites gives
begun_writes gives trace old new h =
    let r = front_of gives (lines_of trace) 1 at_start h.lines h.report in
    let text =
    text_of_report-append h.lines r.last ∙ ap (λ xs. xs ++ text_of_report r.last) h.text
    ∙ append_assoc h.front h.behind (text_of_report r.last) in
    record {
      front = r.front;
      rest = r.rest;
      parts = r.parts;
      lines = h.lines ++ r.last;
      outcome = r.outcome;
      report = r.report;
      count = length h.front;
      written =
          h.written
          ∙ ap (λ xs. old ++ xs)
          (sym
          (ap (take (length h.front)) text ∙ take-append_seam h.front (h.behind ++ text_of_report r.last)));
    }

-- step lines and their replies

replies_by : (cs : List Call) → replying (map (λ c. (c.cpu, c.reply)) cs) ≡ map (λ c. c.cpu) cs
replies_by [] = refl
replies_by (c ∷ cs) = ap (λ xs. c.cpu ∷ xs) (replies_by cs)

steps_by : (cs : List Call) (left : List (ℕ × Step))
    → asking (map (λ c. (c.cpu, c.step)) cs ++ left) ≡ map (λ c. c.cpu) cs ++ asking left
steps_by [] left = refl
steps_by (c ∷ cs) left = ap (λ xs. c.cpu ∷ xs) (steps_by cs left)

-- the replies of a report that tells a run, and the CPUs of the steps that are left
run_answers : (m : Machine) (trace : List (List ℕ)) (reported : List ReportLine) (outcome : Outcome)
    (r : ReportsRun m trace reported outcome)
    → asking (steps_asked trace) ≡ replying (reported_replies reported) ++ asking r.left
run_answers m trace reported outcome r =
    ap asking r.steps ∙ steps_by r.calls r.left
    ∙ ap (λ xs. xs ++ asking r.left) (sym (ap replying r.replies ∙ replies_by r.calls))

-- a line that is no step's tells no reply
silent_front : (line : ReportLine) (more : List ReportLine)
    → reported_reply line ≡ None
    → reported_replies (line ∷ more) ≡ reported_replies more
silent_front line more e = rw e refl

module _ (gives : Gives) (trace : List (List ℕ)) (reported : List ReportLine) (outcome : Outcome) where
  no_boot_answers : ReportsNoBoot trace reported outcome → reported_replies reported ≡ []
  no_boot_answers b = ap reported_replies b.alone ∙ silent_front b.line [] b.no_step

  boot_answers : ReportsBoot gives 1 at_start trace reported outcome
      → (left : List (ℕ × Step))
      × (asking (steps_asked trace) ≡ replying (reported_replies reported) ++ asking left)
      × ((outcome ≡ outcomes.Fault → ⊥) → left ≡ [])
  boot_answers b =
      let same : reported_replies reported ≡ reported_replies b.more =
      ap reported_replies b.first ∙ silent_front (report.Response b.line) b.more (ap reply_of b.booted.line) in (
        b.run.left,
        run_answers b.machine trace b.more outcome b.run
            ∙ ap (λ xs. replying xs ++ asking b.run.left) (sym same),
        b.run.all,
      )

pub first_answered : (gives : Gives) → FirstAnswered gives
first_answered gives trace reported outcome h = elim (trace_runs gives trace reported outcome h) [
  | inl b ↦ (
    asking (steps_asked trace),
    ap (λ xs. replying xs ++ asking (steps_asked trace)) (sym (no_boot_answers gives trace reported outcome b)),
  )
  | inr b ↦ let a = boot_answers gives trace reported outcome b in (asking a.0, a.1)
]

pub all_answered : (gives : Gives) → AllAnswered gives
all_answered gives trace reported outcome h sound = elim (trace_runs gives trace reported outcome h) [
  | inl b ↦ ap asking (b.all sound) ∙ ap replying (sym (no_boot_answers gives trace reported outcome b))
  | inr b ↦ let a = boot_answers gives trace reported outcome b in
      a.1 ∙ ap (λ xs. replying (reported_replies reported) ++ asking xs) (a.2 sound)
      ∙ append-nil (replying (reported_replies reported))
]
