-- A report of a replay whose oracle finds no disagreement.
use Rattle.std.proofs.Common.{◌≡◌, ℕ, zero, suc, ◌+◌, ◌∙◌, refl, sym, ap, arith, subst, All, List, [], ◌∷◌, ◌++◌, length, map, Option, Some, None, Result, Ok, Err, MatchOption, MatchResult, is_some, inl, inr}
use Rattle.std.specs.Prelude.{⊤, ok_or, option_map}
use Rattle.std.proofs.lemmas.Bool.{cases_lt}
use Rattle.std.proofs.lemmas.List.Elements.{All-append, All-cons, All-nil}
use Rattle.page_state.specs.declared.entry.PageRange.{PageRange}
use Rattle.page_state.specs.declared.entry.Run.{Run}
use Rattle.call_table.specs.declared.step.Step.{Step}
use Rattle.page_state.specs.Regions.{memory_of}
use Rattle.trace_lines.specs.declared.fault.LineFault.{LineFault}
use Rattle.trace_lines.specs.declared.fault.LineFault.TheVariants.{Place}
use Rattle.trace_lines.specs.declared.line.Line.{Line}
use Rattle.trace_lines.specs.declared.line.Line.TheVariants as lines
use Rattle.trace_lines.specs.declared.line.Query.{Query}
use Rattle.trace_lines.specs.declared.line.Query.TheVariants as queries
use Rattle.trace_lines.specs.declared.line.Setting.{Setting}
use Rattle.trace_reader.specs.declared.outcome.Outcome.{Outcome}
use Rattle.trace_reader.specs.declared.outcome.Outcome.TheVariants as outcomes
use Rattle.trace_lines.specs.declared.response.Response.{Response}
use Rattle.trace_lines.specs.declared.response.Response.TheVariants as responses
use Rattle.trace_lines.specs.Said.{said}
use Rattle.trace_lines.specs.Settings.{config_of, told_after}
use Rattle.trace_text.specs.declared.fault.Fault.{Fault}
use Rattle.trace_text.specs.declared.fault.Fault.TheVariants as faults
use Rattle.trace_text.specs.declared.oracle.Verdict.{Verdict}
use Rattle.trace_text.specs.declared.report.ReportLine.{ReportLine}
use Rattle.trace_text.specs.declared.report.ReportLine.TheVariants as report
use Rattle.trace_text.specs.declared.session.Stop.{Stop}
use Rattle.trace_text.specs.declared.session.Stop.TheVariants as stops
use Rattle.trace_text.specs.Laws.{HasNoDisagreement, IsAgreeing, TraceAgrees}
use Rattle.trace_text.specs.Oracles.{IsAgreed, agreed, audited_lines, judged_lines, verdict_lines}
use Rattle.trace_text.specs.Replay.{IsReport, outcome_of}
use Rattle.trace_text.specs.Reports.{Begins}
use Rattle.trace_text.specs.Session.{Answer, Answers, Follows, HasBooted, IsNoWorld, MakesStep, Standing, Starts, allowed, at_start}
use Rattle.trace_text.specs.Worlds.{Machine, shared_free_count, guest_free_count}

-- an answer that tells of no disagreement, and none was told before
pub record Quiet (answer : Answer) (new : Standing) : Type 0 where
  pub lines : MatchResult answer (All IsAgreeing) (λ stop. ⊤)
  pub count : MatchResult answer (λ told. new.disagreements ≡ 0) (λ stop. ⊤)

none_told : (v : Verdict) → IsAgreed v → verdict_lines v ≡ []
none_told v a = ap (λ o. judged_lines o ++ audited_lines v.audited) a.judged ∙ ap audited_lines a.audited

pub stopped : (answer : Answer) (stop : Stop) (new : Standing) → answer ≡ Err stop → Quiet answer new
stopped answer stop new e = subst (λ a. Quiet a new) (sym e) (record { lines = tt; count = tt })

one : (line : Response) → All IsAgreeing (report.Response line ∷ [])
one line = All-cons IsAgreeing (report.Response line) [] tt (All-nil IsAgreeing)

runs_quiet : (runs : List Run) → All IsAgreeing (map report.Response (map responses.Run runs))
runs_quiet [] = All-nil IsAgreeing
runs_quiet (run ∷ runs) =
    All-cons IsAgreeing (report.Response (responses.Run run)) (map report.Response (map responses.Run runs)) tt
    (runs_quiet runs)

module _ (old new : Standing) (answer : Answer) (none : old.disagreements ≡ 0) where
  kept : new ≡ old → new.disagreements ≡ 0
  kept e = ap (λ (s : Standing). s.disagreements) e ∙ none

  told : (says : List ReportLine) → answer ≡ Ok says → All IsAgreeing says → new.disagreements ≡ 0 → Quiet answer new
  told says e all zero' = subst (λ a. Quiet a new) (sym e) (record { lines = all; count = zero' })

  tells : (setting : Setting) (a : Answer) → answer ≡ a
      → MatchResult a (λ reported. (reported ≡ []) × (new ≡ record old { told = told_after setting old.told }))
      (λ stop. (stop ≡ stops.NoMemory) × (new ≡ old))
      → Quiet answer new
  tells setting (Ok says) e h =
      told says e (subst (All IsAgreeing) (sym h.0) (All-nil IsAgreeing))
      (ap (λ (s : Standing). s.disagreements) h.1 ∙ none)
  tells setting (Err stop) e h = stopped answer stop new e

  asks : (o : Option Response) (fault : Fault)
      → answer ≡ ok_or (option_map (λ line. report.Response line ∷ []) o) (stops.Fault fault)
      → new ≡ old
      → Quiet answer new
  asks None fault e same = stopped answer (stops.Fault fault) new e
  asks (Some line) fault e same = told (report.Response line ∷ []) e (one line) (kept same)

  by_query : (m : Machine) (query : Query) → Answers query m old answer new → Quiet answer new
  by_query m (queries.Word tree page level) h = asks (option_map responses.Word h.0) faults.Path h.2.0 h.2.1
  by_query m queries.FreeShared h = asks (Some (responses.Free (shared_free_count m))) (faults.Line Place) h.0 h.1
  by_query m (queries.FreeGuest slot) h =
      asks (Some (responses.Free (guest_free_count m slot))) (faults.Line Place) h.0 h.1
  by_query m (queries.Show tree) h = told (map report.Response (map responses.Run h.0)) h.2 (runs_quiet h.0) (kept h.3)

  by_step : (number cpu : ℕ) (step : Step) (m : Machine)
      → MakesStep agreed number cpu step m old answer new
      → Quiet answer new
  by_step number cpu step m h = elim (cases_lt cpu m.layout.config.cpus) [
    | inr over ↦ stopped answer (stops.Fault faults.Cpu) new (h.0 over).0
    | inl less ↦ elim (h.1 less) [
      | inl want ↦ stopped answer stops.NoMemory new want
      | inr s ↦
          let quiet : verdict_lines s.verdict ≡ [] = none_told s.verdict s.given in
          told _ (s.lines ∙ ap (λ ls. Ok (report.Response (responses.Step number cpu s.call.reply) ∷ ls)) quiet)
          (one (responses.Step number cpu s.call.reply))
          (ap (λ (x : Standing). x.disagreements) s.standing ∙ ap (λ ls. old.disagreements + length ls) quiet
          ∙ omega (arith, none))
    ]
  ]

  by_machine : (does : Machine → Standing → Answer → Standing → Type 0)
      → ((m : Machine) → does m old answer new → Quiet answer new)
      → (o : Option Machine)
      → MatchOption o ((answer ≡ Err (stops.Fault (faults.Line Place))) × (new ≡ old)) (λ m. does m old answer new)
      → Quiet answer new
  by_machine does quiet None h = stopped answer (stops.Fault (faults.Line Place)) new h.0
  by_machine does quiet (Some m) h = quiet m h

  booted : (carve : PageRange) (a : Answer) → answer ≡ a
      → MatchResult a
      (λ reported. (m : Machine)
      × (line : Response)
      × (reported ≡ report.Response line ∷ [])
      × HasBooted carve old m line new)
      (λ stop. IsNoWorld stop (memory_of old.told.regions carve) (config_of old.told) × (new ≡ old))
      → Quiet answer new
  booted carve (Ok says) e h =
      told says e (subst (All IsAgreeing) (sym h.2) (one h.1))
      (ap (λ (s : Standing). s.disagreements) h.3.standing ∙ none)
  booted carve (Err stop) e h = stopped answer stop new e

  by_boot : (carve : Option PageRange)
      → MatchOption carve ((answer ≡ Err (stops.Fault (faults.Line Place))) × (new ≡ old))
      (λ carve. MatchResult answer
      (λ reported. (m : Machine)
      × (line : Response)
      × (reported ≡ report.Response line ∷ [])
      × HasBooted carve old m line new)
      (λ stop. IsNoWorld stop (memory_of old.told.regions carve) (config_of old.told) × (new ≡ old)))
      → Quiet answer new
  by_boot None h = stopped answer (stops.Fault (faults.Line Place)) new h.0
  by_boot (Some carve) h = booted carve answer refl h

  pub by_said : (number : ℕ) (r : Result (Option Line) LineFault)
      → Follows agreed number r old answer new
      → Quiet answer new
  by_said number (Err fault) h = stopped answer (stops.Fault (faults.Line fault)) new h.0
  by_said number (Ok None) h = told [] h.0 (All-nil IsAgreeing) (kept h.1)
  by_said number (Ok (Some (lines.Setting setting))) h = tells setting answer refl h
  by_said number (Ok (Some lines.Boot)) h = by_boot old.told.carve h
  by_said number (Ok (Some (lines.Step cpu step))) h =
      by_machine (MakesStep agreed number cpu step) (by_step number cpu step) old.machine h
  by_said number (Ok (Some (lines.Query query))) h = by_machine (Answers query) (λ m. by_query m query) old.machine h
  by_said number (Ok (Some (lines.Poke poke))) h = stopped answer (stops.Fault (faults.Line Place)) new h.0
  by_said number (Ok (Some lines.Start)) h =
      by_machine Starts
      (λ m k. told [] k.0 (All-nil IsAgreeing) (ap (λ (s : Standing). s.disagreements) k.1 ∙ none)) old.machine h

unlike : outcomes.Fault ≡ outcomes.Disagreed → ⊥
unlike h = cc

clean : (n : ℕ) → n ≡ 0 → outcome_of n ≡ outcomes.Disagreed → ⊥
clean zero e h = cc
clean (suc n) e h = absurd (omega (arith, e))

module _ (number : ℕ) (new : Standing) (rest : List (List ℕ)) (reported : List ReportLine) (outcome : Outcome)
    (follows : (more : List ReportLine)
    → new.disagreements ≡ 0
    → IsReport agreed (number + 1) new rest more outcome
    → HasNoDisagreement more outcome) where
  by_answer : (answer : Answer)
      → Quiet answer new
      → Begins number answer (λ more end. IsReport agreed (number + 1) new rest more end) reported outcome
      → HasNoDisagreement reported outcome
  by_answer (Err (stops.Fault fault)) q b = record {
    lines =
        subst (All IsAgreeing) (sym b.0) (All-cons IsAgreeing (report.Fault number fault) [] tt (All-nil IsAgreeing));
    outcome_is = λ e. unlike (sym b.1 ∙ e);
  }
  by_answer (Err stops.NoMemory) q b = absurd b
  by_answer (Ok says) q b =
      let r = follows b.0 q.count b.2 in
      record {
        lines = subst (All IsAgreeing) (sym b.1) (All-append IsAgreeing says b.0 q.lines r.lines);
        outcome_is = r.outcome_is;
      }

agrees : (trace : List (List ℕ)) (number : ℕ) (old : Standing) (reported : List ReportLine) (outcome : Outcome)
    → old.disagreements ≡ 0 → IsReport agreed number old trace reported outcome → HasNoDisagreement reported outcome
agrees [] number old reported outcome none h = record {
  lines =
      subst (All IsAgreeing) (sym h.0)
      (All-cons IsAgreeing (report.End old.steps old.disagreements) [] none (All-nil IsAgreeing));
  outcome_is = λ e. clean old.disagreements none (sym h.1 ∙ e);
}
agrees (line ∷ rest) number old reported outcome none (answer, new, played, begins) =
    by_answer number new rest reported outcome
    (λ more zero' report. agrees rest (number + 1) new more outcome zero' report) answer
    (elim (cases_lt 1048576 number) [
      | inl many ↦ stopped answer (stops.Fault faults.Lines) new (played.past many).0
      | inr few ↦ by_said old new answer none number (said (allowed (is_some old.machine) old.started) old.told line)
          (played.runs few)
    ])
    begins

pub trace_agrees : TraceAgrees
trace_agrees trace reported outcome h = agrees trace 1 at_start reported outcome refl h
