-- What the next line of a trace does where a world stands.
use Rattle.std.proofs.Common.{◌≡◌, ◌<◌, ℕ, ◌+◌, refl, subst, ◌∙◌, ap, true, false, List, [], ◌∷◌, ◌++◌, Option, Some, None, Result, Ok, Err, IfSome, MatchOption, option_map, is_some, map, inl, inr}
use Rattle.std.specs.Prelude.{◌⊎◌, ok_or}
use Rattle.std.proofs.lemmas.Bool.{cases_lt}
use Rattle.page_state.specs.declared.entry.Run.{Run}
use Rattle.call_table.specs.declared.step.Step.{Step}
use Rattle.call_table.specs.declared.reply.Call.{Call}
use Rattle.reference_model.specs.model.State.{Reference}
use Rattle.reference_model.specs.model.Step.{Steps}
use Rattle.trace_text.specs.declared.fault.Fault.{Fault}
use Rattle.trace_lines.specs.declared.fault.LineFault.{LineFault}
use Rattle.trace_lines.specs.declared.fault.LineFault.TheVariants.{Place}
use Rattle.trace_text.specs.declared.fault.Fault.TheVariants as faults
use Rattle.trace_lines.specs.declared.line.Line.{Line}
use Rattle.trace_lines.specs.declared.line.Line.TheVariants as lines
use Rattle.trace_lines.specs.declared.line.Query.{Query}
use Rattle.trace_lines.specs.declared.line.Query.TheVariants as queries
use Rattle.trace_lines.specs.declared.response.Response.{Response}
use Rattle.trace_lines.specs.declared.response.Response.TheVariants as responses
use Rattle.trace_reader.specs.declared.outcome.Outcome.{Outcome}
use Rattle.trace_reader.specs.declared.outcome.Outcome.TheVariants as outcomes
use Rattle.trace_text.specs.declared.report.ReportLine.{ReportLine}
use Rattle.trace_text.specs.declared.report.ReportLine.TheVariants as report
use Rattle.trace_text.specs.declared.session.Stop.TheVariants as stops
use Rattle.trace_text.specs.Laws.{reply_of, reported_replies, step_asked}
use Rattle.ghost_judge.specs.declared.disagreement.Disagreement.{Disagreement}
use Rattle.trace_text.specs.Oracles.{Gives, audited_lines, judged_lines, verdict_lines}
use Rattle.trace_text.specs.Replay.{IsReport}
use Rattle.trace_text.specs.Reports.{Begins}
use Rattle.trace_lines.specs.Said.{said}
use Rattle.trace_text.specs.Session.{Standing, Answer, Answers, Follows, MakesStep, Starts, allowed}
use Rattle.trace_text.specs.Worlds.{Machine, in_state, shared_free_count, guest_free_count}
use Rattle.trace_text.proofs.Asked.{Fits, fits}
use Rattle.trace_lines.proofs.Saying.{mapped}

-- runs tell of no step
runs_silent : (runs : List Run) → reported_replies (map report.Response (map responses.Run runs)) ≡ []
runs_silent [] = refl
runs_silent (run ∷ runs) = runs_silent runs

-- nor does what an oracle tells
found_silent : (a b : Option Disagreement) → reported_replies (judged_lines a ++ audited_lines b) ≡ []
found_silent None None = refl
found_silent None (Some d) = refl
found_silent (Some d) None = refl
found_silent (Some d) (Some e) = refl

-- it is a fault
pub record Faulted (number : ℕ) (reported : List ReportLine) (outcome : Outcome) : Type 0 where
  pub fault : Fault
  pub alone : reported ≡ report.Fault number fault ∷ []
  pub ended : outcome ≡ outcomes.Fault

-- it is no step line, and the world stays
pub record Passed (gives : Gives) (number : ℕ) (world : Machine) (line : List ℕ) (rest : List (List ℕ))
    (reported : List ReportLine) (outcome : Outcome) : Type 0 where
  pub new : Standing
  pub stands : new.machine ≡ Some world
  pub silent : step_asked line ≡ None
  pub says : List ReportLine
  pub more : List ReportLine
  pub is : reported ≡ says ++ more
  pub no_step : reported_replies says ≡ []
  pub report : IsReport gives (number + 1) new rest more outcome

-- it is a step line, and the step is made
pub record Stepped (gives : Gives) (number : ℕ) (world : Machine) (line : List ℕ) (rest : List (List ℕ))
    (reported : List ReportLine) (outcome : Outcome) : Type 0 where
  pub cpu : ℕ
  pub step : Step
  pub asked : step_asked line ≡ Some (cpu, step)
  pub known : cpu < world.layout.config.cpus
  pub call : Call
  pub next : Reference
  pub cpu_is : call.cpu ≡ cpu
  pub step_is : call.step ≡ step
  pub made : Steps world.layout world.state call next
  pub new : Standing
  pub stands : new.machine ≡ Some (in_state world next)
  pub told : List ReportLine
  pub no_step : reported_replies told ≡ []
  pub more : List ReportLine
  pub is : reported ≡ report.Response (responses.Step number cpu call.reply) ∷ (told ++ more)
  pub report : IsReport gives (number + 1) new rest more outcome

abbrev pub OneLine : Gives → ℕ → Machine → List ℕ → List (List ℕ) → List ReportLine → Outcome → Type 0
OneLine gives number world line rest reported outcome =
    Faulted number reported outcome
    ⊎ (Passed gives number world line rest reported outcome ⊎ Stepped gives number world line rest reported outcome)

of_some : {X : Type 0} (o : Option X) (x : X) (P : Type 0) (Q : X → Type 0) → o ≡ Some x → MatchOption o P Q → Q x
of_some o x P Q e h = rw e at h

off : true ≡ false → ⊥
off h = cc

module _ (gives : Gives) (number : ℕ) (line : List ℕ) (rest : List (List ℕ)) (old new : Standing) (answer : Answer)
    (reported : List ReportLine) (outcome : Outcome)
    (begins : Begins number answer (λ more end. IsReport gives (number + 1) new rest more end) reported outcome)
    (world : Machine) (stands : old.machine ≡ Some world) where
  fault_ends : (fault : Fault)
      → answer ≡ Err (stops.Fault fault)
      → OneLine gives number world line rest reported outcome
  fault_ends fault e = let b = rw e at begins in inl (record { fault = fault; alone = b.0; ended = b.1 })

  still : new ≡ old → new.machine ≡ Some world
  still e = ap (λ (s : Standing). s.machine) e ∙ stands

  asks : (o : Option Response) (fault : Fault)
      → IfSome o (λ says. reply_of says ≡ None)
      → answer ≡ ok_or (option_map (λ line. report.Response line ∷ []) o) (stops.Fault fault)
      → new ≡ old
      → step_asked line ≡ None
      → OneLine gives number world line rest reported outcome
  asks None fault n e same silent = fault_ends fault e
  asks (Some says) fault n e same silent =
      let b = rw e at begins in
      inr
      (inl
      (record {
        new = new;
        stands = still same;
        silent = silent;
        says = report.Response says
            ∷ [];
        more = b.0;
        is = b.1;
        no_step = rw n refl;
        report = b.2;
      }))

  by_query : (query : Query)
      → Answers query world old answer new
      → step_asked line ≡ None
      → OneLine gives number world line rest reported outcome
  by_query (queries.Word tree page level) m silent =
      asks (option_map responses.Word m.0) faults.Path
      (mapped (λ says. reply_of says ≡ None) responses.Word (λ w. refl) m.0) m.2.0 m.2.1 silent
  by_query queries.FreeShared m silent =
      asks (Some (responses.Free (shared_free_count world))) (faults.Line Place) refl m.0 m.1 silent
  by_query (queries.FreeGuest slot) m silent =
      asks (Some (responses.Free (guest_free_count world slot))) (faults.Line Place) refl m.0 m.1 silent
  by_query (queries.Show tree) m silent =
      let b = rw m.2 at begins in
      inr
      (inl
      (record {
        new = new;
        stands = still m.3;
        silent = silent;
        says =
            map report.Response (map responses.Run m.0);
        more =
            b.0;
        is = b.1;
        no_step = runs_silent m.0;
        report = b.2;
      }))

  by_said : (r : Result (Option Line) LineFault)
      → Fits true r (step_asked line)
      → Follows gives number r old answer new
      → OneLine gives number world line rest reported outcome
  by_said (Err fault) fit f = fault_ends (faults.Line fault) f.0
  by_said (Ok None) fit f =
      let b = rw f.0 at begins in
      inr
      (inl
      (record {
        new = new;
        stands = still f.1;
        silent = fit;
        says = [];
        more = b.0;
        is = b.1;
        no_step = refl;
        report = b.2;
      }))
  by_said (Ok (Some (lines.Setting setting))) fit f = absurd (off fit.0)
  by_said (Ok (Some lines.Boot)) fit f = absurd (off fit.0)
  by_said (Ok (Some (lines.Step cpu step))) fit f =
      let m = of_some old.machine world _ (λ w. MakesStep gives number cpu step w old answer new) stands f in
      elim (cases_lt cpu world.layout.config.cpus) [
        | inr over ↦ let x = m.0 over in fault_ends faults.Cpu x.0
        | inl less ↦
            elim (m.1 less) [
              | inl want ↦ absurd (let b = rw want at begins in b)
              | inr s ↦
                  let b = rw s.lines at begins in
                  inr
                  (inr
                  (record {
                    cpu = cpu;
                    step = step;
                    asked = fit.1;
                    known = less;
                    call = s.call;
                    next = s.next;
                    cpu_is =
                        s.cpu_is;
                    step_is =
                        s.step_is;
                    made =
                        s.made;
                    new =
                        new;
                    stands =
                        ap (λ (z : Standing). z.machine) s.standing;
                    told =
                        verdict_lines s.verdict;
                    no_step =
                        found_silent s.verdict.judged s.verdict.audited;
                    more =
                        b.0;
                    is = b.1;
                    report = b.2;
                  }))
            ]
      ]
  by_said (Ok (Some (lines.Query query))) fit f =
      by_query query (of_some old.machine world _ (λ w. Answers query w old answer new) stands f) fit.1
  by_said (Ok (Some (lines.Poke poke))) fit f = absurd fit
  by_said (Ok (Some lines.Start)) fit f =
      let m = of_some old.machine world _ (λ w. Starts w old answer new) stands f in
      let b = rw m.0 at begins in
      inr
      (inl
      (record {
        new = new;
        stands = ap (λ (s : Standing). s.machine) m.1
            ∙ stands;
        silent = fit.1;
        says = [];
        more = b.0;
        is = b.1;
        no_step = refl;
        report = b.2;
      }))

pub one_line : (gives : Gives) (number : ℕ) (old : Standing) (world : Machine) (line : List ℕ) (rest : List (List ℕ))
    (reported : List ReportLine) (outcome : Outcome)
    → old.machine ≡ Some world
    → IsReport gives number old (line ∷ rest) reported outcome
    → OneLine gives number world line rest reported outcome
one_line gives number old world line rest reported outcome stands (answer, new, played, begins) =
    elim (cases_lt 1048576 number) [
      | inl many ↦ let x = played.past many in
          fault_ends gives number line rest old new answer reported outcome begins world stands faults.Lines x.0
      | inr few ↦
          by_said gives number line rest old new answer reported outcome begins world stands
          (said (allowed true old.started) old.told line) (fits old.told true old.started line)
          (subst (λ b. Follows gives number (said (allowed b old.started) old.told line) old answer new)
          (ap (λ o. is_some o) stands) (played.runs few))
    ]
