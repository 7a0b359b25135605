-- A line does the same under another number.
use Rattle.std.proofs.Common.{◌≡◌, refl, sym, ◌∙◌, ap, subst, ℕ, ◌+◌, List, [], ◌∷◌, ◌++◌, map, Option, Some, None, Result, Ok, Err, MatchOption, MatchResult, option_map, inl, inr, arith}
use Rattle.std.specs.Prelude.{ok_or}
use Rattle.std.proofs.lemmas.Bool.{cases_lt}
use Rattle.page_state.specs.declared.entry.PageRange.{PageRange}
use Rattle.page_state.specs.declared.entry.Run.{Run}
use Rattle.page_state.specs.Regions.{memory_of}
use Rattle.call_table.specs.declared.step.Step.{Step}
use Rattle.trace_lines.specs.declared.fault.LineFault.{LineFault}
use Rattle.trace_lines.specs.declared.fault.LineFault.TheVariants.{Place}
use Rattle.trace_lines.specs.declared.line.Line.{Line}
use Rattle.trace_lines.specs.declared.line.Line.TheVariants as lines
use Rattle.trace_lines.specs.declared.line.Query.{Query}
use Rattle.trace_lines.specs.declared.line.Query.TheVariants as queries
use Rattle.trace_lines.specs.declared.line.Setting.{Setting}
use Rattle.trace_lines.specs.declared.response.Response.{Response}
use Rattle.trace_lines.specs.declared.response.Response.TheVariants as responses
use Rattle.trace_lines.specs.Settings.{config_of, told_after}
use Rattle.trace_text.specs.declared.fault.Fault.{Fault}
use Rattle.trace_text.specs.declared.fault.Fault.TheVariants as faults
use Rattle.trace_text.specs.declared.oracle.Verdict.{Verdict}
use Rattle.trace_text.specs.declared.report.ReportLine.{ReportLine}
use Rattle.trace_text.specs.declared.report.ReportLine.TheVariants as report
use Rattle.trace_text.specs.declared.session.Stop.{Stop}
use Rattle.trace_text.specs.declared.session.Stop.TheVariants as stops
use Rattle.trace_text.specs.Oracles.{IsAgreed, agreed, audited_lines, judged_lines, verdict_lines}
use Rattle.trace_text.specs.Session.{Answer, Answers, Follows, HasBooted, IsNoWorld, MakesStep, Standing, Starts}
use Rattle.trace_text.specs.Worlds.{Machine, shared_free_count, guest_free_count}
use Rattle.trace_check.specs.Misses.{unexpected}
use Rattle.trace_check.specs.Shown.{shown}

-- lines of a report that say the same but for their numbers, and are all plain
pub record SameLines (a b : List ReportLine) : Type 0 where
  pub shows : map shown a ≡ map shown b
  pub plain : (number : ℕ) → unexpected number b ≡ []

-- the same of answers
abbrev pub Same : Answer → Answer → Type 0
Same (Ok a) (Ok b) = SameLines a b
Same (Ok a) (Err stop) = ⊥
Same (Err stop) (Ok b) = ⊥
Same (Err stop) (Err other) = stop ≡ other

same_err : (answer : Answer) (stop : Stop) → answer ≡ Err stop → Same answer answer
same_err answer stop e = subst (λ a. Same a a) (sym e) refl

same_ok : (answer : Answer) (says : List ReportLine)
    → answer ≡ Ok says
    → ((number : ℕ) → unexpected number says ≡ [])
    → Same answer answer
same_ok answer says e plain = subst (λ a. Same a a) (sym e) (record { shows = refl; plain = plain })

runs_plain : (runs : List Run) (number : ℕ) → unexpected number (map report.Response (map responses.Run runs)) ≡ []
runs_plain [] number = refl
runs_plain (run ∷ runs) number = runs_plain runs number

none_told : (v : Verdict) → IsAgreed v → verdict_lines v ≡ []
none_told v a = ap (λ o. judged_lines o ++ audited_lines v.audited) a.judged ∙ ap audited_lines a.audited

module _ (number other : ℕ) (old new : Standing) (answer : Answer) where
  -- what is the same whatever the number
  tells : (setting : Setting) (a : Answer) → answer ≡ a
      → MatchResult a (λ reported. (reported ≡ []) × (new ≡ record old { told = told_after setting old.told }))
      (λ stop. (stop ≡ stops.NoMemory) × (new ≡ old))
      → Same answer answer
  tells setting (Ok says) e h = same_ok answer [] (e ∙ ap (λ ls. Ok ls) h.0) (λ k. refl)
  tells setting (Err stop) e h = same_err answer stop e

  asks : (o : Option Response) (fault : Fault)
      → answer ≡ ok_or (option_map (λ line. report.Response line ∷ []) o) (stops.Fault fault)
      → Same answer answer
  asks None fault e = same_err answer (stops.Fault fault) e
  asks (Some line) fault e = same_ok answer (report.Response line ∷ []) e (λ k. refl)

  by_query : (m : Machine) (query : Query) → Answers query m old answer new → Same answer answer
  by_query m (queries.Word tree page level) h = asks (option_map responses.Word h.0) faults.Path h.2.0
  by_query m queries.FreeShared h = asks (Some (responses.Free (shared_free_count m))) (faults.Line Place) h.0
  by_query m (queries.FreeGuest slot) h = asks (Some (responses.Free (guest_free_count m slot))) (faults.Line Place) h.0
  by_query m (queries.Show tree) h = same_ok answer (map report.Response (map responses.Run h.0)) h.2 (runs_plain h.0)

  by_machine : (does : Machine → Standing → Answer → Standing → Type 0)
      → ((m : Machine) → does m old answer new → Same answer answer)
      → (o : Option Machine)
      → MatchOption o ((answer ≡ Err (stops.Fault (faults.Line Place))) × (new ≡ old)) (λ m. does m old answer new)
      → Same answer answer
  by_machine does same None h = same_err answer (stops.Fault (faults.Line Place)) h.0
  by_machine does same (Some m) h = same m h

  booted : (carve : PageRange) (a : Answer) → answer ≡ a
      → MatchResult a
      (λ reported. (m : Machine)
      × (line : Response)
      × (reported ≡ report.Response line ∷ [])
      × HasBooted carve old m line new)
      (λ stop. IsNoWorld stop (memory_of old.told.regions carve) (config_of old.told) × (new ≡ old))
      → Same answer answer
  booted carve (Ok says) e h = same_ok answer (report.Response h.1 ∷ []) (e ∙ ap (λ ls. Ok ls) h.2) (λ k. refl)
  booted carve (Err stop) e h = same_err answer stop e

  by_boot : (carve : Option PageRange)
      → MatchOption carve ((answer ≡ Err (stops.Fault (faults.Line Place))) × (new ≡ old))
      (λ carve. MatchResult answer
      (λ reported. (m : Machine)
      × (line : Response)
      × (reported ≡ report.Response line ∷ [])
      × HasBooted carve old m line new)
      (λ stop. IsNoWorld stop (memory_of old.told.regions carve) (config_of old.told) × (new ≡ old)))
      → Same answer answer
  by_boot None h = same_err answer (stops.Fault (faults.Line Place)) h.0
  by_boot (Some carve) h = booted carve answer refl h

  -- an answer under the other number
  abbrev Renumbered : (Answer → Type 0) → Type 0
  Renumbered follows = (a : Answer) × follows a × Same answer a

  by_step : (cpu : ℕ) (step : Step) (m : Machine)
      → MakesStep agreed number cpu step m old answer new
      → Renumbered (λ a. MakesStep agreed other cpu step m old a new)
  by_step cpu step m h = elim (cases_lt cpu m.layout.config.cpus) [
    | inr over ↦ (
      answer,
      ((λ o. h.0 o), (λ less. absurd (omega (arith, over, less)))),
      same_err answer (stops.Fault faults.Cpu) (h.0 over).0,
    )
    | inl less ↦ elim (h.1 less) [
      | inl want ↦
          (answer, ((λ o. absurd (omega (arith, o, less))), (λ l. inl want)), same_err answer stops.NoMemory want)
      | inr s ↦
          let quiet : verdict_lines s.verdict ≡ [] = none_told s.verdict s.given in
          let says : ℕ → List ReportLine =
          λ n. report.Response (responses.Step n cpu s.call.reply) ∷ verdict_lines s.verdict in
          let plain : (k : ℕ) → unexpected k (says other) ≡ [] = λ k. ap (unexpected k) quiet in (
            Ok (says other),
            (
              (λ o. absurd (omega (arith, o, less))),
              (λ l. inr
                  (record {
                    call = s.call;
                    next = s.next;
                    verdict = s.verdict;
                    cpu_is = s.cpu_is;
                    step_is = s.step_is;
                    made = s.made;
                    given = s.given;
                    lines = refl;
                    standing = s.standing;
                  })),
            ),
            subst (λ a. Same a (Ok (says other))) (sym s.lines) (record { shows = refl; plain = plain }),
          )
    ]
  ]

  by_stepped : (cpu : ℕ) (step : Step) (o : Option Machine)
      → MatchOption o ((answer ≡ Err (stops.Fault (faults.Line Place))) × (new ≡ old))
      (λ m. MakesStep agreed number cpu step m old answer new)
      → Renumbered
      (λ a. MatchOption o ((a ≡ Err (stops.Fault (faults.Line Place))) × (new ≡ old))
      (λ m. MakesStep agreed other cpu step m old a new))
  by_stepped cpu step None h = (answer, h, same_err answer (stops.Fault (faults.Line Place)) h.0)
  by_stepped cpu step (Some m) h = by_step cpu step m h

  pub renumbered : (r : Result (Option Line) LineFault)
      → Follows agreed number r old answer new
      → Renumbered (λ a. Follows agreed other r old a new)
  renumbered (Err fault) h = (answer, h, same_err answer (stops.Fault (faults.Line fault)) h.0)
  renumbered (Ok None) h = (answer, h, same_ok answer [] h.0 (λ k. refl))
  renumbered (Ok (Some (lines.Setting setting))) h = (answer, h, tells setting answer refl h)
  renumbered (Ok (Some lines.Boot)) h = (answer, h, by_boot old.told.carve h)
  renumbered (Ok (Some (lines.Step cpu step))) h = by_stepped cpu step old.machine h
  renumbered (Ok (Some (lines.Query query))) h =
      (answer, h, by_machine (Answers query) (λ m. by_query m query) old.machine h)
  renumbered (Ok (Some (lines.Poke poke))) h = (answer, h, same_err answer (stops.Fault (faults.Line Place)) h.0)
  renumbered (Ok (Some lines.Start)) h =
      (answer, h, by_machine Starts (λ m k. same_ok answer [] k.0 (λ n. refl)) old.machine h)
