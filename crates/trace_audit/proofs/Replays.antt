-- An audit without a poke reports what a replay does.
use Rattle.std.proofs.Common.{arith, ◌≡◌, ◌∙◌, ℕ, ◌+◌, refl, sym, ap, subst, Bool, true, false, not, ◌==◌, List, [], ◌∷◌, ◌++◌, length, All, Option, Some, None, Result, Ok, Err, IfSome, MatchOption, is_some, inl, inr}
use Rattle.std.specs.Prelude.{nat_lt, ok_or, option_map, if◌then◌else◌}
use Rattle.std.proofs.lemmas.Bool.{cases_lt}
use Rattle.std.proofs.lemmas.List.Elements.{All-head, All-tail}
use Rattle.trace_lines.specs.declared.asked.Asked.{Asked}
use Rattle.trace_lines.specs.declared.fault.LineFault.{LineFault}
use Rattle.trace_lines.specs.declared.fault.LineFault.TheVariants.{Long, Byte, Space, Place, Count, Form}
use Rattle.trace_lines.specs.declared.line.Line.{Line}
use Rattle.trace_lines.specs.declared.line.Line.TheVariants as lines
use Rattle.trace_lines.specs.declared.place.Verb.{Verb}
use Rattle.trace_lines.specs.declared.place.Verb.TheVariants as verbs
use Rattle.trace_lines.specs.Asked.{asked}
use Rattle.trace_lines.specs.Places.{may_stand, of_audit, of_replay}
use Rattle.trace_lines.specs.Said.{said, said_by_asked}
use Rattle.trace_lines.specs.Settings.{Told}
use Rattle.trace_reader.specs.declared.outcome.Outcome.{Outcome}
use Rattle.trace_text.specs.declared.report.ReportLine.{ReportLine}
use Rattle.trace_text.specs.declared.report.ReportLine.TheVariants as report
use Rattle.trace_text.specs.declared.session.Stop.TheVariants as stops
use Rattle.trace_text.specs.Laws.{step_asked}
use Rattle.trace_text.specs.Oracles.{agreed, audited_lines}
use Rattle.trace_text.specs.Replay as replay
use Rattle.trace_text.specs.Reports.{Begins, IsPlayed, IsReport}
use Rattle.trace_text.specs.Session as session
use Rattle.trace_text.specs.Session.{Answer, Standing}
use Rattle.trace_text.proofs.Agreeing as agreeing
use Rattle.trace_text.proofs.Asked.{Fits, fits}
use Rattle.trace_words.specs.Words.{words_of, has_stray_byte, is_silent, has_stray_space}
use Rattle.trace_audit.specs.Audited.{Audited, ComparesWalk, Ends, Follows, RunsLine, allowed_where, nothing_audited}
use Rattle.trace_audit.specs.Laws.{AuditReplays, HasNoPoke}

-- what lines without a poke may stand
same_place : (told : Told) (started : Bool) (verb : Verb)
    → (verb ≡ verbs.Poke → ⊥)
    → may_stand (of_audit started) told verb ≡ may_stand (of_replay started) told verb
same_place told started (verbs.Setting name) other = refl
same_place told started verbs.Boot other = refl
same_place told started verbs.Step other = refl
same_place told started verbs.Query other = refl
same_place told started verbs.Poke other = absurd (other refl)
same_place told started verbs.Start other = refl

same_asked : (told : Told) (started : Bool) (count : ℕ) (o : Option Asked)
    → IfSome o (λ a. a.verb ≡ verbs.Poke → ⊥)
    → said_by_asked (of_audit started) told count o ≡ said_by_asked (of_replay started) told count o
same_asked told started count None other = refl
same_asked told started count (Some a) other =
    ap
    (λ may. if not may then Err Place
    else (if not (count == a.words) then Err Count else ok_or (option_map Some a.line) Form))
    (same_place told started a.verb other)

same_said : (A : Type 0) (told : Told) (booted started : Bool) (line : List ℕ)
    → HasNoPoke line
    → said (allowed_where {A = A} None booted started) told line ≡ said (session.allowed booted started) told line
unfolding said
same_said A told false started line other = refl
same_said A told true started line other =
    ap
    (λ x. if nat_lt 256 (length line) then Err Long
    else (if has_stray_byte line then Err Byte
    else (if is_silent line then Ok None else (if has_stray_space line then Err Space else x))))
    (same_asked told started (length (words_of line)) (asked (words_of line)) other)

module _ {A : Type 0} where
  -- what a line that is no poke does
  pub record Same (number : ℕ) (line : List ℕ) (old : Audited A) (answer : Answer) (new : Audited A) : Type 0 where
    pub runs : session.RunsLine agreed number line old.session answer new.session
    pub poked : new.poked ≡ None

  by_said : (number : ℕ) (old : Audited A) (answer : Answer) (new : Audited A)
      → old.poked ≡ None
      → (r : Result (Option Line) LineFault) (wanted : Option (ℕ × _))
      → Fits (is_some old.session.machine) r wanted
      → Follows number r old answer new
      → session.Follows agreed number r old.session answer new.session × (new.poked ≡ None)
  by_said number old answer new none (Err fault) wanted fit h =
      ((h.0, ap (λ (a : Audited A). a.session) h.1), ap (λ (a : Audited A). a.poked) h.1 ∙ none)
  by_said number old answer new none (Ok None) wanted fit h =
      ((h.0, ap (λ (a : Audited A). a.session) h.1), ap (λ (a : Audited A). a.poked) h.1 ∙ none)
  by_said number old answer new none (Ok (Some (lines.Setting setting))) wanted fit h = (h.does, h.poked ∙ none)
  by_said number old answer new none (Ok (Some lines.Boot)) wanted fit h = (h.does, h.poked ∙ none)
  by_said number old answer new none (Ok (Some (lines.Step cpu step))) wanted fit h = (h.does, h.poked ∙ none)
  by_said number old answer new none (Ok (Some (lines.Query query))) wanted fit h = (h.does, h.poked ∙ none)
  by_said number old answer new none (Ok (Some (lines.Poke poke))) wanted fit h = absurd fit
  by_said number old answer new none (Ok (Some lines.Start)) wanted fit h = (h.does, h.poked ∙ none)

  same_line : (number : ℕ) (line : List ℕ) (old : Audited A) (answer : Answer) (new : Audited A)
      → old.poked ≡ None
      → HasNoPoke line
      → RunsLine number line old answer new
      → Same number line old answer new
  same_line number line old answer new none other h =
      let s = old.session in
      let here =
      subst
      (λ p. Follows number
      (said (allowed_where p (is_some s.machine) s.started) s.told line) old answer new) none h in
      let there =
      subst (λ r. Follows number r old answer new)
      (same_said A s.told (is_some s.machine) s.started line other) here in
      let both =
      by_said number old answer new none _ (step_asked line)
      (fits s.told (is_some s.machine) s.started line) there in
      record { runs = both.0; poked = both.1 }

  module _ (number : ℕ) (rest : List (List ℕ)) (new : Audited A) (reported : List ReportLine) (outcome : Outcome)
      (follows : (more : List ReportLine)
      → new.session.disagreements ≡ 0
      → IsReport (RunsLine {A = A}) Ends (number + 1) new rest more outcome
      → replay.IsReport agreed (number + 1) new.session rest more outcome) where
    begins : (answer : Answer)
        → agreeing.Quiet answer new.session
        → Begins number answer
        (λ more end. IsReport (RunsLine {A = A}) Ends (number + 1) new rest more end) reported outcome
        → Begins number answer
        (λ more end. replay.IsReport agreed (number + 1) new.session rest more end) reported outcome
    begins (Err (stops.Fault fault)) quiet b = b
    begins (Err stops.NoMemory) quiet b = b
    begins (Ok says) quiet b = (b.0, b.1, follows b.0 quiet.count b.2)

  ends_so : (old : Audited A) (reported : List ReportLine) (outcome : Outcome)
      → old.poked ≡ None
      → old.session.disagreements ≡ 0
      → Ends old reported outcome
      → replay.Ends old.session reported outcome
  ends_so old reported outcome none zero' h =
      let nothing : h.0 ≡ None =
      subst (λ p. MatchOption p (h.0 ≡ None) (λ world. ComparesWalk world.parts h.0)) none h.1 in
      let no_line : audited_lines h.0 ≡ [] = ap audited_lines nothing in (
        h.2 ∙ ap (λ ls. ls ++ report.End old.session.steps (length ls) ∷ []) no_line
            ∙ ap (λ n. report.End old.session.steps n ∷ []) (sym zero'),
        h.3 ∙ ap (λ ls. replay.outcome_of (length ls)) no_line ∙ ap replay.outcome_of (sym zero'),
      )

  replays : (trace : List (List ℕ)) (number : ℕ) (old : Audited A) (reported : List ReportLine) (outcome : Outcome)
      → old.poked ≡ None
      → old.session.disagreements ≡ 0
      → All HasNoPoke trace
      → IsReport (RunsLine {A = A}) Ends number old trace reported outcome
      → replay.IsReport agreed number old.session trace reported outcome
  replays [] number old reported outcome none zero' all h = ends_so old reported outcome none zero' h
  replays (line ∷ rest) number old reported outcome none zero' all (answer, new, played, more) =
      let here = All-head HasNoPoke line rest all in
      let behind = All-tail HasNoPoke line rest all in
      elim (cases_lt 1048576 number) [
        | inl many ↦
            let past = played.past many in
            let passed : IsPlayed (session.RunsLine agreed) number line old.session answer new.session =
            record {
              runs = λ few. absurd (omega (arith, many, few));
              past = λ _. (past.0, ap (λ (a : Audited A). a.session) past.1);
            } in (
              answer,
              new.session,
              passed,
              begins number rest new reported outcome
                  (λ ls zero'' r. replays rest (number + 1) new ls outcome
                  (ap (λ (a : Audited A). a.poked) past.1 ∙ none) zero'' behind r) answer
                  (agreeing.stopped answer (stops.Fault _) new.session past.0) more,
            )
        | inr few ↦
            let same = same_line number line old answer new none here (played.runs few) in
            let passed : IsPlayed (session.RunsLine agreed) number line old.session answer new.session =
            record { runs = λ _. same.runs; past = λ many. absurd (omega (arith, many, few)) } in (
              answer,
              new.session,
              passed,
              begins number rest new reported outcome
                  (λ ls zero'' r. replays rest (number + 1) new ls outcome same.poked zero'' behind r) answer
                  (agreeing.by_said old.session new.session answer zero' number _ same.runs) more,
            )
      ]

pub audit_replays : (A : Type 0) → AuditReplays A
audit_replays A trace reported outcome none h =
    let same = replays {A = A} trace 1 nothing_audited reported outcome refl refl none h in
    record { replay = same; agrees = agreeing.trace_agrees trace reported outcome same }
