-- A recorded trace is met.
use Rattle.std.proofs.Common.{◌≡◌, refl, sym, ◌∙◌, ap, subst, arith, ℕ, ◌+◌, ◌≤◌, true, false, List, [], ◌∷◌, ◌++◌, length, map, drop, Some, None, Ok, Err, is_some}
use Rattle.std.specs.Prelude.{if◌then◌else◌, ◌==◌, codes}
use Rattle.std.specs.Fmt.{digits}
use Rattle.std.proofs.lemmas.List.{append-nil, length-append}
use Rattle.std.proofs.lemmas.Bool.Decides.{nat_tests}
use Rattle.std.proofs.lemmas.Slice.Eq.{bytes_eq-Decides}
use Rattle.page_state.proofs.Cases.{by_test}
use Rattle.trace_lines.specs.Said.{said}
use Rattle.page_state.specs.declared.layout.LayoutFault.{LayoutFault}
use Rattle.page_state.specs.declared.layout.LayoutFault.TheVariants as layouts
use Rattle.trace_lines.specs.declared.fault.LineFault.{LineFault}
use Rattle.trace_lines.specs.declared.fault.LineFault.TheVariants as line_faults
use Rattle.world.specs.declared.boot.BootFault.{BootFault}
use Rattle.world.specs.declared.boot.BootFault.TheVariants as boots
use Rattle.trace_text.specs.declared.fault.Fault.{Fault}
use Rattle.trace_text.specs.declared.fault.Fault.TheVariants as faults
use Rattle.trace_text.specs.declared.report.ReportLine.{ReportLine}
use Rattle.trace_text.specs.declared.report.ReportLine.TheVariants as report
use Rattle.trace_text.specs.declared.session.Stop.TheVariants as stops
use Rattle.trace_text.specs.Oracles.{agreed}
use Rattle.trace_text.specs.Replay.{IsPlayed}
use Rattle.trace_text.specs.Session.{Answer, Follows, RunsLine, Standing, allowed, at_start}
use Rattle.trace_check.specs.Expectations.{comment, expectation, expected_first}
use Rattle.trace_check.specs.Laws.{RecordedIsMet, shown_report}
use Rattle.trace_check.specs.Misses.{extra, missed, missed_by, misses, other_at, rest_missed, unmet}
use Rattle.trace_check.specs.Records.{can_expect, noted, notes, recorded, without_own}
use Rattle.trace_check.specs.Runs.{Runs, Tells}
use Rattle.trace_check.specs.Shown.{shown}
use Rattle.trace_check.proofs.Comments.{AllComments, IsComment, all_comments, as_comment, expected_none, first_expected, says_nothing}
use Rattle.trace_check.proofs.Renumbered.{Same, SameLines, renumbered}

-- what a comment does
runs_comment : (line : List ℕ) (number : ℕ) (old : Standing)
    → IsComment line
    → RunsLine agreed number line old (Ok []) old
runs_comment line number old c =
    subst (λ r. Follows agreed number r old (Ok []) old)
    (sym (says_nothing line (allowed (is_some old.machine) old.started) old.told c)) (refl, refl)

does_nothing : (line : List ℕ) (number : ℕ) (old new : Standing) (answer : Answer)
    → IsComment line
    → RunsLine agreed number line old answer new
    → (answer ≡ Ok []) × (new ≡ old)
does_nothing line number old new answer c does =
    subst (λ r. Follows agreed number r old answer new)
    (says_nothing line (allowed (is_some old.machine) old.started) old.told c) does

within : (line : List ℕ) (number : ℕ) (old new : Standing) (answer : Answer)
    → number ≤ 1048576
    → RunsLine agreed number line old answer new
    → IsPlayed agreed number line old answer new
within line number old new answer few does =
    record { runs = λ _. does; past = λ many. absurd (omega (arith, few, many)) }

-- texts against themselves
same_text : (text : List ℕ) (number : ℕ) → other_at number text text ≡ []
same_text text number = let e = (bytes_eq-Decides text text).1 refl in rw e refl

unmet_self : (texts : List (List ℕ)) (number : ℕ) (why : List ℕ) → unmet number why texts texts ≡ []
unmet_self [] number why = refl
unmet_self (text ∷ texts) number why =
    ap (λ l. l ++ unmet (number + 1) why texts texts) (same_text text number) ∙ unmet_self texts (number + 1) why

drop_self : {X : Type 0} (xs : List X) → drop (length xs) xs ≡ []
drop_self [] = refl
drop_self (x ∷ xs) = drop_self xs

against_self : (line : List ℕ) (reported : List ReportLine) (number : ℕ)
    → missed_by number line reported (map shown reported) ≡ []
against_self line [] number = refl
against_self line (told ∷ more) number =
    let some : (length (map shown (told ∷ more)) == 0) ≡ false = grind (arith, nat_tests) in
    rw some
    (ap (λ l. l ++ extra number (drop (length (map shown (told ∷ more))) (map shown (told ∷ more))))
    (unmet_self (map shown (told ∷ more)) (number + 1) (codes "got no more"))
    ∙ ap (extra number) (drop_self (map shown (told ∷ more))))

-- no recorded trace begins with an expectation
own_gone : (lines : List (List ℕ)) → expected_first (without_own lines) ≡ []
own_gone [] = refl
own_gone (line ∷ rest) =
    elim
    (expectation line) as (λ o. o ≡ expectation line
    → expected_first (if is_some o then without_own rest else line ∷ rest) ≡ [])
    [ None ↦ λ e. expected_none line rest (sym e) | Some text ↦ λ e. own_gone rest ] refl

starts : (lines : List (List ℕ)) (told : List (List ReportLine)) → expected_first (recorded lines told) ≡ []
starts lines [] = own_gone lines
starts [] (reported ∷ more) = refl
starts (line ∷ rest) (reported ∷ more) =
    elim
    (expectation line) as (λ o. o ≡ expectation line
    → expected_first ((if is_some o then [] else line ∷ noted reported) ++ recorded rest more) ≡ []) [
      | None ↦ λ e. expected_none line (noted reported ++ recorded rest more) (sym e)
      | Some text ↦ λ e. starts rest more
    ] refl

own_again : (lines : List (List ℕ)) → without_own (without_own lines) ≡ without_own lines
own_again [] = refl
own_again (line ∷ rest) =
    elim
    (expectation line) as (λ o. o ≡ expectation line
    → without_own (if is_some o then without_own rest else line ∷ rest)
    ≡ (if is_some o then without_own rest else line ∷ rest))
    [ None ↦ λ e. rw (← e) refl | Some text ↦ λ e. own_again rest ] refl

own_past : (comments lines : List (List ℕ)) → AllComments comments → without_own (comments ++ lines) ≡ without_own lines
own_past [] lines c = refl
own_past (line ∷ comments) lines c = rw c.0.value (own_past comments lines c.1)

-- comments in front of lines, which report nothing
silences : List (List ℕ) → List (List ReportLine) → List (List ReportLine)
silences [] told = told
silences (line ∷ comments) told = [] ∷ silences comments told

module _ (lines : List (List ℕ)) (told : List (List ReportLine)) where
  passed : (comments : List (List ℕ)) (number : ℕ) (old : Standing)
      → AllComments comments
      → number + length comments + length lines ≤ 1048577
      → Runs (number + length comments) old lines told → Runs number old (comments ++ lines) (silences comments told)
  unfolding silences
  passed [] number old c few runs = let same : number + 0 ≡ number = omega arith in
      subst (λ n. Runs n old lines told) same runs
  passed (line ∷ comments) number old c few runs =
      let same : number + length (line ∷ comments) ≡ number + 1 + length comments = omega arith in (
        Ok [],
        old,
        within line number old old (Ok []) (omega (arith, few)) (runs_comment line number old c.0),
        (silences comments told, refl, passed comments (number + 1) old c.1 (omega (arith, few)) (rw same at runs)),
      )

  passed_missed : (comments : List (List ℕ)) (number : ℕ)
      → AllComments comments
      → missed (number + length comments) lines told ≡ []
      → missed number (comments ++ lines) (silences comments told) ≡ []
  unfolding silences
  passed_missed [] number c h = let same : number + 0 ≡ number = omega arith in
      subst (λ n. missed n lines told ≡ []) same h
  passed_missed (line ∷ comments) number c h =
      let same : number + length (line ∷ comments) ≡ number + 1 + length comments = omega arith in
      rw c.0.value (passed_missed comments (number + 1) c.1 (rw same at h))

  passed_recorded : (comments : List (List ℕ))
      → AllComments comments
      → recorded (comments ++ lines) (silences comments told) ≡ recorded lines told
  unfolding silences
  passed_recorded [] c = refl
  passed_recorded (line ∷ comments) c = rw c.0.value (passed_recorded comments c.1)

  passed_shown : (comments : List (List ℕ)) → shown_report (silences comments told) ≡ shown_report told
  unfolding silences
  passed_shown [] = refl
  passed_shown (line ∷ comments) = passed_shown comments

-- recorded lines from a number on, which report these texts
pub record Meets (number : ℕ) (old : Standing) (lines texts : List (List ℕ)) : Type 0 where
  pub told : List (List ReportLine)
  pub runs : Runs number old lines told
  pub texts_are : shown_report told ≡ texts
  pub met : missed number lines told ≡ []
  pub again : recorded lines told ≡ lines

-- a text of a fault is one of an expectation
fits_line : (fault : LineFault) (number : ℕ) → can_expect (notes (report.Fault number (faults.Line fault) ∷ [])) ≡ true
unfolding expectation
fits_line line_faults.Long number = refl
fits_line line_faults.Byte number = refl
fits_line line_faults.Space number = refl
fits_line line_faults.Word number = refl
fits_line line_faults.Place number = refl
fits_line line_faults.Count number = refl
fits_line line_faults.Form number = refl

fits_layout : (fault : LayoutFault) (number : ℕ)
    → can_expect (notes (report.Fault number (faults.Layout fault) ∷ [])) ≡ true
unfolding expectation digits
fits_layout layouts.TooMany number = refl
fits_layout layouts.Empty number = refl
fits_layout layouts.PastLimit number = refl
fits_layout layouts.Overlap number = refl
fits_layout layouts.CarveOutside number = refl
fits_layout layouts.NoMemory number = refl

fits_boot : (fault : BootFault) (number : ℕ) → can_expect (notes (report.Fault number (faults.Boot fault) ∷ [])) ≡ true
unfolding expectation digits
fits_boot boots.Config number = refl
fits_boot boots.CarveSmall number = refl
fits_boot boots.NoMemory number = refl

fits : (fault : Fault) (number : ℕ) → can_expect (notes (report.Fault number fault ∷ [])) ≡ true
unfolding expectation
fits faults.Lines number = refl
fits (faults.Line fault) number = fits_line fault number
fits faults.Cpu number = refl
fits (faults.Layout fault) number = fits_layout fault number
fits (faults.Boot fault) number = fits_boot fault number
fits faults.Path number = refl

-- the expectations of a line
noted_all : (reported : List ReportLine) → can_expect (notes reported) ≡ true → noted reported ≡ notes reported
noted_all reported e = rw e refl

noted_none : (reported : List ReportLine) → can_expect (notes reported) ≡ false → noted reported ≡ []
noted_none reported e = rw e refl

noted_same : (a b : List ReportLine) → map shown a ≡ map shown b → noted a ≡ noted b
noted_same a b e = ap (λ ts. if can_expect (map comment ts) then map comment ts else []) e

module _ (line : List ℕ) (off : is_some (expectation line) ≡ false) (number : ℕ) (old new : Standing) where
  -- a line that reports, and its expectations
  meets_with : (lines texts comments : List (List ℕ)) (a b : List ReportLine)
      → AllComments comments
      → SameLines a b
      → RunsLine agreed number line old (Ok b) new
      → number + 1 + length comments + length lines ≤ 1048577
      → missed_by number line b (expected_first (comments ++ lines)) ≡ []
      → noted b ≡ comments
      → Meets (number + 1 + length comments) new lines texts
      → Meets number old (line ∷ (comments ++ lines)) (map shown a ++ texts)
  meets_with lines texts comments a b c same does few h is rest = record {
    told = b ∷ silences comments rest.told;
    runs = (
      Ok b,
      new,
      within line number old new (Ok b) (omega (arith, few)) does,
      (silences comments rest.told, refl, passed lines rest.told comments (number + 1) new c few rest.runs),
    );
    texts_are =
        ap (λ l. l ++ shown_report (silences comments rest.told)) (sym same.shows)
        ∙ ap (λ t. map shown a ++ t) (passed_shown lines rest.told comments ∙ rest.texts_are);
    met =
        rw off
        (ap (λ l. l ++ missed (number + 1) (comments ++ lines) (silences comments rest.told)) h
        ∙ passed_missed lines rest.told comments (number + 1) c rest.met);
    again =
        rw off
        (ap (λ n. (line ∷ n) ++ recorded (comments ++ lines) (silences comments rest.told)) is
        ∙ ap (λ r. (line ∷ comments) ++ r) (passed_recorded lines rest.told comments c ∙ rest.again));
  }

  meets_reported : (lines texts : List (List ℕ)) (a b : List ReportLine)
      → SameLines a b
      → RunsLine agreed number line old (Ok b) new
      → expected_first lines ≡ []
      → number + 1 + length (noted a) + length lines ≤ 1048577
      → Meets (number + 1 + length (noted a)) new lines texts
      → Meets number old (line ∷ (noted a ++ lines)) (map shown a ++ texts)
  meets_reported lines texts a b same does first few rest =
      by_test (can_expect (notes a))
      (λ e.
      let all = noted_all a e in
      let comments = all_comments (map shown a) e in
      let texts_are : expected_first (notes a ++ lines) ≡ map shown b =
      first_expected (map shown a) lines comments ∙ ap (λ l. map shown a ++ l) first ∙ append-nil (map shown a)
      ∙ same.shows in
      subst (λ n. Meets number old (line ∷ (n ++ lines)) (map shown a ++ texts)) (sym all)
      (meets_with lines texts (notes a) a b comments same does (rw all at few)
      (ap (missed_by number line b) texts_are ∙ against_self line b number) (sym (noted_same a b same.shows) ∙ all)
      (rw all at rest)))
      (λ e.
      let none = noted_none a e in
      subst (λ n. Meets number old (line ∷ (n ++ lines)) (map shown a ++ texts)) (sym none)
      (meets_with lines texts [] a b tt same does (rw none at few)
      (ap (missed_by number line b) first ∙ same.plain number) (sym (noted_same a b same.shows) ∙ none)
      (rw none at rest)))

  -- a line with a fault
  meets_fault : (before : ℕ) (rest : List (List ℕ)) (fault : Fault)
      → RunsLine agreed number line old (Err (stops.Fault fault)) new
      → number ≤ 1048576
      → Meets number old (line ∷ (noted (report.Fault before fault ∷ []) ++ without_own rest))
      (shown_report ((report.Fault before fault ∷ []) ∷ []))
  meets_fault before rest fault does few =
      let told = report.Fault number fault ∷ [] in
      let all = noted_all (report.Fault before fault ∷ []) (fits fault before) in
      let comments = all_comments (map shown told) (fits fault number) in
      let texts_are : expected_first (notes told ++ without_own rest) ≡ map shown told =
      first_expected (map shown told) (without_own rest) comments ∙ ap (λ l. map shown told ++ l) (own_gone rest) in
      subst
      (λ n. Meets number old (line ∷ (n ++ without_own rest)) (shown_report ((report.Fault before fault ∷ []) ∷ [])))
      (sym all)
      (record {
        told = told ∷ [];
        runs = (Err (stops.Fault fault), new, within line number old new (Err (stops.Fault fault)) few does, refl);
        texts_are = refl;
        met =
            rw off
            (append-nil (missed_by number line told (expected_first (notes told ++ without_own rest)))
            ∙ ap (missed_by number line told) texts_are ∙ against_self line told number);
        again =
            rw off
            (ap (λ n. (line ∷ n) ++ without_own (notes told ++ without_own rest)) (noted_all told (fits fault number))
            ∙ ap (λ r. (line ∷ notes told) ++ r) (own_past (notes told) (without_own rest) comments ∙ own_again rest));
      })

module _ (line : List ℕ) (rest : List (List ℕ)) (off : is_some (expectation line) ≡ false) (number other : ℕ)
    (old new : Standing) (told : List (List ReportLine))
    (few : other + length (recorded (line ∷ rest) told) ≤ 1048577)
    (follows : (more : List (List ReportLine)) (next : ℕ)
    → Runs (number + 1) new rest more
    → next + length (recorded rest more) ≤ 1048577
    → Meets next new (recorded rest more) (shown_report more)) where
  -- what is recorded of the line, and of those after it
  recorded_line : (reported : List ReportLine) (more : List (List ReportLine))
      → recorded (line ∷ rest) (reported ∷ more) ≡ line ∷ (noted reported ++ recorded rest more)
  recorded_line reported more = rw off refl

  counted : (a : List ReportLine) (more : List (List ReportLine))
      → told ≡ a ∷ more
      → other + 1 + length (noted a) + length (recorded rest more) ≤ 1048577
  counted a more is =
      let lines : length (recorded (line ∷ rest) told) ≡ length (line ∷ (noted a ++ recorded rest more)) =
      ap (λ t. length (recorded (line ∷ rest) t)) is ∙ ap length (recorded_line a more) in
      let parts = length-append (noted a) (recorded rest more) in
      omega (arith, few, lines, parts)

  by_answer : (answer a : Answer)
      → Same answer a
      → RunsLine agreed other line old a new
      → Tells number answer (λ more. Runs (number + 1) new rest more) told
      → Meets other old (recorded (line ∷ rest) told) (shown_report told)
  by_answer (Ok a) (Ok b) same does (more, is, runs) =
      let enough = counted a more is in
      subst (λ t. Meets other old (recorded (line ∷ rest) t) (shown_report t)) (sym is)
      (subst (λ r. Meets other old r (map shown a ++ shown_report more)) (sym (recorded_line a more))
      (meets_reported line off other old new (recorded rest more) (shown_report more) a b same does
      (starts rest more) enough (follows more (other + 1 + length (noted a)) runs enough)))
  by_answer (Ok a) (Err stop) same does tells = absurd same
  by_answer (Err stop) (Ok b) same does tells = absurd same
  by_answer (Err stops.NoMemory) (Err stop) same does tells = absurd tells
  by_answer (Err (stops.Fault fault)) (Err stop) same does tells =
      let enough = counted (report.Fault number fault ∷ []) [] tells in
      subst (λ t. Meets other old (recorded (line ∷ rest) t) (shown_report t)) (sym tells)
      (subst (λ r. Meets other old r (shown_report ((report.Fault number fault ∷ []) ∷ [])))
      (sym (recorded_line (report.Fault number fault ∷ []) []))
      (meets_fault line off other old new number rest fault
      (subst (λ s. RunsLine agreed other line old (Err s) new) (sym same) does) (omega (arith, enough))))

-- a line that is an expectation
gone : (line : List ℕ) (rest : List (List ℕ)) (more : List (List ReportLine))
    → is_some (expectation line) ≡ true
    → recorded (line ∷ rest) ([] ∷ more) ≡ recorded rest more
gone line rest more e = rw e refl

meets : (lines : List (List ℕ)) (number other : ℕ) (old : Standing) (told : List (List ReportLine))
    → Runs number old lines told
    → number + length lines ≤ 1048577
    → other + length (recorded lines told) ≤ 1048577 → Meets other old (recorded lines told) (shown_report told)
meets [] number other old told runs few few' =
    subst (λ t. Meets other old (recorded [] t) (shown_report t)) (sym runs)
    (record { told = []; runs = refl; texts_are = refl; met = refl; again = refl })
meets (line ∷ rest) number other old told (answer, new, at, tells) few few' =
    let does = at.runs (omega (arith, few)) in
    by_test (is_some (expectation line))
    (λ e.
    let d = does_nothing line number old new answer (as_comment line e) does in
    let t = subst (λ a. Tells number a (λ more. Runs (number + 1) new rest more) told) d.0 tells in
    let is : told ≡ [] ∷ t.0 = t.1 in
    let lines : recorded (line ∷ rest) told ≡ recorded rest t.0 =
    ap (recorded (line ∷ rest)) is ∙ gone line rest t.0 e in
    let less : other + length (recorded rest t.0) ≤ 1048577 = omega (arith, few', ap length lines) in
    subst (λ r. Meets other old r (shown_report told)) (sym lines)
    (subst (λ s. Meets other old (recorded rest t.0) (shown_report s)) (sym is)
    (meets rest (number + 1) other old t.0 (subst (λ s. Runs (number + 1) s rest t.0) d.1 t.2)
    (omega (arith, few)) less)))
    (λ e.
    let r =
    renumbered number other old new answer (said (allowed (is_some old.machine) old.started) old.told line) does in
    by_answer line rest e number other old new told few'
    (λ more next runs enough. meets rest (number + 1) next new more runs (omega (arith, few)) enough) answer r.0
    r.2 r.1 tells)

pub recorded_met : RecordedIsMet
unfolding misses
recorded_met lines told runs few few' =
    let m = meets lines 1 1 at_start told runs (omega (arith, few)) (omega (arith, few')) in
    let first = starts lines told in
    record {
      told = m.told;
      runs = m.runs;
      texts_are = m.texts_are;
      met =
          ap
          (λ texts. (unmet 1 (codes "there is no line to check") [] texts ++ missed 1 (recorded lines told) m.told)
          ++ rest_missed (recorded lines told) m.told) first
          ∙ ap (λ l. l ++ rest_missed (recorded lines told) m.told) m.met;
      again = m.again;
    }
