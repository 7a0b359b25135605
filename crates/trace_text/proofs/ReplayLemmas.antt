-- The report so far, and what the rest of the trace adds to it.
use Rattle.std.proofs.Common.{◌≡◌, ℕ, ◌+◌, ◌<◌, ◌≤◌, refl, subst, sym, ◌∙◌, ap, arith, true, false, List, [], ◌∷◌, ◌++◌, length, take, drop, Option, Some, None, Result, Ok, Err, IsOk, IfOk, OnOk, OnErr, IfSome, IsSomeAnd, is_some, nat_lt, inl, inr}
use Rattle.std.specs.Prelude.{◌⊎◌}
use Rattle.std.proofs.lemmas.List.{append_assoc, append-nil, length-take-le, take_all, take-append-drop}
use Rattle.std.proofs.lemmas.Bool.{lt-ltb, cases_lt}
use Rattle.std.specs.Io.KnownBytes.{Appends, prepend_known}
use Rattle.trace_text.specs.declared.fault.Fault.{Fault}
use Rattle.trace_lines.specs.declared.fault.LineFault.{LineFault}
use Rattle.trace_lines.specs.declared.fault.LineFault.TheVariants.{Long}
use Rattle.trace_lines.specs.declared.line.Line.{Line}
use Rattle.trace_text.specs.declared.fault.Fault.TheVariants as faults
use Rattle.trace_lines.specs.declared.place.Allows.{Allows}
use Rattle.trace_reader.specs.declared.outcome.Outcome.{Outcome}
use Rattle.trace_reader.specs.declared.outcome.Outcome.TheVariants as outcomes
use Rattle.trace_text.specs.declared.report.ReportLine.{ReportLine}
use Rattle.trace_text.specs.declared.report.ReportLine.TheVariants as report
use Rattle.trace_text.specs.declared.session.Stop.TheVariants as stops
use Rattle.trace_text.specs.Played.{Enough, Plays, PlaysFront, Writes, WritesEnd, WritesEndFront, WritesFront, reported_lines}
use Rattle.trace_reader.specs.Reading.{IsFirstLine, ReadsLine}
use Rattle.trace_reader.specs.Reading.{lines_of}
use Rattle.trace_text.specs.Oracles.{Gives}
use Rattle.trace_text.specs.Reports.{Begins, Doing, IsBeginning, IsPlayed, IsReport, IsWriteBegun, IsWritten}
use Rattle.trace_lines.specs.Said.{said}
use Rattle.trace_text.specs.Session.{Answer, Follows, RunsLine, allowed}
use Rattle.trace_lines.specs.Settings.{Told}
use Rattle.trace_text.specs.Texts.{text_of, text_of_report}
use Rattle.trace_reader.proofs.KnownBytes.{appends_both}

pub text_of_report-append : (xs ys : List ReportLine)
    → text_of_report (xs ++ ys) ≡ text_of_report xs ++ text_of_report ys
text_of_report-append [] ys = refl
text_of_report-append (x ∷ xs) ys =
    ap (λ bs. (text_of x ++ 10 ∷ []) ++ bs) (text_of_report-append xs ys) ∙ sym (rw append_assoc refl)

-- what is long has a fault
pub said-long : (allows : Allows) (told : Told) (line : List ℕ) → 256 < length line → said allows told line ≡ Err Long
unfolding said
said-long allows told line h = let long : nat_lt 256 (length line) ≡ true = lt-ltb 256 (length line) h in rw long refl

-- a line of which enough was read says what all of it says
pub said-front : (allows : Allows) (told : Told) (whole : List ℕ)
    → said allows told (take 257 whole) ≡ said allows told whole
said-front allows told whole =
    elim (cases_lt 257 (length whole)) [
      | inr short ↦ ap (said allows told) (take_all 257 whole short)
      | inl long ↦
          let cut : length (take 257 whole) ≡ 257 = length-take-le 257 whole (omega arith) in
          said-long allows told (take 257 whole) (omega arith) ∙ sym (said-long allows told whole (omega arith))
    ]

pub no_lines : lines_of [] ≡ []
unfolding lines_of
no_lines = refl

pub appends_lines : (a b c : Option (List ℕ)) (xs ys : List ReportLine)
    → Appends a b (text_of_report xs)
    → Appends b c (text_of_report ys)
    → Appends a c (text_of_report (xs ++ ys))
appends_lines a b c xs ys h k =
    rw (text_of_report-append xs ys) (appends_both a b c (text_of_report xs) (text_of_report ys) h k)

pub appends_none : (a : Option (List ℕ)) → Appends a a []
appends_none None = tt
appends_none (Some xs) = sym (append-nil xs)

nothing_more : (a : Option (List ℕ)) → WritesFront [] a a
nothing_more a = (0, appends_none a)

-- nothing is held of a source yet
pub none_held : (a : Option (List ℕ)) (xs : List ℕ) → xs ≡ [] → prepend_known xs a ≡ a
none_held None xs e = refl
none_held (Some ys) xs e = rw e refl

pub mapped : {T E : Type 0} (r : Result T E) (P Q : T → Type 0) → ((x : T) → P x → Q x) → IfOk r P → IfOk r Q
mapped (Ok x) P Q f h = f x h
mapped (Err e) P Q f h = tt

pub on_err : {T E : Type 0} {P : Type 0} (r : Result T E) → P → OnErr r P
on_err (Ok x) h = tt
on_err (Err e) h = h

pub when_ok : {T E : Type 0} (r : Result T E) (P Q : Type 0) → (P → Q) → OnOk r P → OnOk r Q
when_ok (Ok x) P Q f h = f h
when_ok (Err e) P Q f h = tt

pub when_err : {T E : Type 0} (r : Result T E) (P Q : Type 0) → (P → Q) → OnErr r P → OnErr r Q
when_err (Ok x) P Q f h = tt
when_err (Err e) P Q f h = f h

-- 257 bytes of a line are enough for what follows from what it says
pub by_said : {S : Type 0} (allows : S → Allows) (told : S → Told)
    (follows : ℕ → Result (Option Line) LineFault → S → Answer → S → Type 0)
    → ((number : ℕ) (fault : LineFault) (old : S) (answer : Answer) (new : S)
    → follows number (Err fault) old answer new
    → answer ≡ Err (stops.Fault (faults.Line fault)))
    → Enough (λ number line old answer new. follows number (said (allows old) (told old) line) old answer new)
by_said {S} allows told follows faulted = record {
  front = λ number whole old answer new h. rw (said-front (allows old) (told old) whole) at h;
  short = λ number whole old answer new h ok. fits number whole old answer new h ok (cases_lt 256 (length whole));
}
  where
    fits : (number : ℕ) (whole : List ℕ) (old : S) (answer : Answer) (new : S)
        → follows number (said (allows old) (told old) whole) old answer new
        → IsOk answer
        → (256 < length whole) ⊎ (length whole ≤ 256) → length whole ≤ 256
    fits number whole old answer new h ok (inr few) = few
    fits number whole old answer new h ok (inl long) =
        let h' = rw (said-long (allows old) (told old) whole (omega arith)) at h in
        let is = faulted number Long old answer new h' in
        absurd (let no = rw is at ok in cc)

-- so for what a replay does
pub replay_enough : (gives : Gives) → Enough (RunsLine gives)
replay_enough gives =
    by_said (λ old. allowed (is_some old.machine) old.started) (λ old. old.told) (Follows gives)
    (λ number fault old answer new h. h.0)

-- reports of programs that carry a trace out line by line
module _ {S : Type 0} (does : Doing S) (ends : S → List ReportLine → Outcome → Type 0) (at_start : S) where
  -- the report of all bytes is what was told, and the report of those that are left
  abbrev pub Leads : Option (List ℕ) → Option (List ℕ) → ℕ → S → List ReportLine → Type 0
  Leads all left number standing told =
      IfSome all (λ bytes. IsSomeAnd left (λ rest. (more : List ReportLine) (outcome : Outcome)
      → IsReport does ends number standing (lines_of rest) more outcome
      → IsReport does ends 1 at_start (lines_of bytes) (told ++ more) outcome))

  -- and a beginning of it is what was told, and a beginning of that of those that are left
  abbrev pub LeadsOn : Option (List ℕ) → Option (List ℕ) → ℕ → S → List ReportLine → Type 0
  LeadsOn all left number standing told =
      IfSome all (λ bytes. IsSomeAnd left (λ rest. (more : List ReportLine)
      → IsBeginning does ends number standing (lines_of rest) more
      → IsBeginning does ends 1 at_start (lines_of bytes) (told ++ more)))

  pub record SoFar (all left before now : Option (List ℕ)) (number : ℕ) (standing : S) : Type 0 where
    pub told : List ReportLine
    pub written : Appends before now (text_of_report told)
    pub leads : Leads all left number standing told
    pub begins : LeadsOn all left number standing told

  -- a report may break off at once
  pub begun_none : (number : ℕ) (old : S) (trace : List (List ℕ)) → IsBeginning does ends number old trace []
  begun_none number old [] = inl refl
  begun_none number old (line ∷ rest) = inl refl

  -- what an answer reports begins the report of its line and of those behind it
  begins_line : (number : ℕ) (whole : List ℕ) (rest : List (List ℕ)) (old new : S) (answer : Answer)
      → IsPlayed does number whole old answer new
      → IsBeginning does ends number old (whole ∷ rest) (reported_lines number answer)
  begins_line number whole rest old new (Err (stops.Fault fault)) played =
      inr (Err (stops.Fault fault), new, outcomes.Fault, played, (refl, refl))
  begins_line number whole rest old new (Err stops.NoMemory) played = inl refl
  begins_line number whole rest old new (Ok says) played =
      inr (Ok says, new, outcomes.Clean, played, ([], sym (append-nil says), begun_none (number + 1) new rest))

  -- what was told alone
  begins_so : (all left : Option (List ℕ)) (number : ℕ) (old : S) (told : List ReportLine)
      → LeadsOn all left number old told
      → IfSome all (λ bytes. IsBeginning does ends 1 at_start (lines_of bytes) (told ++ []))
  begins_so None left number old told h = tt
  begins_so (Some bytes) None number old told h = absurd h
  begins_so (Some bytes) (Some rest) number old told h = h [] (begun_none number old (lines_of rest))

  -- the line after the last that a trace may have
  past_played : (number : ℕ) (line : List ℕ) (old : S)
      → 1048576 < number
      → IsPlayed does number line old (Err (stops.Fault faults.Lines)) old
  past_played number line old many = record { runs = λ few. absurd (omega arith); past = λ _. (refl, refl) }

  leads_past : (all left next : Option (List ℕ)) (line : List ℕ) (number : ℕ) (old : S) (told : List ReportLine)
      → Leads all left number old told → ReadsLine true left next line → 1048576 < number
      → IfSome all
      (λ bytes. IsReport does ends 1 at_start (lines_of bytes)
      (told ++ report.Fault number faults.Lines ∷ []) outcomes.Fault)
  leads_past None left next line number old told h first many = tt
  leads_past (Some bytes) None next line number old told h first many = absurd h
  leads_past (Some bytes) (Some rest) next line number old told h first many =
      h (report.Fault number faults.Lines ∷ []) outcomes.Fault
      (rw first.lines (Err (stops.Fault faults.Lines), old, past_played number first.whole old many, (refl, refl)))

  begins_past : (all left next : Option (List ℕ)) (line : List ℕ) (number : ℕ) (old : S) (told : List ReportLine)
      → LeadsOn all left number old told → ReadsLine true left next line → 1048576 < number
      → IfSome all
      (λ bytes. IsBeginning does ends 1 at_start (lines_of bytes) (told ++ report.Fault number faults.Lines ∷ []))
  begins_past None left next line number old told h first many = tt
  begins_past (Some bytes) None next line number old told h first many = absurd h
  begins_past (Some bytes) (Some rest) next line number old told h first many =
      h (report.Fault number faults.Lines ∷ [])
      (rw first.lines
      (begins_line number first.whole first.rest old old (Err (stops.Fault faults.Lines))
      (past_played number first.whole old many)))

  -- no line is left
  leads_end : (all left next : Option (List ℕ)) (line : List ℕ) (number : ℕ) (old : S) (told : List ReportLine)
      → Leads all left number old told → ReadsLine false left next line
      → (lines : List ReportLine) (outcome : Outcome)
      → ends old lines outcome
      → IfSome all (λ bytes. IsReport does ends 1 at_start (lines_of bytes) (told ++ lines) outcome)
  leads_end None left next line number old told h none lines outcome end = tt
  leads_end (Some bytes) None next line number old told h none lines outcome end = absurd h
  leads_end (Some bytes) (Some rest) next line number old told h none lines outcome end =
      h lines outcome (rw (none, no_lines) end)

  begins_end : (all left next : Option (List ℕ)) (line : List ℕ) (number : ℕ) (old : S) (told : List ReportLine)
      → LeadsOn all left number old told → ReadsLine false left next line
      → (lines : List ReportLine) (outcome : Outcome)
      → ends old lines outcome
      → IfSome all (λ bytes. IsBeginning does ends 1 at_start (lines_of bytes) (told ++ lines))
  begins_end None left next line number old told h none lines outcome end = tt
  begins_end (Some bytes) None next line number old told h none lines outcome end = absurd h
  begins_end (Some bytes) (Some rest) next line number old told h none lines outcome end =
      h lines (rw (none, no_lines) (inr (outcome, end)))

  -- a front of more lines behind those that were told
  begun_by : (all before now last : Option (List ℕ)) (told lines : List ReportLine)
      → Appends before now (text_of_report told)
      → WritesFront lines now last
      → IfSome all (λ bytes. IsBeginning does ends 1 at_start (lines_of bytes) (told ++ lines))
      → IsWriteBegun does ends at_start all before last
  begun_by all before now last told lines written front begins = record {
    lines = told ++ lines;
    front = text_of_report told ++ take front.0 (text_of_report lines);
    behind = drop front.0 (text_of_report lines);
    text =
        text_of_report-append told lines
        ∙ ap (λ ls. text_of_report told ++ ls) (sym (take-append-drop front.0 (text_of_report lines)))
        ∙ sym (rw append_assoc refl);
    written = appends_both before now last (text_of_report told) (take front.0 (text_of_report lines)) written front.1;
    report = begins;
  }

  -- nothing was read, nothing written
  pub begun_at_start : (all before : Option (List ℕ)) → IsWriteBegun does ends at_start all before before
  begun_at_start all before =
      begun_by all before before before [] [] (appends_none before) (nothing_more before) (start all)
    where
      start : (all : Option (List ℕ)) → IfSome all (λ bytes. IsBeginning does ends 1 at_start (lines_of bytes) [])
      start None = tt
      start (Some bytes) = begun_none 1 at_start (lines_of bytes)

  -- no line more
  pub begun_so : (all left before now : Option (List ℕ)) (number : ℕ) (old : S)
      → SoFar all left before now number old
      → IsWriteBegun does ends at_start all before now
  begun_so all left before now number old so_far =
      begun_by all before now now so_far.told [] so_far.written (nothing_more now)
      (begins_so all left number old so_far.told so_far.begins)

  -- a front of the fault of one line too many
  pub begun_past : (all left next before now last : Option (List ℕ)) (line : List ℕ) (number : ℕ) (old : S)
      → SoFar all left before now number old
      → ReadsLine true left next line
      → 1048576 < number
      → WritesFront (report.Fault number faults.Lines ∷ []) now last
      → IsWriteBegun does ends at_start all before last
  begun_past all left next before now last line number old so_far first many front =
      begun_by all before now last so_far.told _ so_far.written front
      (begins_past all left next line number old so_far.told so_far.begins first many)

  -- a front of the end, or nothing of it
  pub begun_end : (all left next before now last : Option (List ℕ)) (line : List ℕ) (number : ℕ) (old : S)
      → SoFar all left before now number old
      → ReadsLine false left next line
      → WritesEndFront ends old now last
      → IsWriteBegun does ends at_start all before last
  begun_end all left next before now last line number old so_far none (inl same) =
      subst (λ x. IsWriteBegun does ends at_start all before x) (sym same)
      (begun_so all left before now number old so_far)
  begun_end all left next before now last line number old so_far none (inr (lines, outcome, end, front)) =
      begun_by all before now last so_far.told lines so_far.written front
      (begins_end all left next line number old so_far.told so_far.begins none lines outcome end)

  -- before the first line
  pub so_far_none : (all before : Option (List ℕ)) → SoFar all all before before 1 at_start
  so_far_none all before = record { told = []; written = appends_none before; leads = leads all; begins = begins all }
    where
      leads : (all : Option (List ℕ)) → Leads all all 1 at_start []
      leads None = tt
      leads (Some bytes) = λ more outcome h. h

      begins : (all : Option (List ℕ)) → LeadsOn all all 1 at_start []
      begins None = tt
      begins (Some bytes) = λ more h. h

  -- one line too many
  pub too_many : (all left next before now last : Option (List ℕ)) (line : List ℕ) (number : ℕ) (old : S)
      (outcome : Outcome)
      → SoFar all left before now number old → ReadsLine true left next line → 1048576 < number
      → (outcome ≡ outcomes.Fault) × Appends now last (text_of_report (report.Fault number faults.Lines ∷ []))
      → IsWritten does ends at_start all before last outcome
  too_many all left next before now last line number old outcome so_far first many written =
      rw written.0 (record {
        lines = so_far.told ++ report.Fault number faults.Lines ∷ [];
        written =
            appends_lines before now last so_far.told (report.Fault number faults.Lines ∷ []) so_far.written written.1;
        report = leads_past all left next line number old so_far.told so_far.leads first many;
      })

  -- the whole trace
  pub complete : (all left next before now last : Option (List ℕ)) (line : List ℕ) (number : ℕ) (old : S)
      (outcome : Outcome)
      → SoFar all left before now number old
      → ReadsLine false left next line
      → WritesEnd ends old now last outcome
      → IsWritten does ends at_start all before last outcome
  complete all left next before now last line number old outcome so_far none (lines, end, written) = record {
    lines = so_far.told ++ lines;
    written = appends_lines before now last so_far.told lines so_far.written written;
    report = leads_end all left next line number old so_far.told so_far.leads none lines outcome end;
  }

  -- where 257 bytes of a line are enough
  module _ (enough : Enough does) where
    -- a line that was read, carried out
    pub record Goes (bytes : List ℕ) (left : Option (List ℕ)) (number : ℕ) (old : S) (answer : Answer)
        (new : S) : Type 0 where
      pub whole : List ℕ
      pub rest : List (List ℕ)
      pub lines : lines_of bytes ≡ whole ∷ rest
      pub played : IsPlayed does number whole old answer new
      pub next : IsOk answer → IsSomeAnd left (λ more. lines_of more ≡ rest)

    goes : (bytes line : List ℕ) (left : Option (List ℕ)) (number : ℕ) (old : S) (answer : Answer) (new : S)
        → IsFirstLine bytes line left
        → number ≤ 1048576
        → does number line old answer new
        → Goes bytes left number old answer new
    goes bytes line left number old answer new first few runs =
        let all = enough.front number first.whole old answer new (rw first.read at runs) in
        record {
          whole = first.whole;
          rest = first.rest;
          lines = first.lines;
          played = record { runs = λ _. all; past = λ many. absurd (omega arith) };
          next = λ ok. first.next (enough.short number first.whole old answer new all ok);
        }

    -- a line that is carried out, and what it reports
    leads_on : (all left next : Option (List ℕ)) (line : List ℕ) (number : ℕ) (old new : S) (told : List ReportLine)
        (says : List ReportLine)
        → Leads all left number old told
        → ReadsLine true left next line
        → number ≤ 1048576
        → does number line old (Ok says) new
        → Leads all next (number + 1) new (told ++ says)
    leads_on None left next line number old new told says h first few runs = tt
    leads_on (Some bytes) None next line number old new told says h first few runs = absurd h
    leads_on (Some bytes) (Some rest) None line number old new told says h first few runs =
        let on = goes rest line None number old (Ok says) new first few runs in absurd (on.next refl)
    leads_on (Some bytes) (Some rest) (Some last) line number old new told says h first few runs =
        let on = goes rest line (Some last) number old (Ok says) new first few runs in
        λ more outcome reports. rw append_assoc
        (h (says ++ more) outcome (rw on.lines (Ok says, new, on.played, (more, refl, rw (on.next refl) at reports))))

    begins_on : (all left next : Option (List ℕ)) (line : List ℕ) (number : ℕ) (old new : S) (told : List ReportLine)
        (says : List ReportLine)
        → LeadsOn all left number old told
        → ReadsLine true left next line
        → number ≤ 1048576
        → does number line old (Ok says) new
        → LeadsOn all next (number + 1) new (told ++ says)
    begins_on None left next line number old new told says h first few runs = tt
    begins_on (Some bytes) None next line number old new told says h first few runs = absurd h
    begins_on (Some bytes) (Some rest) None line number old new told says h first few runs =
        let on = goes rest line None number old (Ok says) new first few runs in absurd (on.next refl)
    begins_on (Some bytes) (Some rest) (Some last) line number old new told says h first few runs =
        let on = goes rest line (Some last) number old (Ok says) new first few runs in
        λ more reports. rw append_assoc
        (h (says ++ more)
        (rw on.lines (inr (Ok says, new, outcomes.Clean, on.played, (more, refl, rw (on.next refl) at reports)))))

    -- a line that ends the run by a fault
    leads_fault : (all left next : Option (List ℕ)) (line : List ℕ) (number : ℕ) (old new : S) (told : List ReportLine)
        (fault : Fault)
        → Leads all left number old told
        → ReadsLine true left next line
        → number ≤ 1048576
        → does number line old (Err (stops.Fault fault)) new
        → IfSome all
        (λ bytes. IsReport does ends 1 at_start (lines_of bytes)
        (told ++ report.Fault number fault ∷ []) outcomes.Fault)
    leads_fault None left next line number old new told fault h first few runs = tt
    leads_fault (Some bytes) None next line number old new told fault h first few runs = absurd h
    leads_fault (Some bytes) (Some rest) next line number old new told fault h first few runs =
        let on = goes rest line next number old (Err (stops.Fault fault)) new first few runs in
        h (report.Fault number fault ∷ []) outcomes.Fault
        (rw on.lines (Err (stops.Fault fault), new, on.played, (refl, refl)))

    begins_with : (all left next : Option (List ℕ)) (line : List ℕ) (number : ℕ) (old new : S) (told : List ReportLine)
        (answer : Answer)
        → LeadsOn all left number old told
        → ReadsLine true left next line
        → number ≤ 1048576
        → does number line old answer new
        → IfSome all (λ bytes. IsBeginning does ends 1 at_start (lines_of bytes) (told ++ reported_lines number answer))
    begins_with None left next line number old new told answer h first few runs = tt
    begins_with (Some bytes) None next line number old new told answer h first few runs = absurd h
    begins_with (Some bytes) (Some rest) next line number old new told answer h first few runs =
        let on = goes rest line next number old answer new first few runs in
        h (reported_lines number answer) (rw on.lines (begins_line number on.whole on.rest old new answer on.played))

    -- a front of what a line reports
    pub begun_line : (all left next before now last : Option (List ℕ)) (line : List ℕ) (number : ℕ) (old : S)
        → SoFar all left before now number old
        → ReadsLine true left next line
        → number ≤ 1048576
        → PlaysFront does number line old now last
        → IsWriteBegun does ends at_start all before last
    begun_line all left next before now last line number old so_far first few played =
        begun_by all before now last so_far.told (reported_lines number played.answer) so_far.written played.writes
        (begins_with all left next line number old played.after so_far.told played.answer so_far.begins first few
        played.runs)

    -- one line more
    pub plays : (all left next before now last : Option (List ℕ)) (line : List ℕ) (number : ℕ) (old new : S)
        → SoFar all left before now number old
        → ReadsLine true left next line
        → number ≤ 1048576
        → Plays does number line old new now last None
        → SoFar all next before last (number + 1) new
    plays all left next before now last line number old new so_far first few played =
        onward played.answer played.runs played.writes
      where
        onward : (answer : Answer)
            → does number line old answer new
            → Writes number answer now last None
            → SoFar all next before last (number + 1) new
        onward (Err (stops.Fault fault)) runs writes = absurd (let e = writes.1 in cc)
        onward (Err stops.NoMemory) runs writes = absurd writes
        onward (Ok says) runs writes = record {
          told = so_far.told ++ says;
          written = appends_lines before now last so_far.told (says) so_far.written writes.0;
          leads = leads_on all left next line number old new so_far.told says so_far.leads first few runs;
          begins = begins_on all left next line number old new so_far.told says so_far.begins first few runs;
        }

    -- the line that ends the run
    pub faults_at : (all left next before now last : Option (List ℕ)) (line : List ℕ) (number : ℕ) (old new : S)
        (outcome : Outcome)
        → SoFar all left before now number old
        → ReadsLine true left next line
        → number ≤ 1048576
        → Plays does number line old new now last (Some outcome)
        → IsWritten does ends at_start all before last outcome
    faults_at all left next before now last line number old new outcome so_far first few played =
        ending played.answer played.runs played.writes
      where
        ending : (answer : Answer)
            → does number line old answer new
            → Writes number answer now last (Some outcome)
            → IsWritten does ends at_start all before last outcome
        ending (Err (stops.Fault fault)) runs writes =
            let is : outcome ≡ outcomes.Fault = let e = writes.1 in cc in
            rw is (record {
              lines = so_far.told ++ report.Fault number fault ∷ [];
              written =
                  appends_lines before now last so_far.told (report.Fault number fault ∷ []) so_far.written writes.0;
              report = leads_fault all left next line number old new so_far.told fault so_far.leads first few runs;
            })
        ending (Err stops.NoMemory) runs writes = absurd writes
        ending (Ok says) runs writes = absurd (let e = writes.1 in cc)

-- reports of what stands where a view says
module _ {S T : Type 0} (view : S → T) (does : Doing T) (ends : T → List ReportLine → Outcome → Type 0) where
  abbrev pub Seen : Doing S
  Seen number line old answer new = does number line (view old) answer (view new)

  abbrev pub EndsSeen : S → List ReportLine → Outcome → Type 0
  EndsSeen s = ends (view s)

  pub enough_seen : Enough does → Enough Seen
  enough_seen enough = record {
    front = λ number whole old answer new. enough.front number whole (view old) answer (view new);
    short = λ number whole old answer new. enough.short number whole (view old) answer (view new);
  }

  played_seen : (number : ℕ) (line : List ℕ) (old : S) (answer : Answer) (new : S)
      → IsPlayed Seen number line old answer new
      → IsPlayed does number line (view old) answer (view new)
  played_seen number line old answer new h =
      record { runs = h.runs; past = λ many. ((h.past many).0, ap view (h.past many).1) }

  onward : (number : ℕ) (answer : Answer) (F G : List ReportLine → Outcome → Type 0) (lines : List ReportLine)
      (outcome : Outcome)
      → ((more : List ReportLine) → F more outcome → G more outcome)
      → Begins number answer F lines outcome → Begins number answer G lines outcome
  onward number (Err (stops.Fault fault)) F G lines outcome f b = b
  onward number (Err stops.NoMemory) F G lines outcome f b = b
  onward number (Ok told) F G lines outcome f b = (b.0, b.1, f b.0 b.2)

  report_seen : (trace : List (List ℕ)) (number : ℕ) (old : S) (lines : List ReportLine) (outcome : Outcome)
      → IsReport Seen EndsSeen number old trace lines outcome
      → IsReport does ends number (view old) trace lines outcome
  report_seen [] number old lines outcome h = h
  report_seen (line ∷ rest) number old lines outcome (answer, new, played, more) = (
    answer,
    view new,
    played_seen number line old answer new played,
    onward number answer _ _ lines outcome (λ ls r. report_seen rest (number + 1) new ls outcome r) more,
  )

  beginning_seen : (trace : List (List ℕ)) (number : ℕ) (old : S) (lines : List ReportLine)
      → IsBeginning Seen EndsSeen number old trace lines
      → IsBeginning does ends number (view old) trace lines
  beginning_seen [] number old lines h = h
  beginning_seen (line ∷ rest) number old lines (inl none) = inl none
  beginning_seen (line ∷ rest) number old lines (inr (answer, new, outcome, played, more)) =
      inr (
        answer,
        view new,
        outcome,
        played_seen number line old answer new played,
        onward number answer _ _ lines outcome (λ ls r. beginning_seen rest (number + 1) new ls r) more,
      )

  where_known : (bytes : Option (List ℕ)) (F G : List ℕ → Type 0)
      → ((all : List ℕ) → F all → G all)
      → IfSome bytes F
      → IfSome bytes G
  where_known None F G f h = tt
  where_known (Some all) F G f h = f all h

  pub written_seen : (start : S) (bytes old new : Option (List ℕ)) (outcome : Outcome)
      → IsWritten Seen EndsSeen start bytes old new outcome
      → IsWritten does ends (view start) bytes old new outcome
  written_seen start bytes old new outcome h =
      record {
        lines = h.lines;
        written = h.written;
        report = where_known bytes _ _ (λ all r. report_seen (lines_of all) 1 start h.lines outcome r) h.report;
      }

  pub begun_seen : (start : S) (bytes old new : Option (List ℕ))
      → IsWriteBegun Seen EndsSeen start bytes old new
      → IsWriteBegun does ends (view start) bytes old new
  begun_seen start bytes old new h = record {
    lines = h.lines;
    front = h.front;
    behind = h.behind;
    text = h.text;
    written = h.written;
    report = where_known bytes _ _ (λ all r. beginning_seen (lines_of all) 1 start h.lines r) h.report;
  }
