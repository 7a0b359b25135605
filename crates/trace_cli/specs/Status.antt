-- The exit status of the program (profile).
use Rattle.std.specs.Prelude.{◌≡◌, ◌≢◌, ◌≤◌, ◌⊎◌, ℕ, max, List, [], ◌∷◌, Bool, true, false, Option, Some, None, Result, Ok, Err, IfOk, IfSome, MatchResult, codes, if◌then◌else◌}
use Rattle.std.specs.Global.{Global}
use Rattle.std.specs.Io.KnownBytes.{Appends}
use Rattle.clap.specs.Words.{kind_of}
use Rattle.clap.specs.declared.error.kind.ErrorKind.TheVariants.{DisplayVersion}
use Rattle.trace_faults.specs.Spots.{Told as Spot}
use Rattle.trace_reader.specs.Reading.{lines_of}
use Rattle.trace_reader.specs.declared.outcome.Outcome.{Outcome}
use Rattle.trace_reader.specs.declared.outcome.Outcome.TheVariants.{Clean, Disagreed, Fault}
use Rattle.trace_reader.specs.declared.outcome.EngineFault.{EngineFault}
use Rattle.trace_reader.specs.declared.outcome.EngineFault.TheVariants as faults
use Rattle.trace_text.specs.declared.report.ReportLine.{ReportLine}
use Rattle.trace_text.specs.Oracles.{agreed}
use Rattle.trace_text.specs.Replay.{IsReport}
use Rattle.trace_text.specs.Reports as reports
use Rattle.trace_text.specs.Session.{at_start}
use Rattle.trace_audit.specs.Audited.{EndsBy, RunsLine, nothing_audited}
use Rattle.trace_race.specs.declared.buffered.Halted.{Halted}
use Rattle.trace_race.specs.Courses.{course_of, nothing_asked}
use Rattle.trace_race.specs.Raced.{IsRaceReport}
use Rattle.trace_outcomes.specs.Told.{ReportsOutcomes, AnswersReport}
use Rattle.trace_outcomes.specs.declared.telling.Told.{Told as OutcomesTold}
use Rattle.trace_check.specs.declared.checking.Checked.{Checked}
use Rattle.trace_draw.specs.declared.course.Ended.{Ended}
use Rattle.trace_draw.specs.declared.course.Ended.TheVariants as ends
use Rattle.trace_draw.specs.Pictures.{IsDrawing}
use Rattle.trace_draw.specs.Snapshots.{IsSnapshot}
use Rattle.trace_explain.specs.Explained.{ExplainsAll}
use Rattle.trace_generate.specs.declared.options.GenerateFault.{GenerateFault}
use Rattle.trace_generate.specs.declared.options.GenerateFault.TheVariants as generating
use Rattle.trace_generate.specs.declared.options.Options.{Options}
use Rattle.trace_generate.specs.Machine.{IsFault}
use Rattle.trace_generate.specs.Made.{IsTrace}
use Rattle.trace_values.specs.Checked.{IsValueRecord}
use Rattle.trace_values.specs.Expansions.{IsExpansion}
use Rattle.trace_watches.specs.Checked.{IsWatchChecked}
use Rattle.trace_command.specs.Asked.{Asking, Replaying, Racing, Auditing, Finding, Checking, Covering, Recording, Expanding, Explaining, Generating, Drawing, Dumping, IsRead, asking_of}
use Rattle.trace_command.specs.declared.words.Invocation.{Invocation}
use Rattle.trace_command.specs.declared.words.UsageFault.{UsageFault}
use Rattle.trace_command.specs.declared.words.UsageFault.TheVariants.{NoMemory, Usage}
use Rattle.trace_cli.specs.Covering.{HasCoverStatus}
use Rattle.trace_cli.specs.Dumping.{HasDumpStatus}

-- the report of a replay of these bytes, if they are known, has this outcome
abbrev pub HasReplayReport : Option (List ℕ) → Outcome → Type 0
HasReplayReport bytes outcome =
    IfSome bytes
    (λ all. (lines : List ReportLine) × IsReport agreed 1 at_start (lines_of all) lines outcome)

-- and that of a race, and of an audit
abbrev pub HasRaceReport : Bool → Option (List ℕ) → Outcome → Type 0
HasRaceReport ordered bytes outcome =
    IfSome bytes
    (λ all. (text : List ℕ) × IsRaceReport ordered (lines_of all) text outcome)

abbrev pub HasAuditReport : Bool → Option (List ℕ) → Outcome → Type 0
HasAuditReport legal bytes outcome =
    IfSome bytes
    (λ all. (lines : List ReportLine)
    × reports.IsReport (RunsLine {A = Global}) (EndsBy legal) 1 nothing_audited
    (lines_of all) lines outcome)

-- all replies that the steps after `start` of a trace of these bytes may get
pub record FindsOutcomes (limit : ℕ) (all : List ℕ) (outcome : Outcome) : Type 0 where
  pub told : OutcomesTold
  pub tells : ReportsOutcomes limit (course_of 1 nothing_asked (lines_of all)) told
  pub ends : outcome ≡ told.outcome

abbrev pub HasOutcomes : ℕ → Option (List ℕ) → Outcome → Type 0
HasOutcomes limit bytes outcome = IfSome bytes (λ all. FindsOutcomes limit all outcome)

-- whether some order of them gives the replies of the report of this name and of these bytes
pub record FindsOrder (name : List ℕ) (limit : ℕ) (all report : List ℕ)
    (outcome : Outcome) : Type 0 where
  pub told : OutcomesTold
  pub tells : AnswersReport name (lines_of report) limit
      (course_of 1 nothing_asked (lines_of all)) told
  pub ends : outcome ≡ told.outcome

abbrev pub HasOrder : List ℕ → ℕ → Option (List ℕ) → Option (List ℕ) → Outcome → Type 0
HasOrder name limit bytes report outcome =
    IfSome bytes (λ all. IfSome report (λ reported. FindsOrder name limit all reported outcome))

-- a check of these bytes is clean, or has a miss
abbrev pub outcome_of_check : Bool → Outcome
outcome_of_check clean = if clean then Clean else Disagreed

abbrev pub HasChecked : List ℕ → Option (List ℕ) → Outcome → Type 0
HasChecked path bytes outcome =
    IfSome bytes
    (λ all. (checked : Checked)
    × IsWatchChecked Global path all checked
    × (outcome ≡ outcome_of_check checked.clean))

-- a text was made, or a name has a fault
abbrev pub outcome_of_text : {F : Type 0} → Result (List ℕ) F → Outcome
outcome_of_text (Ok text) = Clean
outcome_of_text (Err fault) = Fault

-- a trace of these bytes is expanded
abbrev pub HasExpanded : Option (List ℕ) → Outcome → Type 0
HasExpanded bytes outcome =
    IfSome bytes
    (λ all. (told : Result (List ℕ) Spot)
    × IsExpansion Global all told
    × (outcome ≡ outcome_of_text told))

-- and so its expectations are filled in
abbrev pub HasRecorded : Option (List ℕ) → Outcome → Type 0
HasRecorded bytes outcome =
    IfSome bytes
    (λ all. (told : Result (List ℕ) Spot)
    × IsValueRecord Global all told
    × (outcome ≡ outcome_of_text told))

-- a trace of these bytes is explained, or one line of it
abbrev pub HasExplained : List ℕ → Option ℕ → Option (List ℕ) → Outcome → Type 0
HasExplained path line bytes outcome =
    IfSome bytes (λ all. (text : List ℕ) × ExplainsAll line path (lines_of all) text outcome)

-- how a run of these bytes ends
abbrev pub outcome_of_end : Ended → Outcome
outcome_of_end ends.Clean = Clean
outcome_of_end (ends.Fault line fault) = Fault

-- the run of these bytes, whose end is written as text, ends so
abbrev pub EndsAsReported : List ℕ → Outcome → Type 0
EndsAsReported all outcome =
    (ended : Ended) × (text : List ℕ) × IsSnapshot all ended text × (outcome ≡ outcome_of_end ended)

-- and that which is drawn as a picture
abbrev pub EndsAsDrawn : List ℕ → Outcome → Type 0
EndsAsDrawn all outcome =
    (ended : Ended) × (svg : List ℕ) × IsDrawing all ended svg × (outcome ≡ outcome_of_end ended)

-- a trace of these bytes is drawn, or the state at its end is written as text
abbrev pub HasDrawn : Bool → Option (List ℕ) → Outcome → Type 0
HasDrawn true bytes outcome = IfSome bytes (λ all. EndsAsReported all outcome)
HasDrawn false bytes outcome = IfSome bytes (λ all. EndsAsDrawn all outcome)

-- what a fault is blamed on
abbrev pub place_in : EngineFault → List ℕ → List ℕ
place_in faults.Read path = path
place_in faults.Write path = codes "standard output"
place_in faults.NoMemory path = path

-- the status of what a run came to: 0 for a clean report, and 1 for all else
abbrev pub status_of_end : Result Outcome Halted → ℕ
status_of_end (Ok Clean) = 0
status_of_end (Ok Disagreed) = 1
status_of_end (Ok Fault) = 1
status_of_end (Err halted) = 1

-- the status is that of what a run came to; of its report, if there is a whole one, this is true
pub record HasAnswer (report : Outcome → Type 0) (status : ℕ) : Type 0 where
  pub answer : Result Outcome Halted
  pub whole : IfOk answer report
  pub told : status ≡ status_of_end answer

-- the status if the words ask for nothing: 2 for refused words and help, 1 if memory was refused.
-- The version is written, or not
abbrev pub IsRefused : UsageFault → ℕ → Type 0
IsRefused (Usage error) status =
    ((kind_of error ≡ DisplayVersion) × (status ≤ 1))
    ⊎ ((kind_of error ≢ DisplayVersion) × (status ≡ 2))
IsRefused NoMemory status = status ≡ 1

-- the status if no trace is made: 2 for options that make no trace
abbrev pub status_of_fault : GenerateFault → ℕ
status_of_fault generating.Steps = 2
status_of_fault generating.Cpus = 2
status_of_fault generating.Geometry = 2
status_of_fault generating.Hostile = 2
status_of_fault generating.Pages = 2
status_of_fault generating.NoBoot = 2
status_of_fault generating.NoMemory = 1

-- the status of a write: 0 if nothing failed
abbrev pub status_written : {X E : Type 0} → Result X E → ℕ
status_written (Ok x) = 0
status_written (Err error) = 1

-- the status is 0 if the whole text was appended to the output, and else 1
abbrev pub IsPut : List ℕ → Option (List ℕ) → Option (List ℕ) → ℕ → Type 0
IsPut text old new status = ((status ≡ 0) × Appends old new text) ⊎ (status ≡ 1)

-- a text that was made is written so, and if none was made the status says why
abbrev pub IsAnswerPut : {X : Type 0}
    → (X → List ℕ)
    → Result X GenerateFault
    → Option (List ℕ)
    → Option (List ℕ)
    → ℕ
    → Type 0
IsAnswerPut bytes answer old new status =
    MatchResult answer (λ text. IsPut (bytes text) old new status)
    (λ fault. status ≡ status_of_fault fault)

-- a trace of these options was made, and put so; or why none was
abbrev pub IsMade : ℕ → Options → Option (List ℕ) → Option (List ℕ) → ℕ → Type 0
IsMade steps options old new status =
    ((text : List ℕ) × IsTrace steps options text × IsPut text old new status)
    ⊎ ((fault : GenerateFault) × IsFault fault steps options × (status ≡ status_of_fault fault))

-- the status of the program, by what opening a path may come to
module _ {F E : Type 0} (bytes : F → Option (List ℕ)) (opens : List ℕ → Result F E → Type 0) where
  -- of a task with the file at a path, of whose report this is true by the file's bytes: 2 if the
  -- file can't be opened
  abbrev pub HasFileStatus : (Option (List ℕ) → Outcome → Type 0) → List ℕ → ℕ → Type 0
  HasFileStatus report path status =
      (opened : Result F E)
      × opens path opened
      × MatchResult opened (λ file. HasAnswer (report (bytes file)) status) (λ _. status ≡ 2)

  -- of a trace and a report, the trace opened first; 2 if one of them can't be
  abbrev pub HasReportStatus : List ℕ → ℕ → F → ℕ → Type 0
  HasReportStatus report limit file status =
      (opened : Result F E)
      × opens report opened
      × MatchResult opened
      (λ observed. HasAnswer (HasOrder report limit (bytes file) (bytes observed)) status)
      (λ _. status ≡ 2)

  abbrev pub HasOrderStatus : List ℕ → List ℕ → ℕ → ℕ → Type 0
  HasOrderStatus path report limit status =
      (opened : Result F E)
      × opens path opened
      × MatchResult opened (λ file. HasReportStatus report limit file status) (λ _. status ≡ 2)

  -- of checks of several files the greatest of theirs, and of none 0
  abbrev pub HasGreatestStatus : List (List ℕ) → ℕ → Type 0
  HasGreatestStatus [] status = status ≡ 0
  HasGreatestStatus (path ∷ more) status =
      (own : ℕ)
      × (others : ℕ)
      × HasFileStatus (HasChecked path) path own
      × HasGreatestStatus more others
      × (status ≡ max own others)

-- and of the program, by what opening an image may come to as well
module _ {F I E : Type 0} (bytes : F → Option (List ℕ)) (opens : List ℕ → Result F E → Type 0)
    (known : I → Option (List ℕ)) (may_fail : I → ℕ → ℕ → Type 0)
    (opens_image : List ℕ → Result I E → Type 0) where
  -- of the requests
  abbrev pub HasAskedStatus : Asking → ℕ → Type 0
  HasAskedStatus (Replaying file heap looks output) status =
      HasFileStatus bytes opens HasReplayReport file status
  HasAskedStatus (Racing file ordered output) status =
      HasFileStatus bytes opens (HasRaceReport ordered) file status
  HasAskedStatus (Auditing file legal output) status =
      HasFileStatus bytes opens (HasAuditReport legal) file status
  HasAskedStatus (Finding file limit None output) status =
      HasFileStatus bytes opens (HasOutcomes limit) file status
  HasAskedStatus (Finding file limit (Some report) output) status =
      HasOrderStatus bytes opens file report limit status
  HasAskedStatus (Checking files looks output) status =
      HasGreatestStatus bytes opens files status
  HasAskedStatus (Covering files missing quiet) status =
      HasCoverStatus bytes opens missing files status
  HasAskedStatus (Recording file) status = HasFileStatus bytes opens HasRecorded file status
  HasAskedStatus (Expanding file) status = HasFileStatus bytes opens HasExpanded file status
  HasAskedStatus (Explaining file line output) status =
      HasFileStatus bytes opens (HasExplained file line) file status
  HasAskedStatus (Generating seed steps cpus pages geometry hostile) status =
      (old : Option (List ℕ))
      × (new : Option (List ℕ))
      × IsMade steps
      (record { cpus = cpus; pages = pages; geometry = geometry; hostile = hostile }) old
      new status
  HasAskedStatus (Drawing file text) status =
      HasFileStatus bytes opens (HasDrawn text) file status
  HasAskedStatus (Dumping dump) status = HasDumpStatus known may_fail opens_image dump status

  -- of what words were read as
  abbrev pub HasReadStatus : Result Invocation UsageFault → ℕ → Type 0
  HasReadStatus (Ok asked) status = HasAskedStatus (asking_of asked) status
  HasReadStatus (Err fault) status = IsRefused fault status

  -- of the program's words, its name first
  abbrev pub HasWordsStatus : List (List ℕ) → ℕ → Type 0
  HasWordsStatus words status =
      (read : Result Invocation UsageFault) × IsRead words read × HasReadStatus read status

  -- of some words, those with which the system started it
  abbrev pub HasSomeStatus : ℕ → Type 0
  HasSomeStatus status = (words : List (List ℕ)) × HasWordsStatus words status
