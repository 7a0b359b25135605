-- The report of the outcomes of a trace (profile).
use Rattle.std.specs.Prelude.{◌≡◌, ◌⊎◌, ℕ, Bool, true, List, [], ◌∷◌, drop, take, Option, Some, None, MatchOption, Result, Ok, Err, Vec, if◌then◌else◌}
use Rattle.std.specs.Global.{Global}
use Rattle.std.specs.Str.{bytes_eq}
use Rattle.page_state.specs.declared.entry.PageRange.{PageRange}
use Rattle.page_state.specs.Regions.{memory_of}
use Rattle.call_table.specs.declared.reply.Reply.{Reply}
use Rattle.call_table.specs.Texts.{text_of_reply}
use Rattle.race_outcomes.specs.declared.finding.Outcome.{Outcome as RaceOutcome}
use Rattle.race_outcomes.specs.Orders.{AllOutcomes, GivesWanted, HasMorePoints, NoneWanted}
use Rattle.trace_lines.specs.Settings.{config_of}
use Rattle.trace_race.specs.declared.course.Asked.{Asked}
use Rattle.trace_race.specs.Courses.{Asking, in_order_of}
use Rattle.trace_reader.specs.declared.outcome.Outcome.{Outcome}
use Rattle.trace_reader.specs.declared.outcome.Outcome.TheVariants as outcomes
use Rattle.trace_text.specs.declared.fault.Fault.{Fault}
use Rattle.trace_text.specs.declared.report.ReportLine.TheVariants as report
use Rattle.trace_text.specs.declared.session.Stop.TheVariants as stops
use Rattle.trace_text.specs.Session.{IsNoWorld}
use Rattle.trace_text.specs.Texts.{text_of_report}
use Rattle.trace_text.specs.Worlds.{IsBootOf, Machine}
use Rattle.trace_outcomes.specs.declared.telling.Told.{Told}
use Rattle.trace_outcomes.specs.Races.{Texts, first_of, no_replies, nothing_wanted, raced_of, texts_in, first_replies, turns_raced}
use Rattle.trace_outcomes.specs.Reports.{told_in}
use Rattle.trace_outcomes.specs.Texts.{all_text, end_text, none_text, order_text, otherwise_text, too_many_text}

-- this text, how it ends, and the trace's fault with the number of its line
pub record Tells (text : List ℕ) (outcome : Outcome) (fault : Option (ℕ × Fault))
    (t : Told) : Type 0 where
  pub text_is : t.text.items ≡ text
  pub outcome_is : t.outcome ≡ outcome
  pub fault_is : t.fault ≡ fault

-- a text that is clean, and one that isn't, of a trace without a fault
abbrev pub ReportsClean : List ℕ → Told → Type 0
ReportsClean text = Tells text outcomes.Clean None

abbrev pub ReportsUnclean : List ℕ → Told → Type 0
ReportsUnclean text = Tells text outcomes.Disagreed None

-- a fault of a line is the whole text
abbrev pub ReportsFault : ℕ → Fault → Told → Type 0
ReportsFault line fault =
    Tells (text_of_report (report.Fault line fault ∷ [])) outcomes.Fault (Some (line, fault))

-- so is the place of a fault of the report
abbrev pub ReportsPlace : List ℕ → Told → Type 0
ReportsPlace said = Tells said outcomes.Fault None

-- no machine was booted: the layout was refused, or the boot
pub record IsNoBoot {T : Type 0} (Faults : ℕ → Fault → T → Type 0) (a : Asking) (carve : PageRange)
    (number : ℕ) (t : T) : Type 0 where
  pub fault : Fault
  pub refused : IsNoWorld (stops.Fault fault) (memory_of a.told.regions carve) (config_of a.told)
  pub tells : Faults number fault t

-- a machine was booted, and this is its report
pub record IsBoot {T : Type 0} (Tells : Machine → T → Type 0) (a : Asking) (carve : PageRange)
    (t : T) : Type 0 where
  pub machine : Machine
  pub booted : IsBootOf (memory_of a.told.regions carve) (config_of a.told) machine
  pub tells : Tells machine t

-- the answer to a trace whose boot is refused, to one without a boot, and to one that boots a
-- machine; a boot comes after a carve-out
abbrev pub OnBoot : {T : Type 0}
    → (ℕ → Fault → T → Type 0)
    → (T → Type 0)
    → (Machine → T → Type 0)
    → Asking
    → T
    → Type 0
OnBoot Faults Idle Tells a t =
    MatchOption a.boot (Idle t)
    (λ number. MatchOption a.told.carve (Idle t)
    (λ carve. IsNoBoot Faults a carve number t ⊎ IsBoot Tells a carve t))

-- the report of what a whole trace asks for; a fault of a line is the whole text
abbrev pub OnRead : (Asking → Told → Type 0) → Result Asking (ℕ × Fault) → Told → Type 0
OnRead Tells (Err told) t = ReportsFault told.0 told.1 t
OnRead Tells (Ok a) t = Tells a t

-- a layer has more points than the limit: orders of `made` steps, whose replies have the wanted
-- texts, lead to them
pub record ReportsTooMany (m : Machine) (a : Asking) (texts : Texts)
    (wanted : List (Option (Vec ℕ Global))) (limit : ℕ) (t : Told) : Type 0 where
  pub made : ℕ
  pub more : HasMorePoints m.layout (first_replies m a texts).1
      (turns_raced a texts) wanted limit made
  pub tells : ReportsUnclean (too_many_text made) t

-- all outcomes of the steps after `start`, from the state that those before it lead to
pub record ReportsAll (m : Machine) (a : Asking) (t : Told) : Type 0 where
  pub found : List RaceOutcome
  pub all : AllOutcomes m.layout (first_replies m a (no_replies a.steps)).1
      (turns_raced a (no_replies a.steps)) (nothing_wanted (raced_of a)) found
  pub tells : ReportsClean
      (all_text (first_of a) (first_replies m a (no_replies a.steps)).0 (raced_of a) found) t

abbrev pub ReportsRaced : ℕ → Asking → Machine → Told → Type 0
ReportsRaced limit a m t =
    ReportsAll m a t ⊎ ReportsTooMany m a (no_replies a.steps) (nothing_wanted (raced_of a)) limit t

-- all outcomes of a trace
abbrev pub ReportsOutcomes : ℕ → Result Asking (ℕ × Fault) → Told → Type 0
ReportsOutcomes limit =
    OnRead (λ a. OnBoot ReportsFault (ReportsClean (end_text 0 0)) (ReportsRaced limit a) a)

-- a reply has the given text, if one was given
abbrev pub is_read : List ℕ → Option (List ℕ) → Bool
is_read said None = true
is_read said (Some text) = bytes_eq said text

-- the first step with another text than its reply, by its line, with the reply
abbrev pub first_apart : List Asked → List Reply → Texts → Option (ℕ × Reply)
first_apart [] replies texts = None
first_apart (a ∷ more) [] texts = None
first_apart (a ∷ more) (reply ∷ replies) [] = None
first_apart (a ∷ more) (reply ∷ replies) (text ∷ texts) =
    if is_read (text_of_reply reply) text then first_apart more replies texts
    else Some (a.line, reply)

module _ (m : Machine) (a : Asking) (texts : Texts) where
  -- some order of the steps after `start` gives these replies, and the text has it; or no order
  -- does
  abbrev pub ReportsOrder : List (Option (Vec ℕ Global)) → Told → Type 0
  ReportsOrder wanted t =
      ((order : List ℕ)
      × GivesWanted m.layout (first_replies m a texts).1 (turns_raced a texts) wanted order
      × ReportsClean (order_text (raced_of a) order) t)
      ⊎ (NoneWanted m.layout (first_replies m a texts).1 (turns_raced a texts) wanted
      × ReportsUnclean none_text t)

  -- so it is with the replies to these steps, unless there are too many points
  pub record ReportsBehind (limit : ℕ) (t : Told) : Type 0 where
    pub wanted : List (Option (Vec ℕ Global))
    pub wanted_is : texts_in wanted ≡ drop (in_order_of a) texts
    pub tells : ReportsOrder wanted t ⊎ ReportsTooMany m a texts wanted limit t

  -- and if the replies to the steps before `start` are the model's
  abbrev pub ReportsObserved : ℕ → Told → Type 0
  ReportsObserved limit t =
      MatchOption
      (first_apart (first_of a) (first_replies m a texts).0 (take (in_order_of a) texts))
      (ReportsBehind limit t) (λ x. ReportsUnclean (otherwise_text x.0 (text_of_reply x.1)) t)

-- the answer for a report, or the place of its fault
abbrev pub ReportsBy : ℕ → Asking → Result Texts (List ℕ) → Told → Type 0
ReportsBy limit a (Err said) t = ReportsPlace said t
ReportsBy limit a (Ok texts) t =
    OnBoot ReportsFault (ReportsClean (order_text [] [])) (λ m. ReportsObserved m a texts limit) a t

-- whether some order of a trace's steps gives the replies of a report of these lines
abbrev pub AnswersReport : List ℕ → List (List ℕ) → ℕ → Result Asking (ℕ × Fault) → Told → Type 0
AnswersReport name lines limit =
    OnRead (λ a. ReportsBy limit a (told_in name a.steps 1 (no_replies a.steps) lines))
