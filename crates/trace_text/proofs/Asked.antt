-- What a line says before and after the boot, and the step that its bytes ask for.
use Rattle.std.proofs.Common.{◌≡◌, ℕ, refl, Bool, true, false, not, ◌==◌, List, length, Option, Some, None, Result, Ok, Err, IfSome, option_map}
use Rattle.std.specs.Prelude.{ok_or, if◌then◌else◌, is_some, nat_lt}
use Rattle.call_table.specs.declared.step.Step.{Step}
use Rattle.trace_lines.specs.declared.asked.Asked.{Asked}
use Rattle.trace_lines.specs.declared.fault.LineFault.{LineFault}
use Rattle.trace_lines.specs.declared.fault.LineFault.TheVariants.{Long, Byte, Space, Place, Count, Form}
use Rattle.trace_lines.specs.declared.line.Line.{Line}
use Rattle.trace_lines.specs.declared.line.Line.TheVariants as lines
use Rattle.trace_lines.specs.declared.place.SettingName.{SettingName}
use Rattle.trace_lines.specs.declared.place.Verb.{Verb}
use Rattle.trace_lines.specs.declared.place.Verb.TheVariants as verbs
use Rattle.trace_lines.specs.Asked.{asked}
use Rattle.trace_lines.specs.Places.{may_stand, may_set, of_replay}
use Rattle.trace_lines.specs.Said.{said, said_by_asked}
use Rattle.trace_lines.specs.Settings.{Told, no_settings}
use Rattle.trace_words.specs.Words.{words_of, has_stray_byte, is_silent, has_stray_space}
use Rattle.trace_lines.proofs.Saying.{IsOf, asked_suits}
use Rattle.trace_text.specs.Laws.{step_of_line, step_asked}
use Rattle.trace_text.specs.Session.{allowed}

-- settings and the boot stand before the boot and ask for no step, all else stands behind it, and a step line asks for
-- its step
abbrev pub FitsLine : Bool → Option (ℕ × Step) → Line → Type 0
FitsLine booted wanted (lines.Setting setting) = (booted ≡ false) × (wanted ≡ None)
FitsLine booted wanted lines.Boot = (booted ≡ false) × (wanted ≡ None)
FitsLine booted wanted (lines.Step cpu step) = (booted ≡ true) × (wanted ≡ Some (cpu, step))
FitsLine booted wanted (lines.Query query) = (booted ≡ true) × (wanted ≡ None)
FitsLine booted wanted (lines.Poke poke) = ⊥
FitsLine booted wanted lines.Start = (booted ≡ true) × (wanted ≡ None)

abbrev pub Fits : Bool → Result (Option Line) LineFault → Option (ℕ × Step) → Type 0
Fits booted (Err fault) wanted = Unit {0}
Fits booted (Ok None) wanted = wanted ≡ None
Fits booted (Ok (Some line)) wanted = FitsLine booted wanted line

-- a line that stands before the boot alone
before : (may counted : Bool) (o : Option Line) → IfSome o (FitsLine false None)
    → Fits false
    (if not may then Err Place else (if not counted then Err Count else ok_or (option_map Some o) Form)) None
before false counted o h = tt
before true false o h = tt
before true true None h = tt
before true true (Some line) h = h

-- and one that stands behind it
after : (counted : Bool) (o : Option Line) → IfSome o (λ line. FitsLine true (step_of_line (Ok (Some line))) line)
    → Fits true (if not counted then Err Count else ok_or (option_map Some o) Form)
    (step_of_line (if not counted then Err Count else ok_or (option_map Some o) Form))
after false o h = tt
after true None h = tt
after true (Some line) h = h

of_setting : (name : SettingName) (o : Option Line)
    → IfSome o (IsOf (verbs.Setting name))
    → IfSome o (FitsLine false None)
of_setting name None h = tt
of_setting name (Some (lines.Setting setting)) h = (refl, refl)
of_setting name (Some line) h = absurd h

of_boot : (o : Option Line) → IfSome o (IsOf verbs.Boot) → IfSome o (FitsLine false None)
of_boot None h = tt
of_boot (Some lines.Boot) h = (refl, refl)
of_boot (Some line) h = absurd h

of_step : (o : Option Line)
    → IfSome o (IsOf verbs.Step)
    → IfSome o (λ line. FitsLine true (step_of_line (Ok (Some line))) line)
of_step None h = tt
of_step (Some (lines.Step cpu step)) h = (refl, refl)
of_step (Some line) h = absurd h

of_query : (o : Option Line)
    → IfSome o (IsOf verbs.Query)
    → IfSome o (λ line. FitsLine true (step_of_line (Ok (Some line))) line)
of_query None h = tt
of_query (Some (lines.Query query)) h = (refl, refl)
of_query (Some line) h = absurd h

of_start : (o : Option Line)
    → IfSome o (IsOf verbs.Start)
    → IfSome o (λ line. FitsLine true (step_of_line (Ok (Some line))) line)
of_start None h = tt
of_start (Some lines.Start) h = (refl, refl)
of_start (Some line) h = absurd h

by_verb : (told : Told) (booted started counted : Bool) (verb : Verb) (o : Option Line) → IfSome o (IsOf verb)
    → Fits booted
    (if not (may_stand (allowed booted started) told verb) then Err Place
    else (if not counted then Err Count else ok_or (option_map Some o) Form))
    (step_of_line
    (if not (may_stand (of_replay false) no_settings verb) then Err Place
    else (if not counted then Err Count else ok_or (option_map Some o) Form)))
by_verb told true started counted (verbs.Setting name) o h = tt
by_verb told true started counted verbs.Boot o h = tt
by_verb told true started counted verbs.Step o h = after counted o (of_step o h)
by_verb told true started counted verbs.Query o h = after counted o (of_query o h)
by_verb told true started counted verbs.Poke o h = tt
by_verb told true false counted verbs.Start o h = after counted o (of_start o h)
by_verb told true true counted verbs.Start o h = tt
by_verb told false started counted (verbs.Setting name) o h =
    before (may_set told name) counted o (of_setting name o h)
by_verb told false started counted verbs.Boot o h = before (is_some told.carve) counted o (of_boot o h)
by_verb told false started counted verbs.Step o h = tt
by_verb told false started counted verbs.Query o h = tt
by_verb told false started counted verbs.Poke o h = tt
by_verb told false started counted verbs.Start o h = tt

by_asked : (told : Told) (booted started : Bool) (count : ℕ) (o : Option Asked)
    → IfSome o (λ a. IfSome a.line (IsOf a.verb))
    → Fits booted (said_by_asked (allowed booted started) told count o)
    (step_of_line (said_by_asked (of_replay false) no_settings count o))
by_asked told booted started count None h = tt
by_asked told booted started count (Some a) h = by_verb told booted started (count == a.words) a.verb a.line h

-- the tests of bytes and spaces in front
behind : (booted long stray silent spaced : Bool) (x y : Result (Option Line) LineFault)
    → Fits booted x (step_of_line y)
    → Fits booted
    (if long then Err Long
    else (if stray then Err Byte else (if silent then Ok None else (if spaced then Err Space else x))))
    (step_of_line
    (if long then Err Long
    else (if stray then Err Byte else (if silent then Ok None else (if spaced then Err Space else y)))))
behind booted true stray silent spaced x y h = tt
behind booted false true silent spaced x y h = tt
behind booted false false true spaced x y h = refl
behind booted false false false true x y h = tt
behind booted false false false false x y h = h

pub fits : (told : Told) (booted started : Bool) (line : List ℕ)
    → Fits booted (said (allowed booted started) told line) (step_asked line)
unfolding said
fits told booted started line =
    behind booted (nat_lt 256 (length line)) (has_stray_byte line) (is_silent line) (has_stray_space line) _ _
    (by_asked told booted started (length (words_of line)) (asked (words_of line)) (asked_suits (words_of line)))
