-- Where a line may come (profile).
use Rattle.std.specs.Prelude.{Bool, true, false, not, ◌&&◌, is_some, is_none, IsTrue}
use Rattle.trace_lines.specs.declared.line.Line.{Line}
use Rattle.trace_lines.specs.declared.line.Line.TheVariants as lines
use Rattle.trace_lines.specs.declared.place.Allows.{Allows}
use Rattle.trace_lines.specs.declared.place.SettingName.{SettingName}
use Rattle.trace_lines.specs.declared.place.SettingName.TheVariants.{Geometry, Cpus, Log, Memory, Device, Carve}
use Rattle.trace_lines.specs.declared.place.Verb.{Verb}
use Rattle.trace_lines.specs.declared.place.Verb.TheVariants.{Setting, Boot, Step, Query, Poke, Start}
use Rattle.trace_lines.specs.Settings.{Told}

-- what each program allows before the boot
abbrev pub before_boot : Allows
before_boot =
    record {
      settings = true;
      boot = true;
      steps = false;
      queries = false;
      pokes = false;
      start = false;
    }

-- what `replay` allows after it, and whether `start` came already, which comes at most once
abbrev pub of_replay : Bool → Allows
of_replay started =
    record {
      settings = false;
      boot = false;
      steps = true;
      queries = true;
      pokes = false;
      start = not started;
    }

-- `race`: no question
abbrev pub of_race : Bool → Allows
of_race started =
    record {
      settings = false;
      boot = false;
      steps = true;
      queries = false;
      pokes = false;
      start = not started;
    }

-- `audit`, up to the first poke
abbrev pub of_audit : Bool → Allows
of_audit started =
    record {
      settings = false;
      boot = false;
      steps = true;
      queries = true;
      pokes = true;
      start = not started;
    }

-- and after it: further pokes
abbrev pub after_poke : Allows
after_poke =
    record {
      settings = false;
      boot = false;
      steps = false;
      queries = false;
      pokes = true;
      start = false;
    }

-- whether a setting may come after these: any number of regions, and all else once
abbrev pub may_set : Told → SettingName → Bool
may_set told Geometry = is_none told.geometry
may_set told Cpus = is_none told.cpus
may_set told Log = is_none told.log
may_set told Memory = true
may_set told Device = true
may_set told Carve = is_none told.carve

-- whether a line may come after these settings if the program allows these lines: the boot only
-- after the carve-out
abbrev pub may_stand : Allows → Told → Verb → Bool
may_stand allows told (Setting name) = allows.settings && may_set told name
may_stand allows told Boot = allows.boot && is_some told.carve
may_stand allows told Step = allows.steps
may_stand allows told Query = allows.queries
may_stand allows told Poke = allows.pokes
may_stand allows told Start = allows.start

-- a line of a kind that the program allows
abbrev pub IsAllowed : Allows → Line → Type 0
IsAllowed allows (lines.Setting setting) = IsTrue allows.settings
IsAllowed allows lines.Boot = IsTrue allows.boot
IsAllowed allows (lines.Step cpu step) = IsTrue allows.steps
IsAllowed allows (lines.Query query) = IsTrue allows.queries
IsAllowed allows (lines.Poke poke) = IsTrue allows.pokes
IsAllowed allows lines.Start = IsTrue allows.start
