-- The words of the program, as clap reads them.
use Rattle.std.specs.Prelude.{true, Some, codes}
use Rattle.clap.specs.Lexer.{usize_max}
use Rattle.clap.specs.declared.builder.action.ArgAction.TheVariants.{Append, Set, SetTrue}
use Rattle.clap.specs.Words.{App, Rule, Text, new_app, new_rule, with_rule, with_subcommand}

-- a required positional value
abbrev pub needed : Text → Rule
needed id = record (new_rule id) { required = true; action = Some Set }

-- values that must be given, one or more
abbrev pub files : Rule
files =
    record (new_rule (codes "FILE")) {
      required = true;
      range = Some (record { start_inclusive = 1; end_inclusive = usize_max });
      action = Some Append;
    }

-- `--ID VALUE`
abbrev pub option : Text → Rule
option id = record (new_rule id) { long = Some id; value_names = 1; action = Some Set }

-- `--ID VALUE` that must be given
abbrev pub needed_option : Text → Rule
needed_option id =
    record (new_rule id) { long = Some id; value_names = 1; required = true; action = Some Set }

-- `--ID VALUE`, as often as it is given
abbrev pub options : Text → Rule
options id = record (new_rule id) { long = Some id; value_names = 1; action = Some Append }

-- `--ID`
abbrev pub flag : Text → Rule
flag id = record (new_rule id) { long = Some id; action = Some SetTrue }

-- `FILE`, `--oracle WHEN`, `--json` and `--quiet`
abbrev pub file : Rule
file = needed (codes "FILE")

abbrev pub oracle : Rule
oracle = option (codes "oracle")

abbrev pub json : Rule
json = flag (codes "json")

abbrev pub quiet : Rule
quiet = flag (codes "quiet")

-- a subcommand that also takes how its report is written
abbrev pub reporting : App → App
reporting app = with_rule (with_rule app json) quiet

-- the subcommands, by what they take
abbrev pub replay : App
replay =
    reporting
    (with_rule
    (with_rule (with_rule (new_app (codes "replay")) file) (option (codes "heap"))) oracle)

abbrev pub race : App
race = reporting (with_rule (with_rule (new_app (codes "race")) file) (flag (codes "order")))

abbrev pub audit : App
audit = reporting (with_rule (with_rule (new_app (codes "audit")) file) (flag (codes "legal")))

abbrev pub outcomes : App
outcomes =
    reporting
    (with_rule
    (with_rule (with_rule (new_app (codes "outcomes")) file) (option (codes "limit")))
    (option (codes "observed")))

abbrev pub check : App
check =
    reporting
    (with_rule
    (with_rule
    (with_rule (with_rule (new_app (codes "check")) files) (flag (codes "record")))
    (flag (codes "expand"))) oracle)

abbrev pub cover : App
cover =
    with_rule (with_rule (with_rule (new_app (codes "cover")) files) (flag (codes "missing"))) quiet

abbrev pub explain : App
explain = reporting (with_rule (with_rule (new_app (codes "explain")) file) (option (codes "line")))

abbrev pub generate : App
generate =
    with_rule
    (with_rule
    (with_rule
    (with_rule
    (with_rule (with_rule (new_app (codes "generate")) (needed (codes "SEED")))
    (needed (codes "STEPS")))
    (option (codes "cpus")))
    (option (codes "pages")))
    (option (codes "geometry"))) (option (codes "hostile"))

abbrev pub draw : App
draw = with_rule (with_rule (new_app (codes "draw")) file) (flag (codes "text"))

abbrev pub roots : App
roots =
    with_rule
    (with_rule
    (with_rule (with_rule (new_app (codes "dump")) (needed (codes "IMAGE")))
    (needed_option (codes "host")))
    (needed_option (codes "hyp")))
    (options (codes "guest"))

abbrev pub dump : App
dump =
    reporting
    (with_rule
    (with_rule
    (with_rule
    (with_rule (with_rule roots (options (codes "profile"))) (options (codes "skip")))
    (option (codes "base")))
    (option (codes "vmemmap")))
    (flag (codes "draw")))

-- the program: it needs a subcommand, shows help without words, and has a version
abbrev pub named : App
named =
    record (new_app (codes "trace_cli")) {
      top = record (new_app (codes "trace_cli")).top
          { has_version = true; subcommand_required = true; arg_required_else_help = true };
    }

abbrev pub program : App
program =
    with_subcommand
    (with_subcommand
    (with_subcommand
    (with_subcommand
    (with_subcommand
    (with_subcommand
    (with_subcommand
    (with_subcommand
    (with_subcommand
    (with_subcommand named replay.top) race.top) audit.top)
    outcomes.top) check.top) cover.top) explain.top) generate.top) draw.top) dump.top
