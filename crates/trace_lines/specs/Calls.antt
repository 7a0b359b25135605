-- What a step line of a call says, by the call's row of the table (profile).
use Rattle.std.specs.Prelude.{ℕ, ◌+◌, List, [], ◌∷◌, Option, Some, option_map, option_and_then}
use Rattle.call_table.specs.declared.argument.Arguments.{Arguments}
use Rattle.call_table.specs.declared.argument.Form.{Form}
use Rattle.call_table.specs.declared.argument.Form.TheVariants.{Frame, Page, Count, LastCount, Vcpus, Vcpu, Vm, Kind, Rights}
use Rattle.call_table.specs.Made.{step_by}
use Rattle.call_table.specs.Named.{blank}
use Rattle.call_table.specs.Rows.{named, row}
use Rattle.trace_lines.specs.declared.call.Called.{Called}
use Rattle.trace_lines.specs.Arguments.{number_at, vm_word_at, kind_word_at, rights_word_at, count_word_at, one_more}

-- arguments with the one of a form replaced by the argument at a place
abbrev pub argument_at : Form → List (List ℕ) → ℕ → Arguments → Option Arguments
argument_at Frame words place a = option_map (λ n. record a { frame = n }) (number_at words place)
argument_at Page words place a = option_map (λ n. record a { page = n }) (number_at words place)
argument_at Count words place a = option_map (λ n. record a { count = n }) (number_at words place)
argument_at LastCount words place a =
    option_map (λ n. record a { count = n }) (count_word_at words place)
argument_at Vcpus words place a = option_map (λ n. record a { vcpus = n }) (number_at words place)
argument_at Vcpu words place a = option_map (λ n. record a { vcpu = n }) (number_at words place)
argument_at Vm words place a = option_map (λ v. record a { vm = v }) (vm_word_at words place)
argument_at Kind words place a = option_map (λ k. record a { kind = k }) (kind_word_at words place)
argument_at Rights words place a =
    option_map (λ r. record a { rights = r }) (rights_word_at words place)

-- and those of such forms from a place on
abbrev pub arguments_from : List Form → List (List ℕ) → ℕ → Arguments → Option Arguments
arguments_from [] words place a = Some a
arguments_from (form ∷ more) words place a =
    option_and_then (arguments_from more words (place + 1)) (argument_at form words place a)

-- the number of words that a line has for a form at a place: none if a last count is missing
abbrev pub words_of : Form → List (List ℕ) → ℕ → ℕ
words_of LastCount words place = one_more words place
words_of other words place = 1

-- and for such forms from a place on
abbrev pub words_from : List Form → List (List ℕ) → ℕ → ℕ
words_from [] words place = 0
words_from (form ∷ more) words place = words_of form words place + words_from more words (place + 1)

-- what a step line of this name has: its CPU, the name and the arguments, and the step that these
-- make
unfoldable pub called : List (List ℕ) → List ℕ → Option Called
called words name =
    option_map
    (λ call. record {
      words = 2 + words_from (row call).forms words 2;
      step = option_map (step_by call) (arguments_from (row call).forms words 2 blank);
    })
    (named name)
