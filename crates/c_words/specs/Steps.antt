-- Which steps plain steps say: a call's number and its arguments, in the order of the call's forms.
-- A VM is two numbers, its slot and its generation.
use Rattle.std.specs.Prelude.{List, [], ◌∷◌, Option, Some, option_map, option_and_then}
use Rattle.call_table.specs.declared.argument.Arguments.{Arguments}
use Rattle.call_table.specs.declared.argument.Form.{Form}
use Rattle.call_table.specs.declared.argument.Form.TheVariants.{Frame, Page, Count, LastCount, Vcpus, Vcpu, Vm, Kind, Rights}
use Rattle.call_table.specs.declared.step.Step.{Step}
use Rattle.call_table.specs.Made.{step_by}
use Rattle.call_table.specs.Named.{blank}
use Rattle.call_table.specs.Rows.{numbered, row}
use Rattle.c_words.specs.declared.step.PlainStep.{PlainStep}
use Rattle.c_words.specs.Numbers.{rights_from_c, vm_kind_from_c}

-- arguments, of which that of a form is what the first number says, of a VM the first two
abbrev pub argument_from_c : Form → PlainStep → Arguments → Option Arguments
argument_from_c Frame s a = Some (record a { frame = s.first })
argument_from_c Page s a = Some (record a { page = s.first })
argument_from_c Count s a = Some (record a { count = s.first })
argument_from_c LastCount s a = Some (record a { count = s.first })
argument_from_c Vcpus s a = Some (record a { vcpus = s.first })
argument_from_c Vcpu s a = Some (record a { vcpu = s.first })
argument_from_c Vm s a = Some (record a { vm = record { slot = s.first; generation = s.second } })
argument_from_c Kind s a = option_map (λ k. record a { kind = k }) (vm_kind_from_c s.first)
argument_from_c Rights s a = option_map (λ r. record a { rights = r }) (rights_from_c s.first)

-- the numbers after those of such an argument
abbrev pub numbers_behind : Form → PlainStep → PlainStep
numbers_behind Vm s = record s { first = s.third; second = s.fourth; third = 0; fourth = 0 }
numbers_behind other s =
    record s { first = s.second; second = s.third; third = s.fourth; fourth = 0 }

-- arguments, of which those of these forms are what the numbers say in order
abbrev pub arguments_from_c : List Form → PlainStep → Arguments → Option Arguments
arguments_from_c [] s a = Some a
arguments_from_c (form ∷ more) s a =
    option_and_then (arguments_from_c more (numbers_behind form s)) (argument_from_c form s a)

-- the step of the call of a number
unfoldable pub step_from_c : PlainStep → Option Step
step_from_c s =
    option_and_then (λ call. option_map (step_by call) (arguments_from_c (row call).forms s blank))
    (numbered s.call)
