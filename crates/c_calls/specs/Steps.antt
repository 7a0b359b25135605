-- Steps in numbers: the call's, and those of its arguments in the order of its forms, and then 0.
use Rattle.std.specs.Prelude.{ℕ, List, [], ◌∷◌}
use Rattle.call_table.specs.declared.argument.Arguments.{Arguments}
use Rattle.call_table.specs.declared.argument.Form.{Form}
use Rattle.call_table.specs.declared.argument.Form.TheVariants.{Frame, Page, Count, LastCount, Vcpus, Vcpu, Vm, Kind, Rights}
use Rattle.call_table.specs.declared.step.Step.{Step}
use Rattle.call_table.specs.declared.step.VmKind.{VmKind}
use Rattle.call_table.specs.declared.step.VmKind.TheVariants.{Plain, Protected}
use Rattle.call_table.specs.Named.{named_by}
use Rattle.call_table.specs.Rows.{row}
use Rattle.c_words.specs.declared.step.PlainStep.{PlainStep}
use Rattle.c_words.specs.Numbers.{rights_written}

abbrev pub vm_kind_written : VmKind → ℕ
vm_kind_written Plain = 0
vm_kind_written Protected = 1

-- the number of an argument of a form, of a VM its slot
abbrev pub number_of : Form → Arguments → ℕ
number_of Frame a = a.frame
number_of Page a = a.page
number_of Count a = a.count
number_of LastCount a = a.count
number_of Vcpus a = a.vcpus
number_of Vcpu a = a.vcpu
number_of Vm a = a.vm.slot
number_of Kind a = vm_kind_written a.kind
number_of Rights a = rights_written a.rights

-- an argument before those that a step has. A VM is two numbers, its slot and its generation
abbrev pub in_front : Form → Arguments → PlainStep → PlainStep
in_front Vm a s =
    record s { first = a.vm.slot; second = a.vm.generation; third = s.first; fourth = s.second }
in_front form a s =
    record s { first = number_of form a; second = s.first; third = s.second; fourth = s.third }

-- and arguments of these forms
abbrev pub all_in_front : List Form → Arguments → PlainStep → PlainStep
all_in_front [] a s = s
all_in_front (form ∷ more) a s = in_front form a (all_in_front more a s)

-- a call without arguments
abbrev pub bare : ℕ → PlainStep
bare call = record { call = call; first = 0; second = 0; third = 0; fourth = 0 }

abbrev pub step_written : Step → PlainStep
step_written step = let named = named_by step in
    all_in_front (row named.call).forms named.arguments (bare (row named.call).number)
