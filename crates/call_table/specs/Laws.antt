-- Laws of the table (profile).
use Rattle.std.specs.Prelude.{◌≡◌, ℕ, ◌≤◌, Some, length}
use Rattle.call_table.specs.declared.argument.Arguments.{Arguments}
use Rattle.call_table.specs.declared.row.CallName.{CallName}
use Rattle.call_table.specs.declared.step.Step.{Step}
use Rattle.call_table.specs.Made.{step_by}
use Rattle.call_table.specs.Named.{blank, kept, named_by}
use Rattle.call_table.specs.Rows.{named, numbered, row}
use Rattle.call_table.specs.Words.{rights_named, text_of_vm_kind, vm_kind_named}
use Rattle.descriptor.specs.declared.Prot.{Prot}
use Rattle.page_state.specs.Texts.{text_of_prot}
use Rattle.call_table.specs.declared.step.VmKind.{VmKind}

-- the call and the arguments of a step make that step again
abbrev pub StepsAreMade : Type 0
StepsAreMade = (step : Step) → step_by (named_by step).call (named_by step).arguments ≡ step

-- the step that a call makes has that call and its arguments; those that the call doesn't take are
-- blank
abbrev pub CallsAreNamed : Type 0
CallsAreNamed =
    (call : CallName) (a : Arguments)
    → named_by (step_by call a) ≡ record { call = call; arguments = kept (row call).forms a blank }

-- each call has a name and a number of its own, and four arguments at most
abbrev pub RowsDiffer : Type 0
RowsDiffer =
    (call : CallName)
    → named (row call).word ≡ Some call
    × numbered (row call).number ≡ Some call
    × length (row call).forms ≤ 4

-- the word for a kind of VMs parses as that kind, and the word for rights as those rights
abbrev pub WordsAreRead : Type 0
WordsAreRead =
    ((kind : VmKind) → vm_kind_named (text_of_vm_kind kind) ≡ Some kind)
    × ((rights : Prot) → rights_named (text_of_prot rights) ≡ Some rights)
