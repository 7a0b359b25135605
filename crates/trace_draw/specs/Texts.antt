-- How owner rows and VM slots are written, a line for each (profile).
use Rattle.std.specs.Prelude.{ℕ, zero, suc, List, [], ◌∷◌, ◌++◌, codes}
use Rattle.std.specs.Fmt.{decimal}
use Rattle.std.specs.List.{flat_map}
use Rattle.page_state.specs.declared.row.Row.{Row}
use Rattle.page_state.specs.Texts.{text_of_page, text_of_row}
use Rattle.reference_model.specs.model.State.{Slot, Stand, vacant}
use Rattle.run_list.specs.declared.run.Run.{Run}
use Rattle.call_table.specs.Texts.{text_of_vm}
use Rattle.call_table.specs.Words.{text_of_vm_kind}
use Rattle.state_changes.specs.Texts.{text_of_stand}

-- a run of rows: its first frame, how many frames, and the first one's row
abbrev pub text_of_run : Run Row → List ℕ
text_of_run run =
    codes "rows " ++ text_of_page run.pages.first.0 ++ codes " " ++ decimal run.pages.count
    ++ codes " " ++ text_of_row run.value

abbrev pub line_of_run : Run Row → List ℕ
line_of_run run = text_of_run run ++ codes "\n"

-- runs, a line for each
abbrev pub text_of_runs : List (Run Row) → List ℕ
text_of_runs runs = flat_map line_of_run runs

-- a slot: its VM, its stage, the kind, and how many vCPUs
abbrev pub text_of_slot : ℕ → Slot → List ℕ
text_of_slot v s =
    codes "vm " ++ text_of_vm (record { slot = v; generation = s.generation }) ++ codes " "
    ++ text_of_stand s.stand ++ codes " " ++ text_of_vm_kind s.kind ++ codes " vcpus "
    ++ decimal s.vcpus

-- the line of a slot: none of one that is Empty
abbrev pub line_by : Stand → List ℕ → List ℕ
line_by vacant text = []
line_by other text = text ++ codes "\n"

-- the lines of the slots below a number
unfoldable pub text_of_slots : (ℕ → Slot) → ℕ → List ℕ
text_of_slots slot zero = []
text_of_slots slot (suc v) =
    text_of_slots slot v ++ line_by (slot v).stand (text_of_slot v (slot v))
