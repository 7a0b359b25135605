-- The numbers of refused inputs.
use Rattle.std.specs.Prelude.{ℕ, ℤ, Some, None, negsuc}
use Rattle.page_state.specs.declared.layout.LayoutFault.TheVariants as layouts
use Rattle.ghost_spec.specs.declared.filled.GhostFault.{GhostFault}
use Rattle.ghost_spec.specs.declared.filled.GhostFault.TheVariants as ghosts
use Rattle.c_states.specs.declared.judge.Unjudged.{Unjudged}
use Rattle.c_states.specs.declared.judge.Unjudged.TheVariants as unjudged
use Rattle.c_states.specs.declared.judge.Unmade.{Unmade}
use Rattle.c_states.specs.declared.judge.Unmade.TheVariants as unmade
use Rattle.c_states.specs.declared.layout.PlainLayoutFault.{PlainLayoutFault}
use Rattle.c_states.specs.declared.layout.PlainLayoutFault.TheVariants as memories
use Rattle.c_states.specs.declared.state.PlainFault.{PlainFault}
use Rattle.c_states.specs.declared.state.PlainFault.TheVariants as faults
use Rattle.c_states.specs.declared.state.PlainList.{PlainList}
use Rattle.c_states.specs.declared.state.PlainList.TheVariants as lists
use Rattle.c_judge.specs.declared.found.Unfound.{Unfound}
use Rattle.c_judge.specs.declared.found.Unfound.TheVariants as unfound
use Rattle.c_judge.specs.declared.wanted.FreedomsFault.{FreedomsFault}
use Rattle.c_judge.specs.declared.wanted.FreedomsFault.TheVariants as freedoms
use Rattle.pkvm_oracle.specs.declared.judged.PlainRefused.{PlainRefused}

abbrev pub number_of_list : PlainList → ℕ
number_of_list lists.Runs = 1
number_of_list lists.Tables = 2
number_of_list lists.Frames = 3
number_of_list lists.Slots = 4
number_of_list lists.Loads = 5
number_of_list lists.Guests = 6
number_of_list lists.Cpus = 7
number_of_list lists.Rows = 8

-- of a layout; 0 if memory ran out
abbrev pub fault_of_layout : PlainLayoutFault → ℕ
fault_of_layout memories.Geometry = 1
fault_of_layout (memories.Memory layouts.TooMany) = 2
fault_of_layout (memories.Memory layouts.Empty) = 3
fault_of_layout (memories.Memory layouts.PastLimit) = 4
fault_of_layout (memories.Memory layouts.Overlap) = 5
fault_of_layout (memories.Memory layouts.CarveOutside) = 6
fault_of_layout (memories.Memory layouts.NoMemory) = 0
fault_of_layout memories.NoMemory = 0

-- of freedoms
abbrev pub fault_of_freedoms : FreedomsFault → ℕ
fault_of_freedoms freedoms.Unknown = 23
fault_of_freedoms freedoms.WithoutOwnTables = 24

-- of owner rows, which have two kinds of faults
abbrev pub fault_of_rows : GhostFault → ℕ
fault_of_rows ghosts.TooLarge = 8
fault_of_rows ghosts.Overlap = 9
fault_of_rows other = 0

-- of the lists of a state, which never have a wrong count
abbrev pub fault_of_lists : GhostFault → ℕ
fault_of_lists ghosts.WrongCount = 0
fault_of_lists ghosts.TooLarge = 11
fault_of_lists ghosts.Overlap = 12
fault_of_lists ghosts.TableTwice = 13
fault_of_lists ghosts.FrameTwice = 14
fault_of_lists ghosts.NoMemory = 0

-- a fault of no list
abbrev pub of_fault : ℕ → PlainRefused
of_fault fault = record { fault = fault; list = 0; index = 0 }

abbrev pub refused_by_state : PlainFault → PlainRefused
refused_by_state (faults.Unknown list at) =
    record { fault = 7; list = number_of_list list; index = at }
refused_by_state (faults.Twice list at) =
    record { fault = 10; list = number_of_list list; index = at }
refused_by_state (faults.Rows fault) = of_fault (fault_of_rows fault)
refused_by_state (faults.Lists fault None) = of_fault (fault_of_lists fault)
refused_by_state (faults.Lists fault (Some told)) =
    record { fault = fault_of_lists fault; list = number_of_list told.0; index = told.1 }
refused_by_state faults.NoMemory = of_fault 0

abbrev pub refused_by_made : Unmade → PlainRefused
refused_by_made (unmade.Layout fault) = of_fault (fault_of_layout fault)
refused_by_made (unmade.State fault) = refused_by_state fault

-- why there is no judgement, of the layout and the states
abbrev pub refused_by : Unjudged → PlainRefused
refused_by (unjudged.Before why) = refused_by_made why
refused_by (unjudged.After why) = refused_by_made why
refused_by other = of_fault 0

-- the status of a layout (-8), of the state, and -12 if memory ran out
abbrev pub status_by_made : ℤ → Unmade → ℤ
status_by_made state (unmade.Layout memories.NoMemory) = negsuc 11
status_by_made state (unmade.Layout (memories.Memory layouts.NoMemory)) = negsuc 11
status_by_made state (unmade.Layout other) = negsuc 7
status_by_made state (unmade.State faults.NoMemory) = negsuc 11
status_by_made state (unmade.State other) = state

-- the status if there is no judgement: -5 to -11, and -12 if memory ran out
abbrev pub status_by : Unjudged → ℤ
status_by unjudged.Step = negsuc 4
status_by unjudged.Reply = negsuc 5
status_by unjudged.Cpu = negsuc 6
status_by (unjudged.Before why) = status_by_made (negsuc 8) why
status_by unjudged.Generation = negsuc 10
status_by (unjudged.After why) = status_by_made (negsuc 9) why
status_by unjudged.NoMemory = negsuc 11

-- the same, if the freedoms are tested first
abbrev pub refused_by_found : Unfound → PlainRefused
refused_by_found (unfound.Freedoms fault) = of_fault (fault_of_freedoms fault)
refused_by_found (unfound.Call why) = refused_by why

abbrev pub status_by_found : Unfound → ℤ
status_by_found (unfound.Freedoms fault) = negsuc 7
status_by_found (unfound.Call why) = status_by why
