-- How it is written why a state isn't legal: frames, pages and blocks in hexadecimal.
use Rattle.std.specs.Prelude.{ℕ, List, ◌++◌, codes, Option, Some, None, if◌then◌else◌}
use Rattle.std.specs.Fmt.{decimal}
use Rattle.page_state.specs.Texts.{text_of_page, text_of_entry, text_of_row, text_of_state}
use Rattle.ghost_judge.specs.Texts.{text_of_tree}
use Rattle.ghost_coarse.specs.declared.misfit.Misfit.{Misfit}
use Rattle.ghost_coarse.specs.declared.misfit.Misfit.TheVariants.{Needless, Lacking}
use Rattle.ghost_spec.specs.declared.filled.GhostFault.{GhostFault}
use Rattle.ghost_spec.specs.declared.filled.GhostFault.TheVariants.{WrongCount, TooLarge, Overlap, TableTwice, FrameTwice, NoMemory}
use Rattle.ghost_slots.specs.declared.fault.SlotFault.{SlotFault}
use Rattle.ghost_slots.specs.declared.fault.SlotFault.TheVariants.{Load, Hand as HandFault, Ticket, Vcpu, Guest as GuestOfSlot, Tickets}
use Rattle.ghost_legal.specs.declared.finding.Facts.{Facts}
use Rattle.ghost_legal.specs.declared.finding.Holder.{Holder}
use Rattle.ghost_legal.specs.declared.finding.Holder.TheVariants.{SharedPool, VmPool, Table, Hand, Guest}
use Rattle.ghost_legal.specs.declared.finding.Illegal.{Illegal}
use Rattle.ghost_legal.specs.declared.finding.Illegal.TheVariants.{Slots, Guest as GuestFault, Outside, GuestPage, HypPage, FarFrame, HeldTwice, Frame, Tree}
use Rattle.ghost_legal.specs.declared.finding.TreeBlock.{TreeBlock}
use Rattle.ghost_legal.specs.declared.finding.Unlawful.{Unlawful}
use Rattle.ghost_legal.specs.declared.finding.Unlawful.TheVariants.{NoState, Illegal as IllegalState}
use Rattle.ghost_legal.specs.TreeNames.{tree_named}

-- a table: whose tree, the block's depth, and its index there
abbrev pub text_of_block : TreeBlock → List ℕ
text_of_block at =
    codes "table " ++ text_of_tree (tree_named at.tree) ++ codes " " ++ decimal at.block.0
    ++ codes " " ++ text_of_page at.block.1

-- a page of a guest
abbrev pub text_of_guest_page : ℕ → ℕ → List ℕ
text_of_guest_page slot page = codes "guest " ++ decimal slot ++ codes " " ++ text_of_page page

-- a vCPU
abbrev pub text_of_vcpu : ℕ → ℕ → List ℕ
text_of_vcpu slot vcpu = codes "slot " ++ decimal slot ++ codes " vcpu " ++ decimal vcpu

abbrev pub text_of_holder : Holder → List ℕ
text_of_holder SharedPool = codes "shared pool"
text_of_holder (VmPool slot) = codes "pool " ++ decimal slot
text_of_holder (Table at) = text_of_block at
text_of_holder (Hand cpu) = codes "hand of cpu " ++ decimal cpu
text_of_holder (Guest slot page state) =
    text_of_guest_page slot page ++ codes " " ++ text_of_state state

abbrev pub text_of_had : Option Holder → List ℕ
text_of_had (Some h) = codes ", " ++ text_of_holder h
text_of_had None = codes ""

-- the row of a memory frame
abbrev pub text_of_memory : Facts → List ℕ
text_of_memory x = if x.memory then codes "row " ++ text_of_row x.row else codes "no memory"

abbrev pub text_of_facts : Facts → List ℕ
text_of_facts x =
    codes "host " ++ text_of_entry x.host ++ codes ", hyp " ++ text_of_entry x.hyp ++ codes ", "
    ++ text_of_memory x ++ text_of_had x.holder

abbrev pub text_of_slot_fault : SlotFault → List ℕ
text_of_slot_fault (Load cpu) =
    codes "cpu " ++ decimal cpu ++ codes ": its slot has no such vcpu loaded"
text_of_slot_fault (HandFault cpu) = codes "cpu " ++ decimal cpu ++ codes ": hand without a frame"
text_of_slot_fault (Ticket cpu) =
    codes "cpu " ++ decimal cpu ++ codes ": ticket does not fit its slot"
text_of_slot_fault (Vcpu slot vcpu) = text_of_vcpu slot vcpu ++ codes ": not loaded on that cpu"
text_of_slot_fault (GuestOfSlot slot) =
    codes "slot " ++ decimal slot ++ codes ": guest does not fit it"
text_of_slot_fault (Tickets slot) =
    codes "slot " ++ decimal slot ++ codes ": not exactly one ticket"

abbrev pub text_of_misfit : ℕ → Misfit → List ℕ
text_of_misfit tree (Needless block) =
    codes "needless " ++ text_of_block (record { tree = tree; block = block })
text_of_misfit tree (Lacking block) =
    codes "missing " ++ text_of_block (record { tree = tree; block = block })

abbrev pub text_of_illegal : Illegal → List ℕ
text_of_illegal (Slots fault) = text_of_slot_fault fault
text_of_illegal (GuestFault slot) =
    codes "guest " ++ decimal slot ++ codes ": Empty with something, or without a root"
text_of_illegal (Outside at) = codes "outside " ++ text_of_block at
text_of_illegal (GuestPage slot page) =
    text_of_guest_page slot page ++ codes ": no memory page, or past the input pages"
text_of_illegal (HypPage page) =
    codes "hyp " ++ text_of_page page ++ codes ": below the pages of frames"
text_of_illegal (FarFrame frame holder) =
    codes "no memory " ++ text_of_page frame ++ codes ": " ++ text_of_holder holder
text_of_illegal (HeldTwice frame one other) =
    codes "held twice " ++ text_of_page frame ++ codes ": " ++ text_of_holder one ++ codes ", "
    ++ text_of_holder other
text_of_illegal (Frame frame facts) =
    codes "no condition " ++ text_of_page frame ++ codes ": " ++ text_of_facts facts
text_of_illegal (Tree tree misfit) = text_of_misfit tree misfit

-- why lists make no state
abbrev pub text_of_ghost_fault : GhostFault → List ℕ
text_of_ghost_fault WrongCount = codes "a list has not its length"
text_of_ghost_fault TooLarge = codes "a page, a frame or a slot is too large"
text_of_ghost_fault Overlap = codes "two runs share a page"
text_of_ghost_fault TableTwice = codes "two tables of a tree have one block or one frame"
text_of_ghost_fault FrameTwice = codes "a pool has a frame twice"
text_of_ghost_fault NoMemory = codes "out of memory"

-- and why they make no legal one
abbrev pub text_of_unlawful : Unlawful → List ℕ
text_of_unlawful (NoState fault) = codes "no state: " ++ text_of_ghost_fault fault
text_of_unlawful (IllegalState why) = text_of_illegal why
