-- The numbers of rights, kinds of memory, states, kinds of VMs and refusals.
use Rattle.std.specs.Prelude.{ℕ, ◌==◌, Option, Some, None, if◌then◌else◌}
use Rattle.descriptor.specs.declared.Prot.{Prot}
use Rattle.descriptor.specs.declared.Prot.TheVariants.{R, RW, RX, RWX}
use Rattle.descriptor.specs.declared.Kind.{Kind}
use Rattle.descriptor.specs.declared.Kind.TheVariants.{Normal, Device}
use Rattle.descriptor.specs.declared.State.{State}
use Rattle.descriptor.specs.declared.State.TheVariants.{Owned, SharedOwned, SharedBorrowed}
use Rattle.descriptor.specs.declared.Level.{Level}
use Rattle.descriptor.specs.declared.Level.TheVariants.{Zero, One, Two, Three}
use Rattle.call_table.specs.declared.reply.Refusal.{Refusal}
use Rattle.call_table.specs.declared.reply.Refusal.TheVariants.{Perm, NoVm, Contended, NoMemory, Busy, Invalid, NoPool, LogFull}
use Rattle.call_table.specs.declared.step.VmKind.{VmKind}
use Rattle.call_table.specs.declared.step.VmKind.TheVariants.{Protected, Plain}

-- levels, by the architecture's numbers
abbrev pub level_from_c : ℕ → Option Level
level_from_c n =
    if n == 0 then Some Zero
    else if n == 1 then Some One
    else if n == 2 then Some Two
    else if n == 3 then Some Three
    else None

-- rights: the sum of 4 for read, 2 for write and 1 for execute
abbrev pub rights_from_c : ℕ → Option Prot
rights_from_c n =
    if n == 4 then Some R
    else if n == 5 then Some RX
    else if n == 6 then Some RW
    else if n == 7 then Some RWX
    else None

abbrev pub rights_written : Prot → ℕ
rights_written R = 4
rights_written RX = 5
rights_written RW = 6
rights_written RWX = 7

-- kinds of memory
abbrev pub kind_from_c : ℕ → Option Kind
kind_from_c n = if n == 0 then Some Normal else if n == 1 then Some Device else None

abbrev pub kind_written : Kind → ℕ
kind_written Normal = 0
kind_written Device = 1

-- states of a page, as in bits 56:55 of a word
abbrev pub state_from_c : ℕ → Option State
state_from_c n =
    if n == 0 then Some Owned
    else if n == 1 then Some SharedOwned
    else if n == 2 then Some SharedBorrowed
    else None

abbrev pub state_written : State → ℕ
state_written Owned = 0
state_written SharedOwned = 1
state_written SharedBorrowed = 2

-- kinds of VMs
abbrev pub vm_kind_from_c : ℕ → Option VmKind
vm_kind_from_c n = if n == 0 then Some Plain else if n == 1 then Some Protected else None

-- refusals, by their numbers without the sign
abbrev pub refusal_from_c : ℕ → Option Refusal
refusal_from_c n =
    if n == 1 then Some Perm
    else if n == 2 then Some NoVm
    else if n == 11 then Some Contended
    else if n == 12 then Some NoMemory
    else if n == 16 then Some Busy
    else if n == 22 then Some Invalid
    else if n == 28 then Some NoPool
    else if n == 75 then Some LogFull
    else None

abbrev pub refusal_written : Refusal → ℕ
refusal_written Perm = 1
refusal_written NoVm = 2
refusal_written Contended = 11
refusal_written NoMemory = 12
refusal_written Busy = 16
refusal_written Invalid = 22
refusal_written NoPool = 28
refusal_written LogFull = 75
