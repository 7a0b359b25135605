-- Which rows can come (profile): the replies that the rule of each call allows, and the rows that
-- no run meets.
use Rattle.std.specs.Prelude.{ℕ, Bool, true, false, not, ◌&&◌, ◌||◌, List, codes, is_none, Option, Some, None, if◌then◌else◌}
use Rattle.call_table.specs.declared.reply.Refusal.{Refusal}
use Rattle.call_table.specs.declared.reply.Refusal.TheVariants.{Perm, NoVm, Contended, NoMemory, Busy, Invalid, NoPool, LogFull}
use Rattle.call_table.specs.declared.row.CallName.{CallName}
use Rattle.call_table.specs.declared.row.CallName.TheVariants.{ShareHyp, UnshareHyp, DonateHyp, HypDonateHost, HostAbort, HostTranslate, HypTranslate, OwnerOf, Fund, Unfund, ShareGuest, UnshareGuest, DonateGuest, GuestShareHost, GuestUnshareHost, Install, ReclaimPage, ReclaimPool, FinishGuest, GuestRelax, GuestTranslate, MarkDying, VmReserve, VmOpen, VcpuLoad, VcpuPut, Teardown, VmRelease}
use Rattle.trace_cover.specs.declared.condition.Condition.{Condition}
use Rattle.trace_cover.specs.declared.condition.Condition.TheVariants.{WithGuest, WithDying, Guests, OfDying, LentBack, LentByDying}
use Rattle.trace_cover.specs.declared.rows.Row.{Row}
use Rattle.trace_cover.specs.declared.rows.Row.TheVariants.{Reply, Cell}

-- a call of the vCPU that a CPU has loaded, on a page of its guest
abbrev pub is_of_loaded : CallName → Bool
is_of_loaded GuestShareHost = true
is_of_loaded GuestUnshareHost = true
is_of_loaded GuestRelax = true
is_of_loaded other = false

-- one on a page of a VM's guest
abbrev pub is_of_named : CallName → Bool
is_of_named UnshareGuest = true
is_of_named ReclaimPage = true
is_of_named other = false

-- one on a frame. Those that only look are in none of the three
abbrev pub is_of_frame : CallName → Bool
is_of_frame ShareHyp = true
is_of_frame UnshareHyp = true
is_of_frame DonateHyp = true
is_of_frame HypDonateHost = true
is_of_frame HostAbort = true
is_of_frame Fund = true
is_of_frame ShareGuest = true
is_of_frame DonateGuest = true
is_of_frame other = false

-- the conditions of a frame that a guest maps, and those of a Dying guest
abbrev pub is_of_guest : Condition → Bool
is_of_guest WithGuest = true
is_of_guest WithDying = true
is_of_guest Guests = true
is_of_guest OfDying = true
is_of_guest LentBack = true
is_of_guest LentByDying = true
is_of_guest other = false

abbrev pub is_of_dying : Condition → Bool
is_of_dying WithDying = true
is_of_dying OfDying = true
is_of_dying LentByDying = true
is_of_dying other = false

-- a call names a frame in this condition, or a page of a guest that maps one
abbrev pub names : CallName → Condition → Bool
names call condition =
    if is_of_frame call then true
    else (if is_of_loaded call then is_of_guest condition
    else (if is_of_named call then is_of_guest condition else false))

-- the calls whose rule has a test of its arguments, of a VM, a vCPU or a ticket (those on host and
-- hypervisor alone have none), of what may be in use, and of pages, frames, hands and pools
abbrev pub has_argument : CallName → Bool
has_argument Unfund = false
has_argument Install = false
has_argument FinishGuest = false
has_argument MarkDying = false
has_argument VmOpen = false
has_argument VcpuPut = false
has_argument VmRelease = false
has_argument other = true

abbrev pub is_on_shared : CallName → Bool
is_on_shared ShareHyp = true
is_on_shared UnshareHyp = true
is_on_shared DonateHyp = true
is_on_shared HypDonateHost = true
is_on_shared HostAbort = true
is_on_shared HostTranslate = true
is_on_shared HypTranslate = true
is_on_shared OwnerOf = true
is_on_shared Fund = true
is_on_shared Unfund = true
is_on_shared other = false

abbrev pub wants_vm : CallName → Bool
wants_vm VmReserve = false
wants_vm call = not (is_on_shared call)

abbrev pub wants_rest : CallName → Bool
wants_rest Fund = true
wants_rest VmReserve = true
wants_rest VcpuLoad = true
wants_rest Teardown = true
wants_rest other = false

abbrev pub wants_state : CallName → Bool
wants_state HostTranslate = false
wants_state HypTranslate = false
wants_state OwnerOf = false
wants_state GuestTranslate = false
wants_state MarkDying = false
wants_state VmReserve = false
wants_state VmOpen = false
wants_state VcpuPut = false
wants_state Teardown = false
wants_state VmRelease = false
wants_state other = true

-- the calls that change a map, and so may need tables
abbrev pub wants_tables : CallName → Bool
wants_tables ShareHyp = true
wants_tables UnshareHyp = true
wants_tables DonateHyp = true
wants_tables HypDonateHost = true
wants_tables HostAbort = true
wants_tables Fund = true
wants_tables Unfund = true
wants_tables ShareGuest = true
wants_tables UnshareGuest = true
wants_tables DonateGuest = true
wants_tables GuestShareHost = true
wants_tables GuestUnshareHost = true
wants_tables ReclaimPage = true
wants_tables ReclaimPool = true
wants_tables FinishGuest = true
wants_tables GuestRelax = true
wants_tables other = false

-- a call's rule can give a refusal. Each call needs a log; running out of memory is up to this
-- machine, and nothing is contended
abbrev pub tells : CallName → Refusal → Bool
tells call Invalid = has_argument call
tells call NoVm = wants_vm call
tells call Busy = wants_rest call
tells call Perm = wants_state call
tells call NoPool = wants_tables call
tells call LogFull = true
tells call NoMemory = false
tells call Contended = false

-- a rule can give a row's reply, or the row's call names its condition
abbrev pub is_told : Row → Bool
is_told (Reply call None) = true
is_told (Reply call (Some why)) = tells call why
is_told (Cell call condition) = names call condition

-- `teardown` is busy while a vCPU of the VM is loaded, `vcpu_load` needs an open VM, and
-- `mark_dying` one that was torn down
abbrev pub none_loaded : List ℕ
none_loaded = codes "no CPU has a vCPU of a Dying guest loaded"

-- why no run meets a row, though a rule can give it
abbrev pub impossible : Row → Option (List ℕ)
impossible (Reply call why) = None
impossible (Cell call condition) =
    if is_of_loaded call && is_of_dying condition then Some none_loaded else None

-- a row that a run can meet
abbrev pub is_asked : Row → Bool
is_asked row = if is_told row then is_none (impossible row) else false
