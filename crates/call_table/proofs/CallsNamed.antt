-- What a call makes of arguments is a step of that call, and each row is one call's alone.
use Rattle.std.proofs.Common.{◌≡◌, refl, arith, Some}
use Rattle.call_table.specs.declared.row.CallName.TheVariants.{ShareHyp, UnshareHyp, DonateHyp, HypDonateHost, HostAbort, HostTranslate, HypTranslate, OwnerOf, Fund, Unfund, ShareGuest, UnshareGuest, DonateGuest, GuestShareHost, GuestUnshareHost, Install, Topup, ReclaimPage, ReclaimPool, FinishGuest, GuestRelax, GuestTranslate, MarkDying, VmReserve, VmOpen, VcpuLoad, VcpuPut, Teardown, VmRelease}
use Rattle.call_table.specs.declared.step.VmKind.{VmKind}
use Rattle.call_table.specs.declared.step.VmKind.TheVariants.{Protected, Plain}
use Rattle.descriptor.specs.declared.Prot.{Prot}
use Rattle.descriptor.specs.declared.Prot.TheVariants.{R, RW, RX, RWX}
use Rattle.page_state.specs.Texts.{text_of_prot}
use Rattle.call_table.specs.Laws.{CallsAreNamed, RowsDiffer, WordsAreRead}
use Rattle.call_table.specs.Rows.{named, numbered}
use Rattle.call_table.specs.Words.{rights_named, text_of_vm_kind, vm_kind_named}

pub calls_named : CallsAreNamed
calls_named ShareHyp a = refl
calls_named UnshareHyp a = refl
calls_named DonateHyp a = refl
calls_named HypDonateHost a = refl
calls_named HostAbort a = refl
calls_named HostTranslate a = refl
calls_named HypTranslate a = refl
calls_named OwnerOf a = refl
calls_named Fund a = refl
calls_named Unfund a = refl
calls_named ShareGuest a = refl
calls_named UnshareGuest a = refl
calls_named DonateGuest a = refl
calls_named GuestShareHost a = refl
calls_named GuestUnshareHost a = refl
calls_named Install a = refl
calls_named Topup a = refl
calls_named ReclaimPage a = refl
calls_named ReclaimPool a = refl
calls_named FinishGuest a = refl
calls_named GuestRelax a = refl
calls_named GuestTranslate a = refl
calls_named MarkDying a = refl
calls_named VmReserve a = refl
calls_named VmOpen a = refl
calls_named VcpuLoad a = refl
calls_named VcpuPut a = refl
calls_named Teardown a = refl
calls_named VmRelease a = refl

pub rows_differ : RowsDiffer
unfolding named numbered
rows_differ ShareHyp = (refl, refl, omega arith)
rows_differ UnshareHyp = (refl, refl, omega arith)
rows_differ DonateHyp = (refl, refl, omega arith)
rows_differ HypDonateHost = (refl, refl, omega arith)
rows_differ HostAbort = (refl, refl, omega arith)
rows_differ HostTranslate = (refl, refl, omega arith)
rows_differ HypTranslate = (refl, refl, omega arith)
rows_differ OwnerOf = (refl, refl, omega arith)
rows_differ Fund = (refl, refl, omega arith)
rows_differ Unfund = (refl, refl, omega arith)
rows_differ ShareGuest = (refl, refl, omega arith)
rows_differ UnshareGuest = (refl, refl, omega arith)
rows_differ DonateGuest = (refl, refl, omega arith)
rows_differ GuestShareHost = (refl, refl, omega arith)
rows_differ GuestUnshareHost = (refl, refl, omega arith)
rows_differ Install = (refl, refl, omega arith)
rows_differ Topup = (refl, refl, omega arith)
rows_differ ReclaimPage = (refl, refl, omega arith)
rows_differ ReclaimPool = (refl, refl, omega arith)
rows_differ FinishGuest = (refl, refl, omega arith)
rows_differ GuestRelax = (refl, refl, omega arith)
rows_differ GuestTranslate = (refl, refl, omega arith)
rows_differ MarkDying = (refl, refl, omega arith)
rows_differ VmReserve = (refl, refl, omega arith)
rows_differ VmOpen = (refl, refl, omega arith)
rows_differ VcpuLoad = (refl, refl, omega arith)
rows_differ VcpuPut = (refl, refl, omega arith)
rows_differ Teardown = (refl, refl, omega arith)
rows_differ VmRelease = (refl, refl, omega arith)

kinds_read : (kind : VmKind) → vm_kind_named (text_of_vm_kind kind) ≡ Some kind
kinds_read Protected = refl
kinds_read Plain = refl

rights_read : (rights : Prot) → rights_named (text_of_prot rights) ≡ Some rights
rights_read R = refl
rights_read RW = refl
rights_read RX = refl
rights_read RWX = refl

pub words_read : WordsAreRead
words_read = (kinds_read, rights_read)
