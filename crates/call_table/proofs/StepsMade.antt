-- A step is what its call makes of its arguments.
use Rattle.std.proofs.Common.{refl}
use Rattle.call_table.specs.declared.step.Step.TheVariants.{ShareHyp, UnshareHyp, DonateHyp, HypDonateHost, HostAbort, HostTranslate, HypTranslate, OwnerOf, Fund, Unfund, ShareGuest, UnshareGuest, DonateGuest, GuestShareHost, GuestUnshareHost, Install, Topup, ReclaimPage, ReclaimPool, FinishGuest, GuestRelax, GuestTranslate, MarkDying, VmReserve, VmOpen, VcpuLoad, VcpuPut, Teardown, VmRelease}
use Rattle.call_table.specs.Laws.{StepsAreMade}

pub steps_made : StepsAreMade
steps_made (ShareHyp pfn) = refl
steps_made (UnshareHyp pfn) = refl
steps_made (DonateHyp pfn n) = refl
steps_made (HypDonateHost pfn n) = refl
steps_made (HostAbort page) = refl
steps_made (HostTranslate page) = refl
steps_made (HypTranslate page) = refl
steps_made (OwnerOf pfn) = refl
steps_made (Fund pfn n) = refl
steps_made Unfund = refl
steps_made (ShareGuest pfn gfn prot n) = refl
steps_made (UnshareGuest vm gfn) = refl
steps_made (DonateGuest pfn gfn n) = refl
steps_made (GuestShareHost gfn) = refl
steps_made (GuestUnshareHost gfn) = refl
steps_made Install = refl
steps_made (Topup vm) = refl
steps_made (ReclaimPage vm gfn) = refl
steps_made (ReclaimPool vm) = refl
steps_made FinishGuest = refl
steps_made (GuestRelax gfn prot) = refl
steps_made (GuestTranslate vm gfn) = refl
steps_made MarkDying = refl
steps_made (VmReserve kind vcpus) = refl
steps_made VmOpen = refl
steps_made (VcpuLoad vm vcpu) = refl
steps_made VcpuPut = refl
steps_made (Teardown vm) = refl
steps_made VmRelease = refl
