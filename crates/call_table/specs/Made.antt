-- The step that a call makes of its arguments (profile).
use Rattle.call_table.specs.declared.argument.Arguments.{Arguments}
use Rattle.call_table.specs.declared.row.CallName.{CallName}
use Rattle.call_table.specs.declared.row.CallName.TheVariants.{ShareHyp, UnshareHyp, DonateHyp, HypDonateHost, HostAbort, HostTranslate, HypTranslate, OwnerOf, Fund, Unfund, ShareGuest, UnshareGuest, DonateGuest, GuestShareHost, GuestUnshareHost, Install, Topup, ReclaimPage, ReclaimPool, FinishGuest, GuestRelax, GuestTranslate, MarkDying, VmReserve, VmOpen, VcpuLoad, VcpuPut, Teardown, VmRelease}
use Rattle.call_table.specs.declared.step.Step.{Step}
use Rattle.call_table.specs.declared.step.Step.TheVariants as steps

abbrev pub step_by : CallName → Arguments → Step
step_by ShareHyp a = steps.ShareHyp a.frame
step_by UnshareHyp a = steps.UnshareHyp a.frame
step_by DonateHyp a = steps.DonateHyp a.frame a.count
step_by HypDonateHost a = steps.HypDonateHost a.frame a.count
step_by HostAbort a = steps.HostAbort a.page
step_by HostTranslate a = steps.HostTranslate a.page
step_by HypTranslate a = steps.HypTranslate a.page
step_by OwnerOf a = steps.OwnerOf a.frame
step_by Fund a = steps.Fund a.frame a.count
step_by Unfund a = steps.Unfund
step_by ShareGuest a = steps.ShareGuest a.frame a.page a.rights a.count
step_by UnshareGuest a = steps.UnshareGuest a.vm a.page
step_by DonateGuest a = steps.DonateGuest a.frame a.page a.count
step_by GuestShareHost a = steps.GuestShareHost a.page
step_by GuestUnshareHost a = steps.GuestUnshareHost a.page
step_by Install a = steps.Install
step_by Topup a = steps.Topup a.vm
step_by ReclaimPage a = steps.ReclaimPage a.vm a.page
step_by ReclaimPool a = steps.ReclaimPool a.vm
step_by FinishGuest a = steps.FinishGuest
step_by GuestRelax a = steps.GuestRelax a.page a.rights
step_by GuestTranslate a = steps.GuestTranslate a.vm a.page
step_by MarkDying a = steps.MarkDying
step_by VmReserve a = steps.VmReserve a.kind a.vcpus
step_by VmOpen a = steps.VmOpen
step_by VcpuLoad a = steps.VcpuLoad a.vm a.vcpu
step_by VcpuPut a = steps.VcpuPut
step_by Teardown a = steps.Teardown a.vm
step_by VmRelease a = steps.VmRelease
