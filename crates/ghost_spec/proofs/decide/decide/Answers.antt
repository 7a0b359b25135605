use Rattle.page_state.specs.LayoutView.{layout_of}
use Rattle.ghost_spec.proofs.decide.decide.Goals as goal

pub returns-in-ShareHyp-clause-decided : goal.returns-in-ShareHyp-clause-decided
returns-in-ShareHyp-clause-decided c = rw c.in-ShareHyp.is (c.share_hyp.ensures.decided c.args.cpu c.args.slot)

pub returns-in-ShareHyp-clause-small : goal.returns-in-ShareHyp-clause-small
returns-in-ShareHyp-clause-small c = c.share_hyp.ensures.small

pub returns-in-UnshareHyp-clause-decided : goal.returns-in-UnshareHyp-clause-decided
returns-in-UnshareHyp-clause-decided c = rw c.in-UnshareHyp.is (c.unshare_hyp.ensures.decided c.args.cpu c.args.slot)

pub returns-in-UnshareHyp-clause-small : goal.returns-in-UnshareHyp-clause-small
returns-in-UnshareHyp-clause-small c = c.unshare_hyp.ensures.small

pub returns-in-DonateHyp-clause-decided : goal.returns-in-DonateHyp-clause-decided
returns-in-DonateHyp-clause-decided c = rw c.in-DonateHyp.is (c.donate_hyp.ensures.decided c.args.cpu c.args.slot)

pub returns-in-DonateHyp-clause-small : goal.returns-in-DonateHyp-clause-small
returns-in-DonateHyp-clause-small c = c.donate_hyp.ensures.small

pub returns-in-HypDonateHost-clause-decided : goal.returns-in-HypDonateHost-clause-decided
returns-in-HypDonateHost-clause-decided c =
    rw c.in-HypDonateHost.is (c.hyp_donate_host.ensures.decided c.args.cpu c.args.slot)

pub returns-in-HypDonateHost-clause-small : goal.returns-in-HypDonateHost-clause-small
returns-in-HypDonateHost-clause-small c = c.hyp_donate_host.ensures.small

pub returns-in-HostAbort-clause-decided : goal.returns-in-HostAbort-clause-decided
returns-in-HostAbort-clause-decided c = rw c.in-HostAbort.is (c.host_abort.ensures.decided c.args.cpu c.args.slot)

pub returns-in-HostAbort-clause-small : goal.returns-in-HostAbort-clause-small
returns-in-HostAbort-clause-small c = c.host_abort.ensures.small

pub returns-in-HostTranslate-clause-decided : goal.returns-in-HostTranslate-clause-decided
returns-in-HostTranslate-clause-decided c =
    rw c.in-HostTranslate.is (c.host_translate.ensures.decided c.args.cpu c.args.slot)

pub returns-in-HostTranslate-clause-small : goal.returns-in-HostTranslate-clause-small
returns-in-HostTranslate-clause-small c = c.host_translate.ensures.small

pub returns-in-HypTranslate-clause-decided : goal.returns-in-HypTranslate-clause-decided
returns-in-HypTranslate-clause-decided c =
    rw c.in-HypTranslate.is (c.hyp_translate.ensures.decided c.args.cpu c.args.slot)

pub returns-in-HypTranslate-clause-small : goal.returns-in-HypTranslate-clause-small
returns-in-HypTranslate-clause-small c = c.hyp_translate.ensures.small

pub returns-in-OwnerOf-clause-decided : goal.returns-in-OwnerOf-clause-decided
returns-in-OwnerOf-clause-decided c = rw c.in-OwnerOf.is (c.owner_of.ensures.decided c.args.cpu c.args.slot)

pub returns-in-OwnerOf-clause-small : goal.returns-in-OwnerOf-clause-small
returns-in-OwnerOf-clause-small c = c.owner_of.ensures.small

pub returns-in-Fund-clause-decided : goal.returns-in-Fund-clause-decided
returns-in-Fund-clause-decided c = rw c.in-Fund.is (c.fund.ensures.decided c.args.cpu c.args.slot)

pub returns-in-Fund-clause-small : goal.returns-in-Fund-clause-small
returns-in-Fund-clause-small c = c.fund.ensures.small

pub returns-in-Unfund-clause-decided : goal.returns-in-Unfund-clause-decided
returns-in-Unfund-clause-decided c = rw c.in-Unfund.is (c.unfund.ensures.decided c.args.cpu c.args.slot)

pub returns-in-Unfund-clause-small : goal.returns-in-Unfund-clause-small
returns-in-Unfund-clause-small c = c.unfund.ensures.small

pub returns-in-ShareGuest-clause-decided : goal.returns-in-ShareGuest-clause-decided
returns-in-ShareGuest-clause-decided c = rw c.in-ShareGuest.is (c.share_guest.ensures.decided c.args.cpu)

pub returns-in-ShareGuest-clause-small : goal.returns-in-ShareGuest-clause-small
returns-in-ShareGuest-clause-small c = c.share_guest.ensures.small

pub returns-in-UnshareGuest-clause-decided : goal.returns-in-UnshareGuest-clause-decided
returns-in-UnshareGuest-clause-decided c = rw c.in-UnshareGuest.is (c.unshare_guest.ensures.decided c.args.cpu)

pub returns-in-UnshareGuest-clause-small : goal.returns-in-UnshareGuest-clause-small
returns-in-UnshareGuest-clause-small c = c.unshare_guest.ensures.small

pub returns-in-DonateGuest-clause-decided : goal.returns-in-DonateGuest-clause-decided
returns-in-DonateGuest-clause-decided c = rw c.in-DonateGuest.is (c.donate_guest.ensures.decided c.args.cpu)

pub returns-in-DonateGuest-clause-small : goal.returns-in-DonateGuest-clause-small
returns-in-DonateGuest-clause-small c = c.donate_guest.ensures.small

pub returns-in-GuestShareHost-clause-decided : goal.returns-in-GuestShareHost-clause-decided
returns-in-GuestShareHost-clause-decided c = rw c.in-GuestShareHost.is (c.guest_share_host.ensures.decided c.args.cpu)

pub returns-in-GuestShareHost-clause-small : goal.returns-in-GuestShareHost-clause-small
returns-in-GuestShareHost-clause-small c = c.guest_share_host.ensures.small

pub returns-in-GuestUnshareHost-clause-decided : goal.returns-in-GuestUnshareHost-clause-decided
returns-in-GuestUnshareHost-clause-decided c =
    rw c.in-GuestUnshareHost.is (c.guest_unshare_host.ensures.decided c.args.cpu)

pub returns-in-GuestUnshareHost-clause-small : goal.returns-in-GuestUnshareHost-clause-small
returns-in-GuestUnshareHost-clause-small c = c.guest_unshare_host.ensures.small

pub returns-in-Install-clause-decided : goal.returns-in-Install-clause-decided
returns-in-Install-clause-decided c =
    rw c.in-Install.is (c.install.ensures.decided (layout_of c.args.layout.now) c.args.cpu)

pub returns-in-Install-clause-small : goal.returns-in-Install-clause-small
returns-in-Install-clause-small c = c.install.ensures.small

pub returns-in-Topup-clause-decided : goal.returns-in-Topup-clause-decided
returns-in-Topup-clause-decided c = rw c.in-Topup.is (c.topup.ensures.decided c.args.cpu)

pub returns-in-Topup-clause-small : goal.returns-in-Topup-clause-small
returns-in-Topup-clause-small c = c.topup.ensures.small

pub returns-in-ReclaimPage-clause-decided : goal.returns-in-ReclaimPage-clause-decided
returns-in-ReclaimPage-clause-decided c = rw c.in-ReclaimPage.is (c.reclaim_page.ensures.decided c.args.cpu)

pub returns-in-ReclaimPage-clause-small : goal.returns-in-ReclaimPage-clause-small
returns-in-ReclaimPage-clause-small c = c.reclaim_page.ensures.small

pub returns-in-ReclaimPool-clause-decided : goal.returns-in-ReclaimPool-clause-decided
returns-in-ReclaimPool-clause-decided c =
    rw c.in-ReclaimPool.is (c.reclaim_pool.ensures.decided (layout_of c.args.layout.now) c.args.cpu)

pub returns-in-ReclaimPool-clause-small : goal.returns-in-ReclaimPool-clause-small
returns-in-ReclaimPool-clause-small c = c.reclaim_pool.ensures.small

pub returns-in-FinishGuest-clause-decided : goal.returns-in-FinishGuest-clause-decided
returns-in-FinishGuest-clause-decided c = rw c.in-FinishGuest.is (c.finish_guest.ensures.decided c.args.cpu)

pub returns-in-FinishGuest-clause-small : goal.returns-in-FinishGuest-clause-small
returns-in-FinishGuest-clause-small c = c.finish_guest.ensures.small

pub returns-in-GuestRelax-clause-decided : goal.returns-in-GuestRelax-clause-decided
returns-in-GuestRelax-clause-decided c = rw c.in-GuestRelax.is (c.guest_relax.ensures.decided c.args.cpu)

pub returns-in-GuestRelax-clause-small : goal.returns-in-GuestRelax-clause-small
returns-in-GuestRelax-clause-small c = c.guest_relax.ensures.small

pub returns-in-GuestTranslate-clause-decided : goal.returns-in-GuestTranslate-clause-decided
returns-in-GuestTranslate-clause-decided c = rw c.in-GuestTranslate.is (c.guest_translate.ensures.decided c.args.cpu)

pub returns-in-GuestTranslate-clause-small : goal.returns-in-GuestTranslate-clause-small
returns-in-GuestTranslate-clause-small c = c.guest_translate.ensures.small

pub returns-in-MarkDying-clause-decided : goal.returns-in-MarkDying-clause-decided
returns-in-MarkDying-clause-decided c =
    rw c.in-MarkDying.is (c.mark_dying.ensures.decided (layout_of c.args.layout.now) c.args.cpu)

pub returns-in-MarkDying-clause-small : goal.returns-in-MarkDying-clause-small
returns-in-MarkDying-clause-small c = c.mark_dying.ensures.small

pub returns-in-VmReserve-clause-decided : goal.returns-in-VmReserve-clause-decided
returns-in-VmReserve-clause-decided c =
    rw c.in-VmReserve.is (c.vm_reserve.ensures.decided (layout_of c.args.layout.now) c.args.cpu c.args.slot)

pub returns-in-VmReserve-clause-small : goal.returns-in-VmReserve-clause-small
returns-in-VmReserve-clause-small c = c.vm_reserve.ensures.small

pub returns-in-VmOpen-clause-decided : goal.returns-in-VmOpen-clause-decided
returns-in-VmOpen-clause-decided c =
    rw c.in-VmOpen.is (c.vm_open.ensures.decided (layout_of c.args.layout.now) c.args.cpu c.args.slot)

pub returns-in-VmOpen-clause-small : goal.returns-in-VmOpen-clause-small
returns-in-VmOpen-clause-small c = c.vm_open.ensures.small

pub returns-in-VcpuLoad-clause-decided : goal.returns-in-VcpuLoad-clause-decided
returns-in-VcpuLoad-clause-decided c =
    rw c.in-VcpuLoad.is (c.vcpu_load.ensures.decided (layout_of c.args.layout.now) c.args.slot)

pub returns-in-VcpuLoad-clause-small : goal.returns-in-VcpuLoad-clause-small
returns-in-VcpuLoad-clause-small c = c.vcpu_load.ensures.small

pub returns-in-VcpuPut-clause-decided : goal.returns-in-VcpuPut-clause-decided
returns-in-VcpuPut-clause-decided c =
    rw c.in-VcpuPut.is (c.vcpu_put.ensures.decided (layout_of c.args.layout.now) c.args.cpu c.args.slot)

pub returns-in-VcpuPut-clause-small : goal.returns-in-VcpuPut-clause-small
returns-in-VcpuPut-clause-small c = c.vcpu_put.ensures.small

pub returns-in-Teardown-clause-decided : goal.returns-in-Teardown-clause-decided
returns-in-Teardown-clause-decided c =
    rw c.in-Teardown.is (c.teardown.ensures.decided (layout_of c.args.layout.now) c.args.cpu c.args.slot)

pub returns-in-Teardown-clause-small : goal.returns-in-Teardown-clause-small
returns-in-Teardown-clause-small c = c.teardown.ensures.small

pub returns-in-VmRelease-clause-decided : goal.returns-in-VmRelease-clause-decided
returns-in-VmRelease-clause-decided c =
    rw c.in-VmRelease.is (c.vm_release.ensures.decided (layout_of c.args.layout.now) c.args.cpu c.args.slot)

pub returns-in-VmRelease-clause-small : goal.returns-in-VmRelease-clause-small
returns-in-VmRelease-clause-small c = c.vm_release.ensures.small

pub vm_release-requires-clause-generation : goal.vm_release-requires-clause-generation
vm_release-requires-clause-generation c e = c.requires.generation c.in-VmRelease.is
