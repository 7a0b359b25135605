-- The call and the arguments of a step (profile).
use Rattle.std.specs.Prelude.{ℕ, List, [], ◌∷◌}
use Rattle.descriptor.specs.declared.Prot.TheVariants.{R}
use Rattle.call_table.specs.declared.argument.Arguments.{Arguments}
use Rattle.call_table.specs.declared.argument.Form.{Form}
use Rattle.call_table.specs.declared.argument.Form.TheVariants.{Frame, Page, Count, LastCount, Vcpus, Vcpu, Vm, Kind, Rights}
use Rattle.call_table.specs.declared.row.CallName.TheVariants as names
use Rattle.call_table.specs.declared.step.Step.{Step}
use Rattle.call_table.specs.declared.step.Step.TheVariants.{ShareHyp, UnshareHyp, DonateHyp, HypDonateHost, HostAbort, HostTranslate, HypTranslate, OwnerOf, Fund, Unfund, ShareGuest, UnshareGuest, DonateGuest, GuestShareHost, GuestUnshareHost, Install, Topup, ReclaimPage, ReclaimPool, FinishGuest, GuestRelax, GuestTranslate, MarkDying, VmReserve, VmOpen, VcpuLoad, VcpuPut, Teardown, VmRelease}
use Rattle.call_table.specs.declared.step.VmKind.TheVariants.{Protected}
use Rattle.call_table.specs.declared.table.NamedCall.{NamedCall}

-- the arguments of a call that takes none
abbrev pub blank : Arguments
blank =
    record {
      frame = 0;
      page = 0;
      count = 0;
      vcpus = 0;
      vcpu = 0;
      vm = record { slot = 0; generation = 0 };
      kind = Protected;
      rights = R;
    }

abbrev pub named_by : Step → NamedCall
named_by (ShareHyp pfn) = record { call = names.ShareHyp; arguments = record blank { frame = pfn } }
named_by (UnshareHyp pfn) =
    record { call = names.UnshareHyp; arguments = record blank { frame = pfn } }
named_by (DonateHyp pfn n) =
    record { call = names.DonateHyp; arguments = record blank { frame = pfn; count = n } }
named_by (HypDonateHost pfn n) =
    record { call = names.HypDonateHost; arguments = record blank { frame = pfn; count = n } }
named_by (HostAbort page) =
    record { call = names.HostAbort; arguments = record blank { page = page } }
named_by (HostTranslate page) =
    record { call = names.HostTranslate; arguments = record blank { page = page } }
named_by (HypTranslate page) =
    record { call = names.HypTranslate; arguments = record blank { page = page } }
named_by (OwnerOf pfn) = record { call = names.OwnerOf; arguments = record blank { frame = pfn } }
named_by (Fund pfn n) =
    record { call = names.Fund; arguments = record blank { frame = pfn; count = n } }
named_by Unfund = record { call = names.Unfund; arguments = blank }
named_by (ShareGuest pfn gfn prot n) =
    record {
      call = names.ShareGuest;
      arguments = record blank { frame = pfn; page = gfn; rights = prot; count = n };
    }
named_by (UnshareGuest vm gfn) =
    record { call = names.UnshareGuest; arguments = record blank { vm = vm; page = gfn } }
named_by (DonateGuest pfn gfn n) =
    record {
      call = names.DonateGuest;
      arguments = record blank { frame = pfn; page = gfn; count = n };
    }
named_by (GuestShareHost gfn) =
    record { call = names.GuestShareHost; arguments = record blank { page = gfn } }
named_by (GuestUnshareHost gfn) =
    record { call = names.GuestUnshareHost; arguments = record blank { page = gfn } }
named_by Install = record { call = names.Install; arguments = blank }
named_by (Topup vm) = record { call = names.Topup; arguments = record blank { vm = vm } }
named_by (ReclaimPage vm gfn) =
    record { call = names.ReclaimPage; arguments = record blank { vm = vm; page = gfn } }
named_by (ReclaimPool vm) =
    record { call = names.ReclaimPool; arguments = record blank { vm = vm } }
named_by FinishGuest = record { call = names.FinishGuest; arguments = blank }
named_by (GuestRelax gfn prot) =
    record { call = names.GuestRelax; arguments = record blank { page = gfn; rights = prot } }
named_by (GuestTranslate vm gfn) =
    record { call = names.GuestTranslate; arguments = record blank { vm = vm; page = gfn } }
named_by MarkDying = record { call = names.MarkDying; arguments = blank }
named_by (VmReserve kind vcpus) =
    record { call = names.VmReserve; arguments = record blank { kind = kind; vcpus = vcpus } }
named_by VmOpen = record { call = names.VmOpen; arguments = blank }
named_by (VcpuLoad vm vcpu) =
    record { call = names.VcpuLoad; arguments = record blank { vm = vm; vcpu = vcpu } }
named_by VcpuPut = record { call = names.VcpuPut; arguments = blank }
named_by (Teardown vm) = record { call = names.Teardown; arguments = record blank { vm = vm } }
named_by VmRelease = record { call = names.VmRelease; arguments = blank }

-- `to`, with the argument of this form taken from `from`
abbrev pub taken : Form → Arguments → Arguments → Arguments
taken Frame from to = record to { frame = from.frame }
taken Page from to = record to { page = from.page }
taken Count from to = record to { count = from.count }
taken LastCount from to = record to { count = from.count }
taken Vcpus from to = record to { vcpus = from.vcpus }
taken Vcpu from to = record to { vcpu = from.vcpu }
taken Vm from to = record to { vm = from.vm }
taken Kind from to = record to { kind = from.kind }
taken Rights from to = record to { rights = from.rights }

-- `to`, with the arguments of these forms taken from `from`
abbrev pub kept : List Form → Arguments → Arguments → Arguments
kept [] from to = to
kept (form ∷ more) from to = kept more from (taken form from to)
