-- A test that the table says no rule of the call has always passes.
use Rattle.std.proofs.Common.{true≢false, refl}
use Rattle.call_table.specs.declared.step.Step.TheVariants.{ShareHyp, UnshareHyp, DonateHyp, HypDonateHost, HostAbort, HostTranslate, HypTranslate, OwnerOf, Fund, Unfund, ShareGuest, UnshareGuest, DonateGuest, GuestShareHost, GuestUnshareHost, Install, Topup, ReclaimPage, ReclaimPool, FinishGuest, GuestRelax, GuestTranslate, MarkDying, VmReserve, VmOpen, VcpuLoad, VcpuPut, Teardown, VmRelease}
use Rattle.trace_cover.specs.Laws.{UnlistedPass}
use Rattle.reference_model.specs.declared.changes.Changes.{Changes}

pub unlisted_pass : UnlistedPass
unlisted_pass (ShareHyp f) x = record {
  valid = λ e. absurd (true≢false e);
  has_vm = λ e. refl;
  has_slot = λ e. refl;
  ready = λ e. refl;
  allowed = λ e. absurd (true≢false e);
  tables = λ e. absurd (true≢false e);
}
unlisted_pass (UnshareHyp f) x = record {
  valid = λ e. absurd (true≢false e);
  has_vm = λ e. refl;
  has_slot = λ e. refl;
  ready = λ e. refl;
  allowed = λ e. absurd (true≢false e);
  tables = λ e. absurd (true≢false e);
}
unlisted_pass (DonateHyp f n) x = record {
  valid = λ e. absurd (true≢false e);
  has_vm = λ e. refl;
  has_slot = λ e. refl;
  ready = λ e. refl;
  allowed = λ e. absurd (true≢false e);
  tables = λ e. absurd (true≢false e);
}
unlisted_pass (HypDonateHost f n) x = record {
  valid = λ e. absurd (true≢false e);
  has_vm = λ e. refl;
  has_slot = λ e. refl;
  ready = λ e. refl;
  allowed = λ e. absurd (true≢false e);
  tables = λ e. absurd (true≢false e);
}
unlisted_pass (HostAbort p) x = record {
  valid = λ e. absurd (true≢false e);
  has_vm = λ e. refl;
  has_slot = λ e. refl;
  ready = λ e. refl;
  allowed = λ e. absurd (true≢false e);
  tables = λ e. absurd (true≢false e);
}
unlisted_pass (HostTranslate p) x = record {
  valid = λ e. absurd (true≢false e);
  has_vm = λ e. refl;
  has_slot = λ e. refl;
  ready = λ e. refl;
  allowed = λ e. refl;
  tables = λ e. record { host = refl; hyp = refl; guest = refl };
}
unlisted_pass (HypTranslate p) x = record {
  valid = λ e. absurd (true≢false e);
  has_vm = λ e. refl;
  has_slot = λ e. refl;
  ready = λ e. refl;
  allowed = λ e. refl;
  tables = λ e. record { host = refl; hyp = refl; guest = refl };
}
unlisted_pass (OwnerOf f) x = record {
  valid = λ e. absurd (true≢false e);
  has_vm = λ e. refl;
  has_slot = λ e. refl;
  ready = λ e. refl;
  allowed = λ e. refl;
  tables = λ e. record { host = refl; hyp = refl; guest = refl };
}
unlisted_pass (Fund f n) x = record {
  valid = λ e. absurd (true≢false e);
  has_vm = λ e. refl;
  has_slot = λ e. refl;
  ready = λ e. absurd (true≢false e);
  allowed = λ e. absurd (true≢false e);
  tables = λ e. absurd (true≢false e);
}
unlisted_pass Unfund x = record {
  valid = λ e. refl;
  has_vm = λ e. refl;
  has_slot = λ e. refl;
  ready = λ e. refl;
  allowed = λ e. absurd (true≢false e);
  tables = λ e. absurd (true≢false e);
}
unlisted_pass (ShareGuest f g p n) x = record {
  valid = λ e. absurd (true≢false e);
  has_vm = λ e. absurd (true≢false e);
  has_slot = λ e. absurd (true≢false e);
  ready = λ e. refl;
  allowed = λ e. absurd (true≢false e);
  tables = λ e. absurd (true≢false e);
}
unlisted_pass (UnshareGuest vm g) x = record {
  valid = λ e. absurd (true≢false e);
  has_vm = λ e. absurd (true≢false e);
  has_slot = λ e. absurd (true≢false e);
  ready = λ e. refl;
  allowed = λ e. absurd (true≢false e);
  tables = λ e. absurd (true≢false e);
}
unlisted_pass (DonateGuest f g n) x = record {
  valid = λ e. absurd (true≢false e);
  has_vm = λ e. absurd (true≢false e);
  has_slot = λ e. absurd (true≢false e);
  ready = λ e. refl;
  allowed = λ e. absurd (true≢false e);
  tables = λ e. absurd (true≢false e);
}
unlisted_pass (GuestShareHost g) x = record {
  valid = λ e. absurd (true≢false e);
  has_vm = λ e. absurd (true≢false e);
  has_slot = λ e. absurd (true≢false e);
  ready = λ e. refl;
  allowed = λ e. absurd (true≢false e);
  tables = λ e. absurd (true≢false e);
}
unlisted_pass (GuestUnshareHost g) x = record {
  valid = λ e. absurd (true≢false e);
  has_vm = λ e. absurd (true≢false e);
  has_slot = λ e. absurd (true≢false e);
  ready = λ e. refl;
  allowed = λ e. absurd (true≢false e);
  tables = λ e. absurd (true≢false e);
}
unlisted_pass Install x = record {
  valid = λ e. refl;
  has_vm = λ e. absurd (true≢false e);
  has_slot = λ e. absurd (true≢false e);
  ready = λ e. refl;
  allowed = λ e. absurd (true≢false e);
  tables = λ e. record { host = refl; hyp = refl; guest = refl };
}
unlisted_pass (Topup vm) x = record {
  valid = λ e. absurd (true≢false e);
  has_vm = λ e. absurd (true≢false e);
  has_slot = λ e. absurd (true≢false e);
  ready = λ e. refl;
  allowed = λ e. absurd (true≢false e);
  tables = λ e. record { host = refl; hyp = refl; guest = refl };
}
unlisted_pass (ReclaimPage vm g) x = record {
  valid = λ e. absurd (true≢false e);
  has_vm = λ e. absurd (true≢false e);
  has_slot = λ e. absurd (true≢false e);
  ready = λ e. refl;
  allowed = λ e. absurd (true≢false e);
  tables = λ e. absurd (true≢false e);
}
unlisted_pass (ReclaimPool vm) x = record {
  valid = λ e. absurd (true≢false e);
  has_vm = λ e. absurd (true≢false e);
  has_slot = λ e. absurd (true≢false e);
  ready = λ e. refl;
  allowed = λ e. absurd (true≢false e);
  tables = λ e. absurd (true≢false e);
}
unlisted_pass FinishGuest x = record {
  valid = λ e. refl;
  has_vm = λ e. absurd (true≢false e);
  has_slot = λ e. absurd (true≢false e);
  ready = λ e. refl;
  allowed = λ e. absurd (true≢false e);
  tables = λ e. absurd (true≢false e);
}
unlisted_pass (GuestRelax g p) x = record {
  valid = λ e. absurd (true≢false e);
  has_vm = λ e. absurd (true≢false e);
  has_slot = λ e. absurd (true≢false e);
  ready = λ e. refl;
  allowed = λ e. absurd (true≢false e);
  tables = λ e. absurd (true≢false e);
}
unlisted_pass (GuestTranslate vm g) x = record {
  valid = λ e. absurd (true≢false e);
  has_vm = λ e. absurd (true≢false e);
  has_slot = λ e. absurd (true≢false e);
  ready = λ e. refl;
  allowed = λ e. refl;
  tables = λ e. record { host = refl; hyp = refl; guest = refl };
}
unlisted_pass MarkDying x = record {
  valid = λ e. refl;
  has_vm = λ e. absurd (true≢false e);
  has_slot = λ e. absurd (true≢false e);
  ready = λ e. refl;
  allowed = λ e. refl;
  tables = λ e. record { host = refl; hyp = refl; guest = refl };
}
unlisted_pass (VmReserve kind vcpus) x = record {
  valid = λ e. absurd (true≢false e);
  has_vm = λ e. refl;
  has_slot = λ e. refl;
  ready = λ e. absurd (true≢false e);
  allowed = λ e. refl;
  tables = λ e. record { host = refl; hyp = refl; guest = refl };
}
unlisted_pass VmOpen x = record {
  valid = λ e. refl;
  has_vm = λ e. absurd (true≢false e);
  has_slot = λ e. absurd (true≢false e);
  ready = λ e. refl;
  allowed = λ e. refl;
  tables = λ e. record { host = refl; hyp = refl; guest = refl };
}
unlisted_pass (VcpuLoad vm i) x = record {
  valid = λ e. absurd (true≢false e);
  has_vm = λ e. absurd (true≢false e);
  has_slot = λ e. absurd (true≢false e);
  ready = λ e. absurd (true≢false e);
  allowed = λ e. absurd (true≢false e);
  tables = λ e. record { host = refl; hyp = refl; guest = refl };
}
unlisted_pass VcpuPut x = record {
  valid = λ e. refl;
  has_vm = λ e. absurd (true≢false e);
  has_slot = λ e. absurd (true≢false e);
  ready = λ e. refl;
  allowed = λ e. refl;
  tables = λ e. record { host = refl; hyp = refl; guest = refl };
}
unlisted_pass (Teardown vm) x = record {
  valid = λ e. absurd (true≢false e);
  has_vm = λ e. absurd (true≢false e);
  has_slot = λ e. absurd (true≢false e);
  ready = λ e. absurd (true≢false e);
  allowed = λ e. refl;
  tables = λ e. record { host = refl; hyp = refl; guest = refl };
}
unlisted_pass VmRelease x = record {
  valid = λ e. refl;
  has_vm = λ e. absurd (true≢false e);
  has_slot = λ e. absurd (true≢false e);
  ready = λ e. refl;
  allowed = λ e. refl;
  tables = λ e. record { host = refl; hyp = refl; guest = refl };
}
