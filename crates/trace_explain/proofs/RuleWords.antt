-- The words of a rule don't hang on what it reads.
use Rattle.std.proofs.Common.{refl}
use Rattle.call_table.specs.declared.step.Step.TheVariants.{ShareHyp, UnshareHyp, DonateHyp, HypDonateHost, HostAbort, HostTranslate, HypTranslate, OwnerOf, Fund, Unfund, ShareGuest, UnshareGuest, DonateGuest, GuestShareHost, GuestUnshareHost, Install, Topup, ReclaimPage, ReclaimPool, FinishGuest, GuestRelax, GuestTranslate, MarkDying, VmReserve, VmOpen, VcpuLoad, VcpuPut, Teardown, VmRelease}
use Rattle.trace_explain.specs.Laws.{SameWords}

pub same_words : SameWords
same_words (ShareHyp f) x = record { valid = refl; has_vm = refl; ready = refl; allowed = refl }
same_words (UnshareHyp f) x = record { valid = refl; has_vm = refl; ready = refl; allowed = refl }
same_words (DonateHyp f n) x = record { valid = refl; has_vm = refl; ready = refl; allowed = refl }
same_words (HypDonateHost f n) x = record { valid = refl; has_vm = refl; ready = refl; allowed = refl }
same_words (HostAbort p) x = record { valid = refl; has_vm = refl; ready = refl; allowed = refl }
same_words (HostTranslate p) x = record { valid = refl; has_vm = refl; ready = refl; allowed = refl }
same_words (HypTranslate p) x = record { valid = refl; has_vm = refl; ready = refl; allowed = refl }
same_words (OwnerOf f) x = record { valid = refl; has_vm = refl; ready = refl; allowed = refl }
same_words (Fund f n) x = record { valid = refl; has_vm = refl; ready = refl; allowed = refl }
same_words Unfund x = record { valid = refl; has_vm = refl; ready = refl; allowed = refl }
same_words (ShareGuest f g p n) x = record { valid = refl; has_vm = refl; ready = refl; allowed = refl }
same_words (UnshareGuest vm g) x = record { valid = refl; has_vm = refl; ready = refl; allowed = refl }
same_words (DonateGuest f g n) x = record { valid = refl; has_vm = refl; ready = refl; allowed = refl }
same_words (GuestShareHost g) x = record { valid = refl; has_vm = refl; ready = refl; allowed = refl }
same_words (GuestUnshareHost g) x = record { valid = refl; has_vm = refl; ready = refl; allowed = refl }
same_words Install x = record { valid = refl; has_vm = refl; ready = refl; allowed = refl }
same_words (Topup vm) x = record { valid = refl; has_vm = refl; ready = refl; allowed = refl }
same_words (ReclaimPage vm g) x = record { valid = refl; has_vm = refl; ready = refl; allowed = refl }
same_words (ReclaimPool vm) x = record { valid = refl; has_vm = refl; ready = refl; allowed = refl }
same_words FinishGuest x = record { valid = refl; has_vm = refl; ready = refl; allowed = refl }
same_words (GuestRelax g p) x = record { valid = refl; has_vm = refl; ready = refl; allowed = refl }
same_words (GuestTranslate vm g) x = record { valid = refl; has_vm = refl; ready = refl; allowed = refl }
same_words MarkDying x = record { valid = refl; has_vm = refl; ready = refl; allowed = refl }
same_words (VmReserve kind vcpus) x = record { valid = refl; has_vm = refl; ready = refl; allowed = refl }
same_words VmOpen x = record { valid = refl; has_vm = refl; ready = refl; allowed = refl }
same_words (VcpuLoad vm i) x = record { valid = refl; has_vm = refl; ready = refl; allowed = refl }
same_words VcpuPut x = record { valid = refl; has_vm = refl; ready = refl; allowed = refl }
same_words (Teardown vm) x = record { valid = refl; has_vm = refl; ready = refl; allowed = refl }
same_words VmRelease x = record { valid = refl; has_vm = refl; ready = refl; allowed = refl }
