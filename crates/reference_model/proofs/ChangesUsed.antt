-- What a rule changes is of parts that its step uses.
use Rattle.std.proofs.Common.{◌≡◌, ℕ, refl, sym, ◌∙◌, subst, arith}
use Rattle.std.specs.Prelude.{true, false, nat_lt, Option, Some, None}
use Rattle.std.proofs.lemmas.Bool.Decides.{nat_tests}
use Rattle.call_table.specs.declared.step.Step.{Step}
use Rattle.call_table.specs.declared.step.Step.TheVariants.{ShareHyp, UnshareHyp, DonateHyp, HypDonateHost, HostAbort, HostTranslate, HypTranslate, OwnerOf, Fund, Unfund, GuestRelax, GuestTranslate, MarkDying, VmReserve, VmOpen, VcpuLoad, VcpuPut, Teardown, VmRelease}
use Rattle.page_state.specs.Layouts.{Layout}
use Rattle.reference_model.specs.declared.changes.Changes.{Changes}
use Rattle.reference_model.specs.declared.changes.GuestChange.TheVariants.{Keep as KeepGuest}
use Rattle.reference_model.specs.declared.changes.SlotChange.TheVariants.{Keep as KeepSlots}
use Rattle.reference_model.specs.help.ChangeLaws.{OnlyUses, ChangesUsed}
use Rattle.reference_model.specs.model.Changes.{touched}
use Rattle.reference_model.specs.model.Parts.{Names, shared, shared_and_guest, guest, is_good_vm, lacks_slot, uses_vms}
use Rattle.reference_model.specs.model.Rule.{Rule, reads}
use Rattle.reference_model.specs.model.Rules.{rule, names}
use Rattle.reference_model.specs.model.Step.{first_test}
use Rattle.reference_model.specs.model.Used.{Used}
use Rattle.reference_model.specs.model.VmRules.{vcpu_load, teardown}
use Rattle.page_state.proofs.Common.{and-left}
use Rattle.reference_model.proofs.Answers.{told-ok}
use Rattle.reference_model.proofs.conditions.Tests.{tested}

-- changes by the parts that a step names

of-shared : (slot : Option ℕ) (h : Changes)
    → h.slot ≡ KeepSlots
    → h.guest ≡ None
    → h.part ≡ KeepGuest
    → OnlyUses shared slot h
of-shared slot h a b c =
    record { vms = λ e. a; host = λ e. cc; hyp = λ e. cc; moved = λ e. cc; guest = λ e. b; part = λ e. c }

of-both : (v : ℕ) (h : Changes) → h.slot ≡ KeepSlots → OnlyUses shared_and_guest (Some v) h
of-both v h a = record { vms = λ e. a; host = λ e. cc; hyp = λ e. cc; moved = λ e. cc; guest = λ e. cc; part = λ e. cc }

of-guest : (v : ℕ) (h : Changes)
    → h.slot ≡ KeepSlots
    → h.host ≡ None
    → h.hyp ≡ None
    → touched h ≡ None
    → OnlyUses guest (Some v) h
of-guest v h a b c d =
    record { vms = λ e. a; host = λ e. b; hyp = λ e. c; moved = λ e. d; guest = λ e. cc; part = λ e. cc }

of-vms : (n : Names) (slot : Option ℕ) (h : Changes)
    → uses_vms n ≡ true
    → h.host ≡ None
    → h.hyp ≡ None
    → touched h ≡ None
    → h.guest ≡ None
    → h.part ≡ KeepGuest
    → OnlyUses n slot h
of-vms n slot h u a b c d e =
    record {
      vms = λ w. let bad : true ≡ false = sym u ∙ w in
          cc;
      host = λ w. a;
      hyp = λ w. b;
      moved = λ w. c;
      guest = λ w. d;
      part = λ w. e;
    }

-- a step that lacks its slot decides nothing
pub lacking : {P : Type 0} (r : Rule) → first_test r true ≡ None → P
lacking r h = let bad : true ≡ false = (tested r true h).lacks_none in cc

each : (l : Layout) (cpu : ℕ) (slot : Option ℕ) (step : Step) (x : Used)
    → first_test (rule l cpu slot step x) (lacks_slot (names step) slot) ≡ None
    → OnlyUses (names step) slot (rule l cpu slot step x).changes
unfolding rule
each l cpu slot (ShareHyp f) x h = of-shared slot _ refl refl refl
each l cpu slot (UnshareHyp f) x h = of-shared slot _ refl refl refl
each l cpu slot (DonateHyp f n) x h = of-shared slot _ refl refl refl
each l cpu slot (HypDonateHost f n) x h = of-shared slot _ refl refl refl
each l cpu slot (HostAbort p) x h = of-shared slot _ refl refl refl
each l cpu slot (HostTranslate p) x h = of-shared slot _ refl refl refl
each l cpu slot (HypTranslate p) x h = of-shared slot _ refl refl refl
each l cpu slot (OwnerOf f) x h = of-shared slot _ refl refl refl
each l cpu slot (Fund f n) x h = of-shared slot _ refl refl refl
each l cpu slot Unfund x h = of-shared slot _ refl refl refl
each l cpu slot (VmReserve kind vcpus) x h = of-vms _ slot _ refl refl refl refl refl refl
each l cpu slot VmOpen x h = of-vms _ slot _ refl refl refl refl refl refl
each l cpu slot (VcpuLoad vm i) x h =
    of-vms _ slot _
    (and-left (is_good_vm vm) (nat_lt i 8) (tested (vcpu_load vm i (reads l cpu slot x)) false h).valid) refl refl
    refl refl refl
each l cpu slot VcpuPut x h = of-vms _ slot _ refl refl refl refl refl refl
each l cpu slot (Teardown vm) x h =
    of-vms _ slot _ (tested (teardown vm (reads l cpu slot x)) false h).valid refl refl refl refl refl
each l cpu slot VmRelease x h = of-vms _ slot _ refl refl refl refl refl refl
each l cpu (Some v) (GuestRelax g p) x h = of-guest v _ refl refl refl refl
each l cpu (Some v) (GuestTranslate vm g) x h = of-guest v _ refl refl refl refl
each l cpu (Some v) MarkDying x h = of-guest v _ refl refl refl refl
each l cpu (Some v) step x h = of-both v _ refl
each l cpu None step x h = lacking (rule l cpu None step x) h

pub changes_used : ChangesUsed
changes_used l cpu slot step x h k =
    let t = told-ok (rule l cpu slot step x) (lacks_slot (names step) slot) h k in
    subst (OnlyUses (names step) slot) t.1 (each l cpu slot step x t.0)
