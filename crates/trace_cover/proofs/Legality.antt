-- Conditions in a legal state.
use Rattle.std.proofs.Common.{◌≡◌, ◌∙◌, ℕ, ◌+◌, ◌-◌, ◌==◌, Bool, true, false, cond, Option, Some, None, refl, sym, ap, ap₂, subst, arith}
use Rattle.std.proofs.lemmas.Bool.Decides.{nat_tests}
use Rattle.descriptor.specs.declared.State.{State}
use Rattle.descriptor.specs.declared.State.TheVariants.{Owned, SharedOwned, SharedBorrowed}
use Rattle.call_table.specs.declared.step.Step.TheVariants.{ShareHyp, UnshareHyp, DonateHyp, HypDonateHost, HostAbort, HostTranslate, HypTranslate, OwnerOf, Fund, Unfund, ShareGuest, UnshareGuest, DonateGuest, GuestShareHost, GuestUnshareHost, Install, Topup, ReclaimPage, ReclaimPool, FinishGuest, GuestRelax, GuestTranslate, MarkDying, VmReserve, VmOpen, VcpuLoad, VcpuPut, Teardown, VmRelease}
use Rattle.page_state.specs.declared.entry.Entry.{Entry}
use Rattle.page_state.specs.declared.entry.Entry.TheVariants.{Unmapped, Malformed, Annotated, Leaf}
use Rattle.page_state.specs.declared.row.Row.{Row}
use Rattle.reference_model.specs.declared.changes.Loaded.{Loaded}
use Rattle.reference_model.specs.help.Conditions.{Condition as FrameCondition, Legal, outside, hosts, with_hyp, hyps, with_guest, guests, lent_back, is_inside, row_in}
use Rattle.reference_model.specs.model.GuestRules.{phase_eq}
use Rattle.reference_model.specs.model.State.{Contents, Phase, dying, live}
use Rattle.page_state.specs.Layouts.{Layout}
use Rattle.trace_cover.specs.declared.condition.Condition.{Condition}
use Rattle.trace_cover.specs.declared.condition.Condition.TheVariants.{WithHyp, WithGuest, Guests, LentBack}
use Rattle.trace_cover.specs.Conditions.{by_state, by_usage}
use Rattle.trace_cover.specs.Found.{by_borrower, by_row, is_dying, leaf_condition, loaded_condition, of_guest, of_host, page_condition}
use Rattle.trace_cover.specs.Kinds.{is_of_dying, none_loaded}
use Rattle.trace_cover.specs.Legality.{NeverFound, SameCondition, reported}
use Rattle.trace_text.specs.Worlds.{Machine}

two_more : (v : ℕ) → (2 + v) - 2 ≡ v
two_more v = omega arith

no_host : (v : ℕ) → (2 + v == 0) ≡ false
no_host v = grind (arith, nat_tests)

no_hyp : (v : ℕ) → (2 + v == 1) ≡ false
no_hyp v = grind (arith, nat_tests)

module _ (m : Machine) (frame : ℕ) where
  lent_to : (v : ℕ) → by_borrower m (2 + v) ≡ by_state (is_dying m v) SharedBorrowed
  lent_to v =
      ap₂ (λ (b : Bool) (n : ℕ). cond b WithHyp (by_state (is_dying m n) SharedBorrowed)) (no_hyp v) (two_more v)

  -- by whether the owner is the host, and then the hypervisor
  abbrev from_owner : Row → Bool → Condition
  from_owner row b =
      cond b (of_host m frame row.lent)
      (cond (row.owner.0 == 1) (by_usage row.usage) (of_guest (is_dying m (row.owner.0 - 2)) row.lent))

  abbrev from_hyp : Row → Bool → Condition
  from_hyp row b = cond b (by_usage row.usage) (of_guest (is_dying m (row.owner.0 - 2)) row.lent)

  of_row : (row : Row) (v : ℕ) → row.owner.0 ≡ 2 + v → by_row m frame row ≡ of_guest (is_dying m v) row.lent
  of_row row v is =
      ap (from_owner row) (ap (λ (n : ℕ). n == 0) is ∙ no_host v)
      ∙ ap (from_hyp row) (ap (λ (n : ℕ). n == 1) is ∙ no_hyp v)
      ∙ ap (λ (n : ℕ). of_guest (is_dying m n) row.lent) (ap (λ (n : ℕ). n - 2) is ∙ two_more v)

  by_condition : (c : FrameCondition) → is_inside c ≡ true → by_row m frame (row_in frame c) ≡ reported m frame c
  by_condition outside inside = absurd (let e = inside in cc)
  by_condition hosts inside = refl
  by_condition with_hyp inside = refl
  by_condition (hyps usage) inside = refl
  by_condition (with_guest v page) inside = lent_to v
  by_condition (guests v page) inside = of_row (row_in frame (guests v page)) v refl
  by_condition (lent_back v page) inside = of_row (row_in frame (lent_back v page)) v refl

pub same_condition : SameCondition
same_condition m legal frame is =
    ap (by_row m frame) (legal.rows frame is)
    ∙ by_condition m frame (legal.condition frame) (legal.of_layout.inside frame ∙ is)

-- the guest of a loaded vCPU is Live
loaded_live : (l : Layout) (s : Contents) (cpu : ℕ) (k : Loaded)
    → Legal l s
    → (s.cpu cpu).loaded ≡ Some k
    → (s.guest k.vm.slot).phase ≡ live
loaded_live l s cpu k legal is =
    let held = legal.slots.agree.loads.loaded cpu k is in
    legal.slots.agree.guests.open_live k.vm.slot (legal.slots.agree.loads.loads k.vm.slot k.vcpu cpu held.0).0

some_same : (a b : Condition) → ◌≡◌ {A = Option Condition} (Some a) (Some b) → a ≡ b
some_same a b e = cc

no_some : (a : Condition) → ◌≡◌ {A = Option Condition} None (Some a) → ⊥
no_some a e = cc

-- a page of a guest that isn't Dying
leaf_live : (e : Entry) (c : Condition) → leaf_condition false e ≡ Some c → is_of_dying c ≡ false
leaf_live Unmapped c is = absurd (no_some c is)
leaf_live Malformed c is = absurd (no_some c is)
leaf_live (Annotated owner) c is = absurd (no_some c is)
leaf_live (Leaf frame prot kind SharedBorrowed) c is =
    subst (λ x. is_of_dying x ≡ false) (some_same WithGuest c is) refl
leaf_live (Leaf frame prot kind Owned) c is = subst (λ x. is_of_dying x ≡ false) (some_same Guests c is) refl
leaf_live (Leaf frame prot kind SharedOwned) c is = subst (λ x. is_of_dying x ≡ false) (some_same LentBack c is) refl

-- a call of a loaded vCPU
module _ (m : Machine) (legal : Legal m.layout m.state.contents) (cpu page : ℕ) (c : Condition) where
  loaded_at : (o : Option Loaded)
      → (m.state.contents.cpu cpu).loaded ≡ o
      → loaded_condition m o page ≡ Some c
      → is_of_dying c ≡ false
  loaded_at None held is = absurd (no_some c is)
  loaded_at (Some k) held is =
      let alive = ap (λ (p : Phase). phase_eq p dying) (loaded_live m.layout m.state.contents cpu k legal held) in
      leaf_live ((m.state.contents.guest k.vm.slot).tree.map page) c
      (subst (λ (b : Bool). leaf_condition b ((m.state.contents.guest k.vm.slot).tree.map page) ≡ Some c) alive is)

  may_come : loaded_condition m (m.state.contents.cpu cpu).loaded page ≡ Some c
      → cond (is_of_dying c) (Some none_loaded) None ≡ None
  may_come is = ap (λ (b : Bool). cond b (Some none_loaded) None) (loaded_at (m.state.contents.cpu cpu).loaded refl is)

pub never_found : NeverFound
never_found m legal cpu (ShareHyp f) c is = refl
never_found m legal cpu (UnshareHyp f) c is = refl
never_found m legal cpu (DonateHyp f n) c is = refl
never_found m legal cpu (HypDonateHost f n) c is = refl
never_found m legal cpu (HostAbort p) c is = refl
never_found m legal cpu (HostTranslate p) c is = refl
never_found m legal cpu (HypTranslate p) c is = refl
never_found m legal cpu (OwnerOf f) c is = refl
never_found m legal cpu (Fund f n) c is = refl
never_found m legal cpu Unfund c is = refl
never_found m legal cpu (ShareGuest f g p n) c is = refl
never_found m legal cpu (UnshareGuest vm g) c is = refl
never_found m legal cpu (DonateGuest f g n) c is = refl
never_found m legal cpu (GuestShareHost g) c is = may_come m legal cpu g c is
never_found m legal cpu (GuestUnshareHost g) c is = may_come m legal cpu g c is
never_found m legal cpu Install c is = refl
never_found m legal cpu (Topup vm) c is = refl
never_found m legal cpu (ReclaimPage vm g) c is = refl
never_found m legal cpu (ReclaimPool vm) c is = refl
never_found m legal cpu FinishGuest c is = refl
never_found m legal cpu (GuestRelax g p) c is = may_come m legal cpu g c is
never_found m legal cpu (GuestTranslate vm g) c is = refl
never_found m legal cpu MarkDying c is = refl
never_found m legal cpu (VmReserve kind vcpus) c is = refl
never_found m legal cpu VmOpen c is = refl
never_found m legal cpu (VcpuLoad vm i) c is = refl
never_found m legal cpu VcpuPut c is = refl
never_found m legal cpu (Teardown vm) c is = refl
never_found m legal cpu VmRelease c is = refl
