-- A step that changes a range isn't refused for memory where its trees keep spares and its maplets have room.
use Rattle.std.proofs.Common.{◌≡◌, ◌≤◌, ◌∙◌, ◌*◌, ℕ, refl, ap, sym, subst, arith, inl, inr, length, Option, Some, None}
use Rattle.std.proofs.Math.Nat.{mul-le-mul_right}
use Rattle.std.specs.Prelude.{Bool, true, false, not, ◌==◌, ◌&&◌, ◌||◌, ◌⊎◌, Ok, Err, Result, if◌then◌else◌}
use Rattle.call_table.specs.declared.reply.Refusal.{Refusal}
use Rattle.call_table.specs.declared.reply.Refusal.TheVariants.{Invalid, NoVm, Busy, Perm, NoPool, NoMemory}
use Rattle.call_table.specs.declared.reply.Reply.TheVariants.{Refused}
use Rattle.call_table.specs.declared.step.Step.{Step}
use Rattle.call_table.specs.declared.step.Step.TheVariants.{ShareHyp, UnshareHyp, ShareGuest, UnshareGuest, DonateGuest, GuestShareHost, GuestUnshareHost, ReclaimPage, GuestRelax}
use Rattle.page_state.specs.declared.entry.Entry.{Entry}
use Rattle.page_state.specs.Blocks.{blocks_on}
use Rattle.page_state.proofs.Cases.{by_test}
use Rattle.page_state.proofs.Common.{and-left, eq-same}
use Rattle.page_state.specs.Geometries.{levels_below}
use Rattle.page_state.specs.Layouts.{Layout, is_good_range}
use Rattle.page_state.specs.Tables.{need, needs, put}
use Rattle.page_state.specs.Trees.{Tree}
use Rattle.reference_model.specs.declared.changes.Changes.{Changes}
use Rattle.reference_model.specs.declared.changes.MapChange.{MapChange}
use Rattle.reference_model.specs.model.Decides.{decided, decides}
use Rattle.reference_model.specs.model.Changes.{edit_of}
use Rattle.reference_model.specs.model.Parts.{lacks_slot}
use Rattle.reference_model.specs.model.Rule.{Rule}
use Rattle.reference_model.specs.model.Rules.{rule, names}
use Rattle.reference_model.specs.model.Step.{fails, first_test, or_else, refusal, rule_of}
use Rattle.reference_model.specs.model.Used.{Used, used_of}
use Rattle.component.specs.declared.Component.{Component}
use Rattle.component.specs.View.{HasRoomFor, need_for}
use Rattle.guest_component.specs.declared.body.Body.{Body}
use Rattle.guest_component.specs.Wants.{MakesNone}
use Rattle.guest_component.specs.Wants.{HasReadyMap}
use Rattle.guest_component.specs.View.{guest_depth}
use Rattle.part_types.specs.declared.parts.SharedPart.{SharedPart}
use Rattle.part_types.specs.Roomy.{IsRoomy}
use Rattle.hypercalls.specs.declared.parts.Parts.{Parts}
use Rattle.hypercalls.specs.Stands.{parts_layout, state_of}
use Rattle.hypercalls.specs.Wants.{AreStocked, IsGuestStocked, IsStocked, StockedWants, blocks_met, changes_a_range}
use Rattle.hypercalls.specs.Whole.{HasRoomyGuest, slot_here}
use Rattle.hypercalls.proofs.Splits.{fewer, on_page, on_range}
use Rattle.reference_model.proofs.conditions.Bounding.{good-count}
use Rattle.reference_model.proofs.conditions.Tests.{tested}

differ : {P : Type 0} → false ≡ true → P
differ h = cc

-- no test answers want of memory

test_else : (b : Bool) (why : Refusal) (rest : Option Refusal)
    → (why ≡ NoMemory → ⊥)
    → (rest ≡ Some NoMemory → ⊥)
    → (if b then Some why else rest) ≡ Some NoMemory
    → ⊥
test_else true why rest h k e = h cc
test_else false why rest h k e = k e

none_else : None ≡ Some NoMemory → ⊥
none_else e = cc

tests_else : (r : Rule) (lacks : Bool) → first_test r lacks ≡ Some NoMemory → ⊥
tests_else r lacks =
    test_else (not r.valid.passes) Invalid _ (λ e. cc)
    (test_else (lacks || not r.has_vm.passes) NoVm _ (λ e. cc)
    (test_else (not r.ready.passes) Busy _ (λ e. cc)
    (test_else (not r.allowed.passes) Perm None (λ e. cc) none_else)))

or_else_else : (o : Option Refusal) (short : Bool)
    → (o ≡ Some NoMemory → ⊥)
    → or_else o (if short then Some NoPool else None) ≡ Some NoMemory
    → ⊥
or_else_else (Some why) short h e = h e
or_else_else None short h e = test_else short NoPool None (λ f. cc) none_else e

fails_else : (l : Layout) (cpu : ℕ) (slot : Option ℕ) (step : Step) (x : Used)
    → fails l cpu slot step x ≡ Some NoMemory
    → ⊥
unfolding fails refusal
fails_else l cpu slot step x e =
    or_else_else (first_test (rule_of l cpu slot step x) (lacks_slot (names step) slot)) _
    (tests_else (rule_of l cpu slot step x) (lacks_slot (names step) slot)) e

-- where no test fails, the rule's changes are decided

first_none : (o rest : Option Refusal) → or_else o rest ≡ None → o ≡ None
first_none None rest e = refl
first_none (Some why) rest e = cc

decided_ok : (r : Rule) (lacks : Bool) → first_test r lacks ≡ None → decided r lacks ≡ Ok r.changes
decided_ok r lacks e = ap (λ o. elim o as (λ _. Result Changes Refusal) [ Some why ↦ Err why | None ↦ Ok r.changes ]) e

decides_ok : (l : Layout) (cpu : ℕ) (slot : Option ℕ) (step : Step) (x : Used)
    → fails l cpu slot step x ≡ None
    → decides l cpu slot step x ≡ Ok (rule_of l cpu slot step x).changes
unfolding fails refusal
decides_ok l cpu slot step x e =
    decided_ok (rule_of l cpu slot step x) (lacks_slot (names step) slot) (first_none _ _ e)

passed_valid : (l : Layout) (cpu : ℕ) (slot : Option ℕ) (step : Step) (x : Used)
    → fails l cpu slot step x ≡ None
    → (rule_of l cpu slot step x).valid.passes ≡ true
unfolding fails refusal
passed_valid l cpu slot step x e =
    (tested (rule_of l cpu slot step x) (lacks_slot (names step) slot) (first_none _ _ e)).valid

-- changes of one page, or of a range of up to 512

abbrev FewPages : ℕ → ℕ → Type 0
FewPages k n = ((1 ≤ k) × (n ≡ 1)) ⊎ ((2 ≤ k) × (n ≤ 512))

abbrev HasFewPages : ℕ → Option MapChange → Type 0
HasFewPages k None = Unit {0}
HasFewPages k (Some c) = FewPages k c.range.count

record HaveFewPages (k : ℕ) (h : Changes) : Type 0 where
  host : HasFewPages k h.host
  hyp : HasFewPages k h.hyp
  guest : HasFewPages k h.guest
  part : MakesNone h.part

page_alone : FewPages 1 1
page_alone = inl (omega arith, refl)

few_pages : (l : Layout) (f n : ℕ) (other : Bool)
    → (is_good_range l f n && other) ≡ true
    → FewPages (if n == 1 then 1 else 2) n
few_pages l f n other h = by_test (n == 1)
    (λ e. ap_few (n == 1) true e (inl (omega arith, eq-same n 1 e)))
    (λ e. ap_few (n == 1) false e (inr (omega arith, good-count l f n (and-left (is_good_range l f n) other h))))
  where
    ap_few : (b t : Bool) → b ≡ t → FewPages (if t then 1 else 2) n → FewPages (if b then 1 else 2) n
    ap_few b t e k = subst (λ (a : Bool). FewPages (if a then 1 else 2) n) (sym e) k

range_few : (l : Layout) (cpu : ℕ) (slot : Option ℕ) (step : Step) (x : Used)
    → changes_a_range step ≡ true
    → (rule l cpu slot step x).valid.passes ≡ true
    → HaveFewPages (blocks_met step) (rule l cpu slot step x).changes
unfolding rule
range_few l cpu slot (ShareHyp f) x h i = record { host = page_alone; hyp = page_alone; guest = tt; part = tt }
range_few l cpu slot (UnshareHyp f) x h i = record { host = page_alone; hyp = page_alone; guest = tt; part = tt }
range_few l cpu slot (ShareGuest f g p n) x h i =
    record { host = few_pages l f n _ i; hyp = tt; guest = few_pages l f n _ i; part = tt }
range_few l cpu slot (UnshareGuest vm g) x h i = record { host = page_alone; hyp = tt; guest = page_alone; part = tt }
range_few l cpu slot (DonateGuest f g n) x h i =
    record { host = few_pages l f n _ i; hyp = tt; guest = few_pages l f n _ i; part = tt }
range_few l cpu slot (GuestShareHost g) x h i = record { host = page_alone; hyp = tt; guest = page_alone; part = tt }
range_few l cpu slot (GuestUnshareHost g) x h i = record { host = page_alone; hyp = tt; guest = page_alone; part = tt }
range_few l cpu slot (ReclaimPage vm g) x h i = record { host = page_alone; hyp = tt; guest = page_alone; part = tt }
range_few l cpu slot (GuestRelax g p) x h i = record { host = tt; hyp = tt; guest = page_alone; part = tt }
range_few l cpu slot other x h i = absurd (differ h)

-- they need a table at most for each block that the range meets

need_on : (top : ℕ) (t : Tree) (f n : ℕ) (e : Entry) → need top t (put f n e) ≤ length (blocks_on top f n)
unfolding needs
need_on top t f n e = fewer _ (blocks_on top f n)

need_most : (k top : ℕ) (t : Tree) (c : Option MapChange) → HasFewPages k c → need top t (edit_of c) ≤ k * top
unfolding needs
need_most k top t None h = omega arith
need_most k top t (Some c) (inl (some, one)) =
    let n = need_on top t c.range.first.0 c.range.count c.entry in
    let on : length (blocks_on top c.range.first.0 c.range.count) ≤ top =
    subst (λ m. length (blocks_on top c.range.first.0 m) ≤ top) (sym one) (on_page top c.range.first.0) in
    let more : 1 * top ≤ k * top = mul-le-mul_right top some in
    omega (arith, n, on, more)
need_most k top t (Some c) (inr (some, few)) =
    let n = need_on top t c.range.first.0 c.range.count c.entry in
    let on = on_range top c.range.first.0 c.range.count few in
    let more : 2 * top ≤ k * top = mul-le-mul_right top some in
    omega (arith, n, on, more)

has_room : {A : Type 0} (c : Option MapChange) (k : Component A) → 2 ≤ k.maplets.room → HasRoomFor c k.maplets
has_room None k h = tt
has_room (Some c) k h = h

module _ {A : Type 0} (k : ℕ) (h : Changes) (small : HaveFewPages k h) where
  roomy : (s : SharedPart A)
      → IsStocked (k * levels_below s.host.tree.geometry) s.host
      × IsStocked (k * levels_below s.hyp.tree.geometry) s.hyp
      → IsRoomy h s
  roomy s stocked = record {
    host = has_room h.host s.host stocked.0.room;
    hyp = has_room h.hyp s.hyp stocked.1.room;
    host_spares = let n : need_for s.host.tree h.host ≤ k * levels_below s.host.tree.geometry =
        need_most k (levels_below s.host.tree.geometry) _ h.host small.host in
        let m = stocked.0.spares in
        omega arith;
    hyp_spares = let n : need_for s.hyp.tree h.hyp ≤ k * levels_below s.hyp.tree.geometry =
        need_most k (levels_below s.hyp.tree.geometry) _ h.hyp small.hyp in
        let m = stocked.1.spares in
        omega arith;
  }

  ready : (depth : ℕ) (t : Tree) (o : Option (Body A))
      → IsGuestStocked (k * depth) o
      → HasReadyMap (need depth t (edit_of h.guest)) h.guest o
  ready depth t None s = tt
  ready depth t (Some b) s = (
    let n = need_most k depth t h.guest small.guest in
        let m = s.spares in
        omega arith,
    has_room h.guest b.map s.room,
  )

  roomy_guest : (p : Parts A) (cpu : ℕ) (step : Step)
      → AreStocked p (slot_here p cpu step) k
      → HasRoomyGuest p cpu step h
  roomy_guest p cpu step s v g slot at =
      record { made = small.part; map = ready (guest_depth g.guest) _ g.guest.body (s.guest v g slot at) }

pub stocked_wants : {A : Type 0} → StockedWants A
stocked_wants {A} p q cpu step reply is page stocked wanted = elim is.steps.on.answers [
  | inl full ↦ let e = full.reply in cc
  | inr answer ↦ elim answer.answered [
    | inl made ↦ let e = made.reply_is in cc
    | inr (inl refused) ↦ fails_else l cpu slot step x
        (refused.fail ∙ ap Some (same refused.why (sym refused.reply_is ∙ wanted)))
    | inr (inr wants) ↦ is.wants wanted h (decides_ok l cpu slot step x wants.passes)
        (roomy (blocks_met step) h (small wants.passes) p.shared stocked.shared)
        (roomy_guest (blocks_met step) h (small wants.passes) p cpu step stocked)
  ]
]
  where
    l : Layout
    l = parts_layout p

    slot : Option ℕ
    slot = slot_here p cpu step

    x : Used
    x = used_of (names step) slot cpu (state_of p).contents

    h : Changes
    h = (rule_of l cpu slot step x).changes

    small : fails l cpu slot step x ≡ None → HaveFewPages (blocks_met step) h
    small passes = range_few l cpu slot step x page (passed_valid l cpu slot step x passes)

    same : (why : Refusal) → Refused why ≡ Refused NoMemory → why ≡ NoMemory
    same why e = cc
