-- The frames that a made step touches are in no pool before it, where its rule asks none.
use Rattle.std.proofs.Common.{◌≡◌, ℕ, ◌+◌, ◌-◌, ◌≤◌, ◌<◌, refl, ap, sym, ◌∙◌, subst, arith, inl, inr}
use Rattle.std.specs.Prelude.{Bool, true, false, ◌&&◌, ◌==◌, nat_le, Option, Some, None, if◌then◌else◌}
use Rattle.descriptor.specs.declared.State.{State}
use Rattle.descriptor.specs.declared.State.TheVariants.{Owned, SharedOwned, SharedBorrowed}
use Rattle.page_state.specs.declared.entry.Entry.{Entry}
use Rattle.page_state.specs.declared.entry.Entry.TheVariants.{Unmapped, Leaf}
use Rattle.page_state.specs.declared.entry.PageRange.{PageRange}
use Rattle.page_state.specs.declared.layout.Region.{Region}
use Rattle.page_state.specs.declared.row.Usage.TheVariants.{SharedPool, VmPool}
use Rattle.page_state.proofs.Blocks.{empty_means}
use Rattle.page_state.proofs.Common.{both, and-left, and-right, not-true, if-true, if-false}
use Rattle.page_state.specs.Blocks.{block_at, first_page, span, is_empty}
use Rattle.page_state.specs.EntryTests.{is_unmapped, is_annotated, is_in, is_free_page, entry_frame}
use Rattle.page_state.specs.Layouts.{Layout, is_memory, hyp_page}
use Rattle.page_state.specs.declared.row.Row.{Row}
use Rattle.page_state.specs.Map.{Map, is_within}
use Rattle.page_state.specs.Regions.{region_of, end_of}
use Rattle.page_state.specs.Search.{all_below}
use Rattle.call_table.specs.declared.step.Step.{Step}
use Rattle.call_table.specs.declared.step.VmId.{VmId}
use Rattle.call_table.specs.declared.step.Step.TheVariants.{ShareHyp, UnshareHyp, DonateHyp, HypDonateHost, HostAbort, Fund, Unfund, ShareGuest, UnshareGuest, DonateGuest, GuestShareHost, GuestUnshareHost, Install, Topup, ReclaimPage, ReclaimPool, FinishGuest}
use Rattle.reference_model.proofs.conditions.RangeMoves.{range-all, both-all, one-within, within-is, hand-range, in_hand-hyps}
use Rattle.reference_model.proofs.conditions.Tests.{Tested, tested}
use Rattle.reference_model.specs.declared.changes.MapChange.{MapChange}
use Rattle.reference_model.specs.model.Changes.{change}
use Rattle.reference_model.specs.help.Conditions.{Condition, hyps, HostFits, GuestFits, guest_condition, row_in, in_shared, in_vm}
use Rattle.reference_model.specs.model.Owner.{is_in_hand}
use Rattle.reference_model.specs.model.Parts.{lacks_slot}
use Rattle.reference_model.specs.model.Rule.{Rule}
use Rattle.reference_model.specs.model.Rules.{rule, names}
use Rattle.reference_model.specs.model.SharedRules.{abort_edit, abort_depth, abort_leaf, may_map, may_return, is_plain}
use Rattle.reference_model.specs.model.State.{Contents}
use Rattle.reference_model.specs.model.Step.{first_test, rule_of, is_touched}
use Rattle.reference_model.specs.model.Used.{Used, used_of}
use Rattle.freedoms.specs.Ample.{asks_pool, rule_fails}
use Rattle.freedoms.specs.AnyTrees.{LegalInAnyTrees}

-- a pool has a frame of the condition
abbrev pub is_pooled : Condition → Bool
is_pooled (hyps SharedPool) = true
is_pooled (hyps (VmPool v)) = true
is_pooled other = false

pub pooled-shared : (c : Condition) → is_pooled c ≡ false → in_shared c ≡ false
pooled-shared (hyps SharedPool) h = cc
pooled-shared c h = refl

pub pooled-vm : (c : Condition) (v : ℕ) → is_pooled c ≡ false → in_vm v c ≡ false
pooled-vm (hyps (VmPool u)) v h = cc
pooled-vm c v h = refl

-- a host's entry that isn't annotated
host-loose : (f : ℕ) (c : Condition) (e : Entry) → HostFits f c e → is_annotated e ≡ false → is_pooled c ≡ false
host-loose f (hyps u) e h k = let bad : true ≡ false = sym (ap is_annotated h) ∙ k in cc
host-loose f c e h k = refl

free-plain : (e : Entry) → is_free_page e ≡ true → is_annotated e ≡ false
free-plain (Leaf frame prot kind state) h = refl
free-plain Unmapped h = refl
free-plain e h = cc

in-plain : (state : State) (e : Entry) → is_in state e ≡ true → is_annotated e ≡ false
in-plain state (Leaf frame prot kind other) h = refl
in-plain state e h = cc

-- a row of no use
row-loose : (f : ℕ) (c : Condition) → is_plain (row_in f c).usage ≡ true → is_pooled c ≡ false
row-loose f (hyps SharedPool) h = cc
row-loose f (hyps (VmPool v)) h = cc
row-loose f c h = refl

-- a guest's leaf
guest-loose : (state : State) (v g : ℕ) → is_pooled (guest_condition state v g) ≡ false
guest-loose Owned v g = refl
guest-loose SharedOwned v g = refl
guest-loose SharedBorrowed v g = refl

leaf-loose : (condition : ℕ → Condition) (v g : ℕ) (e : Entry)
    → GuestFits condition v g e
    → is_unmapped e ≡ false
    → is_pooled (condition (entry_frame e)) ≡ false
leaf-loose condition v g e (inl h) k = let bad : true ≡ false = sym (ap is_unmapped h) ∙ k in cc
leaf-loose condition v g e (inr h) k =
    ap (λ d. is_pooled (condition (entry_frame d))) h.leaf_is ∙ ap is_pooled h.named ∙ guest-loose h.state v g

in-mapped : (state : State) (e : Entry) → is_in state e ≡ true → is_unmapped e ≡ false
in-mapped state (Leaf frame prot kind other) h = refl
in-mapped state e h = cc

-- a block that host_abort may map is all unmapped
may-empty : (m : Map) (r : Region) (d page : ℕ) → may_map m r d page ≡ true → is_empty m (block_at d page) ≡ true
may-empty m r d page h =
    last (nat_le r.pages.first.0 (first_page (block_at d page)))
    (nat_le (first_page (block_at d page) + span (block_at d page)) (end_of r.pages))
    (is_empty m (block_at d page)) h
  where
    last : (a b c : Bool) → (a && b && c) ≡ true → c ≡ true
    last true true c h = h
    last true false c h = cc
    last false b c h = cc

empty-page : (m : Map) (first n : ℕ)
    → ((i : ℕ) → i < n → m (first + i) ≡ Unmapped)
    → (f : ℕ)
    → is_within first n f ≡ true
    → m f ≡ Unmapped
empty-page m first n h f w =
    let at = within-is first n f w in
    let low : first ≤ f = at.0 in
    let high : f < first + n = at.1 in
    let e : first + (f - first) ≡ f = omega arith in
    ap m (sym e) ∙ h (f - first) (omega arith)

abort-empty : (m : Map) (r : Region) (page : ℕ)
    → m page ≡ Unmapped
    → (f : ℕ)
    → is_within (first_page (block_at (abort_depth m r page) page)) (span (block_at (abort_depth m r page) page)) f
    ≡ true
    → m f ≡ Unmapped
abort-empty m r page bare f = elim (both (may_map m r 2 page)) [
  | inl h ↦ subst Here (sym (if-true (may_map m r 2 page) 2 (if may_map m r 1 page then 1 else 0) h)) (deep 2 h)
  | inr h ↦ subst Here (sym (if-false (may_map m r 2 page) 2 (if may_map m r 1 page then 1 else 0) h))
      (elim (both (may_map m r 1 page)) [
        | inl k ↦ subst Here (sym (if-true (may_map m r 1 page) 1 0 k)) (deep 1 k)
        | inr k ↦ subst Here (sym (if-false (may_map m r 1 page) 1 0 k)) flat
      ])
]
  where
    Here : ℕ → Type 0
    Here d = is_within (first_page (block_at d page)) (span (block_at d page)) f ≡ true → m f ≡ Unmapped

    deep : (d : ℕ)
        → may_map m r d page ≡ true
        → is_within (first_page (block_at d page)) (span (block_at d page)) f ≡ true
        → m f ≡ Unmapped
    deep d h w =
        empty-page m (first_page (block_at d page)) (span (block_at d page))
        ((empty_means m (block_at d page)).0 (may-empty m r d page h)) f w

    flat : is_within (first_page (block_at 0 page)) (span (block_at 0 page)) f ≡ true → m f ≡ Unmapped
    flat w =
        let at : first_page (block_at 0 page) ≡ page = omega arith in
        let one : is_within page 1 f ≡ true = sym (ap (λ n. is_within n 1 f) at) ∙ w in
        ap m (sym (one-within page f one)) ∙ bare

is-unmapped : (e : Entry) → is_unmapped e ≡ true → e ≡ Unmapped
is-unmapped Unmapped h = refl
is-unmapped e h = cc

-- the range of a change of the host's map
abbrev pub range_of : Option MapChange → Option PageRange
range_of None = None
range_of (Some c) = Some c.range

chosen-loose : (m : Map) (f : ℕ) (b : Bool) (c : Option MapChange)
    → (b ≡ true → is_in_hand (range_of c) f ≡ true → m f ≡ Unmapped)
    → is_in_hand (range_of (if b then c else None)) f ≡ true
    → m f ≡ Unmapped
chosen-loose m f true c h k = h refl k
chosen-loose m f false c h k = cc

pub abort-loose : (m : Map) (o : Option Region) (page f : ℕ)
    → is_in_hand (range_of (abort_edit m o page)) f ≡ true
    → m f ≡ Unmapped
unfolding abort_edit
abort-loose m None page f w = cc
abort-loose m (Some r) page f w =
    chosen-loose m f (is_unmapped (m page))
    (change (first_page (block_at (abort_depth m r page) page)) (span (block_at (abort_depth m r page) page))
    (abort_leaf r (first_page (block_at (abort_depth m r page) page))))
    (λ h k. abort-empty m r page (is-unmapped (m page) h) f k) w

pub touched-host : (o : Option MapChange) (f : ℕ)
    → is_in_hand (elim o [ Some c ↦ Some c.range | None ↦ None ]) f ≡ is_in_hand (range_of o) f
touched-host None f = refl
touched-host (Some c) f = refl

module _ (l : Layout) (s : Contents) (legal : LegalInAnyTrees l s) (cpu : ℕ) where
  abbrev x_at : Option ℕ → Step → Used
  x_at slot step = used_of (names step) slot cpu s

  free-loose : (f : ℕ) → is_free_page (s.shared.host.map f) ≡ true → is_pooled (legal.state.frames.condition f) ≡ false
  free-loose f h =
      host-loose f (legal.state.frames.condition f) (s.shared.host.map f) (legal.state.frames.maps.host f)
      (free-plain (s.shared.host.map f) h)

  one-loose : (f q : ℕ)
      → is_pooled (legal.state.frames.condition f) ≡ false
      → is_within f 1 q ≡ true
      → is_pooled (legal.state.frames.condition q) ≡ false
  one-loose f q h w = subst (λ n. is_pooled (legal.state.frames.condition n) ≡ false) (one-within f q w) h

  given-loose : (f g n : ℕ) (b : ℕ → Bool) (q : ℕ)
      → all_below n (λ i. is_free_page (s.shared.host.map (f + i)) && b (g + i)) ≡ true
      → is_within f n q ≡ true
      → is_pooled (legal.state.frames.condition q) ≡ false
  given-loose f g n b q h w = free-loose q (both-all f g n (λ p. is_free_page (s.shared.host.map p)) b h q w).0

  hand-loose : (q : ℕ) → is_in_hand (s.cpu cpu).hand q ≡ true → is_pooled (legal.state.frames.condition q) ≡ false
  hand-loose q h =
      ap is_pooled (in_hand-hyps cpu (legal.state.frames.condition q) (sym (legal.state.frames.held.hand cpu q) ∙ h))

  page-loose : (v g q : ℕ)
      → is_unmapped ((s.guest v).tree.map g) ≡ false
      → is_within (entry_frame ((s.guest v).tree.map g)) 1 q ≡ true
      → is_pooled (legal.state.frames.condition q) ≡ false
  page-loose v g q h w =
      one-loose (entry_frame ((s.guest v).tree.map g)) q
      (leaf-loose legal.state.frames.condition v g ((s.guest v).tree.map g) (legal.state.frames.maps.guest v g) h) w

  returned-loose : (f n q : ℕ)
      → is_memory l q ≡ true
      → all_below n (λ i. may_return (x_at None (HypDonateHost f n)) (f + i)) ≡ true
      → is_within f n q ≡ true
      → is_pooled (legal.state.frames.condition q) ≡ false
  unfolding used_of
  returned-loose f n q m h w =
      let t = range-all f n (λ p. may_return (x_at None (HypDonateHost f n)) p) h q w in
      row-loose q (legal.state.frames.condition q)
      (ap (λ (r : Row). is_plain r.usage) (sym (legal.state.frames.rows q m))
      ∙ middle ((s.shared.row q).owner.0 == 1) (is_plain (s.shared.row q).usage)
      (is_in Owned (s.shared.hyp.map (hyp_page q))) t)
    where
      middle : (a b c : Bool) → (a && b && c) ≡ true → b ≡ true
      middle true true c h = refl
      middle true false c h = cc
      middle false b c h = cc

  -- the frames that a made step touches, by the step
  abbrev pub Loose : Option ℕ → Step → Type 0
  Loose slot step =
      rule_fails l cpu slot step (x_at slot step) ≡ None
      → (q : ℕ)
      → is_memory l q ≡ true
      → is_touched (rule_of l cpu slot step (x_at slot step)).changes q ≡ true
      → is_pooled (legal.state.frames.condition q) ≡ false

  -- a step that lacks its slot isn't made
  lacking : {P : Type 0} (r : Rule) → first_test r true ≡ None → P
  lacking r h = let bad : true ≡ false = (tested r true h).lacks_none in cc

  passes : (slot : Option ℕ) (step : Step)
      → rule_fails l cpu slot step (x_at slot step) ≡ None
      → Tested (rule_of l cpu slot step (x_at slot step)) (lacks_slot (names step) slot)
  passes slot step h = tested (rule_of l cpu slot step (x_at slot step)) (lacks_slot (names step) slot) h

  pub loose : (step : Step) (slot : Option ℕ) → asks_pool step ≡ false → Loose slot step
  unfolding rule used_of
  loose (ShareHyp f) slot a h q m w = let p = passes slot (ShareHyp f) h in
      one-loose f q (free-loose f (and-left _ _ p.allowed)) w
  loose (UnshareHyp f) slot a h q m w = let p = passes slot (UnshareHyp f) h in
      one-loose f q
      (host-loose f (legal.state.frames.condition f) (s.shared.host.map f) (legal.state.frames.maps.host f)
      (in-plain SharedOwned (s.shared.host.map f) (and-left _ _ p.allowed))) w
  loose (DonateHyp f n) slot a h q m w = let p = passes slot (DonateHyp f n) h in
      given-loose f f n (λ i. is_unmapped (s.shared.hyp.map (hyp_page i))) q p.allowed w
  loose (HypDonateHost f n) slot a h q m w = let p = passes slot (HypDonateHost f n) h in
      returned-loose f n q m p.allowed w
  loose (HostAbort page) slot a h q m w =
      free-loose q
      (ap is_free_page
      (abort-loose s.shared.host.map (region_of l.memory page) page q
      (sym (touched-host (abort_edit s.shared.host.map (region_of l.memory page) page) q) ∙ w)))
  loose (Fund f n) slot a h q m w = let p = passes slot (Fund f n) h in
      given-loose f f n (λ i. is_unmapped (s.shared.hyp.map (hyp_page i))) q p.allowed w
  loose Unfund slot a h q m w = let p = passes slot Unfund h in
      hand-loose q (hand-range (s.cpu cpu).hand q p.allowed ∙ w)
  loose (ShareGuest f g r n) (Some v) a h q m w = let p = passes (Some v) (ShareGuest f g r n) h in
      given-loose f g n (λ i. is_unmapped ((s.guest v).tree.map i)) q (and-right _ _ p.allowed) w
  loose (UnshareGuest vm g) (Some v) a h q m w = let p = passes (Some v) (UnshareGuest vm g) h in
      page-loose v g q (in-mapped SharedBorrowed _ p.allowed) w
  loose (DonateGuest f g n) (Some v) a h q m w = let p = passes (Some v) (DonateGuest f g n) h in
      given-loose f g n (λ i. is_unmapped ((s.guest v).tree.map i)) q (and-right _ _ p.allowed) w
  loose (GuestShareHost g) (Some v) a h q m w = let p = passes (Some v) (GuestShareHost g) h in
      page-loose v g q (in-mapped Owned _ p.allowed) w
  loose (GuestUnshareHost g) (Some v) a h q m w = let p = passes (Some v) (GuestUnshareHost g) h in
      page-loose v g q (in-mapped SharedOwned _ p.allowed) w
  loose Install (Some v) a h q m w = hand-loose q w
  loose (ReclaimPage vm g) (Some v) a h q m w = let p = passes (Some v) (ReclaimPage vm g) h in
      page-loose v g q (not-true _ p.allowed) w
  loose (Topup vm) slot a h q m w = cc
  loose (ReclaimPool vm) slot a h q m w = cc
  loose FinishGuest slot a h q m w = cc
  loose (ShareGuest f g r n) None a h q m w =
      lacking (rule_of l cpu None (ShareGuest f g r n) (x_at None (ShareGuest f g r n))) h
  loose (UnshareGuest vm g) None a h q m w =
      lacking (rule_of l cpu None (UnshareGuest vm g) (x_at None (UnshareGuest vm g))) h
  loose (DonateGuest f g n) None a h q m w =
      lacking (rule_of l cpu None (DonateGuest f g n) (x_at None (DonateGuest f g n))) h
  loose (GuestShareHost g) None a h q m w =
      lacking (rule_of l cpu None (GuestShareHost g) (x_at None (GuestShareHost g))) h
  loose (GuestUnshareHost g) None a h q m w =
      lacking (rule_of l cpu None (GuestUnshareHost g) (x_at None (GuestUnshareHost g))) h
  loose Install None a h q m w = lacking (rule_of l cpu None Install (x_at None Install)) h
  loose (ReclaimPage vm g) None a h q m w =
      lacking (rule_of l cpu None (ReclaimPage vm g) (x_at None (ReclaimPage vm g))) h
  loose step slot a h q m w = cc

  pub loose-topup : (vm : VmId) (slot : Option ℕ) → Loose slot (Topup vm)
  unfolding rule used_of
  loose-topup vm (Some v) h q m w = hand-loose q w
  loose-topup vm None h q m w = lacking (rule_of l cpu None (Topup vm) (x_at None (Topup vm))) h
