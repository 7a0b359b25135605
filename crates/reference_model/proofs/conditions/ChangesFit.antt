-- What a step decides to change in a legal state can be written, and touches memory frames alone or none.
use Rattle.std.proofs.Common.{◌≡◌, ℕ, ◌+◌, ◌-◌, ◌^◌, ◌≤◌, ◌<◌, refl, ap, sym, ◌∙◌, subst, arith}
use Rattle.std.specs.Prelude.{Bool, true, false, not, ◌||◌, unwrap_or, Option, Some, None, Ok, if◌then◌else◌, is_some, ◌&&◌}
use Rattle.descriptor.specs.declared.Prot.{Prot}
use Rattle.descriptor.specs.declared.Prot.TheVariants.{RWX}
use Rattle.descriptor.specs.declared.State.{State}
use Rattle.descriptor.specs.declared.State.TheVariants.{Owned, SharedOwned, SharedBorrowed}
use Rattle.page_state.specs.declared.entry.Entry.{Entry}
use Rattle.page_state.specs.declared.entry.Entry.TheVariants.{Unmapped, Malformed, Annotated, Leaf}
use Rattle.page_state.specs.declared.entry.PageRange.{PageRange}
use Rattle.page_state.specs.declared.layout.Region.{Region}
use Rattle.call_table.specs.declared.reply.Value.{Value}
use Rattle.page_state.specs.declared.row.Usage.TheVariants.{VmPool, InHand}
use Rattle.call_table.specs.declared.step.Step.{Step}
use Rattle.call_table.specs.declared.step.Step.TheVariants.{ShareHyp, UnshareHyp, DonateHyp, HypDonateHost, HostAbort, HostTranslate, HypTranslate, OwnerOf, Fund, Unfund, ShareGuest, UnshareGuest, DonateGuest, GuestShareHost, GuestUnshareHost, Install, Topup, ReclaimPage, ReclaimPool, FinishGuest, GuestRelax, GuestTranslate, MarkDying, VmReserve, VmOpen, VcpuLoad, VcpuPut, Teardown, VmRelease}
use Rattle.page_state.specs.Accepted.{IsAcceptedLayout}
use Rattle.page_state.specs.Entries.{IsRangeEntry}
use Rattle.page_state.specs.EntryTests.{is_unmapped, is_in, leaf, device_leaf, annotation, entry_frame, with_state, with_rights}
use Rattle.page_state.specs.Geometries.{pages_below}
use Rattle.page_state.specs.Layouts.{Layout, is_memory, is_good_range, is_good_page, hyp_page}
use Rattle.page_state.specs.Map.{is_within}
use Rattle.page_state.specs.Regions.{region_of, is_memory_kind, is_memory_region, end_of}
use Rattle.page_state.specs.Rows.{HasLentBelow, HasPageBelow}
use Rattle.reference_model.specs.declared.changes.Changes.{Changes}
use Rattle.reference_model.specs.declared.changes.CpuChange.{CpuChange}
use Rattle.reference_model.specs.declared.changes.GuestChange.{GuestChange}
use Rattle.reference_model.specs.declared.changes.MapChange.{MapChange}
use Rattle.reference_model.specs.declared.changes.SlotChange.{SlotChange}
use Rattle.reference_model.specs.declared.changes.Stage.TheVariants.{Dying as dying_vm}
use Rattle.reference_model.specs.model.Decides.{decides}
use Rattle.reference_model.specs.help.ChangeLaws.{FitsWhere, AllFit, ChangesFit, TouchedFits, TouchedWhole}
use Rattle.reference_model.specs.model.Changes.{change, no_changes}
use Rattle.reference_model.specs.help.Conditions.{hyps, Legal, IsUsable}
use Rattle.reference_model.specs.model.GuestRules.{are_good_pages}
use Rattle.reference_model.specs.model.Parts.{lacks_slot, is_good_vm}
use Rattle.reference_model.specs.model.Rule.{Rule}
use Rattle.reference_model.specs.model.Rules.{rule, names, guest_slot}
use Rattle.reference_model.specs.help.RowChanges.{borrower, row_by}
use Rattle.reference_model.specs.model.SharedRules.{hand_of, no_range, abort_edit}
use Rattle.reference_model.specs.model.State.{Contents}
use Rattle.reference_model.specs.model.Step.{first_test}
use Rattle.reference_model.specs.model.Used.{Used, used_of}
use Rattle.page_state.proofs.Common.{and-left, and-right, and-both, not-true}
use Rattle.reference_model.proofs.Answers.{told-ok}
use Rattle.reference_model.proofs.ChangesUsed.{lacking}
use Rattle.reference_model.proofs.conditions.AbortStep.{abort-edit}
use Rattle.reference_model.proofs.conditions.Keeps.{named-slot, loaded-at, staged-at}
use Rattle.reference_model.proofs.conditions.PageSteps.{mapped-named, named-memory, good-page}
use Rattle.reference_model.proofs.conditions.PoolSteps.{least-was, root-left}
use Rattle.reference_model.proofs.conditions.RunsLegal.{accepted_usable, few-pages}
use Rattle.reference_model.proofs.conditions.Slots.{ticket-fits}
use Rattle.reference_model.proofs.conditions.RangeMoves.{within-made, one-frame, range-in, good-range, good-pages, hand-some, hand-was, memory-of}
use Rattle.reference_model.proofs.conditions.Tests.{Tested, tested}

-- the row of the first frame of a host's change, by the loan that the changes tell
row-below : (cpu : ℕ) (slot : Option ℕ) (h : Changes) (f n : ℕ) (e : Entry)
    → HasLentBelow (borrower slot h) n
    → f + n ≤ 2 ^ 63
    → HasPageBelow (row_by cpu slot h f e) n
row-below cpu slot h f n Unmapped b low = tt
row-below cpu slot h f n Malformed b low = tt
row-below cpu slot h f n (Annotated o) b low = tt
row-below cpu slot h f n (Leaf g p k Owned) b low = tt
row-below cpu slot h f n (Leaf g p k SharedOwned) b low = b
row-below cpu slot h f n (Leaf g p k SharedBorrowed) b low = low

of-some : {X : Type 0} (P : X → Type 0) (x y : X) → P x → Some x ≡ Some y → P y
of-some P x y p e = let same : x ≡ y = cc in subst P same p

-- changes of maps, and of all else
abbrev changing : (host hyp guest : Option MapChange) (moved : Option PageRange) (part : GuestChange)
    (slots : SlotChange) (k : CpuChange) (value : Value)
    → Changes
changing host hyp guest moved part slots k value =
    record { host = host; hyp = hyp; guest = guest; part = part; slot = slots; cpu = k; moved = moved; value = value }

-- what the changes write
record Writes (l : Layout) (cpu : ℕ) (slot : Option ℕ) (h : Changes) : Type 0 where
  fit : AllFit l.depth h
  touched : TouchedFits l cpu slot h

module _ (l : Layout) (usable : IsUsable l) (few : pages_below l.depth ≤ 2 ^ 36) (cpu : ℕ) (slot : Option ℕ)
    {part : GuestChange} {slots : SlotChange} {k : CpuChange} {value : Value} where
  -- the host's range changes, and what fits of the other maps
  host-writes : (f n : ℕ) (e : Entry) (hyp guest : Option MapChange) →
      let h : Changes = changing (change f n e) hyp guest None part slots k value in
      1 ≤ n
      → f + n ≤ pages_below l.depth
      → IsRangeEntry n e
      → FitsWhere l.depth hyp
      → FitsWhere l.depth guest
      → HasLentBelow (borrower slot h) n
      → ((q : ℕ) → is_within f n q ≡ true → is_memory l q ≡ is_memory l f)
      → Writes l cpu slot h
  host-writes f n e hyp guest some low entry a b lent whole =
      let range : PageRange = record { first = record { 0 = f }; count = n } in
      let h : Changes = changing (change f n e) hyp guest None part slots k value in
      let small : f + n ≤ 2 ^ 63 = omega arith in
      record {
        fit = record { host = record { some = some; within = low; entry = entry }; hyp = a; guest = b };
        touched = record {
          whole = whole;
          small = λ r. of-some (λ (q : PageRange). end_of q ≤ 2 ^ 63) range r small;
          row =
              λ r. of-some (λ (q : PageRange). HasPageBelow (row_by cpu slot h f e) q.count) range r
              (row-below cpu slot h f n e lent small);
        };
      }

  -- a range of memory and its pages of the hypervisor
  range-writes : (f n : ℕ) (e e' : Entry)
      → 1 ≤ n
      → ((q : ℕ) → is_within f n q ≡ true → is_memory l q ≡ true)
      → (f + n ≤ 2 ^ 36 → IsRangeEntry n e)
      → (f + n ≤ 2 ^ 36 → IsRangeEntry n e')
      → Writes l cpu slot (changing (change f n e) (change (hyp_page f) n e') None None part slots k value)
  range-writes f n e e' some all a b =
      let low = range-in l usable f n some all in
      let first : is_memory l f ≡ true = all f (within-made f n f (omega arith) (omega arith)) in
      host-writes f n e (change (hyp_page f) n e') None some (omega arith) (a (omega arith))
      (record { some = some; within = low; entry = b (omega arith) }) tt
      (let small : hyp_page f + n ≤ 2 ^ 63 = omega arith in small) (λ q w. all q w ∙ sym first)

  -- a memory frame's page and its page of the hypervisor
  frame-writes : (f : ℕ) (e e' : Entry)
      → is_memory l f ≡ true
      → (f + 1 ≤ 2 ^ 36 → IsRangeEntry 1 e)
      → (f + 1 ≤ 2 ^ 36 → IsRangeEntry 1 e')
      → Writes l cpu slot (changing (change f 1 e) (change (hyp_page f) 1 e') None None part slots k value)
  frame-writes f e e' memory = range-writes f 1 e e' (omega arith) (one-frame f (λ q. is_memory l q ≡ true) memory)

  -- a good range and its pages of the hypervisor
  good-writes : (f n : ℕ) (e e' : Entry)
      → is_good_range l f n ≡ true
      → (f + n ≤ 2 ^ 36 → IsRangeEntry n e)
      → (f + n ≤ 2 ^ 36 → IsRangeEntry n e')
      → Writes l cpu slot (changing (change f n e) (change (hyp_page f) n e') None None part slots k value)
  good-writes f n e e' good = let g = good-range l f n good in range-writes f n e e' g.0 g.1

  -- a range of memory and as many pages of the guest
  ranges-writes : (f n : ℕ) (e : Entry) (g : ℕ) (e' : Entry)
      → 1 ≤ n
      → ((q : ℕ) → is_within f n q ≡ true → is_memory l q ≡ true)
      → g + n ≤ pages_below l.depth
      → (f + n ≤ 2 ^ 36 → IsRangeEntry n e)
      → (f + n ≤ 2 ^ 36 → IsRangeEntry n e')
      → Writes l cpu slot (changing (change f n e) None (change g n e') None part slots k value)
  ranges-writes f n e g e' some all page a b =
      let low = range-in l usable f n some all in
      let first : is_memory l f ≡ true = all f (within-made f n f (omega arith) (omega arith)) in
      host-writes f n e None (change g n e') some (omega arith) (a (omega arith)) tt
      (record { some = some; within = page; entry = b (omega arith) })
      (let small : g + n ≤ 2 ^ 63 = omega arith in small) (λ q w. all q w ∙ sym first)

  -- a memory frame's page and a page of the guest
  pages-writes : (f : ℕ) (e : Entry) (g : ℕ) (e' : Entry)
      → is_memory l f ≡ true
      → g < pages_below l.depth
      → (f + 1 ≤ 2 ^ 36 → IsRangeEntry 1 e)
      → (f + 1 ≤ 2 ^ 36 → IsRangeEntry 1 e')
      → Writes l cpu slot (changing (change f 1 e) None (change g 1 e') None part slots k value)
  pages-writes f e g e' memory page =
      ranges-writes f 1 e g e' (omega arith) (one-frame f (λ q. is_memory l q ≡ true) memory) (omega arith)

  -- a good range and as many good pages of the guest
  given-writes : (f n : ℕ) (e : Entry) (g : ℕ) (e' : Entry)
      → (is_good_range l f n && are_good_pages l g n) ≡ true
      → (f + n ≤ 2 ^ 36 → IsRangeEntry n e)
      → (f + n ≤ 2 ^ 36 → IsRangeEntry n e')
      → Writes l cpu slot (changing (change f n e) None (change g n e') None part slots k value)
  given-writes f n e g e' args =
      let a = and-both (is_good_range l f n) (are_good_pages l g n) args in
      let good = good-range l f n a.0 in
      ranges-writes f n e g e' good.0 good.1 (good-pages l g n good.0 a.1)

  -- the host's map stays
  still-writes : (guest : Option MapChange)
      → FitsWhere l.depth guest
      → Writes l cpu slot (changing None None guest None part slots k value)
  still-writes guest a =
      record {
        fit = record { host = tt; hyp = tt; guest = a };
        touched = record { whole = λ f h. cc; small = λ r h. cc; row = λ r h. cc };
      }

  -- memory frames change use
  moved-writes : (o : Option PageRange)
      → 1 ≤ (unwrap_or o no_range).count
      → ((q : ℕ)
      → is_within (unwrap_or o no_range).first.0 (unwrap_or o no_range).count q ≡ true
      → is_memory l q ≡ true)
      → Writes l cpu slot (changing None None None o part slots k value)
  moved-writes None some all = still-writes None tt
  moved-writes (Some r) some all =
      let low = range-in l usable r.first.0 r.count some all in
      let small : end_of r ≤ 2 ^ 63 = omega arith in
      record {
        fit = record { host = tt; hyp = tt; guest = tt };
        touched =
            record {
              whole = λ f w. all f w
                  ∙ sym (all r.first.0 (within-made r.first.0 r.count r.first.0 (omega arith) (omega arith)));
              small =
                  λ q. of-some (λ (p : PageRange). end_of p ≤ 2 ^ 63) r q small;
              row = λ q e. tt;
            };
      }

-- a guest's entry that maps something, with another state

in-mapped : (state : State) (e : Entry) → is_in state e ≡ true → is_unmapped e ≡ false
in-mapped state (Leaf f p k s) h = refl
in-mapped state e h = cc

module _ (l : Layout) (s : Contents) (legal : Legal l s) (usable : IsUsable l) (few : pages_below l.depth ≤ 2 ^ 36)
    (cpu : ℕ) (known : cpu < l.config.cpus) where
  abbrev x_at : Option ℕ → Step → Used
  x_at slot step = used_of (names step) slot cpu s

  abbrev r_at : Option ℕ → Step → Rule
  r_at slot step = rule l cpu slot step (x_at slot step)

  -- what the step's rule writes, where its tests pass
  abbrev WritesAt : Option ℕ → Step → Type 0
  WritesAt slot step =
      first_test (r_at slot step) (lacks_slot (names step) slot) ≡ None → Writes l cpu slot (r_at slot step).changes

  -- a guest's entry of a page, and the frame that it maps
  abbrev entry_at : ℕ → ℕ → Entry
  entry_at v g = (s.guest v).tree.map g

  abbrev frame_at : ℕ → ℕ → ℕ
  frame_at v g = entry_frame (entry_at v g)

  -- what a guest's page maps is memory
  mapped-memory : (v g : ℕ) → is_unmapped (entry_at v g) ≡ false → is_memory l (frame_at v g) ≡ true
  mapped-memory v g h = let at = mapped-named l s legal v g h in
      named-memory l s legal (frame_at v g) v g at.0 at.1.named

  -- an entry that is a leaf of that frame too can be said where the frame's leaf can
  turned : (v g : ℕ) (turn : Entry → Entry)
      → ((p : Prot) (n : ℕ) (state : State) → n + 1 ≤ 2 ^ 36 → IsRangeEntry 1 (turn (leaf p n state)))
      → is_unmapped (entry_at v g) ≡ false
      → frame_at v g + 1 ≤ 2 ^ 36
      → IsRangeEntry 1 (turn (entry_at v g))
  turned v g turn says h low = let at = mapped-named l s legal v g h in
      subst (λ e. IsRangeEntry 1 (turn e)) (sym at.1.is_leaf.1) (says at.1.is_leaf.0 (frame_at v g) at.0 low)

  -- the hand's frames are memory
  hand-memory : is_some (s.cpu cpu).hand ≡ true
      → (q : ℕ)
      → is_within (hand_of (s.cpu cpu)).first.0 (hand_of (s.cpu cpu)).count q ≡ true
      → is_memory l q ≡ true
  hand-memory some =
      memory-of legal (hyps (InHand cpu)) refl (hand_of (s.cpu cpu)).first.0 (hand_of (s.cpu cpu)).count
      (hand-was legal cpu some)

  hand-count : is_some (s.cpu cpu).hand ≡ true → 1 ≤ (hand_of (s.cpu cpu)).count
  hand-count some = hand-some (s.cpu cpu).hand some (legal.slots.some_hand cpu)

  -- what the host gives to a guest
  for-guest : (v n : ℕ) → v < 64 → n + 1 ≤ 2 ^ 36 → IsRangeEntry 1 (annotation (2 + v))
  for-guest v n less low = (omega arith, omega arith)

  for-guests : (v f n : ℕ) → v < 64 → f + n ≤ 2 ^ 36 → IsRangeEntry n (annotation (2 + v))
  for-guests v f n less low = (omega arith, omega arith)

  for-hyp : (f n : ℕ) → f + n ≤ 2 ^ 36 → IsRangeEntry n (annotation 1)
  for-hyp f n low = (omega arith, omega arith)

  -- a reclaimed page
  reclaimed : (b : Bool) (f : ℕ) → f + 1 ≤ 2 ^ 36 → IsRangeEntry 1 (if b then Unmapped else leaf RWX f Owned)
  reclaimed true f low = tt
  reclaimed false f low = low

  abort-writes : (page : ℕ) (slot : Option ℕ) (o : Option Region)
      → region_of l.memory page ≡ o
      → Writes l cpu slot (record no_changes { host = abort_edit s.shared.host.map o page })
  abort-writes page slot =
      abort-edit l usable s.shared.host.map page (λ e. Writes l cpu slot (record no_changes { host = e }))
      (still-writes l usable few cpu slot None tt) block device
    where
      block : (first n : ℕ) (r : Region)
          → 1 ≤ n
          → is_memory_kind r.kind ≡ true
          → ((q : ℕ) → is_within first n q ≡ true → (region_of l.memory q ≡ Some r) × (s.shared.host.map q ≡ Unmapped))
          → Writes l cpu slot (record no_changes { host = change first n (leaf RWX first Owned) })
      block first n r some kind each =
          let all : (q : ℕ) → is_within first n q ≡ true → is_memory l q ≡ true =
          λ q w. ap is_memory_region (each q w).0 ∙ kind in
          let low = range-in l usable first n some all in
          host-writes l usable few cpu slot first n (leaf RWX first Owned) None None some (omega arith)
          (let said : first + n ≤ 2 ^ 36 = omega arith in said) tt tt tt
          (λ q w. all q w ∙ sym (all first (within-made first n first (omega arith) (omega arith))))

      device : (first n : ℕ) (r : Region)
          → 1 ≤ n
          → is_memory_kind r.kind ≡ false
          → ((q : ℕ) → is_within first n q ≡ true → (region_of l.memory q ≡ Some r) × (s.shared.host.map q ≡ Unmapped))
          → Writes l cpu slot (record no_changes { host = change first n (device_leaf first) })
      device first n r some kind each =
          let none : (q : ℕ) → is_within first n q ≡ true → is_memory l q ≡ false =
          λ q w. ap is_memory_region (each q w).0 ∙ kind in
          let low =
          usable.below (first + n - 1) r
          (each (first + n - 1) (within-made first n (first + n - 1) (omega arith) (omega arith))).0 in
          host-writes l usable few cpu slot first n (device_leaf first) None None some (omega arith)
          (let said : first + n ≤ 2 ^ 36 = omega arith in said) tt tt tt
          (λ q w. none q w ∙ sym (none first (within-made first n first (omega arith) (omega arith))))

  pass : (slot : Option ℕ) (step : Step)
      → first_test (r_at slot step) (lacks_slot (names step) slot) ≡ None
      → Tested (r_at slot step) (lacks_slot (names step) slot)
  pass slot step h = tested (r_at slot step) (lacks_slot (names step) slot) h

  -- the page of a guest's frame in a state, and the guest's page
  guest-writes : {part : GuestChange} {slots : SlotChange} {k : CpuChange} {value : Value} (v g : ℕ) (e e' : Entry)
      (state : State)
      → is_in state (entry_at v g) ≡ true
      → is_good_page l g ≡ true
      → (frame_at v g + 1 ≤ 2 ^ 36 → IsRangeEntry 1 e) → (frame_at v g + 1 ≤ 2 ^ 36 → IsRangeEntry 1 e')
      → Writes l cpu (Some v) (changing (change (frame_at v g) 1 e) None (change g 1 e') None part slots k value)
  guest-writes v g e e' state allowed good =
      pages-writes l usable few cpu (Some v) (frame_at v g) e g e'
      (mapped-memory v g (in-mapped state (entry_at v g) allowed)) (good-page l g good)

  -- a frame that a guest's pool or root gives back
  held-writes : {part : GuestChange} {slots : SlotChange} {k : CpuChange} {value : Value} (v f : ℕ)
      → legal.condition f ≡ hyps (VmPool v)
      → Writes l cpu (Some v)
      (changing (change f 1 Unmapped) (change (hyp_page f) 1 Unmapped) None None part slots k value)
  held-writes v f was =
      range-writes l usable few cpu (Some v) f 1 Unmapped Unmapped (omega arith)
      (memory-of legal (hyps (VmPool v)) refl f 1 (one-frame f (λ q. legal.condition q ≡ hyps (VmPool v)) was))
      (λ k. tt) (λ k. tt)

  each : (step : Step) (o : Option ℕ) → o ≡ guest_slot (s.cpu cpu) step → WritesAt o step
  unfolding rule used_of
  each (ShareHyp f) o e h = frame-writes l usable few cpu o f _ _ (pass o (ShareHyp f) h).valid (λ k. k) (λ k. k)
  each (UnshareHyp f) o e h = frame-writes l usable few cpu o f _ _ (pass o (UnshareHyp f) h).valid (λ k. k) (λ k. tt)
  each (DonateHyp f n) o e h =
      good-writes l usable few cpu o f n _ _ (pass o (DonateHyp f n) h).valid (for-hyp f n) (λ k. k)
  each (HypDonateHost f n) o e h =
      good-writes l usable few cpu o f n _ _ (pass o (HypDonateHost f n) h).valid (λ k. tt) (λ k. tt)
  each (Fund f n) o e h = good-writes l usable few cpu o f n _ _ (pass o (Fund f n) h).valid (for-hyp f n) (λ k. k)
  each Unfund o e h = let some = (pass o Unfund h).allowed in
      range-writes l usable few cpu o _ _ _ _ (hand-count some) (hand-memory some) (λ k. tt) (λ k. tt)
  each (HostAbort p) o e h = abort-writes p o (region_of l.memory p) refl
  each (ShareGuest f g p n) (Some v) e h =
      given-writes l usable few cpu (Some v) f n _ g _ (pass (Some v) (ShareGuest f g p n) h).valid (λ k. k) (λ k. k)
  each (DonateGuest f g n) (Some v) e h =
      given-writes l usable few cpu (Some v) f n _ g _ (pass (Some v) (DonateGuest f g n) h).valid
      (for-guests v f n (loaded-at l usable s legal cpu known v (sym e)).0) (λ k. k)
  each (UnshareGuest vm g) (Some v) e h =
      let p = pass (Some v) (UnshareGuest vm g) h in
      guest-writes v g _ _ SharedBorrowed p.allowed (and-right (is_good_vm vm) (is_good_page l g) p.valid) (λ k. k)
      (λ k. tt)
  each (GuestShareHost g) (Some v) e h =
      let p = pass (Some v) (GuestShareHost g) h in
      guest-writes v g _ _ Owned p.allowed p.valid (λ k. k)
      (turned v g (with_state SharedOwned) (λ p n state k. k) (in-mapped Owned _ p.allowed))
  each (GuestUnshareHost g) (Some v) e h =
      let p = pass (Some v) (GuestUnshareHost g) h in
      guest-writes v g _ _ SharedOwned p.allowed p.valid
      (for-guest v _ (loaded-at l usable s legal cpu known v (sym e)).0)
      (turned v g (with_state Owned) (λ p n state k. k) (in-mapped SharedOwned _ p.allowed))
  each (ReclaimPage vm g) (Some v) e h =
      let p = pass (Some v) (ReclaimPage vm g) h in
      pages-writes l usable few cpu (Some v) _ _ g _
      (mapped-memory v g (not-true (is_unmapped (entry_at v g)) p.allowed))
      (good-page l g (and-right (is_good_vm vm) (is_good_page l g) p.valid))
      (reclaimed (is_in Owned (entry_at v g)) (frame_at v g)) (λ k. tt)
  each Install (Some v) e h = let some = (pass (Some v) Install h).allowed in
      moved-writes l usable few cpu (Some v) (s.cpu cpu).hand (hand-count some) (hand-memory some)
  each (Topup vm) (Some v) e h = let some =
      and-left (is_some (s.cpu cpu).hand) _ (pass (Some v) (Topup vm) h).allowed in
      moved-writes l usable few cpu (Some v) (s.cpu cpu).hand (hand-count some) (hand-memory some)
  each (ReclaimPool vm) (Some v) e h =
      let slot = named-slot vm v (sym e) in
      held-writes v _ (least-was l s legal usable cpu v slot (pass (Some v) (ReclaimPool vm) h).allowed)
  each FinishGuest (Some v) e h =
      let a = staged-at l usable s legal cpu known dying_vm v (sym e) in
      let here = ticket-fits s legal.slots cpu v dying_vm a.1.0 a.1.1 a.1.2 a.1.3 in
      held-writes v _ (root-left l s legal usable cpu v a.0 here.1 (pass (Some v) FinishGuest h).allowed).was
  each (GuestRelax g p) (Some v) e h =
      let t = pass (Some v) (GuestRelax g p) h in
      let low = good-page l g t.valid in
      let mapped = in-mapped SharedBorrowed (entry_at v g) t.allowed in
      let memory = usable.pages (frame_at v g) (mapped-memory v g mapped) in
      still-writes l usable few cpu (Some v) _
      (record {
        some = omega arith;
        within = omega arith;
        entry = turned v g (with_rights p) (λ p n state k. k) mapped (omega arith);
      })
  each (GuestTranslate vm g) (Some v) e h = still-writes l usable few cpu (Some v) None tt
  each MarkDying (Some v) e h = still-writes l usable few cpu (Some v) None tt
  each (HostTranslate p) o e h = still-writes l usable few cpu o None tt
  each (HypTranslate p) o e h = still-writes l usable few cpu o None tt
  each (OwnerOf f) o e h = still-writes l usable few cpu o None tt
  each (VmReserve kind vcpus) o e h = still-writes l usable few cpu o None tt
  each VmOpen o e h = still-writes l usable few cpu o None tt
  each (VcpuLoad vm i) o e h = still-writes l usable few cpu o None tt
  each VcpuPut o e h = still-writes l usable few cpu o None tt
  each (Teardown vm) o e h = still-writes l usable few cpu o None tt
  each VmRelease o e h = still-writes l usable few cpu o None tt
  each step None e h = lacking (rule l cpu None step (x_at None step)) h

-- what a step decides to write in a legal state
decided-writes : (l : Layout) (s : Contents) (cpu : ℕ) (slot : Option ℕ) (step : Step) (h : Changes)
    → IsAcceptedLayout l
    → Legal l s
    → cpu < l.config.cpus
    → slot ≡ guest_slot (s.cpu cpu) step
    → decides l cpu slot step (used_of (names step) slot cpu s) ≡ Ok h
    → Writes l cpu slot h
decided-writes l s cpu slot step h accepted legal known named k =
    let t = told-ok (rule l cpu slot step (used_of (names step) slot cpu s)) (lacks_slot (names step) slot) h k in
    subst (Writes l cpu slot) t.1
    (each l s legal (accepted_usable l accepted) (few-pages l accepted) cpu known step slot named t.0)

pub changes_fit : ChangesFit
changes_fit l s cpu slot step h accepted legal known named k =
    (decided-writes l s cpu slot step h accepted legal known named k).fit

pub touched_whole : TouchedWhole
touched_whole l s cpu slot step h accepted legal known named k =
    (decided-writes l s cpu slot step h accepted legal known named k).touched
