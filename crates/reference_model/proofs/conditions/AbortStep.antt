-- host_abort, and the steps that only read the Shared part, keep the invariant.
use Rattle.std.proofs.Common.{◌≡◌, ℕ, ◌+◌, ◌-◌, ◌≤◌, ◌<◌, refl, ap, sym, ◌∙◌, subst, arith, inl, inr}
use Rattle.std.specs.Prelude.{Bool, true, false, ◌&&◌, nat_le, Option, Some, None, if◌then◌else◌, is_some, not}
use Rattle.std.proofs.lemmas.Bool.Decides.{nat_tests}
use Rattle.descriptor.specs.declared.Prot.TheVariants.{RWX}
use Rattle.descriptor.specs.declared.State.TheVariants.{Owned}
use Rattle.page_state.specs.declared.entry.Entry.{Entry}
use Rattle.page_state.specs.declared.entry.Entry.TheVariants.{Unmapped}
use Rattle.page_state.specs.declared.layout.Region.{Region}
use Rattle.call_table.specs.declared.step.Step.{Step}
use Rattle.call_table.specs.declared.step.Step.TheVariants.{HostAbort, HostTranslate, HypTranslate, OwnerOf}
use Rattle.call_table.specs.declared.reply.Value.{Value}
use Rattle.call_table.specs.declared.reply.Value.TheVariants.{Nothing}
use Rattle.page_state.specs.Blocks.{block_at, first_page, span, is_empty}
use Rattle.page_state.specs.Entries.{advance}
use Rattle.page_state.specs.EntryTests.{is_unmapped, is_annotated, is_free_page, leaf, device_leaf}
use Rattle.page_state.specs.Geometries.{pages_below}
use Rattle.page_state.specs.Map.{Map, is_within}
use Rattle.page_state.specs.Regions.{region_of, is_memory_kind, is_memory_region, end_of, is_in_range}
use Rattle.page_state.specs.Trees.{Block}
use Rattle.reference_model.specs.model.State.{Contents}
use Rattle.page_state.proofs.Sizes.{size_some}
use Rattle.page_state.specs.Layouts.{Layout, is_memory}
use Rattle.reference_model.specs.model.Parts.{shared}
use Rattle.reference_model.specs.model.Rules.{names}
use Rattle.reference_model.specs.model.Used.{used_of}
use Rattle.reference_model.specs.model.Rule.{Rule, Test, fine, reads}
use Rattle.reference_model.specs.model.SharedRules.{host_abort, host_translate, hyp_translate, owner_of, abort_edit, abort_leaf, abort_depth, may_map}
use Rattle.reference_model.specs.model.Step.{refusal, is_touched}
use Rattle.page_state.specs.Tables.{edited_map}
use Rattle.reference_model.specs.declared.changes.MapChange.{MapChange}
use Rattle.reference_model.specs.model.Changes.{change, edit_of, same_cpu, no_changes}
use Rattle.reference_model.specs.help.RowChanges.{touched_row}
use Rattle.reference_model.specs.help.ConditionChanges.{touched_condition}
use Rattle.reference_model.specs.help.Conditions.{row_in, Condition, outside, hosts, HostFits, hyp_entry_by, Legal, IsUsable, in_shared, in_hand, is_inside, IsGood}
use Rattle.page_state.proofs.Blocks.{empty_means}
use Rattle.page_state.proofs.Common.{both, if-true, if-false}
use Rattle.coarse_trees.specs.Coarsest.{IsInRange}
use Rattle.reference_model.proofs.conditions.Moves.{moved_to, always, outside-is, is_calm, host-moved, moved-out, moved-fact}
use Rattle.reference_model.proofs.conditions.FrameMoves.{StepKept}
use Rattle.reference_model.proofs.conditions.RangeMoves.{within-is, within-made, one-within, advance-leaf, range-in, free-is, hands-stay}
use Rattle.reference_model.proofs.conditions.SharedMoves.{x_of, shared-keeps}
use Rattle.reference_model.proofs.conditions.Tests.{Passed, passed}

-- a rule that changes the host's map alone
abbrev pub host_rule : Test → Test → Option MapChange → Value → Rule
host_rule valid allowed e value =
    record fine { valid = valid; allowed = allowed; changes = record no_changes { host = e; value = value } }

none-within : (q : ℕ) → is_within 0 0 q ≡ false
none-within q = grind (arith, nat_tests)

module _ (l : Layout) (s : Contents) (legal : Legal l s) (usable : IsUsable l) (cpu : ℕ) (valid allowed : Test)
    (value : Value) where
  -- what a step with this edit leaves is legal
  abbrev IsKept : Step → Option MapChange → Type 0
  IsKept step e =
      Passed l.depth (host_rule valid allowed e value) false (x_of cpu s)
      → StepKept l s legal.condition shared None cpu step (host_rule valid allowed e value).changes

  -- frames of one condition keep it, where the host's map changes or stays
  same-keeps : (step : Step)
      → names step ≡ shared
      → (e : Option MapChange) (first n : ℕ) (c : Condition)
      → is_calm c ≡ true
      → in_shared c ≡ false
      → ((d : ℕ) → in_hand d c ≡ false)
      → IsGood l c
      → IsInRange l.depth (edit_of e)
      → ((q : ℕ) → is_touched (host_rule valid allowed e value).changes q ≡ is_within first n q)
      → ((q : ℕ) → is_within first n q ≡ true → legal.condition q ≡ c)
      → ((q : ℕ)
      → HostFits q (moved_to (always c) first n legal.condition q) (edited_map s.shared.host.map (edit_of e) q))
      → ((q : ℕ)
      → is_within first n q ≡ true
      → row_in q c ≡ touched_row cpu None (host_rule valid allowed e value).changes q)
      → ((q : ℕ)
      → is_within first n q ≡ true
      → is_memory l q ≡ true
      → c ≡ touched_condition cpu None (host_rule valid allowed e value).changes q)
      → IsKept step e
  unfolding used_of
  same-keeps step named e first n c calm unused hand good range touched was fits told goes p =
      shared-keeps l s legal usable cpu step named (host_rule valid allowed e value).changes first n c (record {
        frames = record {
          inside = λ q w. sym (legal.of_layout.inside q) ∙ ap is_inside (was q w);
          alike = λ q k w z. refl;
          good = λ q w. good;
          same_use = λ q w. ap in_shared (was q w);
          host = fits;
          hyp =
              λ q. legal.maps.hyp q
              ∙ moved-fact (hyp_entry_by q) (always c) first n legal.condition q (λ w. ap (hyp_entry_by q) (was q w));
          hyp_below = legal.maps.hyp_below;
          touched = touched;
          told = told;
          goes = goes;
          host_range = range;
          hyp_range = tt;
          hand = hands-stay legal cpu same_cpu (always c) first n refl (λ d q w. ap (in_hand d) (was q w));
          own_hand = λ d q w h. let z : true ≡ false = sym h ∙ hand d in cc;
        };
        calm = record { calm = calm; was_calm = λ q w. ap is_calm (was q w) ∙ calm };
        loaded = refl;
        ticket = refl;
        some_hand = legal.slots.some_hand cpu;
      }) p.shared_enough

  still-keeps : (step : Step) → names step ≡ shared → IsKept step None
  still-keeps step named =
      same-keeps step named None 0 0 hosts refl refl (λ d. refl) tt tt (λ q. sym (none-within q))
      (λ q w. absurd (off q w))
      (λ q. subst (λ c. HostFits q c (s.shared.host.map q))
      (sym (moved-out (always hosts) 0 0 legal.condition q (none-within q))) (legal.maps.host q))
      (λ q w. absurd (off q w)) (λ q w m. absurd (off q w))
    where
      off : (q : ℕ) → is_within 0 0 q ≡ true → ⊥
      off q w = let z : true ≡ false = sym w ∙ none-within q in cc

  unmapped-hosts : (q : ℕ) → is_memory l q ≡ true → s.shared.host.map q ≡ Unmapped → legal.condition q ≡ hosts
  unmapped-hosts q m h = free-is legal q m (ap is_free_page h)

  -- a block of unmapped pages of a memory region
  block-keeps : (page first n : ℕ) (r : Region)
      → 1 ≤ n
      → is_memory_kind r.kind ≡ true
      → ((q : ℕ) → is_within first n q ≡ true → (region_of l.memory q ≡ Some r) × (s.shared.host.map q ≡ Unmapped))
      → IsKept (HostAbort page) (change first n (leaf RWX first Owned))
  block-keeps page first n r some kind each =
      let mem : (q : ℕ) → is_within first n q ≡ true → is_memory l q ≡ true =
      λ q w. ap is_memory_region (each q w).0 ∙ kind in
      let low = range-in l usable first n some mem in
      same-keeps (HostAbort page) refl (change first n (leaf RWX first Owned)) first n hosts refl refl (λ d. refl) tt
      (let e : first + n ≤ pages_below l.depth = omega arith in e) (λ q. refl)
      (λ q w. unmapped-hosts q (mem q w) (each q w).1)
      (host-moved s.shared.host.map first n (leaf RWX first Owned) (always hosts) legal.condition
      (λ q w. inr (advance-leaf RWX first n q Owned w)) legal.maps.host)
      (λ q w. refl) (λ q w m. refl)

  -- a block of unmapped pages of a device region
  device-keeps : (page first n : ℕ) (r : Region)
      → 1 ≤ n
      → is_memory_kind r.kind ≡ false
      → ((q : ℕ) → is_within first n q ≡ true → (region_of l.memory q ≡ Some r) × (s.shared.host.map q ≡ Unmapped))
      → IsKept (HostAbort page) (change first n (device_leaf first))
  device-keeps page first n r some kind each =
      let not-memory : (q : ℕ) → is_within first n q ≡ true → is_memory l q ≡ false =
      λ q w. ap is_memory_region (each q w).0 ∙ kind in
      let last : first + n - 1 < pages_below l.depth =
      usable.below (first + n - 1) r
      (each (first + n - 1) (within-made first n (first + n - 1) (omega arith) (omega arith))).0 in
      let was : (q : ℕ) → is_within first n q ≡ true → legal.condition q ≡ outside =
      λ q w. outside-is (legal.condition q) (legal.of_layout.inside q ∙ not-memory q w) in
      same-keeps (HostAbort page) refl (change first n (device_leaf first)) first n outside refl refl (λ d. refl) tt
      (let e : first + n ≤ pages_below l.depth = omega arith in e) (λ q. refl)
      was (host-moved s.shared.host.map first n (device_leaf first) (always outside) legal.condition
      (λ q w. inr (device-advance first n q w)) legal.maps.host)
      (λ q w. refl)
      (λ q w m. let bad : true ≡ false = sym m ∙ not-memory q w in cc)
    where
      device-advance : (first n q : ℕ)
          → is_within first n q ≡ true
          → advance (device_leaf first) (q - first) ≡ device_leaf q
      device-advance first n q w = let at = within-is first n q w in
          let low : first ≤ q = at.0 in
          let e : first + (q - first) ≡ q = omega arith in
          ap device_leaf e

-- the block of a depth, where it may be mapped
may-map : (m : Map) (r : Region) (d page : ℕ)
    → may_map m r d page ≡ true
    → ((q : ℕ)
    → is_within (first_page (block_at d page)) (span (block_at d page)) q ≡ true
    → (is_in_range r.pages q ≡ true) × (m q ≡ Unmapped))
may-map m r d page h =
    let b = block_at d page in
    let t =
    three (nat_le r.pages.first.0 (first_page b)) (nat_le (first_page b + span b) (end_of r.pages))
    (is_empty m b) h in
    λ q w. (in-region r.pages.first.0 r.pages.count (first_page b) (span b) q t.0 t.1 w, unmapped b t.2 q w)
  where
    three : (a b c : Bool) → (a && b && c) ≡ true → (a ≡ true) × (b ≡ true) × (c ≡ true)
    three true true c h = (refl, refl, h)
    three true false c h = cc
    three false b c h = cc

    in-region : (first count f n q : ℕ)
        → nat_le first f ≡ true
        → nat_le (f + n) (first + count) ≡ true
        → is_within f n q ≡ true
        → is_within first count q ≡ true
    in-region first count f n q a b w = grind (arith, nat_tests)

    unmapped : (b : Block) → is_empty m b ≡ true → (q : ℕ) → is_within (first_page b) (span b) q ≡ true → m q ≡ Unmapped
    unmapped b e q w =
        let at = within-is (first_page b) (span b) q w in
        let low : first_page b ≤ q = at.0 in
        let high : q < first_page b + span b = at.1 in
        let is : first_page b + (q - first_page b) ≡ q = omega arith in
        ap m (sym is) ∙ (empty_means m b).0 e (q - first_page b) (omega arith)

page-first : (page : ℕ) → first_page (block_at 0 page) ≡ page
page-first page = omega arith

-- the entry of an edit, by the kind of the region
abort-memory : (r : Region) (first : ℕ) → is_memory_kind r.kind ≡ true → abort_leaf r first ≡ leaf RWX first Owned
abort-memory r first h = if-true (is_memory_kind r.kind) (leaf RWX first Owned) (device_leaf first) h

abort-device : (r : Region) (first : ℕ) → is_memory_kind r.kind ≡ false → abort_leaf r first ≡ device_leaf first
abort-device r first h = if-false (is_memory_kind r.kind) (leaf RWX first Owned) (device_leaf first) h

unmapped-is : (e : Entry) → is_unmapped e ≡ true → e ≡ Unmapped
unmapped-is Unmapped h = refl
unmapped-is e h = cc

-- what holds where nothing changes, and of each block of unmapped pages of a region of memory or of a device, holds of
-- what host_abort changes
module _ (l : Layout) (usable : IsUsable l) (m : Map) (page : ℕ) (P : Option MapChange → Type 0) (still : P None)
    (block : (first n : ℕ) (r : Region)
    → 1 ≤ n
    → is_memory_kind r.kind ≡ true
    → ((q : ℕ) → is_within first n q ≡ true → (region_of l.memory q ≡ Some r) × (m q ≡ Unmapped))
    → P (change first n (leaf RWX first Owned)))
    (device : (first n : ℕ) (r : Region)
    → 1 ≤ n
    → is_memory_kind r.kind ≡ false
    → ((q : ℕ) → is_within first n q ≡ true → (region_of l.memory q ≡ Some r) × (m q ≡ Unmapped))
    → P (change first n (device_leaf first))) where
  -- a block of the region, by its kind
  any : (first n : ℕ) (r : Region)
      → 1 ≤ n
      → ((q : ℕ) → is_within first n q ≡ true → (region_of l.memory q ≡ Some r) × (m q ≡ Unmapped))
      → P (change first n (abort_leaf r first))
  any first n r some each = elim (both (is_memory_kind r.kind)) [
    | inl h ↦ subst (λ e. P (change first n e)) (sym (abort-memory r first h)) (block first n r some h each)
    | inr h ↦ subst (λ e. P (change first n e)) (sym (abort-device r first h)) (device first n r some h each)
  ]

  -- a block of a depth at which it may be mapped, and the page alone
  deep : (r : Region) (d : ℕ)
      → region_of l.memory page ≡ Some r
      → may_map m r d page ≡ true
      → P (change (first_page (block_at d page)) (span (block_at d page)) (abort_leaf r (first_page (block_at d page))))
  deep r d at may =
      let t = may-map m r d page may in
      any (first_page (block_at d page)) (span (block_at d page)) r (size_some d)
      (λ q w. (usable.regions page q r at (t q w).0, (t q w).1))

  flat : (r : Region)
      → region_of l.memory page ≡ Some r
      → m page ≡ Unmapped
      → P (change (first_page (block_at 0 page)) (span (block_at 0 page)) (abort_leaf r (first_page (block_at 0 page))))
  flat r at bare =
      subst (λ n. P (change n 1 (abort_leaf r n))) (sym (page-first page))
      (any page 1 r (omega arith)
      (λ q w.
      (ap (region_of l.memory) (sym (one-within page q w)) ∙ at, ap m (sym (one-within page q w)) ∙ bare)))

  abbrev block_edit : Region → ℕ → Option MapChange
  block_edit r d =
      change (first_page (block_at d page)) (span (block_at d page)) (abort_leaf r (first_page (block_at d page)))

  by-depth : (r : Region)
      → region_of l.memory page ≡ Some r
      → m page ≡ Unmapped
      → P (block_edit r (abort_depth m r page))
  by-depth r at bare = elim (both (may_map m r 2 page)) [
    | inl h ↦ subst (λ d. P (block_edit r d))
        (sym (if-true (may_map m r 2 page) 2 (if may_map m r 1 page then 1 else 0) h)) (deep r 2 at h)
    | inr h ↦ subst (λ d. P (block_edit r d))
        (sym (if-false (may_map m r 2 page) 2 (if may_map m r 1 page then 1 else 0) h))
        (elim (both (may_map m r 1 page)) [
          | inl k ↦ subst (λ d. P (block_edit r d)) (sym (if-true (may_map m r 1 page) 1 0 k)) (deep r 1 at k)
          | inr k ↦ subst (λ d. P (block_edit r d)) (sym (if-false (may_map m r 1 page) 1 0 k)) (flat r at bare)
        ])
  ]

  by-page : (r : Region)
      → region_of l.memory page ≡ Some r
      → P (if is_unmapped (m page) then block_edit r (abort_depth m r page) else None)
  by-page r at = elim (both (is_unmapped (m page))) [
    | inl h ↦ subst P (sym (if-true (is_unmapped (m page)) (block_edit r (abort_depth m r page)) None h))
        (by-depth r at (unmapped-is (m page) h))
    | inr h ↦ subst P (sym (if-false (is_unmapped (m page)) (block_edit r (abort_depth m r page)) None h)) still
  ]

  pub abort-edit : (o : Option Region) → region_of l.memory page ≡ o → P (abort_edit m o page)
  unfolding abort_edit
  abort-edit (Some r) at = by-page r at
  abort-edit None at = still

module _ (l : Layout) (s : Contents) (legal : Legal l s) (usable : IsUsable l) (cpu page : ℕ) where
  abbrev After : Step → Rule → Type 0
  After step r = StepKept l s legal.condition shared None cpu step r.changes

  pub host_abort-keeps : refusal l.depth (host_abort page (reads l cpu None (x_of cpu s))) false (x_of cpu s) ≡ None
      → After (HostAbort page) (host_abort page (reads l cpu None (x_of cpu s)))
  unfolding used_of
  host_abort-keeps h =
      let m = s.shared.host.map in
      let r = host_abort page (reads l cpu None (x_of cpu s)) in
      abort-edit l usable m page (IsKept l s legal usable cpu r.valid r.allowed Nothing (HostAbort page))
      (still-keeps l s legal usable cpu r.valid r.allowed Nothing (HostAbort page) refl)
      (block-keeps l s legal usable cpu r.valid r.allowed Nothing page)
      (device-keeps l s legal usable cpu r.valid r.allowed Nothing page)
      (region_of l.memory page) refl
      (passed l.depth (host_abort page (reads l cpu None (x_of cpu s))) false (x_of cpu s) h)

  pub host_translate-keeps : refusal l.depth (host_translate page (reads l cpu None (x_of cpu s))) false (x_of cpu s)
      ≡ None
      → After (HostTranslate page) (host_translate page (reads l cpu None (x_of cpu s)))
  host_translate-keeps h =
      still-keeps l s legal usable cpu _ _ _ (HostTranslate page) refl
      (passed l.depth (host_translate page (reads l cpu None (x_of cpu s))) false (x_of cpu s) h)

  pub hyp_translate-keeps : refusal l.depth (hyp_translate page (reads l cpu None (x_of cpu s))) false (x_of cpu s)
      ≡ None
      → After (HypTranslate page) (hyp_translate page (reads l cpu None (x_of cpu s)))
  hyp_translate-keeps h =
      still-keeps l s legal usable cpu _ _ _ (HypTranslate page) refl
      (passed l.depth (hyp_translate page (reads l cpu None (x_of cpu s))) false (x_of cpu s) h)

  pub owner_of-keeps : refusal l.depth (owner_of page (reads l cpu None (x_of cpu s))) false (x_of cpu s) ≡ None
      → After (OwnerOf page) (owner_of page (reads l cpu None (x_of cpu s)))
  owner_of-keeps h =
      still-keeps l s legal usable cpu _ _ _ (OwnerOf page) refl
      (passed l.depth (owner_of page (reads l cpu None (x_of cpu s))) false (x_of cpu s) h)
