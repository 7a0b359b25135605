-- What calls on a guest decide, where the CPU's hand or what a run leaves of the guest matters.
use Rattle.std.proofs.Common.{◌≡◌, ◌≢◌, ℕ, ◌+◌, ◌<◌, ◌≤◌, ◌^◌, ◌==◌, true, false, Bool, Option, None, Some, Ok, Err, unwrap_or, length, nat_lt, nat_le, not, ◌&&◌, ◌||◌, refl, sym, subst, arith}
use Rattle.std.proofs.lemmas.Bool.{false≢true}
use Rattle.std.proofs.lemmas.Bool.Decides.{nat_tests}
use Rattle.page_state.specs.declared.entry.PageRange.{PageRange}
use Rattle.page_state.specs.declared.layout.Layout.{Layout as TheLayout}
use Rattle.call_table.specs.declared.reply.Refusal.TheVariants.{Perm}
use Rattle.call_table.specs.declared.step.Step.TheVariants.{FinishGuest, Install, ReclaimPool, Topup}
use Rattle.call_table.specs.declared.step.VmId.{VmId}
use Rattle.call_table.specs.declared.step.VmKind.{VmKind}
use Rattle.page_state.specs.EntryTests.{is_unmapped}
use Rattle.page_state.specs.Geometries.{pages_below}
use Rattle.page_state.specs.Layouts.{Layout}
use Rattle.page_state.specs.LayoutView.{layout_of}
use Rattle.page_state.specs.Search.{all_below}
use Rattle.reference_model.specs.declared.changes.CpuChange.{CpuChange}
use Rattle.reference_model.specs.declared.changes.GuestChange.TheVariants.{Gain, Install as InstallGuest}
use Rattle.reference_model.specs.declared.changes.Stage.TheVariants.{Installed as installed}
use Rattle.reference_model.specs.declared.changes.Update.TheVariants.{Becomes}
use Rattle.reference_model.specs.model.Decides.{decides}
use Rattle.reference_model.specs.model.Changes.{no_changes}
use Rattle.reference_model.specs.model.GuestRules.{finish_guest, guest_table_count, is_guest, least, moved_on, reclaim_pool, ticket_kind, ticket_vm}
use Rattle.reference_model.specs.help.Rely.{CanRely}
use Rattle.reference_model.specs.model.Rule.{reads}
use Rattle.reference_model.specs.model.Rules.{rule}
use Rattle.reference_model.specs.model.SharedRules.{hand_becomes}
use Rattle.reference_model.specs.model.State.{Cpu, Guest, Shared, dying, live}
use Rattle.reference_model.specs.model.Used.{with_guest}
use Rattle.page_state.proofs.Geometries.{pages_most}

module _ (l : Layout) (id slot : ℕ) (s : Shared) (g : Guest) (k : Cpu) where
  -- the hand is installed
  pub installs : (r : PageRange) (kind : VmKind) (vm : VmId) (left : CpuChange)
      → kind ≡ ticket_kind k
      → vm ≡ ticket_vm k
      → left ≡ moved_on installed k
      → k.hand ≡ Some r
      → Ok
      (record no_changes
      { part = InstallGuest kind vm.generation r; cpu = record left { hand = Becomes None }; moved = Some r })
      ≡ decides l id (Some slot) Install (with_guest s g k)
  unfolding rule
  installs r kind vm left same_kind same_vm same_left e =
      subst
      (λ (h : Option PageRange). Ok
      (record no_changes {
        part = InstallGuest kind vm.generation r;
        cpu = record left { hand = Becomes None };
        moved = Some r;
      })
      ≡ decides l id (Some slot) Install (with_guest s g (record k { hand = h })))
      (sym e) (rw (same_kind, same_vm, same_left) refl)

  pub installs_none : k.hand ≡ None → Err Perm ≡ decides l id (Some slot) Install (with_guest s g k)
  unfolding rule
  installs_none e =
      subst
      (λ (h : Option PageRange). Err Perm
      ≡ decides l id (Some slot) Install (with_guest s g (record k { hand = h })))
      (sym e) refl

  module _ (vm : VmId) (r : PageRange) (low : vm.slot < 64)
      (lives : (is_guest live vm g || is_guest dying vm g) ≡ true) (held : k.hand ≡ Some r) where
    -- the pool gets the hand
    pub tops_up : (left : CpuChange)
        → left ≡ hand_becomes None
        → guest_table_count l g.tree + length g.free + r.count ≤ 512
        → Ok (record no_changes { part = Gain r; cpu = left; moved = Some r })
        ≡ decides l id (Some slot) (Topup vm) (with_guest s g k)
    unfolding rule
    tops_up left gone few =
        let is_low : nat_lt vm.slot 64 ≡ true = grind (arith, nat_tests) in
        let fits : nat_le (guest_table_count l g.tree + length g.free + r.count) 512 ≡ true =
        grind (arith, nat_tests) in
        subst
        (λ (h : Option PageRange). Ok (record no_changes { part = Gain r; cpu = left; moved = Some r })
        ≡ decides l id (Some slot) (Topup vm) (with_guest s g (record k { hand = h })))
        (sym held) (rw (gone, is_low, lives, fits) refl)

    -- but not past its 512 frames
    pub tops_over : 512 < guest_table_count l g.tree + length g.free + r.count
        → Err Perm ≡ decides l id (Some slot) (Topup vm) (with_guest s g k)
    unfolding rule
    tops_over many =
        let is_low : nat_lt vm.slot 64 ≡ true = grind (arith, nat_tests) in
        let over : nat_le (guest_table_count l g.tree + length g.free + r.count) 512 ≡ false =
        grind (arith, nat_tests) in
        subst
        (λ (h : Option PageRange). Err Perm
        ≡ decides l id (Some slot) (Topup vm) (with_guest s g (record k { hand = h })))
        (sym held) (rw (is_low, lives, over) refl)

-- what holds nothing maps no page and has no free frame
pub holds_none : (bare : Bool) (n : ℕ) → not (bare && n == 0) ≡ false → (bare ≡ true) × (n ≤ 0)
holds_none true n e = (refl, grind (arith, nat_tests))
holds_none false n e = absurd (false≢true (sym e))

-- frames that go back to the host have a page of the hypervisor
module _ (l : TheLayout) (id slot : ℕ) (s : Shared) (g : Guest) (k : Cpu) where
  -- the least frame of a Dying guest's pool
  pub least_low : (vm : VmId) (frame : ℕ)
      → frame ≡ least g.free
      → vm.slot < 64
      → is_guest dying vm g ≡ true
      → length g.free ≢ 0
      → CanRely (layout_of l) id (Some slot) (ReclaimPool vm) (with_guest s g k)
      → frame < 2 ^ 36
  unfolding rule
  least_low vm frame is low ends some rely =
      let is_low : nat_lt vm.slot 64 ≡ true = grind (arith, nat_tests) in
      let has : nat_lt 0 (length g.free) ≡ true = grind (arith, nat_tests) in
      let fit =
      (rely.fit (reclaim_pool vm (reads (layout_of l) id (Some slot) (with_guest s g k))).changes
      (rw (is_low, ends, has) refl)).hyp in
      let most = pages_most l.geometry in
      let within = fit.within in
      omega (arith, is, within, most)

  -- the root of a guest of which nothing else is left
  pub root_low : (d root : ℕ)
      → d ≡ (layout_of l).depth
      → root ≡ unwrap_or (g.tree.table (d + 1, 0)) 0
      → all_below (pages_below d) (λ p. is_unmapped (g.tree.map p)) ≡ true
      → length g.free ≤ 0
      → CanRely (layout_of l) id (Some slot) FinishGuest (with_guest s g k)
      → root < 2 ^ 36
  unfolding rule
  root_low d root same is bare spent rely =
      let bare_all = subst (λ (n : ℕ). all_below (pages_below n) (λ p. is_unmapped (g.tree.map p)) ≡ true) same bare in
      let none : (length g.free == 0) ≡ true = grind (arith, nat_tests) in
      let fit =
      (rely.fit (finish_guest (reads (layout_of l) id (Some slot) (with_guest s g k))).changes
      (rw (bare_all, none) refl)).hyp in
      let most = pages_most l.geometry in
      let within = fit.within in
      let is_root = subst (λ (n : ℕ). root ≡ unwrap_or (g.tree.table (n + 1, 0)) 0) same is in
      omega (arith, is_root, within, most)
