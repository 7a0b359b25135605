-- reclaim_pool of two legal states, where the pool of each has the same frame first.
use Rattle.std.proofs.Common.{◌≡◌, ℕ, suc, refl, ap, sym, ◌∙◌, subst, arith, inl, inr, [], ◌∷◌, length}
use Rattle.std.specs.Prelude.{Bool, true, false, ◌||◌, nat_lt, Option, Some, None}
use Rattle.std.proofs.lemmas.Bool.Decides.{nat_tests}
use mathlib.Core.Path.{fun_ext}
use Rattle.page_state.proofs.Common.{eq-self, same2}
use Rattle.page_state.proofs.Counts.{count_next}
use Rattle.page_state.specs.Counts.{is_one, frame_count}
use Rattle.page_state.specs.Layouts.{Layout, is_memory}
use Rattle.page_state.specs.Tables.{needs, freed, returned, edited}
use Rattle.page_state.specs.Trees.{Pool}
use Rattle.call_table.specs.declared.reply.Refusal.{Refusal}
use Rattle.call_table.specs.declared.reply.Reply.TheVariants.{Done}
use Rattle.call_table.specs.declared.reply.Value.TheVariants.{Frame as FrameOf}
use Rattle.call_table.specs.declared.step.Step.TheVariants.{ReclaimPool}
use Rattle.call_table.specs.declared.step.VmId.{VmId}
use Rattle.reference_model.proofs.conditions.RangeMoves.{one-within}
use Rattle.reference_model.proofs.conditions.SoundOf.{one-true, in_vm-is, one-most}
use Rattle.reference_model.proofs.conditions.Tests.{tested}
use Rattle.reference_model.specs.declared.changes.Changes.{Changes}
use Rattle.reference_model.specs.declared.changes.GuestChange.TheVariants.{LoseLowest}
use Rattle.reference_model.specs.model.Changes.{rest}
use Rattle.reference_model.specs.help.Conditions.{in_shared, in_vm, one, table_uses, guest_uses}
use Rattle.reference_model.specs.model.Owner.{is_free, is_table_frame}
use Rattle.reference_model.specs.model.GuestRules.{is_guest, good_vm, least}
use Rattle.reference_model.specs.model.Parts.{shared_and_guest, lacks_slot, slot_of}
use Rattle.reference_model.specs.model.Rule.{fine}
use Rattle.reference_model.specs.model.Rules.{rule}
use Rattle.reference_model.specs.model.SharedRules.{to_host}
use Rattle.reference_model.specs.model.State.{Guest, Contents, dying}
use Rattle.reference_model.specs.model.Step.{first_test, rule_of, is_touched, own_row, with_rows, changed, made, shared_after, guest_after}
use Rattle.reference_model.specs.model.Used.{Used, used_of}
use Rattle.freedoms.specs.Ample.{AnswersAmply, rule_fails}
use Rattle.freedoms.specs.AnyTrees.{LegalInAnyTrees}
use Rattle.freedoms.specs.Laws.{ReclaimsOfAny}
use Rattle.freedoms.specs.OwnTables.{OwnTables, bare_used, bare_guest}
use Rattle.freedoms.proofs.Bare.{changed-bare}
use Rattle.freedoms.proofs.Gone.{still-apart, guest_holds, count-none, no-frame, two-false}
use Rattle.freedoms.proofs.OwnRows.{own-alike, apart-of, with_row, none-of}
use Rattle.freedoms.proofs.Pools.{frame-same}
use Rattle.freedoms.proofs.Twins.{Twin, twin-by, packed, used-alike, chosen-same}

some-first : (xs : Pool) (f : ℕ) → nat_lt 0 (length xs) ≡ true → f ≡ least xs → (fs : Pool) × (xs ≡ f ∷ fs)
some-first [] f h e = cc
some-first (g ∷ gs) f h e = (gs, ap (λ n. n ∷ gs) (sym e))

reclaim-changes : ℕ → Changes
reclaim-changes f = record (to_host f 1) { part = LoseLowest; value = FrameOf (record { 0 = f }) }

reclaim-by : (l : Layout) (cpu : ℕ) (slot : Option ℕ) (vm : VmId) (x : Used)
    → (rule_of l cpu slot (ReclaimPool vm) x).changes ≡ reclaim-changes (least x.guest.free)
unfolding rule reclaim-changes
reclaim-by l cpu slot vm x = refl

-- its first test that fails, by the guest without its tables and by whether its pool has a free frame
fails_by : Option ℕ → VmId → Guest → Bool → Option Refusal
fails_by slot vm g some =
    first_test
    (record fine {
      valid = good_vm vm;
      has_vm = record fine.has_vm { passes = is_guest dying vm g };
      allowed = record fine.allowed { passes = some };
    })
    (lacks_slot shared_and_guest slot)

reclaim-fails : (l : Layout) (cpu : ℕ) (slot : Option ℕ) (vm : VmId) (x : Used)
    → rule_fails l cpu slot (ReclaimPool vm) x ≡ fails_by slot vm (bare_guest x.guest) (nat_lt 0 (length x.guest.free))
unfolding rule fails_by
reclaim-fails l cpu slot vm x = refl

not-empty : (f : ℕ) (fs : Pool) → nat_lt 0 (length (f ∷ fs)) ≡ true
not-empty f fs = grind (arith, nat_tests)

touched-is : (f q : ℕ) → is_touched (reclaim-changes f) q ≡ true → f ≡ q
unfolding reclaim-changes
touched-is f q w = one-within f q w

-- the guest afterwards
after-lose : (l : Layout) (f q : ℕ) (g : Guest)
    → guest_holds l (guest_after l.depth (reclaim-changes f) g) q
    ≡ (is_free (rest g.free) q || is_table_frame l g.tree q)
unfolding guest_after edited needs freed returned reclaim-changes
after-lose l f q g = refl

-- it has no more what it had first
lost : (l : Layout) (s : Contents) (legal : LegalInAnyTrees l s) (v f : ℕ) (fs : Pool)
    → (s.guest v).free ≡ f ∷ fs
    → guest_holds l (guest_after l.depth (reclaim-changes f) (s.guest v)) f ≡ false
lost l s legal v f fs e =
    let g = s.guest v in
    let next = count_next f f fs in
    let here : is_one f f ≡ 1 = ap one (eq-self f) in
    let count : frame_count f g.free ≡ frame_count f (f ∷ fs) = ap (frame_count f) e in
    let held = legal.state.frames.held.vm v f in
    let most = one-most (in_vm v (legal.state.frames.condition f)) in
    let none : frame_count f fs ≡ 0 = omega arith in
    let tables : table_uses l.depth g.tree f ≡ 0 = omega arith in
    after-lose l f f g
    ∙ two-false _ _ (ap (λ xs. is_free (rest xs) f) e ∙ count-none fs f none)
    (no-frame l g.tree f (none-of l.depth f g.tree (legal.state.inside (suc (suc v))) tables))

-- it was of its pool
was-vm : (l : Layout) (s : Contents) (legal : LegalInAnyTrees l s) (v f : ℕ) (fs : Pool)
    → (s.guest v).free ≡ f ∷ fs
    → in_shared (legal.state.frames.condition f) ≡ false
was-vm l s legal v f fs e =
    let next = count_next f f fs in
    let here : is_one f f ≡ 1 = ap one (eq-self f) in
    let count : frame_count f (s.guest v).free ≡ frame_count f (f ∷ fs) = ap (frame_count f) e in
    ap in_shared
    (in_vm-is v (legal.state.frames.condition f)
    (one-true (in_vm v (legal.state.frames.condition f)) (guest_uses l.depth (s.guest v) f) (omega arith)
    (legal.state.frames.held.vm v f)))

module _ (l : Layout) (s t : Contents) (a : LegalInAnyTrees l s) (b : LegalInAnyTrees l t) (e : OwnTables s t)
    (cpu v f : ℕ) (fs gs : Pool) (first : (s.guest v).free ≡ f ∷ fs) (second : (t.guest v).free ≡ f ∷ gs) where
  own-same : bare_used (changed l.depth (reclaim-changes f) (used_of shared_and_guest (Some v) cpu s))
      ≡ bare_used (changed l.depth (reclaim-changes f) (used_of shared_and_guest (Some v) cpu t))
      → (vm : VmId)
      → own_row l cpu (Some v) (ReclaimPool vm)
      (changed l.depth (reclaim-changes f) (used_of shared_and_guest (Some v) cpu s)) f
      ≡ own_row l cpu (Some v) (ReclaimPool vm)
      (changed l.depth (reclaim-changes f) (used_of shared_and_guest (Some v) cpu t)) f
  unfolding changed used_of
  own-same after vm =
      let h = reclaim-changes f in
      let x = used_of shared_and_guest (Some v) cpu s in
      let z = used_of shared_and_guest (Some v) cpu t in
      own-alike l cpu (Some v) (ReclaimPool vm) (changed l.depth h x) (changed l.depth h z) f after
      (still-apart l l.depth h s.shared f (apart-of l s a f (was-vm l s a v f fs first)))
      (still-apart l l.depth h t.shared f (apart-of l t b f (was-vm l t b v f gs second)))
      (lost l s a v f fs first ∙ sym (lost l t b v f gs second))

  rows-same : (vm : VmId)
      → bare_used
      (with_rows l cpu (Some v) (ReclaimPool vm) (reclaim-changes f)
      (changed l.depth (reclaim-changes f) (used_of shared_and_guest (Some v) cpu s)))
      ≡ bare_used
      (with_rows l cpu (Some v) (ReclaimPool vm) (reclaim-changes f)
      (changed l.depth (reclaim-changes f) (used_of shared_and_guest (Some v) cpu t)))
  unfolding with_rows changed shared_after
  rows-same vm =
      let h = reclaim-changes f in
      let x = used_of shared_and_guest (Some v) cpu s in
      let z = used_of shared_and_guest (Some v) cpu t in
      let bare = used-alike shared_and_guest (Some v) cpu s t e in
      let after : bare_used (changed l.depth h x) ≡ bare_used (changed l.depth h z) =
      changed-bare l.depth h x ∙ ap (λ (w : Used). bare_used (changed l.depth h w)) bare
      ∙ sym (changed-bare l.depth h z) in
      same2 with_row after
      (fun_ext
      (λ q. chosen-same (is_memory l q) (is_touched h q)
      (own_row l cpu (Some v) (ReclaimPool vm) (changed l.depth h x) q)
      (own_row l cpu (Some v) (ReclaimPool vm) (changed l.depth h z) q) (x.shared.row q)
      (z.shared.row q) (ap (λ (w : Used). w.shared.row q) bare)
      (λ k. subst
      (λ n. own_row l cpu (Some v) (ReclaimPool vm) (changed l.depth h x) n
      ≡ own_row l cpu (Some v) (ReclaimPool vm) (changed l.depth h z) n)
      (touched-is f q k) (own-same after vm))))

  twin : (vm : VmId)
      → Twin l cpu (Some v) (ReclaimPool vm) (used_of shared_and_guest (Some v) cpu s)
      (used_of shared_and_guest (Some v) cpu t) (Done (FrameOf (record { 0 = f })))
  unfolding made used_of reclaim-changes
  twin vm =
      let x = used_of shared_and_guest (Some v) cpu s in
      let z = used_of shared_and_guest (Some v) cpu t in
      let bare = used-alike shared_and_guest (Some v) cpu s t e in
      let guest : bare_guest (s.guest v) ≡ bare_guest (t.guest v) = ap (λ (w : Used). w.guest) bare in
      let here : (rule_of l cpu (Some v) (ReclaimPool vm) x).changes ≡ reclaim-changes f =
      reclaim-by l cpu (Some v) vm x ∙ ap (λ xs. reclaim-changes (least xs)) first in
      let there : (rule_of l cpu (Some v) (ReclaimPool vm) z).changes ≡ reclaim-changes f =
      reclaim-by l cpu (Some v) vm z ∙ ap (λ xs. reclaim-changes (least xs)) second in
      let same = here ∙ sym there in
      let some : nat_lt 0 (length (s.guest v).free) ≡ nat_lt 0 (length (t.guest v).free) =
      ap (λ xs. nat_lt 0 (length xs)) first ∙ not-empty f fs
      ∙ sym (ap (λ xs. nat_lt 0 (length xs)) second ∙ not-empty f gs) in
      let fails : rule_fails l cpu (Some v) (ReclaimPool vm) x ≡ rule_fails l cpu (Some v) (ReclaimPool vm) z =
      reclaim-fails l cpu (Some v) vm x ∙ same2 (fails_by (Some v) vm) guest some
      ∙ sym (reclaim-fails l cpu (Some v) vm z) in
      twin-by l cpu (Some v) (ReclaimPool vm) x z (Done (FrameOf (record { 0 = f }))) bare fails
      (ap (λ (c : Changes). c.value) same)
      (λ passes. ap
      (λ (c : Changes). bare_used (with_rows l cpu (Some v) (ReclaimPool vm) c (changed l.depth c x))) here
      ∙ rows-same vm
      ∙ sym
      (ap
      (λ (c : Changes). bare_used
      (with_rows l cpu (Some v) (ReclaimPool vm) c (changed l.depth c z))) there))

-- the frame that is given is the first of the pool
given-first : (l : Layout) (s : Contents) (cpu v f : ℕ) (vm : VmId) (y : Used)
    → AnswersAmply l cpu (Some v) (ReclaimPool vm) (used_of shared_and_guest (Some v) cpu s)
    (Done (FrameOf (record { 0 = f }))) y
    → (fs : Pool) × ((s.guest v).free ≡ f ∷ fs)
unfolding rule used_of
given-first l s cpu v f vm y (inl p) =
    let x = used_of shared_and_guest (Some v) cpu s in
    let t = tested (rule_of l cpu (Some v) (ReclaimPool vm) x) (lacks_slot shared_and_guest (Some v)) p.passes in
    some-first (s.guest v).free f t.allowed (frame-same p.reply_is)
given-first l s cpu v f vm y (inr (inl p)) = let bad = p.reply_is in cc
given-first l s cpu v f vm y (inr (inr p)) = elim (p.reply_is) [ inl h ↦ cc | inr h ↦ cc ]

by-slot : (l : Layout) (s t : Contents) (a : LegalInAnyTrees l s) (b : LegalInAnyTrees l t) (e : OwnTables s t)
    (cpu v f : ℕ) (vm : VmId) (gs : Pool) (second : (t.guest v).free ≡ f ∷ gs) (slot : Option ℕ)
    → slot ≡ Some v
    → Twin l cpu slot (ReclaimPool vm) (used_of shared_and_guest slot cpu s) (used_of shared_and_guest slot cpu t)
    (Done (FrameOf (record { 0 = f })))
by-slot l s t a b e cpu v f vm gs second None named = cc
by-slot l s t a b e cpu v f vm gs second (Some u) named =
    subst
    (λ o. Twin l cpu o (ReclaimPool vm) (used_of shared_and_guest o cpu s) (used_of shared_and_guest o cpu t)
    (Done (FrameOf (record { 0 = f }))))
    (sym named)
    (λ y p. let first = given-first l s cpu v f vm y p in twin l s t a b e cpu v f first.0 gs first.1 second vm y p)

pub reclaims_of_any : ReclaimsOfAny
reclaims_of_any l s t cpu v f vm gs u a b e named second p =
    packed l s t cpu (ReclaimPool vm) (Done (FrameOf (record { 0 = f }))) e
    (by-slot l s t a b e cpu v f vm gs second (slot_of vm) named) u p
