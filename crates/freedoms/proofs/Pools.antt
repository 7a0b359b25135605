-- The frames of guests' pools, by the rows.
use Rattle.std.proofs.Common.{◌≡◌, ℕ, suc, ◌+◌, ◌≤◌, ap, sym, ◌∙◌, subst, arith, inl, inr, [], ◌∷◌, length}
use Rattle.std.specs.Prelude.{true, nat_lt, Option, Some, None}
use Rattle.page_state.proofs.Common.{eq-self}
use Rattle.page_state.proofs.Counts.{count_next}
use Rattle.page_state.specs.Counts.{is_one, frame_count}
use Rattle.page_state.specs.Layouts.{Layout}
use Rattle.page_state.specs.Trees.{Pool}
use Rattle.call_table.specs.declared.reply.Reply.{Reply}
use Rattle.call_table.specs.declared.reply.Reply.TheVariants.{Done}
use Rattle.call_table.specs.declared.reply.Value.TheVariants.{Frame as FrameOf}
use Rattle.call_table.specs.declared.step.Step.TheVariants.{ReclaimPool}
use Rattle.call_table.specs.declared.step.VmId.{VmId}
use Rattle.reference_model.proofs.conditions.SoundOf.{one-true, in_vm-is, one-most}
use Rattle.reference_model.proofs.conditions.Keeps.{stage-slot}
use Rattle.reference_model.proofs.conditions.Tables.{uses_of, uses-some}
use Rattle.reference_model.proofs.conditions.Tests.{tested}
use Rattle.reference_model.specs.help.Conditions.{is_inside, in_vm, one, table_uses, guest_uses, row_in}
use Rattle.reference_model.specs.model.GuestRules.{least}
use Rattle.reference_model.specs.model.Parts.{lacks_slot, slot_of}
use Rattle.reference_model.specs.model.Rules.{rule, names}
use Rattle.reference_model.specs.claims.Sound.{StageFits}
use Rattle.reference_model.specs.model.State.{Contents, empty, dying}
use Rattle.reference_model.specs.model.Step.{rule_of}
use Rattle.reference_model.specs.model.Used.{used_of}
use Rattle.reference_model.specs.declared.changes.Stage.TheVariants.{Dying as dying_vm}
use Rattle.freedoms.specs.Ample.{AnswersAmply}
use Rattle.freedoms.specs.AnyTrees.{LegalInAnyTrees}
use Rattle.freedoms.specs.Laws.{pool_row, IsSpare, ReclaimsSpare, FinishesRoot}

-- a frame that a guest holds has the pool's row
held-row : (l : Layout) (s : Contents) (v f : ℕ) (legal : LegalInAnyTrees l s)
    → 1 ≤ guest_uses l.depth (s.guest v) f
    → s.shared.row f ≡ pool_row v
held-row l s v f legal some =
    let named =
    in_vm-is v (legal.state.frames.condition f)
    (one-true (in_vm v (legal.state.frames.condition f)) (guest_uses l.depth (s.guest v) f) some
    (legal.state.frames.held.vm v f)) in
    legal.state.frames.rows f (sym (legal.state.frames.of_layout.inside f) ∙ ap is_inside named) ∙ ap (row_in f) named

first-some : (fs : Pool) → nat_lt 0 (length fs) ≡ true → 1 ≤ frame_count (least fs) fs
first-some [] h = cc
first-some (g ∷ gs) h = let n = count_next g g gs in let e : is_one g g ≡ 1 = ap one (eq-self g) in omega arith

spare : (l : Layout) (s : Contents) (v : ℕ) (legal : LegalInAnyTrees l s)
    → nat_lt 0 (length (s.guest v).free) ≡ true
    → IsSpare l s v (least (s.guest v).free)
unfolding table_uses uses_of
spare l s v legal h =
    let f = least (s.guest v).free in
    let free = first-some (s.guest v).free h in
    record {
      row = held-row l s v f legal (omega arith);
      no_root = λ e.
          let table =
          uses-some l.depth f (l.depth + 1, 0) (s.guest v).tree.table
          (legal.state.inside (suc (suc v)) (l.depth + 1, 0) f e) e in
          let held = legal.state.frames.held.vm v f in
          let most = one-most (in_vm v (legal.state.frames.condition f)) in
          absurd (omega arith);
    }

pub frame-same : {a b : ℕ} → Done (FrameOf (record { 0 = a })) ≡ Done (FrameOf (record { 0 = b })) → a ≡ b
frame-same h = ap number h
  where
    number : Reply → ℕ
    number (Done (FrameOf f)) = f.0
    number other = 0

by-answer : (l : Layout) (s : Contents) (cpu v f : ℕ) (vm : VmId) (legal : LegalInAnyTrees l s) (slot : Option ℕ)
    → slot ≡ Some v
    → (y : _)
    → AnswersAmply l cpu slot (ReclaimPool vm) (used_of (names (ReclaimPool vm)) slot cpu s)
    (Done (FrameOf (record { 0 = f }))) y
    → IsSpare l s v f
unfolding rule used_of
by-answer l s cpu v f vm legal None e y a = cc
by-answer l s cpu v f vm legal (Some u) e y (inl p) =
    let x = used_of (names (ReclaimPool vm)) (Some u) cpu s in
    let t =
    tested (rule_of l cpu (Some u) (ReclaimPool vm) x) (lacks_slot (names (ReclaimPool vm)) (Some u)) p.passes in
    let same : f ≡ least (s.guest u).free = frame-same p.reply_is in
    let here = spare l s u legal t.allowed in
    let at : u ≡ v = cc in
    subst (λ w. IsSpare l s w f) at (subst (IsSpare l s u) (sym same) here)
by-answer l s cpu v f vm legal (Some u) e y (inr (inl p)) = let bad = p.reply_is in cc
by-answer l s cpu v f vm legal (Some u) e y (inr (inr p)) = elim (p.reply_is) [ inl h ↦ cc | inr h ↦ cc ]

pub reclaims_spare : ReclaimsSpare
reclaims_spare l s t cpu v f vm legal named steps =
    by-answer l s cpu v f vm legal (slot_of vm) named steps.after steps.answers

pub finishes_root : FinishesRoot
unfolding table_uses uses_of
finishes_root l s cpu v legal h =
    let t = stage-slot dying_vm (s.cpu cpu) v h in
    let fits = (legal.state.slots.agree.tickets.ticket cpu t.0 t.1).fits in
    let phase : (s.guest t.0.vm.slot).phase ≡ dying =
    (subst (λ stage. StageFits stage (s.vms.slot t.0.vm.slot).stand (s.guest t.0.vm.slot).phase) t.3 fits).1 in
    let alive : (s.guest v).phase ≡ dying = sym (ap (λ n. (s.guest n).phase) t.2) ∙ phase in
    let root = legal.state.guest_parts.rooted v (λ e. let bad : empty ≡ dying = sym e ∙ alive in cc) in
    let some =
    uses-some l.depth root.0 (l.depth + 1, 0) (s.guest v).tree.table
    (legal.state.inside (suc (suc v)) (l.depth + 1, 0) root.0 root.1) root.1 in
    (root.0, root.1, held-row l s v root.0 legal (omega arith))
