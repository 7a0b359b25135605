-- A made step on the Shared part that moves a range of frames from conditions that name no guest to one such condition.
use Rattle.std.proofs.Common.{◌≡◌, ℕ, ◌≤◌, ◌<◌, refl, ap, sym, ◌∙◌, arith, inl, inr, length}
use Rattle.std.specs.Prelude.{true, false, ◌==◌, Some, None}
use Rattle.page_state.specs.declared.entry.PageRange.{PageRange}
use Rattle.call_table.specs.declared.step.Step.{Step}
use Rattle.page_state.specs.Geometries.{pages_below}
use Rattle.page_state.specs.Layouts.{Layout, is_memory, hyp_page}
use Rattle.page_state.specs.Map.{is_within}
use Rattle.page_state.specs.Tables.{edited}
use Rattle.reference_model.specs.declared.changes.Changes.{Changes}
use Rattle.reference_model.specs.model.Changes.{cpu_by}
use Rattle.reference_model.specs.help.Conditions.{Condition, MapsFit, HeldFit, Legal, IsUsable, row_in, in_vm, one, AreCoarsest, GuestsFit, SlotsFit, RowsFit, IsGood}
use Rattle.reference_model.specs.model.Owner.{row_of}
use Rattle.reference_model.specs.model.Parts.{shared}
use Rattle.reference_model.specs.model.Rules.{names}
use Rattle.reference_model.specs.model.State.{Cpu, Contents, put_at, no_guest, no_cpu, blank}
use Rattle.reference_model.specs.model.Step.{changed, with_rows, own_row, shared_after, shared_need}
use Rattle.reference_model.specs.model.Used.{Used, used_of, put_back}
use Rattle.page_state.proofs.Common.{both, if-true, if-false}
use Rattle.reference_model.proofs.conditions.FrameMoves.{StepKept, FramesMove, no-uses, layout-after, held-after, host-coarsest, hyp-coarsest, rows-after, shared-stands, hand-stands, kept-after}
use Rattle.reference_model.proofs.conditions.Moves.{moved_to, always, pageless-named, guest-kept, has-kept, is_calm, calm-pageless, calm-vm, CalmMove, moved-fact, SameSlots, same-agree, cpu-fact}
use Rattle.reference_model.proofs.conditions.Stands.{SharedStands, GuestsStand, HandsStand, row-stands}

-- the part of a state that a call on the Shared part uses
abbrev pub x_of : ℕ → Contents → Used
x_of cpu s = used_of shared None cpu s

-- what a rule on the Shared part does to the conditions: a range of frames goes from conditions that name no guest to
-- one such condition, and nothing changes of the CPU but the hand
pub record SharedMove (l : Layout) (s : Contents) (condition : ℕ → Condition) (cpu : ℕ) (r : Changes) (first n : ℕ)
    (c : Condition) : Type 0 where
  pub frames : FramesMove l s condition cpu None r first n (always c)
  pub calm : CalmMove c first n condition
  pub loaded : (cpu_by r.cpu (s.cpu cpu)).loaded ≡ (s.cpu cpu).loaded
  pub ticket : (cpu_by r.cpu (s.cpu cpu)).ticket ≡ (s.cpu cpu).ticket
  pub some_hand : (h : PageRange) → (cpu_by r.cpu (s.cpu cpu)).hand ≡ Some h → 1 ≤ h.count

-- blank guests say nothing of a frame whose condition names none
blank-guests : (l : Layout) (f : ℕ) (c : Condition) → is_calm c ≡ true → GuestsStand l (λ v. no_guest) f c
blank-guests l f c h = record {
  has = λ v p state e. pageless-named c state v p (calm-pageless c h) e;
  alone = λ v p state m. let bad : false ≡ true = m in cc;
  held = λ v. let e = no-uses l.depth f in let k : one (in_vm v c) ≡ 0 = ap one (calm-vm v c h) in omega arith;
}

-- the own row, where the used Shared part and the CPU's hand say of the frame what its condition says
own-shared : (l : Layout) (cpu : ℕ) (y : Used) (f : ℕ) (c : Condition)
    → SharedStands l y.shared f c
    → is_calm c ≡ true
    → HandsStand (put_at (λ d. no_cpu) cpu y.cpu) f c
    → IsGood l c
    → hyp_page f < pages_below l.depth
    → row_of l (put_back shared None cpu blank y) f ≡ row_in f c
unfolding put_back
own-shared l cpu y f c x calm hands good less =
    row-stands l (put_back shared None cpu blank y) f c x (blank-guests l f c calm) hands good (λ i. less)

module _ (l : Layout) (s : Contents) (legal : Legal l s) (usable : IsUsable l) (cpu : ℕ) (step : Step)
    (named : names step ≡ shared) (r : Changes) (first n : ℕ) (c : Condition)
    (m : SharedMove l s legal.condition cpu r first n c)
    (enough : shared_need l.depth r s.shared ≤ length s.shared.free) where
  abbrev at : ℕ → Condition
  at = moved_to (always c) first n legal.condition

  -- the used parts after the change, before rows
  y : Used
  y = changed l.depth r (x_of cpu s)

  t : Contents
  t = put_back shared None cpu s (with_rows l cpu None step r y)

  maps : MapsFit t at
  unfolding t y put_back with_rows changed used_of shared_after edited
  maps = record {
    host = m.frames.host;
    hyp = m.frames.hyp;
    hyp_below = m.frames.hyp_below;
    guest =
        λ v g. guest-kept c first n legal.condition
        (λ f w. calm-pageless (legal.condition f) (m.calm.was_calm f w)) v g ((s.guest v).tree.map g)
        (legal.maps.guest v g);
    guest_has =
        λ v g f state h. legal.maps.guest_has v g f state
        (has-kept c first n legal.condition (calm-pageless c m.calm.calm) v g f state h);
  }

  held : HeldFit l t at
  unfolding t y put_back with_rows changed used_of shared_after
  held = record {
    shared = held-after legal m.frames enough;
    vm =
        λ v f. legal.held.vm v f
        ∙ ap one
        (moved-fact (in_vm v) (always c) first n legal.condition f
        (λ w. calm-vm v (legal.condition f) (m.calm.was_calm f w) ∙ sym (calm-vm v c m.calm.calm)));
    hand = m.frames.hand;
  }

  own : (f : ℕ) → is_memory l f ≡ true → is_within first n f ≡ true → own_row l cpu None step y f ≡ row_in f c
  unfolding own_row t y put_back with_rows changed used_of shared_after
  own f mem w =
      let st = shared-stands legal m.frames t maps held f w in
      ap (λ k. row_of l (put_back k None cpu blank y) f) named
      ∙ own-shared l cpu y f c
      (record {
        host = st.host;
        host_alone = st.host_alone;
        hyp = st.hyp;
        hyp_alone = st.hyp_alone;
        held = st.held;
      }) m.calm.calm
      (hand-stands legal m.frames f w) (m.frames.good f w) (usable.pages f mem)

  rows : RowsFit l t at
  unfolding t y put_back with_rows changed used_of shared_after
  rows = rows-after legal m.frames (own_row l cpu None step y) own

  slots : SlotsFit t
  unfolding t y put_back with_rows changed used_of
  slots =
      let k = cpu_by r.cpu (s.cpu cpu) in
      let same : SameSlots s t = record {
        slot = λ v. refl;
        phase = λ v. refl;
        generation = λ v. refl;
        kind = λ v. refl;
        loaded = λ d. cpu-fact (λ (j : Cpu). j.loaded) s.cpu cpu k d m.loaded;
        ticket = λ d. cpu-fact (λ (j : Cpu). j.ticket) s.cpu cpu k d m.ticket;
      } in
      record {
        agree = same-agree s t same legal.slots.agree;
        few_slots = legal.slots.few_slots;
        few_vcpus = legal.slots.few_vcpus;
        some_hand = hands;
      }
    where
      hands : (d : ℕ) (h : PageRange) → (put_at s.cpu cpu (cpu_by r.cpu (s.cpu cpu)) d).hand ≡ Some h → 1 ≤ h.count
      hands d h e = elim (both (d == cpu)) [
        | inl q ↦ m.some_hand h
            (sym (ap (λ (j : Cpu). j.hand) (if-true (d == cpu) (cpu_by r.cpu (s.cpu cpu)) (s.cpu d) q)) ∙ e)
        | inr q ↦ legal.slots.some_hand d h
            (sym (ap (λ (j : Cpu). j.hand) (if-false (d == cpu) (cpu_by r.cpu (s.cpu cpu)) (s.cpu d) q)) ∙ e)
      ]

  trees : AreCoarsest l t
  unfolding t y put_back with_rows changed used_of
  trees =
      record {
        host = host-coarsest legal m.frames enough;
        hyp = hyp-coarsest legal m.frames enough;
        guest = legal.trees.guest;
      }

  parts : GuestsFit l t
  unfolding t y put_back with_rows changed used_of
  parts = record { blank = legal.guest_parts.blank; rooted = legal.guest_parts.rooted }

  -- the step keeps the invariant
  pub shared-keeps : StepKept l s legal.condition shared None cpu step r
  unfolding t y
  shared-keeps =
      kept-after legal m.frames shared step
      (record {
        condition = at;
        of_layout = layout-after legal m.frames;
        maps = maps;
        held = held;
        rows = rows;
        trees = trees;
        guest_parts = parts;
        slots = slots;
      })
      (λ f. refl) own
