-- A made step that moves a range of frames, each to the condition that is told of it: what holds of the Shared part,
-- the hands and the conditions, whatever it does to a guest.
use Rattle.std.proofs.Common.{◌≡◌, ℕ, ◌+◌, ◌≤◌, ◌<◌, refl, ap, sym, ◌∙◌, subst, arith, inl, inr, length, drop}
use Rattle.std.specs.Prelude.{true, false, ◌&&◌, ◌==◌, Option, Some, None}
use Rattle.std.proofs.lemmas.Bool.Decides.{nat_tests}
use Rattle.page_state.specs.declared.entry.Entry.TheVariants.{Unmapped}
use Rattle.page_state.specs.declared.entry.PageRange.{PageRange}
use Rattle.page_state.specs.declared.row.Row.{Row}
use Rattle.call_table.specs.declared.step.Step.{Step}
use Rattle.page_state.specs.Layouts.{Layout, is_memory, hyp_page}
use Rattle.page_state.specs.Map.{is_within}
use Rattle.page_state.specs.Tables.{edited_map, need}
use Rattle.page_state.specs.Trees.{no_tree}
use Rattle.reference_model.specs.declared.changes.Changes.{Changes}
use Rattle.reference_model.specs.model.Changes.{edit_of, cpu_by, touched}
use Rattle.reference_model.specs.help.ConditionChanges.{conditions_after, touched_condition}
use Rattle.reference_model.specs.help.Conditions.{Condition, HostFits, hyp_entry_by, MapsFit, HeldFit, IsOfLayout, Legal, row_in, in_shared, in_hand, one, shared_uses, table_uses, is_inside, IsGood}
use Rattle.reference_model.specs.model.Owner.{is_in_hand, is_frame}
use Rattle.reference_model.specs.model.Parts.{Names}
use Rattle.reference_model.specs.help.RowChanges.{touched_row, first_of}
use Rattle.reference_model.specs.model.State.{Cpu, Contents, put_at, no_cpu}
use Rattle.reference_model.specs.model.Step.{is_touched, changed, with_rows, own_row, shared_after, shared_need}
use Rattle.reference_model.specs.model.Used.{used_of, put_back}
use Rattle.page_state.proofs.Common.{both, eq-self, if-true, if-false}
use Rattle.coarse_trees.specs.Coarsest.{IsCoarsest, IsInRange}
use Rattle.coarse_trees.proofs.Stays.{edit_keeps_coarsest}
use Rattle.reference_model.proofs.Frames.{count_blocks-none}
use Rattle.reference_model.proofs.conditions.Conserved.{shared-conserved, length-drop}
use Rattle.reference_model.proofs.conditions.Moves.{moved_to, moved-in, moved-out, moved-told, moved-fact, moved-all, rows-moved}
use Rattle.reference_model.proofs.conditions.OfLegal.{shared-of}
use Rattle.reference_model.proofs.conditions.Stands.{SharedStands, HandsStand}

-- the first frame of a range that has one lies in it
first-touched : (o : Option PageRange) (f : ℕ) → is_in_hand o f ≡ true → is_in_hand o (first_of o) ≡ true
first-touched None f h = cc
first-touched (Some r) f h = go r.first.0 r.count h
  where
    go : (first n : ℕ) → is_within first n f ≡ true → is_within first n first ≡ true
    go first n w = grind (arith, nat_tests)

-- what a made step leaves is legal, and the rows that it finds again, and the conditions, are those that its changes
-- tell
pub record StepKept (l : Layout) (s : Contents) (condition : ℕ → Condition) (n : Names) (slot : Option ℕ) (cpu : ℕ)
    (step : Step) (h : Changes) : Type 0 where
  pub legal : Legal l (put_back n slot cpu s (with_rows l cpu slot step h (changed l.depth h (used_of n slot cpu s))))
  pub told : (f : ℕ)
      → is_memory l f ≡ true
      → is_touched h f ≡ true
      → own_row l cpu slot step (changed l.depth h (used_of n slot cpu s)) f ≡ touched_row cpu slot h f
  pub moved : (f : ℕ) → legal.condition f ≡ conditions_after l cpu slot h condition f
  -- all frames of the touched range are memory, or none is
  pub whole : (f : ℕ) → is_touched h f ≡ true → is_memory l f ≡ is_memory l (first_of (touched h))

-- what a rule does to a range of frames, each of which goes to the condition that is told of it
pub record FramesMove (l : Layout) (s : Contents) (condition : ℕ → Condition) (cpu : ℕ) (slot : Option ℕ) (r : Changes)
    (first n : ℕ) (c : ℕ → Condition) : Type 0 where
  pub inside : (f : ℕ) → is_within first n f ≡ true → is_memory l f ≡ is_inside (c f)
  -- memory frames all, or none
  pub alike : (f q : ℕ) → is_within first n f ≡ true → is_within first n q ≡ true → is_inside (c f) ≡ is_inside (c q)
  pub good : (f : ℕ) → is_within first n f ≡ true → IsGood l (c f)
  pub same_use : (f : ℕ) → is_within first n f ≡ true → in_shared (condition f) ≡ in_shared (c f)
  pub host : (p : ℕ) → HostFits p (moved_to c first n condition p) (edited_map s.shared.host.map (edit_of r.host) p)
  pub hyp : (f : ℕ)
      → edited_map s.shared.hyp.map (edit_of r.hyp) (hyp_page f) ≡ hyp_entry_by f (moved_to c first n condition f)
  pub hyp_below : (p : ℕ) → p < hyp_page 0 → edited_map s.shared.hyp.map (edit_of r.hyp) p ≡ Unmapped
  pub touched : (f : ℕ) → is_touched r f ≡ is_within first n f
  pub told : (f : ℕ) → is_within first n f ≡ true → row_in f (c f) ≡ touched_row cpu slot r f
  pub goes : (f : ℕ) → is_within first n f ≡ true → is_memory l f ≡ true → c f ≡ touched_condition cpu slot r f
  pub host_range : IsInRange l.depth (edit_of r.host)
  pub hyp_range : IsInRange l.depth (edit_of r.hyp)
  pub hand : (d f : ℕ)
      → is_in_hand (put_at s.cpu cpu (cpu_by r.cpu (s.cpu cpu)) d).hand f ≡ in_hand d (moved_to c first n condition f)
  pub own_hand : (d f : ℕ) → is_within first n f ≡ true → in_hand d (c f) ≡ true → d ≡ cpu

pub no-uses : (depth f : ℕ) → table_uses depth no_tree f ≡ 0
unfolding table_uses
no-uses depth f = count_blocks-none (depth + 1) (depth + 1) (λ b. is_frame f (no_tree.table b)) (λ b. refl)

pub not-in : (d : ℕ) (c : Condition) → (in_hand d c ≡ true → ⊥) → in_hand d c ≡ false
not-in d c h = elim (both (in_hand d c)) [ inl e ↦ absurd (h e) | inr e ↦ e ]

module _ {l : Layout} {s : Contents} (legal : Legal l s) {cpu : ℕ} {slot : Option ℕ} {r : Changes} {first n : ℕ}
    {c : ℕ → Condition} (m : FramesMove l s legal.condition cpu slot r first n c) where
  -- the conditions after the move
  abbrev pub after : ℕ → Condition
  after = moved_to c first n legal.condition

  pub layout-after : IsOfLayout l after
  layout-after = record {
    inside = λ f. elim (both (is_within first n f)) [
      | inl w ↦ ap is_inside (moved-in c first n legal.condition f w) ∙ sym (m.inside f w)
      | inr w ↦ ap is_inside (moved-out c first n legal.condition f w) ∙ legal.of_layout.inside f
    ];
    good = λ f. moved-all (IsGood l) c first n legal.condition f (m.good f) (legal.of_layout.good f);
  }

  -- each frame is held for the Shared part as its condition says
  pub held-after : shared_need l.depth r s.shared ≤ length s.shared.free
      → (f : ℕ)
      → shared_uses l.depth (shared_after l.depth r s.shared) f ≡ one (in_shared (after f))
  held-after enough f =
      shared-conserved l.depth r s.shared f m.host_range m.hyp_range enough ∙ legal.held.shared f
      ∙ ap one (moved-fact in_shared c first n legal.condition f (m.same_use f))

  pub host-coarsest : shared_need l.depth r s.shared ≤ length s.shared.free
      → IsCoarsest l.depth (shared_after l.depth r s.shared).host
  unfolding shared_after
  host-coarsest enough =
      edit_keeps_coarsest l.depth s.shared.host (edit_of r.host) s.shared.free m.host_range legal.trees.host
      (omega arith)

  pub hyp-coarsest : shared_need l.depth r s.shared ≤ length s.shared.free
      → IsCoarsest l.depth (shared_after l.depth r s.shared).hyp
  unfolding shared_after
  hyp-coarsest enough =
      edit_keeps_coarsest l.depth s.shared.hyp (edit_of r.hyp)
      (drop (need l.depth s.shared.host (edit_of r.host)) s.shared.free) m.hyp_range legal.trees.hyp
      (let left = length-drop (need l.depth s.shared.host (edit_of r.host)) s.shared.free in omega arith)

  -- the rows of the memory frames, where those that are found again are of the new condition
  pub rows-after : (own : ℕ → Row)
      → ((f : ℕ) → is_memory l f ≡ true → is_within first n f ≡ true → own f ≡ row_in f (c f))
      → (f : ℕ)
      → is_memory l f ≡ true
      → elim (is_memory l f && is_touched r f) [ true ↦ own f | false ↦ s.shared.row f ] ≡ row_in f (after f)
  rows-after own found f mem =
      rows-moved l own s.shared.row (is_touched r f) c first n legal.condition f mem (m.touched f) (found f mem)
      (legal.rows f mem)

  -- the Shared part of a state with these conditions, and the CPU's hand alone, say of a frame of the range what its
  -- condition says
  pub shared-stands : (t : Contents)
      → MapsFit t after
      → HeldFit l t after
      → (f : ℕ)
      → is_within first n f ≡ true
      → SharedStands l t.shared f (c f)
  shared-stands t maps held f w =
      subst (SharedStands l t.shared f) (moved-in c first n legal.condition f w) (shared-of t after maps f l held)

  pub hand-stands : (f : ℕ)
      → is_within first n f ≡ true
      → HandsStand (put_at (λ d. no_cpu) cpu (cpu_by r.cpu (s.cpu cpu))) f (c f)
  hand-stands f w d =
      let k = cpu_by r.cpu (s.cpu cpu) in
      elim (both (d == cpu)) [
        | inl e ↦ ap (λ (j : Cpu). is_in_hand j.hand f) (if-true (d == cpu) k no_cpu e)
            ∙ ap (λ (j : Cpu). is_in_hand j.hand f) (sym (if-true (d == cpu) k (s.cpu d) e)) ∙ m.hand d f
            ∙ ap (in_hand d) (moved-in c first n legal.condition f w)
        | inr e ↦ ap (λ (j : Cpu). is_in_hand j.hand f) (if-false (d == cpu) k no_cpu e)
            ∙ sym
            (not-in d (c f)
            (λ h. let same = m.own_hand d f w h in
            let bad : true ≡ false = sym (ap (λ z. z == cpu) same ∙ eq-self cpu) ∙ e in
            cc))
      ]

  -- a legal state with these conditions is what the step leaves, where the rows that it finds again are of the new
  -- condition
  pub kept-after : (names : Names) (step : Step)
      → (k : Legal l
      (put_back names slot cpu s (with_rows l cpu slot step r (changed l.depth r (used_of names slot cpu s)))))
      → ((f : ℕ) → k.condition f ≡ after f)
      → ((f : ℕ)
      → is_memory l f ≡ true
      → is_within first n f ≡ true
      → own_row l cpu slot step (changed l.depth r (used_of names slot cpu s)) f ≡ row_in f (c f))
      → StepKept l s legal.condition names slot cpu step r
  kept-after names step k same own = record {
    legal = k;
    told = λ f mem h. let w = sym (m.touched f) ∙ h in own f mem w ∙ m.told f w;
    moved =
        λ f. same f
        ∙ moved-told l c (touched_condition cpu slot r f) first n legal.condition f (is_touched r f) (m.touched f)
        (m.inside f) (legal.of_layout.inside f) (m.goes f);
    whole = λ f h.
        let here = sym (m.touched f) ∙ h in
        let there = sym (m.touched (first_of (touched r))) ∙ first-touched (touched r) f h in
        m.inside f here ∙ m.alike f (first_of (touched r)) here there ∙ sym (m.inside (first_of (touched r)) there);
  }
