-- Pieces that are a permutation of all that is held are all that is held.
use Rattle.std.proofs.Common.{◌≡◌, ℕ, zero, suc, ◌<◌, ◌≤◌, Bool, true, List, [], ◌∷◌, map, length, get_or, Some, refl, sym, ap, ◌∙◌, inl, inr, arith}
use Rattle.std.specs.Prelude.{◌⊎◌, ◌&&◌, IsPermutation}
use Rattle.std.proofs.lemmas.List.Sorted.{sum_by-IsPermutation}
use Rattle.page_state.specs.Regions.{is_in_range}
use Rattle.descriptor.specs.declared.State.{State}
use Rattle.descriptor.specs.declared.State.TheVariants.{Owned, SharedOwned, SharedBorrowed}
use Rattle.page_state.specs.declared.entry.Entry.TheVariants.{Unmapped}
use Rattle.page_state.specs.EntryTests.{leaf}
use Rattle.page_state.specs.LayoutView.{layout_of}
use Rattle.page_state.specs.Geometries.{pages_below}
use Rattle.page_state.specs.Layouts.{Layout}
use Rattle.page_state.proofs.Cases.{by_lt}
use Rattle.page_state.proofs.Common.{eq-self}
use Rattle.reference_model.specs.help.Conditions.{Condition, hyps, guest_condition, in_shared, in_vm, in_hand, one, guest_uses, IsGood, IsMemoryLeaf}
use Rattle.reference_model.specs.model.Owner.{is_in_hand}
use Rattle.reference_model.specs.model.State.{Guest as GuestOf, Cpu, no_guest, no_cpu}
use Rattle.ghost_spec.specs.declared.cpu.GhostCpu.{GhostCpu}
use Rattle.ghost_spec.specs.declared.lists.GhostLists.{GhostLists}
use Rattle.ghost_spec.specs.declared.parts.GhostGuest.{GhostGuest}
use Rattle.ghost_spec.specs.States.{contents_in, guest_in}
use Rattle.ghost_spec.specs.Views.{cpu_in}
use Rattle.ghost_legal.specs.declared.finding.Holder.{Holder}
use Rattle.ghost_legal.specs.declared.finding.Holder.TheVariants.{SharedPool, VmPool, Table, Hand, Guest}
use Rattle.ghost_legal.specs.declared.held.Held.{Held}
use Rattle.ghost_legal.specs.AllHeld.{held_count, AreAllHeld, AreCounted, GuestPagesFit, IsGuestPage}
use Rattle.ghost_legal.specs.Blocks.{TreesHaveOwnBlocks}
use Rattle.ghost_legal.specs.Facts.{held_in, table_use}
use Rattle.ghost_legal.specs.Frames.{held_at, held_frames, holder_on}
use Rattle.ghost_legal.specs.Laws.{GuestsAreHeld, HasCounts}
use Rattle.ghost_legal.specs.Listed.{all_held_in}
use Rattle.ghost_legal.specs.Pages.{HaveGoodRuns}
use Rattle.ghost_legal.specs.Ranges.{AreInOrder}
use Rattle.ghost_legal.proofs.AllCounts.{all-hand, all-shared, all-vm, no-uses}
use Rattle.ghost_legal.proofs.GuestPieces.{held-leaf, leaf-held}
use Rattle.ghost_legal.proofs.Counted.{counted, found-held, passes}

pub all-counted : HasCounts
all-counted g hs own p = record {
  shared =
      λ f. all-shared g own f
      ∙ sym
      (sum_by-IsPermutation (λ h. one (is_in_range h.frames f && in_shared (held_in (holder_on h f))))
      (all_held_in g) hs p);
  vm =
      λ v f. all-vm g own f v
      ∙ sym
      (sum_by-IsPermutation (λ h. one (is_in_range h.frames f && in_vm v (held_in (holder_on h f))))
      (all_held_in g) hs p);
  hand =
      λ k f. all-hand g own f k
      ∙ sym
      (sum_by-IsPermutation (λ h. one (is_in_range h.frames f && in_hand k (held_in (holder_on h f))))
      (all_held_in g) hs p);
}

pub all-guests : GuestsAreHeld
all-guests g hs n o v p f s = (leaf-held v p f s g hs o, held-leaf v p f s g hs o n)

past-guest : (gs : List GhostGuest) (v : ℕ) → length gs ≤ v → get_or (map guest_in gs) v no_guest ≡ no_guest
past-guest [] v h = refl
past-guest (x ∷ gs) zero h = absurd (omega (arith, h))
past-guest (x ∷ gs) (suc v) h = past-guest gs v (omega (arith, h))

past-cpu : (ks : List GhostCpu) (c : ℕ) → length ks ≤ c → get_or (map cpu_in ks) c no_cpu ≡ no_cpu
past-cpu [] c h = refl
past-cpu (x ∷ ks) zero h = absurd (omega (arith, h))
past-cpu (x ∷ ks) (suc c) h = past-cpu ks c (omega (arith, h))

module _ (g : GhostLists) (hs : List Held) (o : AreInOrder held_frames hs) (guests : length g.guests.items ≡ 64)
    (cpus : length g.cpus.items ≡ g.layout.config.cpus)
    (own : TreesHaveOwnBlocks (layout_of g.layout).depth g) (runs : HaveGoodRuns g.guests.items)
    (pages : GuestPagesFit (layout_of g.layout) (contents_in g)) (p : IsPermutation (all_held_in g) hs) where
  abbrev l : Layout
  l = layout_of g.layout

  abbrev a : AreCounted g hs
  a = all-counted g hs own p

  once : (test : Condition → Bool) (f : ℕ) (h : Holder)
      → held_at hs f ≡ Some h
      → test (held_in h) ≡ true
      → held_count (λ h. test (held_in h)) f hs ≡ 1
  once test f h e t =
      counted (λ h. test (held_in h)) f hs o ∙ ap (λ x. one (passes (λ h. test (held_in h)) x)) e ∙ ap one t

  vm-low : (v f : ℕ) → guest_uses l.depth ((contents_in g).guest v) f ≡ 1 → v < 64
  vm-low v f e = by_lt v 64 (λ x. x) (λ x.
      let none : guest_uses l.depth ((contents_in g).guest v) f ≡ 0 =
      ap (λ (y : GuestOf). guest_uses l.depth y f) (past-guest g.guests.items v (omega (arith, x, guests)))
      ∙ no-uses l.depth f v in
      absurd (omega (arith, e, none)))

  hand-low : (c f : ℕ) → one (is_in_hand ((contents_in g).cpu c).hand f) ≡ 1 → c < l.config.cpus
  hand-low c f e = by_lt c l.config.cpus (λ x. x) (λ x.
      let none : one (is_in_hand ((contents_in g).cpu c).hand f) ≡ 0 =
      ap (λ (y : Cpu). one (is_in_hand y.hand f)) (past-cpu g.cpus.items c (omega (arith, x, cpus))) in
      absurd (omega (arith, e, none)))

  table-good : (f u : ℕ) (h : Holder)
      → held_in h ≡ hyps (table_use u)
      → held_at hs f ≡ Some h
      → IsGood l (hyps (table_use u))
  table-good f zero h i e = tt
  table-good f (suc zero) h i e = tt
  table-good f (suc (suc v)) h i e = vm-low v f (a.vm v f ∙ once (in_vm v) f h e (ap (in_vm v) i ∙ eq-self v))

  guest-good : (v q : ℕ) (s : State) → (v < 64) × (q < pages_below l.depth) → IsGood l (guest_condition s v q)
  guest-good v q Owned h = h
  guest-good v q SharedOwned h = h
  guest-good v q SharedBorrowed h = h

  good-by : (f : ℕ) (h : Holder) → held_at hs f ≡ Some h → IsGood l (held_in h)
  good-by f SharedPool e = tt
  good-by f (VmPool v) e = vm-low v f (a.vm v f ∙ once (in_vm v) f (VmPool v) e (eq-self v))
  good-by f (Table at) e = table-good f at.tree (Table at) refl e
  good-by f (Hand c) e = hand-low c f (a.hand c f ∙ once (in_hand c) f (Hand c) e (eq-self c))
  good-by f (Guest v q s) e = guest-good v q s (low (pages v q))
    where
      mapped : IsMemoryLeaf f s (((contents_in g).guest v).tree.map q)
      mapped = (all-guests g hs runs p v q f s).1 (found-held hs (Guest v q s) f e)

      low : (((contents_in g).guest v).tree.map q ≡ Unmapped) ⊎ IsGuestPage l v q (((contents_in g).guest v).tree.map q)
          → (v < 64) × (q < pages_below l.depth)
      low (inl u) = let bad : leaf mapped.0 f s ≡ Unmapped = sym mapped.1 ∙ u in absurd (cc)
      low (inr k) = (k.slot, k.below)

  pub all-held : AreAllHeld g hs
  all-held = record { counted = a; guest = λ v q f s. all-guests g hs runs p v q f s; good = good-by }
