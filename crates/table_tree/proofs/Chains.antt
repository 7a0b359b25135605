use Rattle.std.proofs.Common.{◌≡◌, ℕ, suc, ◌<◌, ◌≤◌, ◌≢◌, List, [], ◌∷◌, All, Option, Some, None, MatchOption, refl, sym, ap, arith, ◌∙◌}
use Rattle.std.proofs.Math.ListN.{set}
use Rattle.std.specs.declared.boxed.Box.{Box}
use Rattle.page_state.proofs.Cases.{by_eq}
use Rattle.table_tree.specs.declared.table.Table.{Table}
use Rattle.table_tree.specs.declared.table.Slot.{Slot}
use Rattle.table_tree.specs.declared.table.Slot.TheVariants.{Word, Child}
use Rattle.table_tree.specs.declared.chain.Chain.{Chain}
use Rattle.table_tree.specs.Meaning.{slot_at, slots_of, frame_of}
use Rattle.table_tree.specs.Shape.{IsWide, IsBlank}
use Rattle.table_tree.specs.Chain.{IsZero, IsLink, IsChain, Chained-prop}
use Rattle.table_tree.specs.Links.{links_of}
use Rattle.table_tree.proofs.Slots.{by_slot, word_meets, meets_word, meets_child, child_meets, set_here, set_others, set_wide}

-- where no table of a chain has a frame, none behind the first has
pub rest_frameless : {X : Type 0} (o : Option X) (of : X → ℕ) (xs ys : List ℕ)
    → MatchOption o (xs ≡ []) (λ b. xs ≡ of b ∷ ys)
    → MatchOption o (ys ≡ []) (λ b. Unit {0})
    → All (λ f. f ≡ 0) xs
    → All (λ f. f ≡ 0) ys
rest_frameless None of xs ys a n h = rw n (λ k d p. absurd (omega (arith, p)))
rest_frameless (Some b) of xs ys a n h = λ k d p. (rw a at h) (suc k) d (omega (arith, p))

module _ {A : Type 0} where
  zero_made : (s : Slot A) → s ≡ Word 0 → IsZero s
  zero_made s e = rw e (word_meets (λ w. w ≡ 0) (λ _. ⊥) 0 refl)

  zero_is : (s : Slot A) → IsZero s → s ≡ Word 0
  zero_is s h =
      by_slot s (λ w e. e ∙ ap Word (meets_word (λ w. w ≡ 0) (λ _. ⊥) w (rw e at h)))
      (λ b e. absurd (meets_child (λ w. w ≡ 0) (λ _. ⊥) b (rw e at h)))

  pub chain_nil : (s : Slot A) → s ≡ Word 0 → IsChain [] s
  unfolding IsChain
  chain_nil s e = zero_made s e

  pub chain_word : (fs : List ℕ) (s : Slot A) (w : ℕ) → IsChain fs s → s ≡ Word w → fs ≡ []
  unfolding IsChain
  chain_word [] s w h e = refl
  chain_word (f ∷ fs) s w h e = absurd (meets_word (λ _. ⊥) (λ t. IsLink f t × IsChain fs (slot_at t 0)) w (rw e at h))

  -- what a chain that begins with a table is
  pub chain_child : (fs : List ℕ) (s : Slot A) (b : Box (Table A) A)
      → IsChain fs s
      → s ≡ Child b
      → (gs : List ℕ)
      × (fs ≡ frame_of b.value ∷ gs)
      × IsLink (frame_of b.value) b.value
      × IsChain gs (slot_at b.value 0)
  unfolding IsChain
  chain_child [] s b h e = absurd (meets_child (λ w. w ≡ 0) (λ _. ⊥) b (rw e at h))
  chain_child (f ∷ fs) s b h e =
      let x = meets_child (λ _. ⊥) (λ t. IsLink f t × IsChain fs (slot_at t 0)) b (rw e at h) in
      let l : IsLink (frame_of b.value) b.value = (refl, x.0.1) in
      (fs, ap (λ g. g ∷ fs) (sym x.0.0), l, x.1)

  pub chain_cons : (gs : List ℕ) (b : Box (Table A) A) (s : Slot A)
      → s ≡ Child b
      → IsWide b.value
      → ((i : ℕ) → 1 ≤ i → i < 512 → slot_at b.value i ≡ Word 0)
      → IsChain gs (slot_at b.value 0)
      → IsChain (frame_of b.value ∷ gs) s
  unfolding IsChain
  chain_cons gs b s e w z h =
      rw e
      (child_meets (λ _. ⊥) (λ t. IsLink (frame_of b.value) t × IsChain gs (slot_at t 0)) b
      ((refl, (w, λ i p q. zero_made (slot_at b.value i) (z i p q))), h))

  -- a table of zeros before a chain
  pub chain_push : (gs : List ℕ) (t u : Table A) (s : Slot A)
      → slots_of u ≡ set (slots_of t) 0 s
      → IsWide t
      → IsBlank t
      → IsChain gs s
      → ((i : ℕ) → 1 ≤ i → i < 512 → slot_at u i ≡ Word 0) × IsChain gs (slot_at u 0)
  chain_push gs t u s e w h k = (
    λ i p q. let ne : i ≢ 0 = omega arith in set_others t u 0 i s e ne ∙ h i q,
    rw (set_here t u 0 0 s e (omega arith) w refl) k,
  )

  -- a table of a chain, with the next taken out
  pub link_blank : (f : ℕ) (t u : Table A) → IsLink f t → slots_of u ≡ set (slots_of t) 0 (Word 0) → IsBlank u
  link_blank f t u h e i p =
      by_eq i 0 (λ z. set_here t u 0 i (Word 0) e (omega arith) h.1.0 z)
      (λ z. set_others t u 0 i (Word 0) e z ∙ zero_is (slot_at t i) (h.1.1 i (omega arith) p))

  pub link_wide : (f : ℕ) (t u : Table A) → IsLink f t → slots_of u ≡ set (slots_of t) 0 (Word 0) → IsWide u
  link_wide f t u h e = set_wide t u 0 (Word 0) e h.1.0

  pub link_is_wide : (f : ℕ) (t : Table A) → IsLink f t → IsWide t
  link_is_wide f t h = h.1.0

  -- a chain's frames are those of any chain that it is
  pub frames_is : (s : Chain A) (fs : List ℕ) → IsChain fs s.first → links_of s ≡ fs
  unfolding links_of
  frames_is s fs h = ap (λ x. x.0) (Chained-prop s.first s.chained (fs, h))

  pub frames_chain : (s : Chain A) → IsChain (links_of s) s.first
  unfolding links_of
  frames_chain s = s.chained.1

  -- the first table of a chain
  pub chain_first : (s : Chain A) (t : Table A) (b : Box (Table A) A)
      → t ≡ b.value
      → Child b ≡ s.first
      → (gs : List ℕ) × (links_of s ≡ frame_of t ∷ gs) × IsLink (frame_of t) t × IsChain gs (slot_at t 0)
  chain_first s t b e k = rw e (chain_child (links_of s) s.first b (frames_chain s) (sym k))

  -- a chain with one more table
  pub chain_pushed : (s : Chain A) (t u : Table A) (b c : Box (Table A) A) (r : Slot A)
      → t ≡ b.value
      → c.value ≡ u
      → r ≡ s.first
      → slots_of u ≡ set (slots_of t) 0 r
      → frame_of u ≡ frame_of t
      → IsWide b.value → IsBlank b.value → IsChain (frame_of b.value ∷ links_of s) (Child c)
  chain_pushed s t u b c r e k x y f wide blank =
      let wide' : IsWide t = rw e wide in
      let blank' : IsBlank t = rw e blank in
      let h = chain_push (links_of s) t u r y wide' blank' (rw x (frames_chain s)) in
      let same : frame_of c.value ≡ frame_of b.value = ap (λ a. frame_of a) k ∙ f ∙ ap (λ a. frame_of a) e in
      rw (sym same) (chain_cons (links_of s) c (Child c) refl (rw k (set_wide t u 0 r y wide')) (rw k h.0) (rw k h.1))
