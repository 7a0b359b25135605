-- Leaves that count, in the words of the states.
use Rattle.std.proofs.Common.{◌≡◌, ℕ, true, refl, ap, inl, inr}
use Rattle.std.specs.Prelude.{◌⊎◌}
use Rattle.descriptor.specs.declared.State.{State}
use Rattle.descriptor.specs.declared.State.TheVariants.{Owned, SharedOwned, SharedBorrowed}
use Rattle.page_state.specs.declared.entry.Entry.{Entry}
use Rattle.page_state.specs.declared.entry.Entry.TheVariants.{Unmapped, Malformed, Annotated, Leaf}
use Rattle.reference_model.specs.claims.Sound.{IsLeafOf}
use Rattle.ghost_sound.specs.declared.leaves.Side.TheVariants.{Owns, Borrows, Shares}
use Rattle.ghost_sound.specs.inner.Leaves.{counts, HasLeaf}

borrowed : (s : State) → counts Borrows s ≡ true → s ≡ SharedBorrowed
borrowed Owned h = cc
borrowed SharedOwned h = cc
borrowed SharedBorrowed h = refl

shared : (s : State) → counts Shares s ≡ true → s ≡ SharedOwned
shared Owned h = cc
shared SharedOwned h = refl
shared SharedBorrowed h = cc

owned : (s : State) → counts Owns s ≡ true → (s ≡ Owned) ⊎ (s ≡ SharedOwned)
owned Owned h = inl refl
owned SharedOwned h = inr refl
owned SharedBorrowed h = cc

module _ (f : ℕ) where
  pub borrows-from : (e : Entry) → IsLeafOf f SharedBorrowed e → HasLeaf Borrows f e
  borrows-from Unmapped h = h
  borrows-from Malformed h = h
  borrows-from (Annotated o) h = h
  borrows-from (Leaf frame prot kind state) h = (h.0, ap (counts Borrows) h.1)

  pub borrows-to : (e : Entry) → HasLeaf Borrows f e → IsLeafOf f SharedBorrowed e
  borrows-to Unmapped h = h
  borrows-to Malformed h = h
  borrows-to (Annotated o) h = h
  borrows-to (Leaf frame prot kind state) h = (h.0, borrowed state h.1)

  pub shares-from : (e : Entry) → IsLeafOf f SharedOwned e → HasLeaf Shares f e
  shares-from Unmapped h = h
  shares-from Malformed h = h
  shares-from (Annotated o) h = h
  shares-from (Leaf frame prot kind state) h = (h.0, ap (counts Shares) h.1)

  pub shares-to : (e : Entry) → HasLeaf Shares f e → IsLeafOf f SharedOwned e
  shares-to Unmapped h = h
  shares-to Malformed h = h
  shares-to (Annotated o) h = h
  shares-to (Leaf frame prot kind state) h = (h.0, shared state h.1)

  owns : (e : Entry) (s : State) → counts Owns s ≡ true → IsLeafOf f s e → HasLeaf Owns f e
  owns Unmapped s t h = h
  owns Malformed s t h = h
  owns (Annotated o) s t h = h
  owns (Leaf frame prot kind state) s t h = (h.0, rw h.1 t)

  pub owns-from : (e : Entry) → IsLeafOf f Owned e ⊎ IsLeafOf f SharedOwned e → HasLeaf Owns f e
  owns-from e (inl h) = owns e Owned refl h
  owns-from e (inr h) = owns e SharedOwned refl h

  pub owns-to : (e : Entry) → HasLeaf Owns f e → IsLeafOf f Owned e ⊎ IsLeafOf f SharedOwned e
  owns-to Unmapped h = absurd h
  owns-to Malformed h = absurd h
  owns-to (Annotated o) h = absurd h
  owns-to (Leaf frame prot kind state) h = elim (owned state h.1) [ inl e ↦ inl (h.0, e) | inr e ↦ inr (h.0, e) ]
