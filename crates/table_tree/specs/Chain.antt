-- Tables of zeros in a chain, each but the first in slot 0 of the one before it.
use Rattle.std.specs.Prelude.{◌≡◌, ℕ, ◌<◌, ◌≤◌, List, [], ◌∷◌, refl}
use Rattle.std.specs.Coded.{×_prop, Π_prop}
use Rattle.std.proofs.Math.Nat.{ℕ_set}
use Rattle.std.proofs.Common.{ap, sym, ◌∙◌}
use mathlib.Core.HLevel.{is_prop→PathP}
use Rattle.table_tree.specs.declared.table.Table.{Table}
use Rattle.table_tree.specs.declared.table.Slot.{Slot, out-Slot}
use Rattle.table_tree.specs.declared.table.Slot.TheOpen.{Word, Child}
use Rattle.table_tree.specs.Meaning.{slot_at, frame_of}
use Rattle.table_tree.specs.Shape.{IsWide, MeetsSlot, MeetsSlot-prop}

-- a slot holds the word 0
abbrev pub IsZero : {A : Type 0} → Slot A → Type 0
IsZero s = MeetsSlot (λ w. w ≡ 0) (λ _. ⊥) s

-- a table of the chain: only slot 0 may hold another
abbrev pub IsLink : {A : Type 0} → ℕ → Table A → Type 0
IsLink frame t =
    (frame_of t ≡ frame) × (IsWide t × ((i : ℕ) → 1 ≤ i → i < 512 → IsZero (slot_at t i)))

-- the chain of the tables with these frames
unfoldable pub IsChain : {A : Type 0} → List ℕ → Slot A → Type 0
IsChain [] s = IsZero s
IsChain (f ∷ fs) s = MeetsSlot (λ _. ⊥) (λ t. IsLink f t × IsChain fs (slot_at t 0)) s

IsZero-prop : {A : Type 0} (s : Slot A) → IsProp (IsZero s)
IsZero-prop s = MeetsSlot-prop (λ w. w ≡ 0) (λ _. ⊥) (λ w. ℕ_set _ _) (λ _ a. absurd a) s

IsChain-prop : {A : Type 0} (fs : List ℕ) (s : Slot A) → IsProp (IsChain fs s)
unfolding IsChain
IsChain-prop [] s = IsZero-prop s
IsChain-prop (f ∷ fs) s =
    MeetsSlot-prop (λ _. ⊥) (λ t. IsLink f t × IsChain fs (slot_at t 0)) (λ _ a. absurd a)
    (λ t. ×_prop
    (×_prop (ℕ_set _ _)
    (×_prop (ℕ_set _ _)
    (Π_prop (λ i. Π_prop (λ _. Π_prop (λ _. IsZero-prop (slot_at t i)))))))
    (IsChain-prop fs (slot_at t 0))) s

chain_ends : {A : Type 0} (P : Table A → Type 0) (s : Slot A)
    → IsZero s
    → MeetsSlot (λ _. ⊥) P s
    → ⊥
chain_ends {A} P s =
    elim
    (out-Slot A s) as (λ o. elim o [ Word w ↦ w ≡ 0 | Child b ↦ ⊥ ]
    → elim o [ Word w ↦ ⊥ | Child b ↦ P b.value ]
    → ⊥)
    [ Word w ↦ λ a b. b | Child b ↦ λ a c. a ]

chain_both : {A X : Type 0} (P Q : Table A → Type 0)
    → ((t : Table A) → P t → Q t → X)
    → (s : Slot A)
    → MeetsSlot (λ _. ⊥) P s
    → MeetsSlot (λ _. ⊥) Q s
    → X
chain_both {A} {X} P Q h s =
    elim
    (out-Slot A s) as (λ o. elim o [ Word w ↦ ⊥ | Child b ↦ P b.value ]
    → elim o [ Word w ↦ ⊥ | Child b ↦ Q b.value ]
    → X)
    [ Word w ↦ λ a b. absurd a | Child b ↦ h b.value ]

same_chain : {A : Type 0} (fs gs : List ℕ) (s : Slot A) → IsChain fs s → IsChain gs s → fs ≡ gs
unfolding IsChain
same_chain [] [] s a b = refl
same_chain {A} [] (g ∷ gs) s a b =
    absurd (chain_ends (λ t. IsLink g t × IsChain gs (slot_at t 0)) s a b)
same_chain {A} (f ∷ fs) [] s a b =
    absurd (chain_ends (λ t. IsLink f t × IsChain fs (slot_at t 0)) s b a)
same_chain {A} (f ∷ fs) (g ∷ gs) s a b =
    chain_both (λ t. IsLink f t × IsChain fs (slot_at t 0))
    (λ t. IsLink g t × IsChain gs (slot_at t 0))
    (λ t x y. ap (λ h. h ∷ fs) (sym x.0.0 ∙ y.0.0)
    ∙ ap (λ hs. g ∷ hs) (same_chain fs gs (slot_at t 0) x.1 y.1)) s a b

-- a slot is the beginning of one chain at most
pub Chained-prop : {A : Type 0} (s : Slot A) → IsProp ((fs : List ℕ) × IsChain fs s)
Chained-prop s x y = let p = same_chain x.0 y.0 s x.1 y.1 in
    λ i. (p i, is_prop→PathP (λ j. IsChain (p j) s) (λ j. IsChain-prop (p j) s) x.1 y.1 i)
