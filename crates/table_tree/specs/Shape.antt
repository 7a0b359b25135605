-- The tables that trees are made of.
use Rattle.std.specs.Prelude.{◌≡◌, ℕ, zero, suc, ◌^◌, ◌<◌, length}
use Rattle.std.specs.Coded.{×_prop, Unit-prop, le_prop, Π_prop}
use Rattle.std.proofs.Math.Nat.{ℕ_set}
use Rattle.descriptor.specs.Word.{desc_of}
use Rattle.page_state.specs.declared.entry.Entry.{Entry}
use Rattle.page_state.specs.declared.entry.Entry.TheVariants.{Unmapped, Malformed, Annotated, Leaf}
use Rattle.page_state.specs.Entries.{entry_of_word}
use Rattle.table_tree.specs.declared.table.Table.{Table}
use Rattle.table_tree.specs.declared.table.Slot.{Slot, out-Slot}
use Rattle.table_tree.specs.declared.table.Slot.TheOpen.{Word, Child}
use Rattle.table_tree.specs.declared.table.Slot.TheVariants.{Word as word_slot}
use Rattle.table_tree.specs.Meaning.{level_at, slot_at, slots_of}

-- a table has 512 slots
abbrev pub IsWide : {A : Type 0} → Table A → Type 0
IsWide t = length (slots_of t) ≡ 512

-- a slot holds a word
abbrev pub HoldsWord : {A : Type 0} → Slot A → Type 0
HoldsWord s = (w : ℕ) × (s ≡ word_slot w)

-- all words are 0
abbrev pub IsBlank : {A : Type 0} → Table A → Type 0
IsBlank t = (i : ℕ) → i < 512 → slot_at t i ≡ word_slot 0

-- an entry that a word gives its pages
abbrev pub IsWellFormed : Entry → Type 0
IsWellFormed Malformed = ⊥
IsWellFormed Unmapped = Unit {0}
IsWellFormed (Annotated owner) = Unit {0}
IsWellFormed (Leaf frame prot kind state) = Unit {0}

-- the frame of a leaf is one that a word can hold
abbrev pub HasSmallFrame : Entry → Type 0
HasSmallFrame (Leaf frame prot kind state) = frame.0 < 2 ^ 36
HasSmallFrame other = Unit {0}

-- a word that gives its pages an entry: neither malformed nor a table word
abbrev pub IsEntryWord : ℕ → ℕ → Type 0
IsEntryWord depth word =
    (word < 2 ^ 64) × IsWellFormed (entry_of_word (desc_of (level_at depth) word))

-- the condition on a slot
abbrev pub MeetsSlot : {A : Type 0} → (ℕ → Type 0) → (Table A → Type 0) → Slot A → Type 0
MeetsSlot {A} here below s = elim (out-Slot A s) [ Word w ↦ here w | Child b ↦ below b.value ]

-- a table of a tree: 512 slots, words that give entries, and children only above the last level
unfoldable pub IsShaped : {A : Type 0} → ℕ → Table A → Type 0
IsShaped zero t =
    IsWide t × ((i : ℕ) → i < 512 → MeetsSlot (IsEntryWord zero) (λ _. ⊥) (slot_at t i))
IsShaped (suc depth) t =
    IsWide t
    × ((i : ℕ)
    → i < 512
    → MeetsSlot (IsEntryWord (suc depth)) (λ c. IsShaped depth c) (slot_at t i))

pub MeetsSlot-prop : {A : Type 0} (here : ℕ → Type 0) (below : Table A → Type 0)
    → ((w : ℕ) → IsProp (here w))
    → ((t : Table A) → IsProp (below t))
    → (s : Slot A)
    → IsProp (MeetsSlot here below s)
MeetsSlot-prop {A} here below p q s =
    elim (out-Slot A s) as (λ o. IsProp (elim o [ Word w ↦ here w | Child b ↦ below b.value ]))
    [ Word w ↦ p w | Child b ↦ q b.value ]

IsWellFormed-prop : (x : Entry) → IsProp (IsWellFormed x)
IsWellFormed-prop Malformed = λ a. absurd a
IsWellFormed-prop Unmapped = Unit-prop
IsWellFormed-prop (Annotated owner) = Unit-prop
IsWellFormed-prop (Leaf frame prot kind state) = Unit-prop

IsEntryWord-prop : (n w : ℕ) → IsProp (IsEntryWord n w)
IsEntryWord-prop n w = ×_prop le_prop (IsWellFormed-prop (entry_of_word (desc_of (level_at n) w)))

pub IsShaped-prop : {A : Type 0} (n : ℕ) (t : Table A) → IsProp (IsShaped n t)
unfolding IsShaped
IsShaped-prop zero t =
    ×_prop (ℕ_set _ _)
    (Π_prop
    (λ i. Π_prop
    (λ _. MeetsSlot-prop (IsEntryWord zero) (λ _. ⊥) (IsEntryWord-prop zero)
    (λ _ a. absurd a) (slot_at t i))))
IsShaped-prop (suc n) t =
    ×_prop (ℕ_set _ _)
    (Π_prop
    (λ i. Π_prop
    (λ _. MeetsSlot-prop (IsEntryWord (suc n)) (λ c. IsShaped n c)
    (IsEntryWord-prop (suc n)) (λ c. IsShaped-prop n c) (slot_at t i))))
