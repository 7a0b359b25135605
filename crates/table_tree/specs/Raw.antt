-- Raw trees: any words, and the effect of a poke.
use Rattle.std.specs.Prelude.{◌≡◌, ℕ, zero, suc, ◌/◌, ◌<◌, List, ◌∷◌, ◌++◌, Option, Some, None}
use Rattle.std.specs.Coded.{×_prop, Unit-prop, Π_prop}
use Rattle.std.proofs.Math.Nat.{ℕ_set}
use Rattle.page_state.specs.Blocks.{span}
use Rattle.page_state.specs.Map.{Map}
use Rattle.page_state.specs.Trees.{Block}
use Rattle.table_tree.specs.declared.table.Table.{Table}
use Rattle.table_tree.specs.Meaning.{slot_at, word_entry}
use Rattle.table_tree.specs.Shape.{IsWide, MeetsSlot, MeetsSlot-prop}

-- a table of a raw tree: 512 slots, words of any kind, and children only above the last level
unfoldable pub IsRaw : {A : Type 0} → ℕ → Table A → Type 0
IsRaw zero t = IsWide t × ((i : ℕ) → i < 512 → MeetsSlot (λ _. Unit {0}) (λ _. ⊥) (slot_at t i))
IsRaw (suc depth) t =
    IsWide t × ((i : ℕ) → i < 512 → MeetsSlot (λ _. Unit {0}) (λ c. IsRaw depth c) (slot_at t i))

pub IsRaw-prop : {A : Type 0} (n : ℕ) (t : Table A) → IsProp (IsRaw n t)
unfolding IsRaw
IsRaw-prop zero t =
    ×_prop (ℕ_set _ _)
    (Π_prop
    (λ i. Π_prop
    (λ _. MeetsSlot-prop (λ _. Unit {0}) (λ _. ⊥) (λ _. Unit-prop) (λ _ a. absurd a)
    (slot_at t i))))
IsRaw-prop (suc n) t =
    ×_prop (ℕ_set _ _)
    (Π_prop
    (λ i. Π_prop
    (λ _. MeetsSlot-prop (λ _. Unit {0}) (λ c. IsRaw n c) (λ _. Unit-prop)
    (λ c. IsRaw-prop n c) (slot_at t i))))

-- a path begins with another: it leads there, and maybe on
abbrev pub BeginsWith : List ℕ → List ℕ → Type 0
BeginsWith path q = (rest : List ℕ) × (q ≡ path ++ rest)

-- the words at all paths, after the word at one path was poked. If that word was there before, all
-- stay. Any other word removes the child below it: no path goes on through it
pub record IsPoked (before after : List ℕ → Option ℕ) (path : List ℕ) (word : ℕ) : Type 0 where
  pub there : after path ≡ Some word
  pub elsewhere : (q : List ℕ) → (BeginsWith path q → ⊥) → after q ≡ before q
  pub same : before path ≡ Some word → (q : List ℕ) → after q ≡ before q
  pub behind : (before path ≡ Some word → ⊥)
      → (i : ℕ) (rest : List ℕ)
      → after (path ++ i ∷ rest) ≡ None

-- a page is one of a block
abbrev pub IsInBlock : Block → ℕ → Type 0
IsInBlock b page = page / span b ≡ b.1

-- the map after a poke of a block's word: pages outside of the block keep their entry, and if the
-- word is the same, all pages do; under another word each page of the block has the entry that the
-- word gives it, so a table word makes the whole block malformed
pub record IsPokedMap (b : Block) (words : List ℕ → Option ℕ) (before after : Map) (path : List ℕ)
    (word : ℕ) : Type 0 where
  pub outside : (page : ℕ) → (IsInBlock b page → ⊥) → after page ≡ before page
  pub same : words path ≡ Some word → (page : ℕ) → after page ≡ before page
  pub within : (words path ≡ Some word → ⊥)
      → (page : ℕ)
      → IsInBlock b page
      → after page ≡ word_entry b.0 page word
