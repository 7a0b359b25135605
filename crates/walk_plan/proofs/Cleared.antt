-- Lists of blocks that lose their table, and searches on blocks.
use Rattle.std.proofs.Common.{◌≡◌, ℕ, ap, refl, subst, ◌∙◌, inl, inr, ◌⊎◌, Bool, true, false, is_some, Option, Some, None, List, [], ◌∷◌, filter, All, Contains}
use Rattle.std.proofs.lemmas.List.Elements.{All-nil, All-cons, All-head, All-tail, All-weaker, All-contains, All-contains_itself, filter_passes}
use Rattle.page_state.specs.Map.{Map}
use Rattle.page_state.specs.Trees.{Block}
use Rattle.page_state.specs.Blocks.{block_eq, is_one_word}
use Rattle.page_state.specs.Tables.{cleared}
use Rattle.page_state.proofs.Cases.{by_test}
use Rattle.page_state.proofs.BlockTests.{block_eq-same}
use Rattle.walk_plan.proofs.Places.{block_self, block_other}

-- a block loses its table: it has one, and a word can say it in the map `n`
abbrev pub is_freed : (Block → Option ℕ) → Map → Block → Bool
is_freed ts n b = elim (is_some (ts b)) [ true ↦ is_one_word n b | false ↦ false ]

pub bare_not : (ts : Block → Option ℕ) (n : Map) (b : Block) → ts b ≡ None → is_freed ts n b ≡ false
bare_not ts n b h = ap (λ (o : Option ℕ). elim (is_some o) [ true ↦ is_one_word n b | false ↦ false ]) h

pub said_freed : (ts : Block → Option ℕ) (n : Map) (b : Block) (f : ℕ)
    → ts b ≡ Some f
    → is_one_word n b ≡ true
    → is_freed ts n b ≡ true
said_freed ts n b f h k = ap (λ (o : Option ℕ). elim (is_some o) [ true ↦ is_one_word n b | false ↦ false ]) h ∙ k

pub full_not : (ts : Block → Option ℕ) (n : Map) (b : Block) → is_one_word n b ≡ false → is_freed ts n b ≡ false
full_not ts n b h = by_test (is_some (ts b)) (λ e. rw (e, h, is_freed) refl) (λ e. rw (e, is_freed) refl)

abbrev pub IsAbsent : Block → List Block → Type 0
IsAbsent b bs = All (λ a. block_eq a b ≡ false) bs

pub absent : (b : Block) (bs : List Block) → (Contains bs b → ⊥) → IsAbsent b bs
absent b bs h =
    All-weaker (Contains bs) (λ a. block_eq a b ≡ false)
    (λ a k. block_other a b (λ e. h (subst (λ z. Contains bs z) e k))) bs (All-contains_itself bs)

present : (b : Block) (bs : List Block) → Contains bs b → IsAbsent b bs → ⊥
present b bs h k = let x : block_eq b b ≡ false = All-contains (λ a. block_eq a b ≡ false) bs b k h in
    let y = block_self b b refl in
    cc

pub cleared_absent : (bs : List Block) (old : Block → Option ℕ) (b : Block) → IsAbsent b bs → cleared bs old b ≡ old b
cleared_absent [] old b h = refl
cleared_absent (a ∷ bs) old b h = let e : block_eq a b ≡ false = All-head (λ a. block_eq a b ≡ false) a bs h in
    rw e (cleared_absent bs old b (All-tail (λ a. block_eq a b ≡ false) a bs h))

pub absent_filter : (pass : Block → Bool) (bs : List Block) (b : Block) → pass b ≡ false → IsAbsent b (filter pass bs)
absent_filter pass bs b h =
    absent b (filter pass bs)
    (λ k. let x : pass b ≡ true = All-contains (λ a. pass a ≡ true) (filter pass bs) b (filter_passes pass bs) k in
    cc)

cleared_filter : (pass : Block → Bool) (bs : List Block) (old : Block → Option ℕ) (b : Block)
    → pass b ≡ true
    → (cleared (filter pass bs) old b ≡ None) ⊎ IsAbsent b bs
cleared_filter pass [] old b h = inr (All-nil (λ a. block_eq a b ≡ false))
cleared_filter pass (a ∷ bs) old b h =
    by_test (block_eq a b)
    (λ e. let t : pass a ≡ true = ap pass (block_eq-same a b e) ∙ h in inl (rw (t, e) refl))
    (λ e. elim (cleared_filter pass bs old b h) [
      | inl p ↦ inl (by_test (pass a) (λ t. rw (t, e) p) (λ t. rw t p))
      | inr p ↦ inr (All-cons (λ a. block_eq a b ≡ false) a bs e p)
    ])

pub cleared_present : (pass : Block → Bool) (bs : List Block) (old : Block → Option ℕ) (b : Block)
    → pass b ≡ true
    → Contains bs b
    → cleared (filter pass bs) old b ≡ None
cleared_present pass bs old b h k =
    elim (cleared_filter pass bs old b h) [ inl p ↦ p | inr p ↦ absurd (present b bs k p) ]
