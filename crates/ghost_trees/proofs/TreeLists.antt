-- Tables of lists: those that are put, and those that go.
use Rattle.std.proofs.Common.{◌≡◌, ℕ, zero, suc, ◌≤◌, true, not, min, List, [], ◌∷◌, ◌++◌, drop, filter, length, Option, None, refl, sym, ap, ◌∙◌, arith, cond}
use mathlib.Core.Path.{fun_ext}
use Rattle.page_state.specs.Trees.{Block, Pool}
use Rattle.page_state.specs.Blocks.{block_eq}
use Rattle.page_state.specs.Tables.{placed, cleared, given, all_given}
use Rattle.page_state.proofs.Cases.{by_test}
use Rattle.page_state.proofs.BlockTests.{block_eq-same}
use Rattle.ghost_trees.specs.declared.tree.Table.{Table}
use Rattle.ghost_trees.specs.Trees.{table_of, tables_with, has_block}

no_frames : (bs : List Block) → tables_with bs [] ≡ []
no_frames [] = refl
no_frames (b ∷ bs) = refl

pub none_left : (i : ℕ) (bs : List Block) (fs : List ℕ)
    → min (length bs) (length fs) ≤ i
    → tables_with (drop i bs) (drop i fs) ≡ []
none_left zero [] fs h = refl
none_left zero (b ∷ bs) [] h = refl
none_left zero (b ∷ bs) (f ∷ fs) h = absurd (omega arith)
none_left (suc i) [] fs h = refl
none_left (suc i) (b ∷ bs) [] h = no_frames (drop i bs)
none_left (suc i) (b ∷ bs) (f ∷ fs) h = none_left i bs fs (omega arith)

pub table_of-with : (bs : List Block) (fs : List ℕ) (ts : List Table) (b : Block)
    → table_of (tables_with bs fs ++ ts) b ≡ placed bs fs (table_of ts) b
table_of-with [] fs ts b = refl
table_of-with (a ∷ bs) [] ts b = refl
table_of-with (a ∷ bs) (f ∷ fs) ts b = rw (table_of-with bs fs ts b) refl

cleared_any : (bs : List Block) (old : Block → Option ℕ) (b : Block)
    → cleared bs old b ≡ cond (has_block b bs) None (old b)
cleared_any [] old b = refl
cleared_any (a ∷ bs) old b = by_test (block_eq a b) (λ h. rw h refl) (λ h. rw h (cleared_any bs old b))

-- the tables that are kept
abbrev pub kept : List Block → List Table → List Table
kept bs ts = filter (λ t. not (has_block t.block bs)) ts

pub table_of-kept : (bs : List Block) (ts : List Table) (b : Block)
    → table_of (kept bs ts) b ≡ cleared bs (table_of ts) b
table_of-kept bs ts b = go ts ∙ sym (cleared_any bs (table_of ts) b)
  where
    go : (us : List Table) → table_of (kept bs us) b ≡ cond (has_block b bs) None (table_of us b)
    go [] = by_test (has_block b bs) (λ h. rw h refl) (λ h. rw h refl)
    go (t ∷ us) = by_test (block_eq t.block b)
        (λ h. let e = block_eq-same t.block b h in
        by_test (has_block b bs)
        (λ k. rw (e, k) (go us ∙ rw k refl))
        (λ k. let q : block_eq b b ≡ true = rw e at h in rw (e, k, q) refl))
        (λ h. by_test (has_block t.block bs) (λ k. rw (k, h) (go us)) (λ k. rw (k, h) (go us)))

-- the tables afterwards: the needed ones with these frames, without those that go
pub tables_after : (needed gone : List Block) (fs : List ℕ) (ts : List Table)
    → table_of (kept gone (tables_with needed fs ++ ts)) ≡ cleared gone (placed needed fs (table_of ts))
tables_after needed gone fs ts =
    fun_ext
    (λ b. table_of-kept gone (tables_with needed fs ++ ts) b
    ∙ ap (λ f. cleared gone f b) (fun_ext (table_of-with needed fs ts)))

pub all_given-append : (fs gs : List ℕ) (free : Pool) → all_given (fs ++ gs) free ≡ all_given fs (all_given gs free)
all_given-append [] gs free = refl
all_given-append (f ∷ fs) gs free = ap (given f) (all_given-append fs gs free)
