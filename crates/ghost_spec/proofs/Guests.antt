-- What changes of a guest keep: the frames of its pool and of its tables are small.
use Rattle.std.proofs.Common.{◌≡◌, ℕ, zero, suc, ◌+◌, ◌≤◌, ◌^◌, ◌&&◌, ◌==◌, List, [], ◌∷◌, drop, filter_map, nat_lt, Option, Some, None, refl, subst, arith}
use Rattle.std.specs.List.{cons_option}
use Rattle.page_state.specs.Blocks.{block_eq}
use Rattle.page_state.specs.Tables.{Edit, edited, returned, needs, freed, placed, cleared, given, all_given}
use Rattle.page_state.specs.Trees.{Block, Tree, Pool, frames_from, root_tree}
use Rattle.page_state.proofs.Cases.{by_test}
use Rattle.reference_model.specs.model.Changes.{rest}
use Rattle.ghost_spec.specs.Kept.{AreLowFrames, HasLowTables}

-- pools

pub low-drop : (n : ℕ) (fs : Pool) → AreLowFrames fs → AreLowFrames (drop n fs)
low-drop zero fs h = h
low-drop (suc n) [] h = tt
low-drop (suc n) (f ∷ fs) h = low-drop n fs h.1

low-given : (f : ℕ) (fs : Pool) → f ≤ 2 ^ 62 → AreLowFrames fs → AreLowFrames (given f fs)
low-given f [] k h = (k, tt)
low-given f (g ∷ gs) k h = by_test (nat_lt f g)
    (λ t. rw t (k, h))
    (λ t. rw t (h.0, low-given f gs k h.1))

pub low-all_given : (fs gs : Pool) → AreLowFrames fs → AreLowFrames gs → AreLowFrames (all_given fs gs)
low-all_given [] gs k h = h
low-all_given (f ∷ fs) gs k h = low-given f (all_given fs gs) k.0 (low-all_given fs gs k.1 h)

pub low-frames_from : (first n : ℕ) → first + n ≤ 2 ^ 62 → AreLowFrames (frames_from first n)
low-frames_from first zero h = tt
low-frames_from first (suc n) h = (omega arith, low-frames_from (first + 1) n (omega arith))

pub rest-drop : (fs : Pool) → drop 1 fs ≡ rest fs
rest-drop [] = refl
rest-drop (f ∷ fs) = refl

-- tables

low-one : (o : Option ℕ) (fs : Pool)
    → ((f : ℕ) → o ≡ Some f → f ≤ 2 ^ 62)
    → AreLowFrames fs
    → AreLowFrames (cons_option o fs)
low-one None fs k h = h
low-one (Some f) fs k h = (k f refl, h)

low-found : (table : Block → Option ℕ) (bs : List Block) → HasLowTables table → AreLowFrames (filter_map table bs)
low-found table [] h = tt
low-found table (b ∷ bs) h = low-one (table b) (filter_map table bs) (h b) (low-found table bs h)

low-placed : (bs : List Block) (fs : List ℕ) (table : Block → Option ℕ)
    → AreLowFrames fs
    → HasLowTables table
    → HasLowTables (placed bs fs table)
low-placed [] fs table k h = h
low-placed (a ∷ bs) [] table k h = h
low-placed (a ∷ bs) (f ∷ fs) table k h = λ b g e. by_test (block_eq a b)
    (λ t. let same : f ≡ g = (let w : Some f ≡ Some g = rw t at e in cc) in subst (λ (n : ℕ). n ≤ 2 ^ 62) same k.0)
    (λ t. low-placed bs fs table k.1 h b g (rw t at e))

low-cleared : (bs : List Block) (table : Block → Option ℕ) → HasLowTables table → HasLowTables (cleared bs table)
low-cleared [] table h = h
low-cleared (a ∷ bs) table h = λ b g e. by_test (block_eq a b)
    (λ t. let w : None ≡ Some g = rw t at e in cc)
    (λ t. low-cleared bs table h b g (rw t at e))

pub low-edited : (d : ℕ) (t : Tree) (c : Edit) (fs : Pool)
    → AreLowFrames fs
    → HasLowTables t.table
    → HasLowTables (edited d t c fs).table
unfolding edited
low-edited d t c fs k h =
    low-cleared (freed d t c) (placed (needs d t c) fs t.table) (low-placed (needs d t c) fs t.table k h)

pub low-returned : (d : ℕ) (t : Tree) (c : Edit) → HasLowTables t.table → AreLowFrames (returned d t c)
unfolding returned
low-returned d t c h = low-found t.table (freed d t c) h

pub low-root : (depth root : ℕ) → root ≤ 2 ^ 62 → HasLowTables (root_tree depth root).table
low-root depth root h = λ b f e. by_test (b.0 == depth + 1 && b.1 == 0)
    (λ t. let same : root ≡ f = (let w : Some root ≡ Some f = rw t at e in cc) in subst (λ (n : ℕ). n ≤ 2 ^ 62) same h)
    (λ t. let w : None ≡ Some f = rw t at e in cc)
