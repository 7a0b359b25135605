-- A guest's pool from the rows, on lists.
use Rattle.std.proofs.Common.{◌≡◌, ℕ, zero, suc, ◌+◌, ◌-◌, ◌<◌, ◌≤◌, ◌^◌, List, [], ◌∷◌, ◌++◌, filter, slice_get, Option, Some, None, refl, ap, sym, ◌∙◌, subst, arith}
use Rattle.std.specs.Prelude.{◌↔◌, Bool, true, false, ◌&&◌, ◌==◌, not, find, cond, IfSome, IsTrue, if◌then◌else◌}
use mathlib.Core.Path.{fun_ext}
use Rattle.page_state.proofs.Common.{eq-made, eq-same, same2, same-tests}
use Rattle.page_state.proofs.Runs.{map_of-first}
use Rattle.page_state.specs.Blocks.{block_eq}
use Rattle.page_state.specs.declared.entry.Run.{Run}
use Rattle.page_state.specs.declared.entry.Target.{Target}
use Rattle.page_state.specs.declared.entry.Target.TheVariants.{Malformed, Annotated, Leaf}
use Rattle.page_state.specs.Entries.{advance, entry_of_target}
use Rattle.page_state.specs.EntryTests.{is_unmapped}
use Rattle.page_state.specs.Runs.{map_of, IsCoarsest}
use Rattle.page_state.specs.Trees.{Block, frames_from, no_tree, root_tree}
use Rattle.ghost_spec.proofs.Guests.{low-frames_from}
use Rattle.ghost_spec.specs.Kept.{AreLowFrames, HasLowTables}
use Rattle.ghost_trees.specs.declared.tree.Table.{Table}
use Rattle.ghost_trees.specs.Trees.{table_of}
use Rattle.free_judge.specs.PoolByRows.{first_of, frame_or, free_of, only, root_alone, root_of, without_it, HasPage}

-- low frames

low-cond : (b : Bool) (f : ℕ) (fs : List ℕ) → AreLowFrames (f ∷ fs) → AreLowFrames (cond b (f ∷ fs) fs)
low-cond true f fs h = h
low-cond false f fs h = h.1

low-filter : (p : ℕ → Bool) (fs : List ℕ) → AreLowFrames fs → AreLowFrames (filter p fs)
low-filter p [] h = tt
low-filter p (f ∷ fs) h = low-cond (p f) f (filter p fs) (h.0, low-filter p fs h.1)

low-both : (fs gs : List ℕ) → AreLowFrames fs → AreLowFrames gs → AreLowFrames (fs ++ gs)
low-both [] gs h k = k
low-both (f ∷ fs) gs h k = (h.0, low-both fs gs h.1 k)

pub low-pool : (p : ℕ → Bool) (n : ℕ) → n ≤ 2 ^ 62 → AreLowFrames (filter p (frames_from 0 n))
low-pool p n less = low-filter p (frames_from 0 n) (low-frames_from 0 n (omega arith))

low-free : (named root : Option ℕ) (fs : List ℕ) → AreLowFrames fs → AreLowFrames (free_of named root fs)
low-free named root fs h =
    let others = low-filter _ fs h in
    low-both (only named (without_it root fs)) (without_it named (without_it root fs))
    (low-filter _ (without_it root fs) others) (low-filter _ (without_it root fs) others)

pub low-left : (b : Bool) (named root : Option ℕ) (fs : List ℕ)
    → AreLowFrames fs
    → AreLowFrames (if b then [] else free_of named root fs)
low-left true named root fs h = tt
low-left false named root fs h = low-free named root fs h

abbrev IsLow : Option ℕ → Type 0
IsLow o = IfSome o (λ f. f ≤ 2 ^ 62)

low-either : (b : Bool) (f : ℕ) (o : Option ℕ) → f ≤ 2 ^ 62 → IsLow o → IsLow (cond b (Some f) o)
low-either true f o h k = h
low-either false f o h k = k

low-find : (p : ℕ → Bool) (fs : List ℕ) → AreLowFrames fs → IsLow (find p fs)
low-find p [] h = tt
low-find p (f ∷ fs) h = low-either (p f) f (find p fs) h.0 (low-find p fs h.1)

low-first : (fs : List ℕ) → AreLowFrames fs → IsLow (first_of fs)
low-first [] h = tt
low-first (f ∷ fs) h = h.0

low-or : (o p : Option ℕ) → IsLow o → IsLow p → IsLow (frame_or p o)
low-or (Some f) p h k = h
low-or None p h k = k

low-root : (named : Option ℕ) (fs : List ℕ) → AreLowFrames fs → IsLow (root_of named fs)
low-root named fs h = low-or _ (first_of fs) (low-find _ fs h) (low-first fs h)

low-table : (depth : ℕ) (o : Option ℕ) → IsLow o → HasLowTables (root_alone depth o)
low-table depth None h b f e = cc
low-table depth (Some root) h b f e = go (b.0 == depth + 1 && b.1 == 0) e
  where
    go : (c : Bool) → ◌≡◌ {A = Option ℕ} (if c then Some root else None) (Some f) → f ≤ 2 ^ 62
    go true k = let same : root ≡ f = cc in subst (λ (n : ℕ). n ≤ 2 ^ 62) same h
    go false k = cc

pub low-tables : (depth : ℕ) (named : Option ℕ) (fs : List ℕ)
    → AreLowFrames fs
    → HasLowTables (root_alone depth (root_of named fs))
low-tables depth named fs h = low-table depth (root_of named fs) (low-root named fs h)

-- a table on lists

eq-turn : (m n : ℕ) → (m == n) ≡ (n == m)
eq-turn m n =
    same-tests (m == n) (n == m) (λ h. eq-made n m (sym (eq-same m n h))) (λ h. eq-made m n (sym (eq-same n m h)))

root-same : (depth root : ℕ)
    → table_of (record { block = (depth + 1, 0); frame = root } ∷ []) ≡ root_alone depth (Some root)
root-same depth root =
    fun_ext
    (λ (b : Block). ap (λ (c : Bool). if c then Some root else None)
    (same2 (λ (x y : Bool). x && y) (eq-turn (depth + 1) b.0) (eq-turn 0 b.1)))

pub none-listed : (depth : ℕ) (o : Option ℕ) (ts : List Table) → o ≡ None → ts ≡ [] → table_of ts ≡ root_alone depth o
none-listed depth o ts none e = ap table_of e ∙ ap (root_alone depth) (sym none)

pub root-listed : (depth root : ℕ) (o : Option ℕ) (ts : List Table)
    → o ≡ Some root
    → ts ≡ record { block = (depth + 1, 0); frame = root } ∷ []
    → table_of ts ≡ root_alone depth o
root-listed depth root o ts some e =
    ap table_of e
    ∙ root-same depth root
    ∙ ap (root_alone depth) (sym some)

-- a guest has pages if and only if its map has runs

mapped : (t : Target) (k : ℕ) → is_unmapped (advance (entry_of_target t) k) ≡ false
mapped Malformed k = refl
mapped (Annotated o) k = refl
mapped (Leaf f p q s) k = refl

pub run-page : (rs : List Run) (r : Run) → IsCoarsest rs → slice_get rs 0 ≡ Some r → HasPage (map_of rs)
run-page [] r c e = cc
run-page (x ∷ rs) r c e =
    let some = c.0 in (
      x.pages.first.0,
      ap is_unmapped (map_of-first x rs x.pages.first.0 (omega arith) (omega (arith, some)))
          ∙ mapped x.target (x.pages.first.0 - x.pages.first.0),
    )

pub no-page : (rs : List Run) → slice_get rs 0 ≡ None → HasPage (map_of rs) → ⊥
no-page [] e h = let bad : true ≡ false = h.1 in cc
no-page (x ∷ rs) e h = cc
