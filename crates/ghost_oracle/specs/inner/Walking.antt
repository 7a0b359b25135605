-- How a walk goes on: the runs and the tables that it has found so far.
use Rattle.std.specs.Prelude.{◌≡◌, ℕ, zero, suc, ◌+◌, ◌*◌, ◌<◌, ◌≤◌, nat_lt, List, [], ◌∷◌, if◌then◌else◌}
use Rattle.page_state.specs.declared.entry.Run.{Run}
use Rattle.page_state.specs.Geometries.{block_pages}
use Rattle.page_state.specs.Map.{Map}
use Rattle.page_state.specs.Runs.{map_of, run_end, IsCoarsest}
use Rattle.table_tree.specs.declared.table.Table.{Table}
use Rattle.table_tree.specs.AllBlocks.{gathered}
use Rattle.table_tree.specs.Meaning.{entry_at, slot_at, slot_case, frame_of}
use Rattle.ghost_trees.specs.declared.tree.Table.{Table as FoundTable}
use Rattle.ghost_trees.specs.Joins.{joined}
use Rattle.ghost_trees.specs.Small.{AreSmall}

-- each run ends at a page or before it
abbrev pub EndBy : ℕ → List Run → Type 0
EndBy page [] = Unit {0}
EndBy page (r ∷ rs) = (run_end r ≤ page) × EndBy page rs

-- runs of pages before a page: small, the coarsest list, and none beyond it
pub record AreRunsTo (page : ℕ) (rs : List Run) : Type 0 where
  pub small : AreSmall rs
  pub coarsest : IsCoarsest rs
  pub ended : EndBy page rs

-- appends a run to a list, or extends the last run if the new one continues it
abbrev pub joined_last : List Run → Run → List Run
joined_last [] r = r ∷ []
joined_last (n ∷ []) r = joined n (r ∷ [])
joined_last (n ∷ (m ∷ rs)) r = n ∷ joined_last (m ∷ rs) r

-- a map that went on, from a page to another, as `m` says
abbrev pub GoesOn : Map → ℕ → ℕ → Map → Map → Type 0
GoesOn m from to old new =
    (page : ℕ) → page < to → new page ≡ (if nat_lt page from then old page else m page)

-- a list of runs went on by what a table at block `number` says, with `depth` levels below it
abbrev pub GoesOnBy : {A : Type 0} → ℕ → ℕ → Table A → List Run → List Run → Type 0
GoesOnBy depth number t old new =
    GoesOn (entry_at depth t) (number * block_pages (depth + 1))
    ((number + 1) * block_pages (depth + 1)) (map_of old) (map_of new)

-- a table at a block with `depth` levels below it, in the place where the walk finds it
abbrev pub found_at : {A : Type 0} → ℕ → ℕ → Table A → FoundTable
found_at depth number t = record { block = (depth + 1, number); frame = frame_of t }

-- a table with `depth` levels below it at block `number`, and all tables below it, by page, each
-- before those below it
unfoldable pub found_under : {A : Type 0} → ℕ → ℕ → Table A → List FoundTable
found_under zero number t = found_at zero number t ∷ []
found_under (suc depth) number t =
    found_at (suc depth) number t
    ∷ gathered
    (λ i. slot_case (λ _. []) (found_under depth (number * 512 + i)) (slot_at t i)) 512
