-- Trees whose tables are apart have no two at one block.
use Rattle.std.proofs.Common.{◌≡◌, zero, suc, ◌<◌, List, [], ◌∷◌, None, refl, sym, arith}
use Rattle.std.specs.Prelude.{All}
use Rattle.page_state.specs.Blocks.{block_eq}
use Rattle.page_state.specs.Trees.{Block}
use Rattle.page_state.proofs.BlockTests.{block_eq-same}
use Rattle.page_state.proofs.Cases.{by_test}
use Rattle.ghost_trees.specs.Apart.{AreTablesApart}
use Rattle.ghost_trees.specs.declared.tree.Table.{Table}
use Rattle.ghost_trees.specs.Trees.{table_of}
use Rattle.ghost_spec.specs.declared.lists.GhostLists.{GhostLists}
use Rattle.ghost_spec.specs.Filled.{HasTablesApart}
use Rattle.ghost_legal.specs.Blocks.{HasFirstBlocks, TreesHaveFirstBlocks}

none-at : (ts : List Table) (b : Block) → All (λ t. t.block ≡ b → ⊥) ts → table_of ts b ≡ None
none-at [] b h = refl
none-at (t ∷ ts) b h = by_test (block_eq t.block b)
    (λ e. absurd (h 0 t (omega arith) (block_eq-same t.block b e)))
    (λ e. rw e (none-at ts b (λ k d l. h (suc k) d (omega (arith, l)))))

apart-first : (ts : List Table) → AreTablesApart ts → HasFirstBlocks ts
apart-first [] h = tt
apart-first (t ∷ ts) h = (
  none-at ts t.block (λ k d l e. (h 0 (suc k) d (omega arith) (omega (arith, l))).block (sym e)),
  apart-first ts (λ i j d l k. h (suc i) (suc j) d (omega (arith, l)) (omega (arith, k))),
)

pub first-blocks : (g : GhostLists) → HasTablesApart g → TreesHaveFirstBlocks g
first-blocks g h = record {
  host = apart-first g.shared.host.tables.items h.host;
  hyp = apart-first g.shared.hyp.tables.items h.hyp;
  guests = λ k d l. apart-first _ (h.guests k d l);
}
