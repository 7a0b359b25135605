use Rattle.std.proofs.Common.{◌≡◌, ℕ}
use mathlib.Core.Path.{fun_ext}
use Rattle.table_tree.specs.declared.raw.RawTree.{RawTree}
use Rattle.table_tree.specs.declared.tree.Tree.{Tree}
use Rattle.table_tree.specs.RawView.{raw_meaning, raw_word_of, raw_table_at, raw_tree_of}
use Rattle.table_tree.specs.View.{meaning, word_of, table_at, tree_of}
use Rattle.ghost_oracle.specs.Seen.{tree_seen, raw_seen}
use Rattle.ghost_oracle.proofs.pokes.raw_component.Goals as goal

-- two trees are seen alike, one of them raw
same_seen : {A : Type 0} (r : RawTree A) (t : Tree A)
    → raw_meaning r ≡ meaning t
    → raw_word_of r ≡ word_of t
    → ((depth number : ℕ) → raw_table_at r depth number ≡ table_at t depth number)
    → raw_seen r ≡ tree_seen t
same_seen r t m w s =
    let tables : (λ b. raw_table_at r b.0 b.1) ≡ (λ b. table_at t b.0 b.1) = fun_ext (λ b. s b.0 b.1) in
    let tree : raw_tree_of r ≡ tree_of t = λ i. record { map = m i; table = tables i } in
    λ i. record { words = w i; tree = tree i }

pub returns-clause-seen : goal.returns-clause-seen
returns-clause-seen g c =
    same_seen c.into_raw.result c.args.component.tree c.into_raw.ensures.map c.into_raw.ensures.words
    c.into_raw.ensures.standing
