use Rattle.std.proofs.Common.{◌≡◌, ◌∙◌, ℕ, ◌-◌, List, length, ap, sym, subst, take, drop, arith}
use Rattle.std.specs.Prelude.{All}
use Rattle.std.proofs.lemmas.List.{length-drop, take_all}
use Rattle.std.proofs.lemmas.List.Prefix.{front_rest}
use Rattle.walked_tables.specs.declared.reached.Reached.{Reached}
use Rattle.walked_tables.specs.ByFrames.{IsWhole}
use Rattle.c_trees.specs.Roots.{count_of}
use Rattle.c_trees.specs.Trees.{HasLowDepth}
use Rattle.c_trees.proofs.FromRoot.{low_tables, whole_from}
use Rattle.c_trees.proofs.tree.tree_of_root.Goals as goal

to_end : (xs : List Reached) (n : ℕ) → take (length xs - n) (drop n xs) ≡ drop n xs
to_end xs n = take_all (length xs - n) (drop n xs) (omega (arith, length-drop n xs))

pub walked-requires-clause-roots : goal.walked-requires-clause-roots
walked-requires-clause-roots c =
    subst (All IsWhole) (sym (c.as_slice.ensures.value ∙ c.in_ok-roots.ensures.pages))
    (whole_from c.args.pages.now c.requires.whole c.args.root.now.frame (count_of c.args.root.now))

pub tables_in-requires : goal.tables_in-requires
tables_in-requires c =
    let start : c.len-start.result ≡ length c.args.met.now.items =
    omega (arith, c.len-start.ensures, c.args.met.now.ok.0) in
    let rest =
    ap (λ k. drop k c.walked.new.met.items) start
    ∙ front_rest c.walked.new.met.items c.args.met.now.items _ c.in_ok-said.ensures.walked.met in
    subst (All HasLowDepth)
    (sym
    (to_end c.deref.result.now c.len-start.result ∙ ap (drop c.len-start.result) c.deref.ensures.value ∙ rest))
    (low_tables _ c.args.pages.now c.args.root.now.tree _ _ c.depth_of-depth.ensures.low)
