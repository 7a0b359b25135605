use Rattle.std.proofs.Common.{◌≡◌, ◌∙◌, ℕ, ◌-◌, List, length, ap, map, take, drop, arith}
use Rattle.std.proofs.lemmas.List.{length-drop, take_all}
use Rattle.maplets.specs.View.{target_runs}
use Rattle.c_tables.specs.declared.reached.Reached.{Reached}
use Rattle.c_tables.proofs.FromRoot.{found_tree, kept_tree}
use Rattle.c_tables.proofs.walk.walked.Goals as goal

to_end : (xs : List Reached) (n : ℕ) → take (length xs - n) (drop n xs) ≡ drop n xs
to_end xs n = take_all (length xs - n) (drop n xs) (omega (arith, length-drop n xs))

pub returns-clause-tree : goal.returns-clause-tree
returns-clause-tree c =
    found_tree c.args.geometry c.args.pages.now c.args.root c.args.tree c.depth.result
    (record { runs = c.in_ok-runs.runs; tables = c.in_ok-tables.tables }) c.new-runs.result.items
    c.walk_table.new.runs.items c.args.met.now.items c.walk_table.new.met.items c.len-start.result
    c.depth.ensures.value c.new-runs.ensures.items
    (omega (arith, c.len-start.ensures, c.args.met.now.ok.0))
    c.in_ok-walk_table.ensures.map c.in_ok-walk_table.ensures.met
    (c.in_ok-runs.ensures ∙ ap target_runs c.as_slice.ensures.value)
    (c.in_ok-tables.ensures ∙ ap (map (λ r. r.table)) (to_end c.deref.result.now c.len-start.result)
    ∙ ap (λ m. map (λ r. r.table) (drop c.len-start.result m)) c.deref.ensures.value)

pub returns-clause-kept : goal.returns-clause-kept
returns-clause-kept c =
    kept_tree (record { runs = c.in_ok-runs.runs; tables = c.in_ok-tables.tables }) c.walk_table.new.runs.items
    (c.in_ok-runs.ensures ∙ ap target_runs c.as_slice.ensures.value) c.in_ok-walk_table.ensures.after.kept
