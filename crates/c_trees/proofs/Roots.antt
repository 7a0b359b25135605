-- Trees by their roots, one after the other.
use Rattle.std.proofs.Common.{◌≡◌, ℕ, zero, suc, ◌+◌, ◌-◌, ◌<◌, ◌≤◌, List, [], ◌∷◌, ◌++◌, length, get_or, map, Option, Some, None, refl, sym, ap, ◌∙◌, arith}
use Rattle.std.specs.Prelude.{All, AllPairs}
use Rattle.std.proofs.lemmas.Grind.{common_steps}
use Rattle.std.proofs.lemmas.List.{append_assoc, append-nil}
use Rattle.std.proofs.lemmas.List.Elements.{All-push}
use Rattle.page_state.specs.declared.layout.Geometry.{Geometry}
use Rattle.page_state.specs.Map.{Map}
use Rattle.page_state.specs.Trees.{no_tree}
use Rattle.ghost_trees.specs.declared.tree.Tree.{Tree}
use Rattle.ghost_trees.specs.KeptTrees.{IsKeptTree}
use Rattle.ghost_trees.specs.Trees.{tree_in_lists}
use Rattle.walked_tables.specs.declared.follow.TablePage.{TablePage}
use Rattle.c_trees.specs.declared.root.PlainRoot.{PlainRoot}
use Rattle.walked_tables.specs.declared.reached.Reached.{Reached}
use Rattle.walked_tables.specs.declared.reached.Stopped.{Stopped}
use Rattle.walked_tables.specs.declared.reached.Stopped.TheVariants.{Again, NoMemory}
use Rattle.c_trees.specs.Given.{all_tables, fault_of, tables_from, tables_of, tree_of, AreGiven, AreTrees, IsTreeFault}
use Rattle.walked_tables.specs.Reached.{AreOtherFrames, IsStopped}
use Rattle.walked_tables.proofs.MetTables.{stopped_on}

more_trees : {A B : Type 0} (f : A → B) (P : ℕ → B) (xs : List A) (x : A) (d : B) (t : ℕ)
    → length xs ≡ t
    → ((k : ℕ) → k < t → get_or (map f xs) k d ≡ P k)
    → f x ≡ P t
    → (k : ℕ)
    → k < t + 1
    → get_or (map f (xs ++ x ∷ [])) k d ≡ P k
more_trees f P [] x d t n h e zero l = let at : t ≡ 0 = omega (arith, n) in e ∙ ap P at
more_trees f P [] x d t n h e (suc k) l = absurd (omega (arith, n, l))
more_trees f P (y ∷ ys) x d t n h e zero l = h 0 (omega (arith, n))
more_trees f P (y ∷ ys) x d t n h e (suc k) l =
    let back : suc (t - 1) ≡ t = omega (arith, n) in
    more_trees f (λ j. P (suc j)) ys x d (t - 1) (omega (arith, n)) (λ j less. h (suc j) (omega (arith, less)))
    (e ∙ ap P (sym back)) k (omega (arith, l, back))

module _ (g : Geometry) (pages : List TablePage) (roots : List PlainRoot) (kept : ℕ → Map) where
  -- the trees below a number were walked
  pub record AreFound (t : ℕ) (met : List Reached) (trees : List Tree) : Type 0 where
    pub within : t ≤ 66
    pub met_is : all_tables g pages roots ≡ met ++ tables_from g pages roots (66 - t) t
    pub apart : AllPairs AreOtherFrames met
    pub count : length trees ≡ t
    pub kept_all : All IsKeptTree trees
    pub trees_are : (k : ℕ) → k < t → get_or (map tree_in_lists trees) k no_tree ≡ tree_of g pages roots kept k

  next_tables : (t : ℕ)
      → t < 66
      → tables_from g pages roots (66 - t) t
      ≡ tables_of g pages roots t ++ tables_from g pages roots (66 - (t + 1)) (t + 1)
  unfolding tables_from
  next_tables t l = let e : 66 - t ≡ suc (66 - (t + 1)) = omega (arith, l) in ap (λ k. tables_from g pages roots k t) e

  no_tables : (t : ℕ) → tables_from g pages roots 0 t ≡ []
  unfolding tables_from
  no_tables t = refl

  module _ (t : ℕ) (met : List Reached) (trees : List Tree) (x : AreFound t met trees) where
    more_met : t < 66
        → all_tables g pages roots
        ≡ (met ++ tables_of g pages roots t) ++ tables_from g pages roots (66 - (t + 1)) (t + 1)
    more_met l =
        x.met_is ∙ ap (λ us. met ++ us) (next_tables t l)
        ∙ sym (append_assoc met (tables_of g pages roots t) (tables_from g pages roots (66 - (t + 1)) (t + 1)))

    pub more_found : (met' : List Reached) (trees' : List Tree) (found : Tree)
        → t < 66
        → met' ≡ met ++ tables_of g pages roots t
        → AllPairs AreOtherFrames met'
        → trees' ≡ trees ++ found ∷ []
        → tree_in_lists found ≡ tree_of g pages roots kept t
        → IsKeptTree found
        → AreFound (t + 1) met' trees'
    more_found met' trees' found l e apart f is keeps = record {
      within = omega (arith, l);
      met_is = more_met l ∙ ap (λ us. us ++ tables_from g pages roots (66 - (t + 1)) (t + 1)) (sym e);
      apart = apart;
      count = let n = x.count in rw f (grind (arith, common_steps, n));
      kept_all = rw f (All-push IsKeptTree trees found x.kept_all keeps);
      trees_are =
          rw f (more_trees tree_in_lists (tree_of g pages roots kept) trees found no_tree t x.count x.trees_are is);
    }

    pub stopped_found : (s : Stopped)
        → t < 66
        → AreGiven pages roots
        → IsStopped (met ++ tables_of g pages roots t) s
        → IsTreeFault g pages roots (fault_of s)
    stopped_found s l given h =
        as_fault s (stopped_on (met ++ tables_of g pages roots t) _ (all_tables g pages roots) s (more_met l) h)
      where
        as_fault : (s : Stopped) → IsStopped (all_tables g pages roots) s → IsTreeFault g pages roots (fault_of s)
        as_fault (Again first second) h = (given, h)
        as_fault NoMemory h = tt

    pub all_found : 66 ≤ t
        → AreGiven pages roots
        → AreTrees g pages roots kept (λ k. get_or (map tree_in_lists trees) k no_tree)
    all_found l given =
        let low = x.within in
        let last : t ≡ 66 = omega (arith, l, low) in
        let none : 66 - t ≡ 0 = omega (arith, l) in
        let all : all_tables g pages roots ≡ met =
        x.met_is ∙ ap (λ us. met ++ us) (ap (λ k. tables_from g pages roots k t) none ∙ no_tables t)
        ∙ append-nil met in
        record {
          given = given;
          once = rw all x.apart;
          trees_are = λ k less. x.trees_are k (omega (arith, less, last));
        }

  pub none_found : (met : List Reached) (trees : List Tree) → met ≡ [] → trees ≡ [] → AreFound 0 met trees
  none_found met trees e f = record {
    within = omega arith;
    met_is = rw e refl;
    apart = rw e (λ i j d a b. absurd (omega (arith, b)));
    count = rw f refl;
    kept_all = rw f (λ k d l. absurd (omega (arith, l)));
    trees_are = λ k l. absurd (omega (arith, l));
  }
