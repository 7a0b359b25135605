use Rattle.std.proofs.Common.{◌≡◌, ◌∙◌, ℕ, suc, ◌+◌, ◌-◌, ◌<◌, ◌≤◌, List, [], ◌++◌, length, refl, sym, ap, arith}
use Rattle.std.specs.Prelude.{option_to_list, Option, Some, None}
use Rattle.std.proofs.lemmas.List.{append_assoc, append-nil, length-append}
use Rattle.walked_tables.specs.declared.follow.TablePage.{TablePage}
use Rattle.walked_tables.specs.ByFrames.{page_of}
use Rattle.c_trees.specs.Roots.{count_of, pages_from, root_pages}
use Rattle.c_trees.proofs.tested.pages_of_root.Goals as goal

next_page : (pages : List TablePage) (f n k : ℕ)
    → k < n
    → pages_from pages (f + k) (n - k)
    ≡ option_to_list (page_of pages (f + k)) ++ pages_from pages (f + (k + 1)) (n - (k + 1))
next_page pages f n k l =
    let e : n - k ≡ suc (n - (k + 1)) = omega (arith, l) in
    let a : f + k + 1 ≡ f + (k + 1) = omega arith in
    ap (pages_from pages (f + k)) e
    ∙ ap (λ x. option_to_list (page_of pages (f + k)) ++ pages_from pages x (n - (k + 1))) a

one_more : (o : Option TablePage) → length (option_to_list o) ≤ 1
one_more None = omega arith
one_more (Some p) = omega arith

longer : (xs : List TablePage) (o : Option TablePage) (k : ℕ) → length xs ≤ k → length (xs ++ option_to_list o) ≤ k + 1
longer xs o k h = let a = length-append xs (option_to_list o) in let b = one_more o in omega (arith, a, b, h)

pub loop-k-preserved : goal.loop-k-preserved
loop-k-preserved c =
    let pages = c.args.pages.now in
    let f = c.args.root.now.frame in
    let n = count_of c.args.root.now in
    let k = c.loop-k.k in
    let l : k < n = omega (arith, c.loop-k-test.true, c.count_of-k-end.ensures.count) in
    let made : c.push_found.new.found.items ≡ c.loop-k.found.items ++ option_to_list (page_of pages (f + k)) =
    c.in_ok-push_found.ensures ∙ ap (λ o. c.loop-k.found.items ++ option_to_list o) c.page_at.ensures in
    record {
      within = omega (arith, l);
      all =
          ap (λ xs. xs ++ pages_from pages (f + (k + 1)) (n - (k + 1))) made
          ∙ append_assoc c.loop-k.found.items (option_to_list (page_of pages (f + k)))
          (pages_from pages (f + (k + 1)) (n - (k + 1)))
          ∙ ap (λ xs. c.loop-k.found.items ++ xs) (sym (next_page pages f n k l)) ∙ c.loop-k.invariant.all;
      few = rw made (longer c.loop-k.found.items (page_of pages (f + k)) k c.loop-k.invariant.few);
    }
