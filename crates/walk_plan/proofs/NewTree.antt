-- The need of a change of a tree of its root alone is what the parts of an empty block need.
use Rattle.std.proofs.Common.{◌≡◌, ℕ, suc, ◌+◌, ◌*◌, ◌<◌, ◌≤◌, refl, sym, ap, arith, ◌∙◌, ◌==◌, false, inl, inr, length, filter, None}
use Rattle.std.proofs.lemmas.Bool.Decides.{nat_tests}
use Rattle.page_state.specs.declared.entry.Entry.{Entry}
use Rattle.page_state.specs.declared.entry.Entry.TheVariants.{Unmapped}
use Rattle.page_state.specs.Trees.{root_tree}
use Rattle.page_state.specs.Map.{empty_map, update}
use Rattle.page_state.specs.Tables.{put, needs, need}
use Rattle.page_state.specs.Geometries.{block_pages}
use Rattle.page_state.proofs.Updates.{update_inside, update_outside}
use Rattle.walk_plan.specs.declared.change.Change.{Change}
use Rattle.walk_plan.specs.Changes.{part}
use Rattle.walk_plan.specs.inner.Needs.{sum_to, met, block_parts}
use Rattle.walk_plan.proofs.Numbers.{part_all}
use Rattle.walk_plan.proofs.Joined.{filter_joined}
use Rattle.walk_plan.proofs.Walked.{under}
use Rattle.walk_plan.proofs.Ordered.{blocks_below}
use Rattle.walk_plan.proofs.OneWord.{IsMade}
use Rattle.walk_plan.proofs.Matched.{IsBare}
use Rattle.walk_plan.proofs.Needed.{is_needed, needed_below, count_below, block_count}

not_root : (d low root j : ℕ) → low < d → (root_tree d root).table (suc low, j) ≡ None
not_root d low root j h = let e : (suc low == d + 1) ≡ false = grind (arith, nat_tests) in rw e refl

-- no table stands below the root
new_bare : (d root b : ℕ) → IsBare empty_map (root_tree d root).table d b Unmapped
new_bare d root b = record { map = λ q l u. refl; tables = λ low j k l u. not_root d low root j k }

module _ (d root first count : ℕ) (e : Entry) (c : Change) (low : d < 4) (some : 0 < count)
    (within : first + count ≤ block_pages (suc d)) (from : c.first ≡ first) (to : c.end ≡ first + count)
    (gives : c.entry ≡ e) where
  made_new : IsMade c empty_map (update empty_map first count e)
  made_new = record {
    inside = λ q p r. rw (from, gives) (update_inside empty_map first count e q (omega arith) (omega arith));
    outside =
        λ q h. update_outside empty_map first count e q
        (elim h [ inl p ↦ inl (omega arith) | inr p ↦ inr (omega arith) ]);
  }

  new_walked : needs d (root_tree d root) (put first count e)
      ≡ needed_below c (update empty_map first count e) (root_tree d root).table d 0
  unfolding needs
  new_walked =
      let pass = is_needed (root_tree d root).table (update empty_map first count e) in
      ap (filter pass) (blocks_below c d first count some within from to)
      ∙ filter_joined pass (λ i. under c d (512 * 0 + i)) 512

  pub new_need : sum_to (met d c (block_parts d Unmapped)) 512 ≡ need d (root_tree d root) (put first count e)
  unfolding block_parts
  new_need =
      let n = update empty_map first count e in
      let ts = (root_tree d root).table in
      let all =
      count_below c n ts d 0 (block_parts d Unmapped)
      (λ i p. block_count c empty_map n ts made_new d (512 * 0 + i) Unmapped low refl
      (new_bare d root (512 * 0 + i))) in
      let whole : part (suc d) 0 c ≡ c = part_all (suc d) c (omega arith) in
      sym (ap length new_walked ∙ all ∙ ap (λ z. sum_to (met d z (block_parts d Unmapped)) 512) whole)
