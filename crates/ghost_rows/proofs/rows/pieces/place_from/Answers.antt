use Rattle.std.proofs.Common.{◌≡◌, ℕ, suc, ◌+◌, ◌<◌, take, true, nat_lt, sym, subst, ◌∙◌, arith}
use Rattle.std.proofs.lemmas.Bool.Decides.{nat_tests}
use Rattle.run_list.specs.Runs.{EndBefore}
use Rattle.ghost_rows.proofs.ListedRows.{one-more}
use Rattle.ghost_rows.proofs.rows.pieces.place_from.Goals as goal

is-below : (a b : ℕ) → nat_lt a b ≡ true → a < b
is-below a b h = grind (arith, nat_tests)

pub loop-place-preserved : goal.loop-place-preserved
loop-place-preserved c =
    let n : suc c.loop-place.place ≡ c.loop-place.place + 1 = omega arith in
    record {
      within = omega (arith, c.loop-place-test.true);
      front = subst (λ i. EndBefore (c.args.frame + 1) (take i c.args.runs.now)) n
          (one-more
          (c.args.frame + 1) c.loop-place.place c.args.runs.now _ c.loop-place.invariant.front
          c.loop-place-test.true
          (is-below _ _ (sym c.ends_by.ensures ∙ c.if-not-ends_by.false)));
    }
