use Rattle.std.proofs.Common.{◌≡◌, ℕ, suc, ◌+◌, ◌≤◌, true, false, take, nat_le, sym, subst, ◌∙◌, arith}
use Rattle.std.proofs.lemmas.Bool.Decides.{nat_tests}
use Rattle.run_list.specs.Parts.{BeginBy}
use Rattle.run_list.proofs.Found.{begun_more}
use Rattle.run_list.proofs.places.begun_from.Goals as goal

is_by : (a b : ℕ) → nat_le a b ≡ true → a ≤ b
is_by a b h = grind (arith, nat_tests)

isnt_by : (a b : ℕ) → nat_le a b ≡ false → b + 1 ≤ a
isnt_by a b h = grind (arith, nat_tests)

pub loop-place-preserved : goal.loop-place-preserved
loop-place-preserved g c =
    let run = c.index-runs-place.result in
    let by : run.pages.first.0 ≤ c.args.page =
    is_by run.pages.first.0 c.args.page (sym c.begins_by.ensures ∙ c.if-not-begins_by.false) in
    let n : suc c.loop-place.place ≡ c.loop-place.place + 1 = omega arith in
    record {
      within = omega (arith, c.loop-place-test.true);
      front = subst (λ i. BeginBy c.args.page (take i c.args.runs.now)) n
          (begun_more c.args.page c.loop-place.place c.args.runs.now run c.loop-place.invariant.front
          c.loop-place-test.true
          (subst (λ r. r.pages.first.0 ≤ c.args.page) c.index-runs-place.is by));
    }
