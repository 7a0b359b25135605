use Rattle.std.proofs.Common.{◌≡◌, ℕ, ◌+◌, ◌<◌, ◌++◌, List, ◌∷◌, take, length, get_or, sym, ◌∙◌, arith}
use Rattle.std.proofs.lemmas.Grind.{common_steps}
use Rattle.page_state.specs.declared.entry.Run.{Run}
use Rattle.page_state.proofs.Common.{not-false}
use Rattle.page_state.proofs.Equality.{runs_tell}
use Rattle.ghost_oracle.proofs.compared.are_maplets.Goals as goal

-- the found runs so far with the kept ones that are left, one run further on
one_on : (found left rest kept : List Run) (at : ℕ) (past next : Run)
    → at < length found
    → take at found ++ left ≡ kept
    → left ≡ next ∷ rest
    → get_or found at past ≡ next
    → take (at + 1) found ++ rest ≡ kept
one_on found left rest kept at past next less same goes is = grind (arith, common_steps)

pub loop-run-preserved : goal.loop-run-preserved
loop-run-preserved c =
    record {
      within = omega (arith, c.loop-run.invariant.within, c.if-at-found.false);
      same =
          one_on c.args.found.now c.loop-run.run-iterator c.next.new.self c.args.maplets.now.runs c.loop-run.at _
          c.in-Some.run'
          (omega (arith, c.loop-run.invariant.within, c.if-at-found.false)) c.loop-run.invariant.same
          c.in-Some.ensures.steps
          ((runs_tell _ _).0 (not-false _ (sym c.ne.ensures ∙ c.if-ne.false)));
    }
