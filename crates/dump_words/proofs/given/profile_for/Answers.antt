use Rattle.std.proofs.Common.{arith, refl, sym, ◌∙◌}
use Rattle.dump_words.proofs.InTurn.{found_at, passed_all, passed_at}
use Rattle.dump_words.proofs.given.profile_for.Goals as goal

pub loop-i-init : goal.loop-i-init
loop-i-init c = record { ahead = refl }

pub returns-then-of-tree : goal.returns-then-of-tree
returns-then-of-tree c =
    found_at c.args.profiles.now c.args.tree c.loop-i.i _ c.loop-i-test.true c.if-of-tree.true c.loop-i.invariant.ahead

pub loop-i-preserved : goal.loop-i-preserved
loop-i-preserved c =
    record {
      ahead = passed_at c.args.profiles.now c.args.tree c.loop-i.i _ c.loop-i-test.true c.if-of-tree.false
          c.loop-i.invariant.ahead;
    }

pub returns : goal.returns
returns c =
    c.model.ensures
    ∙ sym
    (passed_all c.args.profiles.now c.args.tree c.loop-i.i
    (omega (arith, c.loop-i-test.false)) c.loop-i.invariant.ahead)
