use Rattle.std.proofs.Common.{◌≡◌, get_or, sym, ◌∙◌, arith}
use Rattle.page_state.specs.Runs.{map_of}
use Rattle.ghost_judge.specs.declared.disagreement.TreeOf.TheVariants.{Guest}
use Rattle.ghost_judge.specs.inner.Found.{IsMapDifference}
use Rattle.ghost_judge.proofs.Audited.{guest_at, guest_found, isnt_found, guest_next, guest_all}
use Rattle.ghost_judge.proofs.audit.in_guests.Goals as goal

pub returns-then-is_some : goal.returns-then-is_some
returns-then-is_some c =
    guest_found c.args.kept.now c.args.walked.now c.loop-v.v
    (map_of (get_or c.args.kept.now c.loop-v.v c.index-kept-v.result).tree.runs.items)
    (map_of
    (get_or c.args.walked.now c.loop-v.v c.index-walked-v.result).tree.runs.items) c.in_trees-guest.result
    (guest_at c.args.kept.now c.loop-v.v c.index-kept-v.result
    (omega (arith, c.loop-v-test.true, c.requires.kept_count)))
    (guest_at c.args.walked.now c.loop-v.v c.index-walked-v.result
    (omega (arith, c.loop-v-test.true, c.requires.walked_count)))
    c.loop-v.invariant (sym c.is_some.ensures ∙ c.if-is_some.true) c.in_trees-guest.ensures

pub loop-v-preserved : goal.loop-v-preserved
loop-v-preserved c =
    guest_next c.args.kept.now c.args.walked.now c.loop-v.v c.loop-v.invariant
    (sym
    (guest_at c.args.kept.now c.loop-v.v c.index-kept-v.result
    (omega (arith, c.loop-v-test.true, c.requires.kept_count)))
    ∙ isnt_found
    (map_of (get_or c.args.kept.now c.loop-v.v c.index-kept-v.result).tree.runs.items
    ≡ map_of (get_or c.args.walked.now c.loop-v.v c.index-walked-v.result).tree.runs.items)
    (IsMapDifference (Guest c.loop-v.v)
    (map_of (get_or c.args.kept.now c.loop-v.v c.index-kept-v.result).tree.runs.items)
    (map_of
    (get_or c.args.walked.now c.loop-v.v
    c.index-walked-v.result).tree.runs.items)) c.in_trees-guest.result
    (sym c.is_some.ensures ∙ c.if-is_some.false) c.in_trees-guest.ensures
    ∙ guest_at c.args.walked.now c.loop-v.v c.index-walked-v.result
    (omega (arith, c.loop-v-test.true, c.requires.walked_count)))

pub returns : goal.returns
returns c =
    guest_all c.args.kept.now c.args.walked.now c.loop-v.v (omega (arith, c.loop-v-test.false, c.requires.kept_count))
    (omega (arith, c.loop-v-test.false, c.requires.walked_count)) c.loop-v.invariant
