use Rattle.std.proofs.Common.{arith, ◌∙◌, ◌++◌, ◌∷◌, [], ap, refl, sym}
use Rattle.std.proofs.lemmas.List.{append_assoc, append-nil, drop_all}
use Rattle.trace_race.proofs.Gathering.{gather_all, gather_first, gather_next}
use Rattle.trace_race.proofs.making.gather.Goals as goal

pub loop-i-init : goal.loop-i-init
loop-i-init c = (
  [],
  sym (append-nil c.args.replies.now.items),
  gather_first c.args.steps.now c.args.done.now c.args.cursors.now.items c.requires.count c.requires.start
      c.requires.done,
)

pub loop-i-preserved : goal.loop-i-preserved
loop-i-preserved c =
    let i = c.loop-i.invariant in
    let r = c.next_reply.result in
    let e = c.next_reply.ensures in (
      i.0 ++ r ∷ [],
      c.in_ok-push.ensures.items ∙ (ap (λ rs. rs ++ r ∷ []) i.1 ∙ (rw append_assoc refl)),
      gather_next c.args.steps.now c.loop-i.i _ c.args.done.now c.loop-i.cursors.items c.next_reply.new.cursors.items
          i.0 r c.loop-i-test.true i.2 e.count e.here e.others e.reply,
    )

pub returns : goal.returns
returns c =
    let i = c.loop-i.invariant in
    record {
      gathered = (
        i.0,
        i.1,
        gather_all c.args.steps.now c.loop-i.i c.args.done.now c.loop-i.cursors.items i.0
            (drop_all c.loop-i.i c.args.steps.now (omega (arith, c.loop-i-test.false))) i.2,
      );
    }
