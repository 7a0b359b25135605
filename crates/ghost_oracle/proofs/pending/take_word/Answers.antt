use Rattle.std.proofs.Common.{◌+◌, subst, sym}
use Rattle.ghost_oracle.specs.inner.Pending.{IsPending, IsGiven, pending_with}
use Rattle.ghost_oracle.proofs.Extended.{pending_on}
use Rattle.ghost_oracle.proofs.pending.take_word.Goals as goal

pub returns-then-word-pending-clause-pending : goal.returns-then-word-pending-clause-pending
returns-then-word-pending-clause-pending c m left l x g =
    subst
    (λ s. IsPending m c.args.depth (c.args.end + s) left
    (pending_with c.args.pending.now (c.args.pending.now.next + c.args.pending.now.step)))
    (sym c.requires.can.pages)
    (pending_on m c.args.depth c.args.end left c.args.pending.now x c.if-pending.true
    (subst (λ w. IsGiven m c.args.depth c.args.end w) c.if-word-pending.true g))

pub returns-in_ok-begin_pending-clause-pending : goal.returns-in_ok-begin_pending-clause-pending
returns-in_ok-begin_pending-clause-pending c m left l x g = c.in_ok-begin_pending.ensures.pending m left l g
