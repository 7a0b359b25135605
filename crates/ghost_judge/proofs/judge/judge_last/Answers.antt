use Rattle.std.proofs.Common.{◌≡◌, sym, ◌∙◌, rules}
use Rattle.page_state.proofs.Common.{not-false}
use Rattle.call_table.proofs.Equality.{replies_tell}
use Rattle.ghost_judge.proofs.judge.judge_last.Goals as goal

pub returns-clause-none : goal.returns-clause-none
returns-clause-none c =
    let same : c.args.reply.now ≡ c.in_ok-told.told =
    (replies_tell c.args.reply.now c.in_ok-told.told).0 (not-false _ (sym c.ne.ensures ∙ c.if-ne.false)) in
    search rules

pub returns-clause-first : goal.returns-clause-first
returns-clause-first c =
    let same : c.args.reply.now ≡ c.in_ok-told.told =
    (replies_tell c.args.reply.now c.in_ok-told.told).0 (not-false _ (sym c.ne.ensures ∙ c.if-ne.false)) in
    search rules
