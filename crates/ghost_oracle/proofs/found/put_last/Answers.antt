use Rattle.std.proofs.Common.{◌-◌, ◌∙◌, sym, arith}
use Rattle.ghost_oracle.proofs.Lasts.{last_longer, last_apart, last_alone}
use Rattle.ghost_oracle.proofs.found.put_last.Goals as goal
use Rattle.ghost_oracle.proofs.found.put_last.Goals.{else-n-gt0-via-then-n-gt0+else-is_continued, else-n-gt0-via-else-n-gt0}

pub returns-then-is_continued : goal.returns-then-is_continued
returns-then-is_continued c =
    last_longer c.args.runs.now.items c.args.run c.index.result.now c.index_mut.result.now (c.len-n.result - 1)
    (omega (arith, c.len-n.ensures, c.if-n-gt0.true)) c.index.ensures c.index_mut.ensures.value
    (sym c.is_continued.ensures ∙ c.if-is_continued.true)

pub returns : goal.returns
returns c = c.in_ok-push.ensures.items ∙ elim c.else-n-gt0.branch [
  | else-n-gt0-via-then-n-gt0+else-is_continued w ↦ last_apart c.args.runs.now.items c.args.run w.index.result.now
      (c.len-n.result - 1) (omega (arith, c.len-n.ensures, w.if-n-gt0.true)) w.index.ensures
      (sym w.is_continued.ensures ∙ w.if-is_continued.false)
  | else-n-gt0-via-else-n-gt0 w ↦ last_alone c.args.runs.now.items c.args.run
      (omega (arith, c.len-n.ensures, w.if-n-gt0.false))
]
