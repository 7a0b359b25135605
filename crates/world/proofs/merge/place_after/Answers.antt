use Rattle.std.proofs.Common.{◌∙◌, sym}
use Rattle.page_state.proofs.Common.{if-true}
use Rattle.world.specs.inner.Merging.{rest_of}
use Rattle.std.specs.Prelude.{drop}
use Rattle.world.proofs.Merging.{drop_more}
use Rattle.world.proofs.merge.place_after.Goals as goal

pub returns-then-place-log : goal.returns-then-place-log
returns-then-place-log c =
    drop_more c.args.log.now c.args.place
    ∙ sym
    (if-true c.args.given (rest_of (drop c.args.place c.args.log.now))
    (drop c.args.place c.args.log.now) c.if-given.true)
