use Rattle.std.proofs.Common.{rules}
use Rattle.trace_command.proofs.Sizes.{good, no_number}
use Rattle.trace_command.proofs.heap_size.heap_size.Goals as goal

pub returns-in_default : goal.returns-in_default
returns-in_default c =
    no_number c.args.word.now (search rules) c.parse.result c.in_default.field-0 c.parse.ensures.value.0 (search rules)

pub returns-then-size-le-MOST : goal.returns-then-size-le-MOST
returns-then-size-le-MOST c =
    good c.args.word.now (search rules) c.parse.result c.in-Ok.size c.parse.ensures.value.0 (search rules)
    (search rules) (search rules)
