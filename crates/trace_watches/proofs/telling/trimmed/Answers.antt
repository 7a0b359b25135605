use Rattle.std.proofs.Common.{refl}
use Rattle.std.proofs.lemmas.Str.Ascii.{trim_ascii_is}
use Rattle.trace_cases.specs.Kinds.{led}
use Rattle.trace_watches.proofs.telling.trimmed.Goals as goal

pub returns : goal.returns
returns c = trim_ascii_is c.args.text.now _ (led c.args.text.now) refl c.trim_ascii.ensures.value
