use Rattle.std.proofs.Common.{rules}
use Rattle.ghost_oracle.proofs.raw.RawParts.word_at.Goals as goal

pub returns-in-Hyp : goal.returns-in-Hyp
returns-in-Hyp g c = search rules
