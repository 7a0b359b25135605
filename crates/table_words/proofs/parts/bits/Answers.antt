use Rattle.std.proofs.Common.{◌/◌, ◌^◌}
use Rattle.std.proofs.lemmas.Nat.{one_shl, and_mask}
use Rattle.table_words.proofs.parts.bits.Goals as goal

pub returns : goal.returns
returns c = rw (one_shl c.args.count 64 c.requires.count_in) (and_mask (c.args.word / 2 ^ c.args.low) c.args.count)
