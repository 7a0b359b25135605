use Rattle.std.proofs.Common.{refl}
use Rattle.descriptor.specs.Word.{DecodesTo}
use Rattle.page_state.specs.Entries.{entry_of_word}
use Rattle.table_tree.specs.Meaning.{level_at}
use Rattle.table_tree.specs.Shape.{IsWellFormed}
use Rattle.table_tree.proofs.Words.{said_entry, small_entry}
use Rattle.table_tree.proofs.word.entry_of.Goals as goal

said : (c : goal.After-from) → DecodesTo (level_at c.args.depth) c.args.word c.decode.result
said c = rw c.level_of.ensures at ((c.decode.ensures.exact c.decode.result).0 refl)

pub returns-clause-said : goal.returns-clause-said
returns-clause-said c h =
    let w : IsWellFormed (entry_of_word c.decode.result) = rw (c.decode.ensures.value, c.level_of.ensures) h.1 in
    rw c.from.ensures (said_entry (level_at c.args.depth) c.args.word c.decode.result (said c) w)

pub returns-clause-small : goal.returns-clause-small
returns-clause-small c = rw c.from.ensures (small_entry (level_at c.args.depth) c.args.word c.decode.result (said c))
