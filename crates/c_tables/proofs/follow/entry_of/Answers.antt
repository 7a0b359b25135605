use Rattle.std.proofs.Common.{ℕ, arith, refl}
use Rattle.descriptor.specs.declared.Level.{Level}
use Rattle.descriptor.specs.declared.Desc.{Desc}
use Rattle.descriptor.specs.declared.Desc.TheVariants.{Malformed, Unmapped, Annotated, Leaf, Table}
use Rattle.descriptor.specs.Word.{DecodesTo}
use Rattle.page_state.specs.Entries.{entry_of_word}
use Rattle.c_tables.specs.ByFrames.{HasSmallFrame, level_at}
use Rattle.c_tables.proofs.follow.entry_of.Goals as goal

small_entry : (l : Level) (w : ℕ) (d : Desc) → DecodesTo l w d → HasSmallFrame (entry_of_word d)
small_entry l w Malformed h = tt
small_entry l w Unmapped h = tt
small_entry l w (Annotated o) h = tt
small_entry l w (Leaf f p k s) h = let x = h.frame_is in omega arith
small_entry l w (Table f) h = tt

pub returns-clause-small : goal.returns-clause-small
returns-clause-small c =
    rw c.from.ensures
    (small_entry (level_at c.args.depth) c.args.word c.decode.result
    (rw c.level_of.ensures at ((c.decode.ensures.exact c.decode.result).0 refl)))
