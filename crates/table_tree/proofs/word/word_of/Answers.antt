use Rattle.std.proofs.Common.{◌≡◌, ap, ◌∙◌}
use Rattle.descriptor.specs.Word.{desc_of}
use Rattle.page_state.specs.Entries.{entry_of_word, word_of_entry}
use Rattle.table_tree.specs.Meaning.{level_at}
use Rattle.table_tree.proofs.Words.{entry_back, said_formed}
use Rattle.table_tree.proofs.word.word_of.Goals as goal

says : (c : goal.After-unwrap) → entry_of_word (desc_of (level_at c.args.depth) c.unwrap.result) ≡ c.args.entry
says c =
    let h : desc_of (level_at c.args.depth) c.unwrap.result ≡ word_of_entry c.args.entry =
    rw (c.unwrap.ensures, c.level_of.ensures, c.from.ensures) at c.encode.ensures.value in
    ap entry_of_word h ∙ entry_back c.args.entry

pub returns-clause-entry : goal.returns-clause-entry
returns-clause-entry c =
    (c.unwrap.type_inv, rw (says c) (said_formed (level_at c.args.depth) c.args.entry c.requires.said))

pub returns-clause-value : goal.returns-clause-value
returns-clause-value c = says c
