use Rattle.std.proofs.Common.{◌≡◌, ◌∙◌, sym, ap}
use Rattle.descriptor.specs.Word.{desc_of}
use Rattle.page_state.specs.Entries.{entry_of_word}
use Rattle.page_state.proofs.Equality.{entries_tell}
use Rattle.table_tree.specs.Meaning.{level_at}
use Rattle.walker.proofs.open.gives.Goals as goal

pub returns-in-Word : goal.returns-in-Word
returns-in-Word g c =
    let tells = entries_tell c.entry_of.result c.args.entry in (
      λ t. (c.in-Word.word, c.in-Word.is, sym c.entry_of.ensures.value ∙ tells.0 (sym c.eq.ensures ∙ t)),
      λ h.
          let same : c.in-Word.word ≡ h.0 = cc in
          c.eq.ensures
          ∙ tells.1
          (c.entry_of.ensures.value ∙ (ap (λ w. entry_of_word (desc_of (level_at c.args.depth) w)) same ∙ h.2)),
    )
