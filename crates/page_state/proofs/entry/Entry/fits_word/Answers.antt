use Rattle.std.proofs.Common.{rules}
use Rattle.page_state.proofs.entry.Entry.fits_word.Goals as goal

pub returns-then-frame-lt68719476736 : goal.returns-then-frame-lt68719476736
returns-then-frame-lt68719476736 c = search rules
