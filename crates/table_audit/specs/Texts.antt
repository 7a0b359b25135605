-- How findings are written: indices and frames in hexadecimal, all else in decimal.
use Rattle.std.specs.Prelude.{ℕ, List, ◌++◌, codes, Option, Some, None}
use Rattle.std.specs.Fmt.{decimal}
use Rattle.page_state.specs.Texts.{text_of_page}
use Rattle.ghost_judge.specs.Texts.{text_of_disagreement, text_of_tree}
use Rattle.ghost_legal.specs.Texts.{text_of_illegal}
use Rattle.ghost_sound.specs.Texts.{text_of_unsound}
use Rattle.table_audit.specs.declared.finding.Finding.{Finding}
use Rattle.table_audit.specs.declared.finding.Finding.TheVariants.{Differs, Table as TableDiffers, Unsound, Illegal}

abbrev pub text_of_frame_or_none : Option ℕ → List ℕ
text_of_frame_or_none None = codes "-"
text_of_frame_or_none (Some frame) = text_of_page frame

-- a table's height and index, and its two sides
abbrev pub text_of_sides : ℕ → ℕ → Option ℕ → Option ℕ → List ℕ
text_of_sides height index kept walked =
    decimal height ++ codes " " ++ text_of_page index ++ codes " kept "
    ++ text_of_frame_or_none kept ++ codes " walked " ++ text_of_frame_or_none walked

abbrev pub text_of_finding : Finding → List ℕ
text_of_finding (Differs told) = text_of_disagreement told
text_of_finding (TableDiffers tree height index kept walked) =
    codes "disagree table " ++ text_of_tree tree ++ codes " "
    ++ text_of_sides height index kept walked
text_of_finding (Unsound why) = text_of_unsound why
text_of_finding (Illegal why) = text_of_illegal why
