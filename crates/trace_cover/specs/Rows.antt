-- The rows of the report (profile): each call with each reply, and with each condition of the frame
-- that it names.
use Rattle.std.specs.Prelude.{ℕ, List, [], ◌∷◌, ◌++◌, codes, map, Option, Some, None}
use Rattle.call_table.specs.declared.reply.Refusal.{Refusal}
use Rattle.call_table.specs.declared.reply.Refusal.TheVariants.{Perm, NoVm, Contended, NoMemory, Busy, Invalid, NoPool, LogFull}
use Rattle.call_table.specs.declared.row.CallName.{CallName}
use Rattle.call_table.specs.Rows.{calls, row as row_in}
use Rattle.call_table.specs.Texts.{text_of_refusal}
use Rattle.trace_cover.specs.declared.rows.Row.{Row}
use Rattle.trace_cover.specs.declared.rows.Row.TheVariants.{Reply, Cell}
use Rattle.trace_cover.specs.Conditions.{conditions, words_of}

-- the replies: made, and each refusal
abbrev pub replies : List (Option Refusal)
replies =
    None ∷ Some Invalid ∷ Some NoVm ∷ Some Busy ∷ Some Perm ∷ Some NoPool ∷ Some LogFull
    ∷ Some NoMemory ∷ Some Contended ∷ []

-- their places there
abbrev pub reply_number : Option Refusal → ℕ
reply_number None = 1
reply_number (Some Invalid) = 2
reply_number (Some NoVm) = 3
reply_number (Some Busy) = 4
reply_number (Some Perm) = 5
reply_number (Some NoPool) = 6
reply_number (Some LogFull) = 7
reply_number (Some NoMemory) = 8
reply_number (Some Contended) = 9

-- the rows of a call, and those of some calls
abbrev pub rows_of : CallName → List Row
rows_of call = map (Reply call) replies ++ map (Cell call) conditions

abbrev pub rows_in : List CallName → List Row
rows_in [] = []
rows_in (call ∷ more) = rows_of call ++ rows_in more

-- all rows
unfoldable pub rows : List Row
rows = rows_in calls

-- the word of a reply, as a report of `replay` has it, without a value
abbrev pub text_of_why : Option Refusal → List ℕ
text_of_why None = codes "ok"
text_of_why (Some refusal) = text_of_refusal refusal

-- how a row is named
abbrev pub name_of : Row → List ℕ
name_of (Reply call why) = (row_in call).word ++ codes " " ++ text_of_why why
name_of (Cell call condition) = (row_in call).word ++ codes ": " ++ words_of condition
