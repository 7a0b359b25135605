-- Owner rows: the plain one, and how a row goes on along a range of frames.
use Rattle.std.specs.Prelude.{ℕ, ◌+◌, ◌^◌, ◌≤◌, Option, Some, None}
use Rattle.page_state.specs.declared.row.Lent.{Lent}
use Rattle.page_state.specs.declared.row.Row.{Row}
use Rattle.page_state.specs.declared.row.Usage.TheVariants.{Plain}

-- the row of a frame that the host owns, shares with nobody, and has in no other use
abbrev pub plain_row : Row
plain_row = record { owner = record { 0 = 0 }; lent = None; usage = Plain }

-- a loan n frames further on: the borrower's page grows with the frame
abbrev pub advance_lent : Option Lent → ℕ → Option Lent
advance_lent None n = None
advance_lent (Some l) n = Some (record { owner = l.owner; page = l.page + n })

-- a row n frames further on: a loan advances, and all else stays
abbrev pub advance_row : Row → ℕ → Row
advance_row r n = record { owner = r.owner; lent = advance_lent r.lent n; usage = r.usage }

-- a lent page stays below 2^63 along n frames
abbrev pub HasLentBelow : Option Lent → ℕ → Type 0
HasLentBelow None n = Unit {0}
HasLentBelow (Some l) n = l.page + n ≤ 2 ^ 63

-- and so does that of a row
abbrev pub HasPageBelow : Row → ℕ → Type 0
HasPageBelow r n = HasLentBelow r.lent n
