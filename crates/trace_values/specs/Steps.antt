-- One name of a trace after another.
use Rattle.std.specs.Prelude.{◌≡◌, ℕ, List, None, Err}
use Rattle.trace_reader.specs.Reading.{lines_of}
use Rattle.trace_values.specs.declared.expanding.Next.{Next}
use Rattle.trace_values.specs.declared.expanding.Next.TheVariants as nexts
use Rattle.trace_values.specs.Expansions.{IsPut, SaysFirst, put_in}
use Rattle.trace_values.specs.Names.{first_name}
use Rattle.trace_values.specs.View.{spot_in}

-- what comes of the first name of a text
abbrev pub IsNext : Type 0 → List ℕ → Next → Type 0
IsNext A text nexts.Plain = first_name (lines_of text) ≡ None
IsNext A text (nexts.Text new) = (value : List ℕ) × IsPut A text value new.items
IsNext A text (nexts.Fault spot) = SaysFirst A text (Err (spot_in spot))

-- a text with a value for a name
abbrev pub PutsFirst : List ℕ → List ℕ → List ℕ → Next → Type 0
PutsFirst text name value nexts.Plain = ⊥
PutsFirst text name value (nexts.Text new) = new.items ≡ put_in text name value
PutsFirst text name value (nexts.Fault spot) = ⊥
