-- What the elements of a picture tell.
use Rattle.std.specs.Prelude.{◌≡◌, ℕ, List, [], ◌∷◌, map}
use Rattle.std.specs.List.{flat_map}
use Rattle.image_findings.specs.declared.finding.Finding.{Finding}
use Rattle.image_dump.specs.Pictures.{shown, Shown}
use Rattle.image_dump.specs.Pictures.Shown.{Block, Words}
use Rattle.image_dump.specs.Texts.{text_of_line}
use Rattle.image_dump.specs.declared.line.DumpLine.{DumpLine}
use Rattle.image_dump.specs.declared.line.DumpLine.TheVariants as line
use Rattle.image_dump.specs.declared.places.Pen.{Pen}

-- the line that an element tells, where it tells one
abbrev pub told_by : Shown → List (List ℕ)
told_by (Block rectangle text) = text ∷ []
told_by (Words head text) = text ∷ []
told_by other = []

-- the line of a block
abbrev pub block_told : Shown → List (List ℕ)
block_told (Block rectangle text) = text ∷ []
block_told other = []

-- the text of a run's line
abbrev pub run_text : DumpLine → List (List ℕ)
run_text (line.Run run) = text_of_line (line.Run run) ∷ []
run_text other = []

-- all lines are told, each once, in their order, and nothing else
abbrev pub AreLinesShown : Type 0
AreLinesShown =
    (findings : List Finding) (pen : Pen) (lines : List DumpLine)
    → flat_map told_by (shown findings pen lines) ≡ map text_of_line lines

-- blocks are those of runs: of each one, and no other
abbrev pub AreRunsBlocks : Type 0
AreRunsBlocks =
    (findings : List Finding) (pen : Pen) (lines : List DumpLine)
    → flat_map block_told (shown findings pen lines) ≡ flat_map run_text lines
