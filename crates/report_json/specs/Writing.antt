-- The lines that are written for a report's bytes.
use Rattle.std.specs.Prelude.{◌≡◌, ℕ, ◌+◌, List, [], ◌++◌, length, take, Option, Some, None, codes}
use Rattle.std.specs.Io.KnownBytes.{Appends}
use Rattle.memchr.specs.Find.{IsFirstByte, is_byte}
use Rattle.serde_json.specs.Read.{read}
use Rattle.report_json.specs.Forms.{object_of}
use Rattle.report_json.specs.declared.forms.Form.{Form}
use Rattle.report_json.specs.declared.writing.JsonLines.{JsonLines}

-- the bytes grew by one line: a JSON text that reads as the object of a line
pub record AddsLine (forms : List Form) (line : List ℕ) (old new : Option (List ℕ)) : Type 0 where
  pub json : List ℕ
  pub reads : read json ≡ Some (object_of forms line)
  pub written : Appends old new (json ++ codes "\n")

-- bytes without the end of a line are held, and nothing is written
pub record AreHeld (bytes held left : List ℕ) (count : ℕ) (old new : Option (List ℕ)) : Type 0 where
  pub all : count ≡ length bytes
  pub behind : left ≡ held ++ bytes
  pub silent : new ≡ old

-- bytes up to the end of a line, at this place, are taken: with the bytes held they are the line
-- that is written, and nothing is held
pub record AddsHeldLine (forms : List Form) (place : ℕ) (bytes held left : List ℕ) (count : ℕ)
    (old new : Option (List ℕ)) : Type 0 where
  pub through : count ≡ place + 1
  pub told : AddsLine forms (held ++ take place bytes) old new
  pub nothing : left ≡ []

-- what comes of bytes by the first end of a line in them (0x0a)
abbrev pub TakesTo : List Form → Option ℕ → List ℕ → List ℕ → List ℕ → ℕ → Option (List ℕ)
    → Option (List ℕ) → Type 0
TakesTo forms None bytes held left count old new = AreHeld bytes held left count old new
TakesTo forms (Some place) bytes held left count old new =
    AddsHeldLine forms place bytes held left count old new

-- the writer took `count` of the bytes; `contents` gives the bytes of the writer that it writes to
abbrev pub Takes : {W : Type 0}
    → (W → Option (List ℕ))
    → List ℕ
    → JsonLines W
    → JsonLines W
    → ℕ
    → Type 0
Takes contents bytes old new count =
    (end : Option ℕ)
    × IsFirstByte (is_byte 10) bytes end
    × TakesTo old.forms.now end bytes old.held.items new.held.items count (contents old.writer)
    (contents new.writer)
