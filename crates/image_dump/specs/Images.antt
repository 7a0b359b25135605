-- The dump of an image's file.
use Rattle.std.specs.Prelude.{◌≡◌, ℕ, List, Option, Result, Ok, Err}
use Rattle.std.specs.Option.{ForSome}
use Rattle.memory_image.specs.CoreFile.{core_of, raw_of}
use Rattle.memory_image.specs.declared.refused.Fault.{Fault}
use Rattle.memory_image.specs.declared.refused.Refused.TheVariants as image
use Rattle.memory_image.specs.declared.segment.Segment.{Segment}
use Rattle.image_trees.specs.declared.root.Root.{Root}
use Rattle.image_dump.specs.Dumped.{IsDumped}
use Rattle.image_dump.specs.declared.dump.Dumped.{Dumped}
use Rattle.image_dump.specs.declared.dump.Dumped.TheVariants.{Sound, Unsound}
use Rattle.image_dump.specs.declared.dump.NotDumped.{NotDumped}
use Rattle.image_dump.specs.declared.dump.NotDumped.TheVariants.{Refused, Unwritten}
use Rattle.image_dump.specs.declared.dump.Shape.{Shape}
use Rattle.image_dump.specs.declared.image.Form.{Form}
use Rattle.image_dump.specs.declared.image.Form.TheVariants.{Core, Raw}
use Rattle.image_dump.specs.declared.skip.Skip.{Skip}

-- the segments of a file's bytes by its form, or the first fault
abbrev pub segments_by : Form → List ℕ → Result (List Segment) Fault
segments_by Core bytes = core_of bytes
segments_by (Raw base) bytes = raw_of base bytes

-- the report of the trees in the file's segments was written
pub record IsImageDumped (known : Option (List ℕ)) (may_fail : ℕ → ℕ → Type 0) (form : Form)
    (roots : List Root) (vmemmap : Option ℕ) (skips : List Skip) (shape : Shape)
    (before after : Option (List ℕ)) (outcome : Dumped) : Type 0 where
  pub segments : List Segment
  pub segments_are : ForSome known (λ all. segments_by form all ≡ Ok segments)
  pub dumped : IsDumped known may_fail segments roots vmemmap skips shape before after outcome

-- the file has this fault, or a read of it may fail; else the report was not written, or memory was
-- refused
abbrev pub IsImageRefused : Option (List ℕ) → (ℕ → ℕ → Type 0) → Form → NotDumped → Type 0
IsImageRefused known may_fail form (Refused (image.Wrong fault)) =
    ForSome known (λ all. segments_by form all ≡ Err fault)
IsImageRefused known may_fail form (Refused (image.Unread at)) = (count : ℕ) × may_fail at count
IsImageRefused known may_fail form (Refused image.NoMemory) = Unit {0}
IsImageRefused known may_fail form Unwritten = Unit {0}

-- the exit status
abbrev pub status_of : Result Dumped NotDumped → ℕ
status_of (Ok Sound) = 0
status_of (Ok Unsound) = 1
status_of (Err fault) = 2
