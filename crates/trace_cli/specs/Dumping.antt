-- The exit status of a dump.
use Rattle.std.specs.Prelude.{◌≡◌, ◌⊎◌, ℕ, Bool, true, false, List, Option, Some, None, Result, Ok, Err}
use Rattle.image_trees.specs.declared.root.Root.{Root}
use Rattle.image_dump.specs.Images.{IsImageDumped, IsImageRefused, status_of}
use Rattle.image_dump.specs.declared.dump.Dumped.{Dumped}
use Rattle.image_dump.specs.declared.dump.NotDumped.{NotDumped}
use Rattle.image_dump.specs.declared.dump.Shape.{Shape}
use Rattle.image_dump.specs.declared.dump.Shape.TheVariants.{Lines, Picture}
use Rattle.image_dump.specs.declared.image.Form.{Form}
use Rattle.image_dump.specs.declared.image.Form.TheVariants.{Core, Raw}
use Rattle.image_dump.specs.declared.skip.Skip.{Skip}
use Rattle.dump_words.specs.Lists.{given_by}
use Rattle.trace_command.specs.Asked.{DumpAsked}

-- an image is raw from an address on, or an ELF core
abbrev pub form_by : Option ℕ → Form
form_by None = Core
form_by (Some base) = Raw base

-- the report is drawn, or lines
abbrev pub shape_by : Bool → Shape
shape_by true = Picture
shape_by false = Lines

-- the report of the image was written, or why it wasn't
abbrev pub IsDumpAnswer : Option (List ℕ) → (ℕ → ℕ → Type 0) → Form → List Root → Option ℕ
    → List Skip → Shape → Result Dumped NotDumped → Type 0
IsDumpAnswer known may_fail form roots vmemmap skips shape (Ok outcome) =
    (old : Option (List ℕ))
    × (new : Option (List ℕ))
    × IsImageDumped known may_fail form roots vmemmap skips shape old new outcome
IsDumpAnswer known may_fail form roots vmemmap skips shape (Err why) =
    IsImageRefused known may_fail form why

module _ {I E : Type 0} (known : I → Option (List ℕ)) (may_fail : I → ℕ → ℕ → Type 0)
    (opens : List ℕ → Result I E → Type 0) where
  -- the words were read, the image was opened, and the status is that of what dumping it came to
  pub record IsDumpStatus (asked : DumpAsked) (status : ℕ) : Type 0 where
    pub roots : List Root
    pub skips : List Skip
    pub given : given_by asked.host asked.hyp asked.guests asked.profiles asked.skips
        ≡ Ok (roots, skips)
    pub image : I
    pub opened : opens asked.image (Ok image)
    pub answer : Result Dumped NotDumped
    pub dumped : IsDumpAnswer (known image) (may_fail image)
        (form_by asked.base) roots asked.vmemmap skips (shape_by asked.draw) answer
    pub told : status ≡ status_of answer

  -- and if words are wrong, the image can't be opened, or memory was refused before, it is 2
  abbrev pub HasDumpStatus : DumpAsked → ℕ → Type 0
  HasDumpStatus asked status = IsDumpStatus asked status ⊎ (status ≡ 2)
