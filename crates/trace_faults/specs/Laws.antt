-- Where a fault of form is found.
use Rattle.std.specs.Prelude.{◌≡◌, ℕ, ◌<◌, List, length, Err, false, slice_get, Some}
use Rattle.trace_faults.specs.declared.form.Form.{Form}
use Rattle.trace_faults.specs.Forms.{first_wrong, forms, is_of}
use Rattle.trace_lines.specs.declared.fault.LineFault.TheVariants.{Form as WrongForm}
use Rattle.trace_lines.specs.declared.place.Allows.{Allows}
use Rattle.trace_lines.specs.Said.{said}
use Rattle.trace_lines.specs.Settings.{Told}
use Rattle.trace_words.specs.Words.{words_of}

-- a word of a line isn't of the form that its place asks, and each before it is
pub record IsWrong (words : List (List ℕ)) (forms : List Form) : Type 0 where
  pub form : Form
  pub asked : slice_get forms (first_wrong words forms 0) ≡ Some form
  pub other : is_of words (first_wrong words forms 0) form ≡ false
  pub there : first_wrong words forms 0 < length words

-- a line whose fault is one of form has such a word
abbrev pub FormIsFound : Type 0
FormIsFound =
    (allows : Allows) (told : Told) (line : List ℕ)
    → said allows told line ≡ Err WrongForm
    → IsWrong (words_of line) (forms (words_of line))
