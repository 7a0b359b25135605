-- What an object says of its line.
use Rattle.std.specs.Prelude.{◌≡◌, ℕ, List, [], ◌∷◌, ◌++◌, Some, codes}
use Rattle.serde_json.specs.Data.{Data, Members, string, object, no_members, put}
use Rattle.report_json.specs.declared.forms.Field.{Field}
use Rattle.report_json.specs.declared.forms.Form.{Form}
use Rattle.report_json.specs.Forms.{data_of}

-- the line of fields with these texts: each text, and its stop
abbrev pub line_of : List Field → List (List ℕ) → List ℕ
line_of [] texts = []
line_of (field ∷ fields) [] = []
line_of (field ∷ fields) (text ∷ texts) = text ++ (field.stop.now ++ line_of fields texts)

-- members, and for each field after them the value of its text
abbrev pub AreValues : List Field → List (List ℕ) → Members → Members → Type 0
AreValues [] [] set all = all ≡ set
AreValues [] (text ∷ texts) set all = ⊥
AreValues (field ∷ fields) [] set all = ⊥
AreValues (field ∷ fields) (text ∷ texts) set all =
    (value : Data)
    × (data_of field.kind text ≡ Some value)
    × AreValues fields texts (put field.name.now value set) all

-- texts of a form's fields, of which the line is made, and of which the object has the values
pub record IsMade (form : Form) (line : List ℕ) (found : Data) : Type 0 where
  pub texts : List (List ℕ)
  pub is_line : line ≡ form.start.now ++ line_of form.fields.now texts
  pub all : Members
  pub is_object : found ≡ object all
  pub has_values : AreValues form.fields.now texts
      (put (codes "type") (string form.kind.now) no_members) all
