-- Texts that are UTF-8, and those that aren't.
use Rattle.std.proofs.Common.{◌≡◌, ℕ, List, Some, None, refl, ⊎_elim}
use Rattle.std.proofs.lemmas.Bool.{cases_Bool}
use Rattle.std.proofs.lemmas.Str.{IsUtf8-from_is_utf8, is_utf8-from_IsUtf8}
use Rattle.std.specs.Str.{IsUtf8, is_utf8}
use Rattle.serde_json.specs.Data.{string}
use Rattle.report_json.specs.Forms.{text_data}

pub text_is : (text : List ℕ) → IsUtf8 text → text_data text ≡ Some (string text)
text_is text is = rw (is_utf8-from_IsUtf8 text is) refl

pub text_isnt : (text : List ℕ) → ¬ (IsUtf8 text) → text_data text ≡ None
text_isnt text isnt =
    ⊎_elim (λ t. absurd (isnt (IsUtf8-from_is_utf8 text t))) (λ f. rw f refl) (cases_Bool (is_utf8 text))
