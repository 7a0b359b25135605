-- The first wrong place, from one on, goes one further past a word that is of its form.
use Rattle.std.proofs.Common.{◌≡◌, ℕ, ◌+◌, zero, suc, ◌<◌, refl, arith, true, false, List, [], ◌∷◌, length, drop}
use Rattle.trace_faults.specs.declared.form.Form.{Form}
use Rattle.trace_faults.specs.Forms.{first_wrong, is_right}

pub right_here : (words : List (List ℕ)) (forms : List Form) (at place : ℕ)
    → is_right words forms at place ≡ true
    → at < length forms
    → first_wrong words (drop at forms) place ≡ first_wrong words (drop (suc at) forms) (place + 1)
right_here words [] at place right less = absurd (omega (arith, less))
right_here words (form ∷ more) zero place right less = rw right refl
right_here words (form ∷ more) (suc at) place right less = right_here words more at place right (omega (arith, less))

pub wrong_here : (words : List (List ℕ)) (forms : List Form) (at place : ℕ)
    → is_right words forms at place ≡ false
    → first_wrong words (drop at forms) place ≡ place
wrong_here words [] at place wrong = absurd cc
wrong_here words (form ∷ more) zero place wrong = rw wrong refl
wrong_here words (form ∷ more) (suc at) place wrong = wrong_here words more at place wrong
