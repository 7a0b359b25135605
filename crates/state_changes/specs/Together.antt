-- A text in parts, each of which meets a condition.
use Rattle.std.specs.Prelude.{◌≡◌, ℕ, zero, suc, List, [], ◌++◌}

-- one part, and another after it
abbrev pub Then : (List ℕ → Type 0) → (List ℕ → Type 0) → List ℕ → Type 0
Then P Q text = (front : List ℕ) × (back : List ℕ) × P front × Q back × (text ≡ front ++ back)

-- a part for each number below another, in order
abbrev pub Each : ℕ → (ℕ → List ℕ → Type 0) → List ℕ → Type 0
Each zero P text = text ≡ []
Each (suc n) P text = Then (Each n P) (P n) text

-- a text to which such a part was appended
abbrev pub Adds : (List ℕ → Type 0) → List ℕ → List ℕ → Type 0
Adds P old new = (part : List ℕ) × P part × (new ≡ old ++ part)

-- at most one text meets the condition
abbrev pub IsOnce : (List ℕ → Type 0) → Type 0
IsOnce P = (a b : List ℕ) → P a → P b → a ≡ b
