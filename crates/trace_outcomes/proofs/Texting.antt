-- Texts that are put together.
use Rattle.std.proofs.Common.{◌≡◌, ℕ, List, ◌++◌, ◌∙◌, ap}
use Rattle.std.proofs.lemmas.List.{append_assoc}

pub four_parts : (text a b c d one two three four : List ℕ)
    → one ≡ text ++ a
    → two ≡ one ++ b
    → three ≡ two ++ c
    → four ≡ three ++ d
    → four ≡ text ++ (((a ++ b) ++ c) ++ d)
four_parts text a b c d one two three four e f g h =
    h
    ∙ ap (λ t. t ++ d)
    (g ∙ ap (λ t. t ++ c) (f ∙ ap (λ t. t ++ b) e ∙ append_assoc text a b) ∙ append_assoc text (a ++ b) c)
    ∙ append_assoc text ((a ++ b) ++ c) d
