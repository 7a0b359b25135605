-- The one word that says a descriptor.
use Rattle.std.proofs.Common.{◌≡◌, ℕ, ◌^◌, ◌<◌, Option, Some, inl, pos, negsuc, refl, subst}
use Rattle.std.specs.Prelude.{◌↔◌, MatchOption}
use Rattle.descriptor.specs.declared.Desc.{Desc}
use Rattle.descriptor.specs.declared.Level.{Level}
use Rattle.descriptor.specs.Word.{Says}
use Rattle.c_words.specs.declared.word.PlainWord.{PlainWord}
use Rattle.c_words.specs.Numbers.{level_from_c}
use Rattle.c_words.specs.Said.{desc_from_c}
use Rattle.pkvm_oracle.specs.Words.{Encodes, IsEncoded, IsTheWord}

the_word : (l : Level) (desc : Desc) (word : ℕ)
    → word < 2 ^ 64
    → ((w : ℕ) → w < 2 ^ 64 → (Some word ≡ Some w) ↔ Says l w desc)
    → IsTheWord l desc word
the_word l desc word small exact = record {
  says = (exact word small).0 refl;
  alone = λ w less said. let same = (exact w less).1 said in cc;
}

pub encoded : (level : ℕ) (says : PlainWord) (old word : ℕ) (l : Level) (desc : Desc)
    → Some l ≡ level_from_c level
    → Some desc ≡ desc_from_c says
    → word < 2 ^ 64
    → ((w : ℕ) → w < 2 ^ 64 → (Some word ≡ Some w) ↔ Says l w desc) → IsEncoded level says old word (pos 0)
encoded level says old word l desc is_level is_desc small exact =
    subst
    (λ (o : Option Level). MatchOption o ((pos 0 ≡ negsuc 0) × (word ≡ old))
    (λ m. MatchOption (desc_from_c says) ((pos 0 ≡ negsuc 2) × (word ≡ old))
    (λ d. Encodes m d old word (pos 0)))) is_level
    (subst
    (λ (o : Option Desc). MatchOption o ((pos 0 ≡ negsuc 2) × (word ≡ old))
    (λ d. Encodes l d old word (pos 0))) is_desc
    (inl (refl, the_word l desc word small exact)))
