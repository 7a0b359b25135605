-- What decoding and encoding words answers C.
use Rattle.std.specs.Prelude.{◌≡◌, ◌⊎◌, ◌^◌, ◌<◌, ℕ, ℤ, pos, negsuc, MatchOption}
use Rattle.descriptor.specs.declared.Desc.{Desc}
use Rattle.descriptor.specs.declared.Level.{Level}
use Rattle.descriptor.specs.Word.{DecodesTo, Says}
use Rattle.descriptor.specs.declared.State.TheVariants.{Owned}
use Rattle.table_words.specs.declared.profile.Profile.{Profile}
use Rattle.table_words.specs.declared.word.Decoded.{Decoded}
use Rattle.table_words.specs.Said.{DecodesTo as DecodesByTo}
use Rattle.c_words.specs.declared.word.PlainWord.{PlainWord}
use Rattle.c_words.specs.Numbers.{level_from_c}
use Rattle.c_words.specs.Said.{desc_from_c}
use Rattle.c_words.specs.Written.{desc_written}
use Rattle.c_profiles.specs.declared.beyond.PlainBeyond.{PlainBeyond}
use Rattle.c_profiles.specs.Beyond.{beyond_written}
use Rattle.c_profiles.specs.Numbers.{profile_from_c}
use Rattle.c_profiles.specs.Words.{desc_by}

-- the word of a level is decoded: the one descriptor that it says is written, with 0 in each field
-- that isn't named for it
pub record Decodes (level : Level) (word : ℕ) (new : PlainWord) (status : ℤ) : Type 0 where
  pub desc : Desc
  pub said : DecodesTo level word desc
  pub written : new ≡ desc_written desc
  pub done : status ≡ pos 0

-- or there is no such level, and nothing is written
abbrev pub IsDecoded : ℕ → ℕ → PlainWord → PlainWord → ℤ → Type 0
IsDecoded level word old new status =
    MatchOption (level_from_c level) ((status ≡ negsuc 0) × (new ≡ old))
    (λ l. Decodes l word new status)

-- the word of a level is decoded by a profile: what it says is written, to the model and beyond
pub record DecodesAs (profile : Profile) (level : Level) (word : ℕ) (new : PlainWord)
    (beyond : PlainBeyond) (status : ℤ) : Type 0 where
  pub decoded : Decoded
  pub said : DecodesByTo profile level word decoded
  pub written : new ≡ desc_written (desc_by profile Owned decoded)
  pub written_beyond : beyond ≡ beyond_written decoded
  pub done : status ≡ pos 0

-- or there is no such level, or the tree has no such profile, and nothing is written
abbrev pub IsDecodedAs : ℕ
    → ℕ
    → ℕ
    → ℕ
    → (old new : PlainWord)
    → (old_beyond new_beyond : PlainBeyond)
    → ℤ
    → Type 0
IsDecodedAs tree profile level word old new old_beyond new_beyond status =
    MatchOption (level_from_c level)
    ((status ≡ negsuc 0) × (new ≡ old) × (new_beyond ≡ old_beyond)) (λ l.
    MatchOption (profile_from_c tree profile)
    ((status ≡ negsuc 2) × (new ≡ old) × (new_beyond ≡ old_beyond))
    (λ p. DecodesAs p l word new new_beyond status))

-- a word of 64 bits is the one that says a descriptor
pub record IsTheWord (level : Level) (desc : Desc) (word : ℕ) : Type 0 where
  pub says : Says level word desc
  pub alone : (w : ℕ) → w < 2 ^ 64 → Says level w desc → w ≡ word

-- a descriptor is encoded as the one word that says it, or none does, and nothing is written
abbrev pub Encodes : Level → Desc → ℕ → ℕ → ℤ → Type 0
Encodes level desc old new status =
    ((status ≡ pos 0) × IsTheWord level desc new)
    ⊎ ((status ≡ negsuc 3) × (new ≡ old) × ((w : ℕ) → w < 2 ^ 64 → Says level w desc → ⊥))

-- or there is no such level, or a number is unknown
abbrev pub IsEncoded : ℕ → PlainWord → ℕ → ℕ → ℤ → Type 0
IsEncoded level says old new status =
    MatchOption (level_from_c level) ((status ≡ negsuc 0) × (new ≡ old)) (λ l.
    MatchOption (desc_from_c says) ((status ≡ negsuc 2) × (new ≡ old))
    (λ desc. Encodes l desc old new status))
