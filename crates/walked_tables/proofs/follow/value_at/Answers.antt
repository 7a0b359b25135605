use Rattle.std.proofs.Common.{◌≡◌, ◌∙◌, ℕ, ◌^◌, ◌<◌, Bool, true, false, Some, arith, refl, ap}
use Rattle.descriptor.specs.declared.Level.{Level}
use Rattle.table_words.specs.declared.profile.Profile.{Profile}
use Rattle.table_words.specs.declared.word.Decoded.{Decoded}
use Rattle.table_words.specs.declared.word.Decoded.TheVariants.{Malformed, Unmapped, Annotated, Poisoned, Locked, Cleared, Leaf, Table}
use Rattle.table_words.specs.Said.{frame_of, DecodesTo}
use Rattle.table_words.specs.Decoding.{decoded_of}
use Rattle.walked_tables.specs.Values.{IsSmall, value_of}
use Rattle.walked_tables.proofs.follow.value_at.Goals as goal

frame_small : (wide : Bool) (w : ℕ) → frame_of wide w < 2 ^ 40
frame_small false w = omega arith
frame_small true w = omega arith

small_said : (p : Profile) (l : Level) (w : ℕ) (d : Decoded) → DecodesTo p l w d → IsSmall d
small_said p l w (Leaf m) h = rw h.frame_is (frame_small p.lpa2 w)
small_said p l w Malformed h = tt
small_said p l w Unmapped h = tt
small_said p l w (Annotated o g) h = tt
small_said p l w Poisoned h = tt
small_said p l w Locked h = tt
small_said p l w (Cleared m) h = tt
small_said p l w (Table f) h = tt

other_value : (d : Decoded) → (d ≡ Unmapped → ⊥) → Some (record { 0 = d }) ≡ value_of d
other_value Malformed h = refl
other_value Unmapped h = absurd (h refl)
other_value (Annotated o g) h = refl
other_value Poisoned h = refl
other_value Locked h = refl
other_value (Cleared m) h = refl
other_value (Leaf m) h = refl
other_value (Table f) h = refl

pub returns-in_default-clause-value : goal.returns-in_default-clause-value
returns-in_default-clause-value c =
    other_value c.decode.result c.in_default.not-Unmapped
    ∙ ap value_of
    (c.decode.ensures.value ∙ ap (λ l. decoded_of c.args.profile.now l c.args.word) c.level_of.ensures)

pub returns-in_default-clause-small : goal.returns-in_default-clause-small
returns-in_default-clause-small c =
    small_said c.args.profile.now c.level_of.result c.args.word c.decode.result
    ((c.decode.ensures.exact c.decode.result).0 refl)
