use Rattle.std.proofs.Common.{◌≡◌, Option, Some, None, ap}
use Rattle.descriptor.specs.declared.Desc.{Desc}
use Rattle.descriptor.specs.declared.State.{State}
use Rattle.table_words.specs.declared.word.Decoded.{Decoded}
use Rattle.table_words.specs.declared.word.Decoded.TheVariants.{Malformed, Unmapped, Annotated, Poisoned, Locked, Cleared, Leaf, Table}
use Rattle.table_words.specs.Decoding.{decoded_of}
use Rattle.table_words.specs.Entries.{entry_of}
use Rattle.table_words.specs.Profiles.{model_profile}
use Rattle.table_words.proofs.OwnWords.{law}
use Rattle.c_profiles.specs.Words.{desc_by, or_malformed}
use Rattle.c_profiles.proofs.laws.own_words.Goals as goal

none-some : (d : Desc) → ◌≡◌ {A = Option Desc} None (Some d) → ⊥
none-some d e = cc

by_entry : (x : Decoded) (s : State) (d : Desc) → entry_of x s ≡ Some d → desc_by model_profile s x ≡ d
by_entry Malformed s d e = ap or_malformed e
by_entry Unmapped s d e = ap or_malformed e
by_entry (Annotated o None) s d e = ap or_malformed e
by_entry (Annotated o (Some g)) s d e = absurd (none-some d e)
by_entry Poisoned s d e = ap or_malformed e
by_entry Locked s d e = ap or_malformed e
by_entry (Cleared m) s d e = ap or_malformed e
by_entry (Leaf m) s d e = ap or_malformed e
by_entry (Table f) s d e = ap or_malformed e

pub returns : goal.returns
returns c = λ s.
    by_entry (decoded_of model_profile c.args.level c.args.word) s _
    ((law c.args.level c.args.word c.ranges.word.fits).entry s)
