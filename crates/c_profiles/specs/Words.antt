-- The model's descriptor of a word of Linux.
use Rattle.std.specs.Prelude.{◌-◌, nat_lt, Option, Some, None, if◌then◌else◌}
use Rattle.descriptor.specs.declared.Desc.{Desc}
use Rattle.descriptor.specs.declared.Desc.TheVariants.{Malformed, Annotated}
use Rattle.descriptor.specs.declared.State.{State}
use Rattle.table_words.specs.declared.profile.InvalidForm.{InvalidForm}
use Rattle.table_words.specs.declared.profile.InvalidForm.TheVariants.{Donation}
use Rattle.table_words.specs.declared.profile.Profile.{Profile}
use Rattle.table_words.specs.declared.word.Decoded.{Decoded}
use Rattle.table_words.specs.declared.word.Decoded.TheVariants as decoded
use Rattle.table_words.specs.declared.word.Guest.{Guest}
use Rattle.table_words.specs.Entries.{entry_of}

-- the annotation of the guest that has a handle. 7.3's handles begin at 0x1000, the one of the
-- guest in slot 0 (HANDLE_OFFSET); owner 2 + v is the guest in slot v.
abbrev pub owner_by_handle : InvalidForm → Guest → Desc
owner_by_handle Donation guest =
    if nat_lt guest.handle 4096 then Malformed
    else Annotated (record { 0 = guest.handle - 4094 })
owner_by_handle form guest = Malformed

abbrev pub or_malformed : Option Desc → Desc
or_malformed None = Malformed
or_malformed (Some desc) = desc

-- the descriptor, with a state for words that say none; Malformed for a leaf that can't be read,
-- which the model doesn't know
abbrev pub desc_by : Profile → State → Decoded → Desc
desc_by profile state (decoded.Annotated owner (Some guest)) =
    owner_by_handle profile.invalid guest
desc_by profile state other = or_malformed (entry_of other state)
