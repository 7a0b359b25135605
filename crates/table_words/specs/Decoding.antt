use Rattle.std.specs.Prelude.{ℕ, ◌+◌, ◌*◌, ◌%◌, ◌^◌, ◌==◌, ◌&&◌, Bool, true, false, Option, Some, None, if◌then◌else◌}
use Rattle.descriptor.specs.Word.{field, has_leaves, is_upper, page_bit, level_pages}
use Rattle.descriptor.specs.declared.Level.{Level}
use Rattle.descriptor.specs.declared.State.{State}
use Rattle.descriptor.specs.declared.Frame.{Frame}
use Rattle.table_words.specs.Said.{memory_of, access_of, execute_of, state_of, aged_of, guarded_of, frame_of}
use Rattle.table_words.specs.declared.profile.Profile.{Profile}
use Rattle.table_words.specs.declared.profile.InvalidForm.{InvalidForm}
use Rattle.table_words.specs.declared.profile.InvalidForm.TheVariants.{OwnerByte, OwnerOrLock, Lock, Donation, Poison, ClearedLeaf}
use Rattle.table_words.specs.declared.word.Access.{Access}
use Rattle.table_words.specs.declared.word.Execute.{Execute}
use Rattle.table_words.specs.declared.word.Memory.{Memory}
use Rattle.table_words.specs.declared.word.Mapping.{Mapping}
use Rattle.table_words.specs.declared.word.Decoded.{Decoded}
use Rattle.table_words.specs.declared.word.Decoded.TheVariants.{Malformed, Unmapped, Annotated, Poisoned, Locked, Cleared, Leaf, Table}

-- What a word is decoded to, as functions, by which inner code and the layers above compute.

-- bits 9:8 are as given and bits 49:48 are 0, or hold an address
abbrev pub has_beside_address : (lpa2 : Bool) → ℕ → ℕ → Bool
has_beside_address false share word = field word 8 2 == share && field word 48 2 == 0
has_beside_address true share word = true

-- whether the word has the bits that every leaf of the level has
abbrev pub has_leaf_form : (lpa2 : Bool) → Level → ℕ → Bool
has_leaf_form lpa2 level word =
    has_leaves level && field word 0 1 == 1 && field word 1 1 == page_bit level
    && has_beside_address lpa2 3 word && field word 11 1 == 0 && field word 51 2 == 0
    && field word 57 7 == 0 && frame_of lpa2 word % level_pages level == 0

-- the mapping of parts that were all found
abbrev pub mapping_of : Bool → Option Memory → Option Access → Option Execute
    → Option (Option State) → Option Bool → Option Bool → ℕ → Option Mapping
mapping_of true (Some m) (Some a) (Some e) (Some s) (Some g) (Some o) number =
    Some
    (record {
      frame = record { 0 = number };
      access = a;
      execute = e;
      memory = m;
      state = s;
      guarded = g;
      aged = o;
    })
mapping_of form m a e s g o number = None

-- the mapping of a leaf
unfoldable pub leaf_in : Profile → Level → ℕ → Option Mapping
leaf_in p level word =
    mapping_of (has_leaf_form p.lpa2 level word) (memory_of p.memory (field word 2 4))
    (access_of p.access (field word 6 2)) (execute_of p.execute (field word 53 2))
    (state_of p.has_states (field word 55 2)) (guarded_of p.guards (field word 50 1))
    (aged_of p.ages (field word 10 1)) (frame_of p.lpa2 word)

-- the frame of a table
unfoldable pub table_in : Bool → Level → ℕ → Option Frame
table_in lpa2 level word =
    if is_upper level && field word 0 2 == 3 && field word 2 6 == 0
    && has_beside_address lpa2 0 word && field word 10 2 == 0
    && field word 50 14 == 0 then Some (record { 0 = frame_of lpa2 word })
    else None

-- the owner in bits 9:2
abbrev pub byte_owner_in : ℕ → Decoded
byte_owner_in word =
    if field word 2 8 == 0 then Malformed
    else if field word 0 2 == 0
    && field word 10 54 == 0 then Annotated (record { 0 = field word 2 8 }) None
    else Malformed

-- 7.3's owner
abbrev pub donated_in : ℕ → Decoded
donated_in word =
    if field word 60 4 == 2
    then (if field word 0 4 == 2 && field word 4 56 == 0 then Annotated (record { 0 = 1 }) None
    else if field word 0 4 == 4
    then Annotated (record { 0 = 2 })
    (Some (record { handle = field word 4 16; gfn = field word 20 40 }))
    else Malformed)
    else Malformed

-- the mapping whose valid bit was cleared
abbrev pub cleared_of : Option Mapping → Decoded
cleared_of (Some m) = Cleared m
cleared_of None = Malformed

-- what an invalid word says that isn't 0
unfoldable pub invalid_in : Profile → InvalidForm → Level → ℕ → Decoded
invalid_in p OwnerByte level word = byte_owner_in word
invalid_in p OwnerOrLock level word = if word == 2 ^ 10 then Locked else byte_owner_in word
invalid_in p Lock level word = if word == 2 ^ 10 then Locked else Malformed
invalid_in p Donation level word = if word == 2 ^ 60 then Locked else donated_in word
invalid_in p Poison level word =
    if word == 2 ^ 60 then Locked else if word == 3 * 2 ^ 60 then Poisoned else Malformed
invalid_in p ClearedLeaf level word = cleared_of (leaf_in p level (word + 1))

abbrev pub leaf_or_malformed : Option Mapping → Decoded
leaf_or_malformed (Some m) = Leaf m
leaf_or_malformed None = Malformed

abbrev pub table_or_leaf : Option Frame → Option Mapping → Decoded
table_or_leaf (Some f) m = Table f
table_or_leaf None m = leaf_or_malformed m

-- what a word of a level is decoded to
unfoldable pub decoded_of : Profile → Level → ℕ → Decoded
decoded_of p level word =
    if word == 0 then Unmapped
    else if field word 0 1 == 0 then invalid_in p p.invalid level word
    else table_or_leaf (table_in p.lpa2 level word) (leaf_in p level word)
