-- The words of numbers, ranges, levels, slots, VMs, their kinds, and rights (profile).
use Rattle.std.specs.Prelude.{ℕ, ◌==◌, nat_le, List, is_some, Option, Some, None, option_map, option_and_then, slice_get, if◌then◌else◌}
use Rattle.std.specs.List.{slice_split}
use Rattle.descriptor.specs.declared.Prot.{Prot}
use Rattle.page_state.specs.declared.entry.PageRange.{PageRange}
use Rattle.call_table.specs.declared.step.VmId.{VmId}
use Rattle.call_table.specs.declared.step.VmKind.{VmKind}
use Rattle.call_table.specs.Words.{rights_named, vm_kind_named}
use Rattle.trace_words.specs.Numbers.{number_of, decimal_of}

-- the number at a place, the first place being 0
abbrev pub number_at : List (List ℕ) → ℕ → Option ℕ
number_at words place = option_and_then number_of (slice_get words place)

-- the number at a place, and 1 if the line ends before it
abbrev pub count_word_at : List (List ℕ) → ℕ → Option ℕ
count_word_at words place =
    elim (slice_get words place) [ None ↦ Some 1 | Some word ↦ number_of word ]

-- 1 if the line has a word at the place, otherwise 0
abbrev pub one_more : List (List ℕ) → ℕ → ℕ
one_more words place = if is_some (slice_get words place) then 1 else 0

-- the range in the second and third word: its first page and its number of pages
abbrev pub range_of : List (List ℕ) → Option PageRange
range_of words =
    option_and_then
    (λ first. option_map (λ count. record { first = record { 0 = first }; count = count })
    (number_at words 2))
    (number_at words 1)

-- a level of a tree
abbrev pub in_levels : ℕ → Option ℕ
in_levels level = if nat_le level 3 then Some level else None

-- the level at a place
abbrev pub level_word_at : List (List ℕ) → ℕ → Option ℕ
level_word_at words place = option_and_then in_levels (number_at words place)

-- a slot of a guest
abbrev pub in_slots : ℕ → Option ℕ
in_slots slot = if nat_le slot 63 then Some slot else None

-- the slot at a place
abbrev pub slot_word_at : List (List ℕ) → ℕ → Option ℕ
slot_word_at words place = option_and_then in_slots (number_at words place)

-- the parts of a word before, between and after its dots
abbrev pub dotted : List ℕ → List (List ℕ)
dotted word = slice_split (λ byte. byte == 0x2e) word

-- the number that a part is in decimal
abbrev pub decimal_part : List ℕ → ℕ → Option ℕ
decimal_part word place = option_and_then decimal_of (slice_get (dotted word) place)

-- the VM that a word names: its slot and its generation in decimal, joined by a dot
unfoldable pub vm_of : List ℕ → Option VmId
vm_of word =
    if is_some (slice_get (dotted word) 2) then None
    else option_and_then
    (λ slot. option_map (λ generation. record { slot = slot; generation = generation })
    (decimal_part word 1))
    (decimal_part word 0)

-- the VM at a place
abbrev pub vm_word_at : List (List ℕ) → ℕ → Option VmId
vm_word_at words place = option_and_then vm_of (slice_get words place)

-- the kind at a place
abbrev pub kind_word_at : List (List ℕ) → ℕ → Option VmKind
kind_word_at words place = option_and_then vm_kind_named (slice_get words place)

-- the rights at a place
abbrev pub rights_word_at : List (List ℕ) → ℕ → Option Prot
rights_word_at words place = option_and_then rights_named (slice_get words place)
