-- The words of the command that dumps an image. Frames and pages are numbers as a trace writes
-- them, all else is decimal.
use Rattle.std.specs.Prelude.{ℕ, ◌+◌, ◌-◌, ◌<◌, ◌≤◌, ◌^◌, ◌==◌, ◌&&◌, ◌||◌, nat_le, nat_lt, Bool, true, false, List, length, take, drop, codes, position, Option, Some, None, if◌then◌else◌}
use Rattle.std.specs.Str.{bytes_eq}
use Rattle.trace_words.specs.Numbers.{decimal_of, number_of}
use Rattle.table_words.specs.Profiles.{guest_profile, host_profile, hypervisor_profile, model_profile}
use Rattle.table_words.specs.declared.profile.Profile.{Profile}
use Rattle.table_words.specs.declared.profile.Release.{Release}
use Rattle.table_words.specs.declared.profile.Release.TheVariants.{V6, V7}
use Rattle.walked_tables.specs.ByFrames.{most_pages}
use Rattle.image_dump.specs.declared.skip.Skip.{Skip}
use Rattle.dump_words.specs.declared.profiles.Forms.{Forms}
use Rattle.dump_words.specs.declared.roots.RootWord.{RootWord}

-- what follows from a value, if there is one
abbrev pub from : {X Y : Type 0} → Option X → (X → Option Y) → Option Y
from None next = None
from (Some x) next = next x

abbrev pub or_else : {X Y : Type 0} → Option X → Option Y → (X → Option Y) → Option Y
or_else None other next = other
or_else (Some x) other next = next x

-- the first place of a byte
abbrev pub place_of : ℕ → List ℕ → Option ℕ
place_of mark word = position (λ b. b == mark) word

-- the levels below a root of level -1 to 3
abbrev pub depth_of : List ℕ → Option ℕ
depth_of word =
    if bytes_eq word (codes "-1") then Some 4
    else from (decimal_of word) (λ level. if nat_lt 3 level then None else Some (3 - level))

-- a root of these numbers: below frame 2^40, with at most 4 levels below it, and of 1 page or as
-- many more as are concatenated at its level
abbrev pub made_of : Option ℕ → Option ℕ → Option ℕ → Option RootWord
made_of (Some frame) (Some depth) (Some pages) =
    if ((nat_lt 4 depth || nat_lt pages 1) || nat_lt (most_pages depth) pages)
    || nat_le (2 ^ 40) frame then None
    else Some (record { frame = frame; depth = depth; pages = pages })
made_of frame depth pages = None

-- its numbers are small
pub record IsLowRoot (root : RootWord) : Type 0 where
  pub frame : root.frame < 2 ^ 40
  pub depth : root.depth ≤ 4
  pub pages : root.pages ≤ most_pages root.depth

abbrev pub IsLowGuest : ℕ × RootWord → Type 0
IsLowGuest g = (g.0 ≤ 63) × IsLowRoot g.1

-- FRAME and LEVEL[:PAGES]
abbrev pub below_frame : Option ℕ → List ℕ → Option RootWord
below_frame frame rest =
    or_else (place_of 58 rest) (made_of frame (depth_of rest) (Some 1))
    (λ at. made_of frame (depth_of (take at rest)) (decimal_of (drop (at + 1) rest)))

-- FRAME[:LEVEL[:PAGES]]
abbrev pub root_of_word : List ℕ → Option RootWord
root_of_word word =
    or_else (place_of 58 word) (made_of (number_of word) (Some 3) (Some 1))
    (λ at. below_frame (number_of (take at word)) (drop (at + 1) word))

-- N=ROOT
abbrev pub guest_of : List ℕ → Option (ℕ × RootWord)
guest_of word =
    from (place_of 61 word)
    (λ at. from (decimal_of (take at word))
    (λ guest. if nat_lt 63 guest then None
    else from (root_of_word (drop (at + 1) word)) (λ root. Some (guest, root))))

-- host, hyp, or a guest's number
abbrev pub tree_of_word : List ℕ → Option ℕ
tree_of_word word =
    if bytes_eq word (codes "host") then Some 0
    else (if bytes_eq word (codes "hyp") then Some 1
    else from (decimal_of word) (λ guest. if nat_lt 63 guest then None else Some (guest + 2)))

-- FIRST-LAST
abbrev pub range_of : ℕ → List ℕ → Option Skip
range_of tree word =
    from (place_of 45 word)
    (λ at. from (number_of (take at word))
    (λ first. from (number_of (drop (at + 1) word))
    (λ last. if nat_lt last first then None
    else Some (record { tree = tree; first = first; last = last }))))

-- TREE=FIRST-LAST
abbrev pub skip_of : List ℕ → Option Skip
skip_of word =
    from (place_of 61 word)
    (λ at. from (tree_of_word (take at word)) (λ tree. range_of tree (drop (at + 1) word)))

abbrev pub given_forms : Bool → Bool → Bool → Option Forms
given_forms fwb hvhe lpa2 = Some (record { fwb = fwb; hvhe = hvhe; lpa2 = lpa2 })

-- what follows a release
abbrev pub forms_of : List ℕ → Option Forms
forms_of rest =
    if bytes_eq rest (codes "") then given_forms false false false
    else (if bytes_eq rest (codes "-fwb") then given_forms true false false
    else (if bytes_eq rest (codes "-hvhe") then given_forms false true false
    else (if bytes_eq rest (codes "-lpa2") then given_forms false false true
    else (if bytes_eq rest (codes "-fwb-lpa2") then given_forms true false true
    else (if bytes_eq rest (codes "-hvhe-lpa2") then given_forms false true true
    else None)))))

-- Linux' profile of a tree
abbrev pub profile_by : ℕ → Release → Option Forms → Option Profile
profile_by tree release None = None
profile_by tree release (Some f) =
    if tree == 1 then (if f.fwb then None else Some (hypervisor_profile release f.hvhe f.lpa2))
    else (if f.hvhe then None
    else (if tree == 0 then Some (host_profile release f.fwb f.lpa2)
    else Some (guest_profile release f.fwb f.lpa2)))

abbrev pub starts : List ℕ → List ℕ → Bool
starts word front = nat_le (length front) (length word) && bytes_eq (take (length front) word) front

-- NAME
abbrev pub profile_named : ℕ → List ℕ → Option Profile
profile_named tree name =
    if bytes_eq name (codes "model") then Some model_profile
    else (if starts name (codes "6.12") then profile_by tree V6 (forms_of (drop 4 name))
    else (if starts name (codes "7.3") then profile_by tree V7 (forms_of (drop 3 name))
    else None))

-- TREE=NAME
abbrev pub profile_of_word : List ℕ → Option (ℕ × Profile)
profile_of_word word =
    from (place_of 61 word)
    (λ at. from (tree_of_word (take at word))
    (λ tree. from (profile_named tree (drop (at + 1) word))
    (λ profile. Some (tree, profile))))
