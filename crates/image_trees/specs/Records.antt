-- Records that a hypervisor keeps of frames, eight bytes each, and the states that they say: those
-- of Linux 7.3 (struct hyp_page).
use Rattle.std.specs.Prelude.{◌≡◌, ℕ, zero, suc, ◌+◌, ◌-◌, ◌/◌, ◌%◌, ◌^◌, ◌<◌, ◌==◌, ◌&&◌, not, nat_le, is_none, Bool, true, false, Option, Some, None, if◌then◌else◌, List, option_map, get_or}
use Rattle.std.specs.Option.{ForSome}
use Rattle.descriptor.specs.declared.State.{State}
use Rattle.descriptor.specs.declared.State.TheVariants.{Owned, SharedOwned, SharedBorrowed}
use Rattle.memory_image.specs.declared.segment.Segment.{Segment}
use Rattle.memory_image.specs.Pages.{page_words}
use Rattle.run_list.specs.Runs.{AreInReach, IsCoarsest, run_map, value_on}
use Rattle.run_list.specs.declared.run.Run.{Run}
use Rattle.page_state.specs.Regions.{is_in_range}
use Rattle.table_words.specs.declared.word.Access.{Access}
use Rattle.table_words.specs.declared.word.Access.TheVariants.{ReadOnly}
use Rattle.table_words.specs.declared.word.Execute.{Execute}
use Rattle.table_words.specs.declared.word.Execute.TheVariants.{Nobody}
use Rattle.table_words.specs.declared.word.Mapping.{Mapping}
use Rattle.table_words.specs.declared.word.Decoded.{Decoded}
use Rattle.table_words.specs.declared.word.Decoded.TheVariants.{Leaf}
use Rattle.walked_tables.specs.declared.said.Said.{Said}
use Rattle.walked_tables.specs.Values.{advance_said, CanGoOn}
use Rattle.image_trees.specs.declared.records.Records.{Records}

-- the state that has a number (enum pkvm_page_state)
abbrev pub state_numbered : ℕ → Option State
state_numbered n =
    if n == 0 then Some Owned
    else (if n == 1 then Some SharedOwned else (if n == 2 then Some SharedBorrowed else None))

-- what a record says: of the host in bits 27 to 24, of the hypervisor the complement of two bits in
-- bits 31 to 28
abbrev pub recorded_state : ℕ → ℕ → Option State
recorded_state tree word =
    if tree == 0 then state_numbered (word / 2 ^ 24 % 16)
    else (if nat_le (word / 2 ^ 28 % 16) 3 then state_numbered (3 - word / 2 ^ 28 % 16) else None)

-- a record says that the tree doesn't have the frame (PKVM_NOPAGE, 3)
abbrev pub is_denied : ℕ → Option ℕ → Bool
is_denied tree None = false
is_denied tree (Some word) =
    if tree == 0 then word / 2 ^ 24 % 16 == 3 else word / 2 ^ 28 % 16 == 0

-- the first of `count` frames from one on whose record says so; frames are below 2^63
unfoldable pub denied_from : (ℕ → Option ℕ) → ℕ → (frame count : ℕ) → Option ℕ
denied_from record_of tree frame zero = None
denied_from record_of tree frame (suc n) =
    if nat_le (2 ^ 63) frame then None
    else (if is_denied tree (record_of frame) then Some frame
    else denied_from record_of tree (frame + 1) n)

-- it lets data be read, and nothing else
abbrev pub reads_alone : Access → Execute → Bool
reads_alone ReadOnly Nobody = true
reads_alone access execute = false

-- a leaf without a state that is one too many if a record denies it: the host may read the
-- hypervisor's text, which it hasn't (Linux 7.3)
abbrev pub is_asked : ℕ → Mapping → Bool
is_asked tree m = is_none m.state && not (tree == 0 && reads_alone m.access m.execute)

abbrev pub denied_decoded : (ℕ → Option ℕ) → ℕ → ℕ → Decoded → Option ℕ
denied_decoded record_of tree count (Leaf m) =
    if is_asked tree m then denied_from record_of tree m.frame.0 count else None
denied_decoded record_of tree count other = None

-- the first frame of a run that its record denies to the tree
abbrev pub denied_in : (ℕ → Option ℕ) → ℕ → Run Said → Option ℕ
denied_in record_of tree run = denied_decoded record_of tree run.pages.count run.value.0

-- the frame of a leaf
abbrev pub frame_of : Decoded → Option ℕ
frame_of (Leaf m) = Some m.frame.0
frame_of other = None

-- the frame that a page is mapped to
abbrev pub mapped_frame : Option Said → Option ℕ
mapped_frame None = None
mapped_frame (Some said) = frame_of said.0

-- the words of a frame's page in the image, if a frame is given
abbrev pub read_frame : (ℕ → Option (List ℕ)) → Option ℕ → Option (List ℕ)
read_frame read None = None
read_frame read (Some frame) = read frame

-- the record of a frame, in the array that the hypervisor maps from its page `first` on
abbrev pub record_in : (ℕ → Option (List ℕ)) → (ℕ → Option Said) → ℕ → ℕ → Option ℕ
record_in read hyp first frame =
    option_map (λ words. get_or words (frame % 512) 0)
    (read_frame read (mapped_frame (hyp (first + frame / 512))))

-- the state of a frame in a tree
abbrev pub state_by : ℕ → Option ℕ → Option State
state_by tree None = None
state_by tree (Some word) = recorded_state tree word

-- what a page has, a leaf with the state of its frame's record
abbrev pub stated_decoded : (ℕ → Option ℕ) → ℕ → Decoded → Decoded
stated_decoded record_of tree (Leaf m) =
    Leaf (record m { state = state_by tree (record_of m.frame.0) })
stated_decoded record_of tree other = other

abbrev pub stated : (ℕ → Option ℕ) → ℕ → Said → Said
stated record_of tree said = record { 0 = stated_decoded record_of tree said.0 }

-- a map with the states of the records
abbrev pub stated_map : (ℕ → Option ℕ) → ℕ → (ℕ → Option Said) → ℕ → Option Said
stated_map record_of tree map page = option_map (stated record_of tree) (map page)

-- the records of frames in an image
abbrev pub records_in : List ℕ → List Segment → Records → ℕ → Option ℕ
records_in bytes segments records frame =
    record_in (page_words bytes segments)
    (run_map advance_said records.hyp.items) records.first frame

-- code reaches the records
pub record CanRead (records : Records) : Type 0 where
  pub reach : AreInReach CanGoOn records.hyp.items
  pub first : records.first < 2 ^ 52

-- the pages of a run have its values with states, the others are as before
abbrev pub stated_laid : (ℕ → Option ℕ) → ℕ → Run Said → ℕ → (ℕ → Option Said) → ℕ → Option Said
stated_laid record_of tree run n before page =
    if is_in_range (record run.pages { count = n }) page
    then Some (stated record_of tree (value_on advance_said run page))
    else before page

-- the coarsest list of the same pages with states
pub record IsStated (known : Option (List ℕ)) (segments : List Segment) (records : Records)
    (tree : ℕ) (runs out : List (Run Said)) : Type 0 where
  pub map_is : ForSome known
      (λ all. run_map advance_said out
      ≡ stated_map (records_in all segments records) tree (run_map advance_said runs))
  pub coarsest : IsCoarsest advance_said out

-- the pages of a run were laid over others
abbrev pub WereLaid : Option (List ℕ)
    → List Segment
    → Records
    → ℕ
    → Run Said
    → (old new : List (Run Said))
    → Type 0
WereLaid known segments records tree run old new =
    ForSome known
    (λ all. run_map advance_said new
    ≡ stated_laid (records_in all segments records) tree run run.pages.count
    (run_map advance_said old))
