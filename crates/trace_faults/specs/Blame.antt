-- The settings that a refused boot blames (profile).
use Rattle.std.specs.Prelude.{ℕ, ◌+◌, Bool, false, not, ◌&&◌, ◌||◌, ◌==◌, nat_lt, List, [], ◌∷◌, ◌++◌, codes, length, Option, Some, None, count_by, option_and_then, slice_get, unwrap_or, if◌then◌else◌}
use Rattle.std.specs.List.{list_any}
use Rattle.std.specs.Str.{bytes_eq}
use Rattle.page_state.specs.declared.layout.LayoutFault.TheVariants.{TooMany, Empty, PastLimit, Overlap, CarveOutside, NoMemory as NoMapMemory}
use Rattle.trace_text.specs.declared.fault.Fault.{Fault}
use Rattle.trace_text.specs.declared.fault.Fault.TheVariants.{Layout, Boot}
use Rattle.trace_words.specs.Numbers.{number_of}
use Rattle.trace_words.specs.Words.{words_of}
use Rattle.world.specs.declared.boot.BootFault.TheVariants.{Config, CarveSmall, NoMemory}

-- the number that the word at a place of a line is, and 0 if it is none
abbrev pub number_of_word : List ℕ → ℕ → Option ℕ
number_of_word line place = option_and_then number_of (slice_get (words_of line) place)

abbrev pub number_in : List ℕ → ℕ → ℕ
number_in line place = unwrap_or (number_of_word line place) 0

-- whether the first word of a line is this
abbrev pub begins : List ℕ → List ℕ → Bool
begins line name =
    elim (slice_get (words_of line) 0) [ Some first ↦ bytes_eq first name | None ↦ false ]

-- a region, and the carve-out
abbrev pub is_region : List ℕ → Bool
is_region line = begins line (codes "memory") || begins line (codes "device")

abbrev pub is_carve : List ℕ → Bool
is_carve line = begins line (codes "carve")

-- the number of these lines that are regions
abbrev pub regions_in : List (List ℕ) → ℕ
regions_in lines = count_by (λ line. is_region line) lines

-- a range without a page
abbrev pub has_no_page : List ℕ → Bool
has_no_page line = (is_region line || is_carve line) && unwrap_or (number_of_word line 2) 1 == 0

-- a region that ends past the limit
abbrev pub is_past_limit : List ℕ → Bool
is_past_limit line = is_region line && nat_lt 0x4000000 (number_in line 1 + number_in line 2)

-- whether the range of a line begins before that of another ends
abbrev pub is_before_end : List ℕ → List ℕ → Bool
is_before_end one other = nat_lt (number_in one 1) (number_in other 1 + number_in other 2)

-- two regions that share a page
abbrev pub meets : List ℕ → List ℕ → Bool
meets one other =
    is_region one && is_region other && is_before_end one other && is_before_end other one

-- a region that shares a page with one before it
abbrev pub meets_one : List (List ℕ) → List ℕ → Bool
meets_one earlier line = list_any (λ other. meets other line) earlier

-- a number that no machine can have
abbrev pub is_other_config : List ℕ → Bool
is_other_config line =
    if begins line (codes "geometry") then not (number_in line 1 == 39)
    && not (number_in line 1 == 48)
    else (if begins line (codes "cpus") then number_in line 1 == 0 || nat_lt 64 (number_in line 1)
    else begins line (codes "log") && (number_in line 1 == 0 || nat_lt 1048576 (number_in line 1)))

-- whether a fault of the boot blames a line, by those before it
abbrev pub is_blamed : Fault → List (List ℕ) → List ℕ → Bool
is_blamed (Layout TooMany) earlier line = is_region line && regions_in earlier == 16
is_blamed (Layout Empty) earlier line = has_no_page line
is_blamed (Layout PastLimit) earlier line = is_past_limit line
is_blamed (Layout Overlap) earlier line = meets_one earlier line
is_blamed (Layout CarveOutside) earlier line = is_carve line
is_blamed (Boot Config) earlier line = is_other_config line
is_blamed (Boot CarveSmall) earlier line = is_carve line
is_blamed other earlier line = false

-- the place of the first line that it blames, after earlier ones that it doesn't
abbrev pub blamed : Fault → List (List ℕ) → List (List ℕ) → Option ℕ
blamed fault earlier [] = None
blamed fault earlier (line ∷ rest) =
    if is_blamed fault earlier line then Some (length earlier)
    else blamed fault (earlier ++ line ∷ []) rest

-- the expected form of a number of the machine, by its name
abbrev pub config_wanted : List ℕ → List ℕ
config_wanted first =
    if bytes_eq first (codes "geometry") then codes "39 or 48"
    else (if bytes_eq first (codes "cpus") then codes "1 to 64" else codes "1 to 1048576")

-- the expected form of the setting that is blamed, by its first word
abbrev pub blamed_wanted : Fault → List ℕ → List ℕ
blamed_wanted (Layout TooMany) first = codes "16 regions at most"
blamed_wanted (Layout Empty) first = codes "a page or more"
blamed_wanted (Layout PastLimit) first = codes "an end of 0x4000000 at most"
blamed_wanted (Layout Overlap) first = codes "no page of a region before it"
blamed_wanted (Layout CarveOutside) first = codes "pages of one memory region"
blamed_wanted (Boot CarveSmall) first = codes "a frame for each table of the boot"
blamed_wanted other first = config_wanted first

-- what was found and expected at a boot whose fault blames no line
abbrev pub unblamed_found : Fault → List ℕ
unblamed_found (Layout PastLimit) = codes "more pages of memory"
unblamed_found (Layout NoMapMemory) = codes "too little memory"
unblamed_found (Boot NoMemory) = codes "too little memory"
unblamed_found other = codes "other settings"

abbrev pub unblamed_wanted : Fault → List ℕ
unblamed_wanted (Layout PastLimit) = codes "524288 at most"
unblamed_wanted (Layout NoMapMemory) = codes "memory for the layout"
unblamed_wanted (Boot NoMemory) = codes "memory for tables, rows and logs"
unblamed_wanted other = codes "those of a machine"
