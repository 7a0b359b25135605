-- What the words of the program ask for.
use Rattle.std.specs.Prelude.{◌≡◌, ◌≢◌, ◌&&◌, ◌||◌, ◌⊎◌, ⊤, ℕ, Bool, false, true, List, [], ◌∷◌, map, Option, Result, Some, None, Ok, Err, codes, if◌then◌else◌, nat_le, nat_lt, option_and_then, option_map, slice_get, slice_index, unwrap_or}
use Rattle.std.specs.Option.{option_map_or}
use Rattle.std.specs.Str.{all_ascii_digits, bytes_eq}
use Rattle.std.specs.Str.Parse.{digits_value}
use Rattle.clap.specs.declared.error.Error.{Error}
use Rattle.clap.specs.declared.error.kind.ErrorKind.TheVariants.{OutOfMemory}
use Rattle.clap.specs.Words.{IsAmong, Row, Text, all_of, fault_of, first_of, kind_of, subcommand_of}
use Rattle.trace_words.specs.Numbers.{number_of}
use Rattle.trace_command.specs.declared.asked.Unread.{Unread}
use Rattle.trace_command.specs.declared.asked.Unread.TheVariants as unread
use Rattle.trace_command.specs.declared.words.Dump.{Dump}
use Rattle.trace_command.specs.declared.words.Invocation.{Invocation}
use Rattle.trace_command.specs.declared.words.Invocation.TheVariants as invocation
use Rattle.trace_command.specs.declared.words.Looks.{Looks}
use Rattle.trace_command.specs.declared.words.Looks.TheVariants.{Each, End}
use Rattle.trace_command.specs.declared.words.Output.{Output}
use Rattle.trace_command.specs.declared.words.Output.TheVariants.{Report, Json, Nothing}
use Rattle.trace_command.specs.declared.words.UsageFault.{UsageFault}
use Rattle.trace_command.specs.declared.words.UsageFault.TheVariants.{NoMemory, Usage}
use Rattle.trace_command.specs.Words.{program}

-- an image of memory and the facts known of it, in the given words
pub record DumpAsked : Type 0 where
  pub image : Text
  pub host : Text
  pub hyp : Text
  pub guests : List Text
  pub profiles : List Text
  pub skips : List Text
  -- the physical address of a raw image's first byte
  pub base : Option ℕ
  -- the hypervisor's page from which on it maps a record for each frame
  pub vmemmap : Option ℕ
  -- whether as a picture
  pub draw : Bool
  pub output : Output

-- what may be asked for
pub data Asking : Type 0 where
  -- the file, the heap's bytes, when the oracle looks, and how the report is written
  Replaying : Text → Option ℕ → Looks → Output → Asking
  -- the file, whether the report has the order, and how it is written
  Racing : Text → Bool → Output → Asking
  -- the file, whether legality is asked for, and how the report is written
  Auditing : Text → Bool → Output → Asking
  -- the file, the points of a step, the report that was observed, and how the own one is written
  Finding : Text → ℕ → Option Text → Output → Asking
  Checking : List Text → Looks → Output → Asking
  -- the files, whether only what never came is written, and whether nothing is
  Covering : List Text → Bool → Bool → Asking
  Recording : Text → Asking
  Expanding : Text → Asking
  -- the line that is shown, if it is only one
  Explaining : Text → Option ℕ → Output → Asking
  -- the seed, the steps, the CPUs, the pages, the geometry, and the calls in a hundred that are to
  -- be refused
  Generating : ℕ → ℕ → ℕ → ℕ → ℕ → ℕ → Asking
  -- whether as text
  Drawing : Text → Bool → Asking
  Dumping : DumpAsked → Asking

abbrev pub dump_asked : Dump → DumpAsked
dump_asked d = record {
  image = d.image.now;
  host = d.host.now;
  hyp = d.hyp.now;
  guests = map (λ word. word.now) d.guests.items;
  profiles = map (λ word. word.now) d.profiles.items;
  skips = map (λ word. word.now) d.skips.items;
  base = d.base;
  vmemmap = d.vmemmap;
  draw = d.draw;
  output = d.output;
}

abbrev pub asking_of : Invocation → Asking
asking_of (invocation.Replay file heap looks output) = Replaying file.now heap looks output
asking_of (invocation.Race file ordered output) = Racing file.now ordered output
asking_of (invocation.Audit file legal output) = Auditing file.now legal output
asking_of (invocation.Outcomes file limit observed output) =
    Finding file.now limit (option_map (λ report. report.now) observed) output
asking_of (invocation.Check files looks output) =
    Checking (map (λ file. file.now) files.items) looks output
asking_of (invocation.Cover files missing quiet) =
    Covering (map (λ file. file.now) files.items) missing quiet
asking_of (invocation.Record file) = Recording file.now
asking_of (invocation.Expand file) = Expanding file.now
asking_of (invocation.Explain file line output) = Explaining file.now line output
asking_of (invocation.Generate seed steps cpus pages geometry hostile) =
    Generating seed steps cpus pages geometry hostile
asking_of (invocation.Draw file text) = Drawing file.now text
asking_of (invocation.Dump dump) = Dumping (dump_asked dump)

-- ---- values

-- the size that a word says: decimal digits of which the first isn't 0 (48), from 4,096 to
-- 1,073,741,824
abbrev pub heap_size : Text → Option ℕ
heap_size word =
    if nat_lt 48 (slice_index word 0)
    && (all_ascii_digits word
    && (nat_le 4096 (digits_value 10 word) && nat_le (digits_value 10 word) 1073741824))
    then Some (digits_value 10 word)
    else None

-- the heap that is asked for: none without a word, else one of the size that it says. No answer if
-- it says none
abbrev pub asked_heap : Option Text → Option (Option ℕ)
asked_heap None = Some None
asked_heap (Some word) = option_map (λ size. Some size) (heap_size word)

-- when the oracle looks: after each step, if no word says it
abbrev pub asked_looks : Option Text → Option Looks
asked_looks None = Some Each
asked_looks (Some word) =
    if bytes_eq word (codes "each") then Some Each
    else (if bytes_eq word (codes "end") then Some End else None)

-- a number as a trace writes it; `otherwise` if no word says it
abbrev pub asked_number : ℕ → Option Text → Option ℕ
asked_number otherwise None = Some otherwise
asked_number otherwise (Some word) = number_of word

-- a number as a trace writes it, from the least to the most
abbrev pub number_within : ℕ → ℕ → Text → Option ℕ
number_within least most word =
    option_and_then (λ n. if nat_le least n && nat_le n most then Some n else None) (number_of word)

-- the points of a step that the search for outcomes may come to, from 1 to 4,294,967,296: 100,000
-- if no word says it
abbrev pub asked_limit : Option Text → Option ℕ
asked_limit None = Some 100000
asked_limit (Some word) = number_within 1 4294967296 word

-- the one line that is shown: none without a word, else its number, from 1 on and below 2^64
abbrev pub asked_line : Option Text → Option (Option ℕ)
asked_line None = Some None
asked_line (Some word) = option_map (λ line. Some line) (number_within 1 18446744073709551615 word)

-- an address or a page that is a number; none without a word
abbrev pub number_given : Option Text → Option (Option ℕ)
number_given None = Some None
number_given (Some word) = option_map (λ number. Some number) (number_of word)

-- a flag is given
abbrev pub is_set : Text → List Row → Bool
is_set id rows = option_map_or (λ word. bytes_eq word (codes "true")) (first_of id rows) false

-- how the report is written: not at all under `--quiet`, also if `--json` is given
abbrev pub output_in : List Row → Output
output_in rows =
    if is_set (codes "quiet") rows then Nothing
    else (if is_set (codes "json") rows then Json else Report)

-- ---- what a subcommand is asked for, by the values that clap has found

abbrev pub replaying : List Row → Option Asking
replaying rows =
    option_and_then
    (λ file. option_and_then
    (λ heap. option_map (λ looks. Replaying file heap looks (output_in rows))
    (asked_looks (first_of (codes "oracle") rows)))
    (asked_heap (first_of (codes "heap") rows))) (first_of (codes "FILE") rows)

abbrev pub racing : List Row → Option Asking
racing rows =
    option_map (λ file. Racing file (is_set (codes "order") rows) (output_in rows))
    (first_of (codes "FILE") rows)

abbrev pub auditing : List Row → Option Asking
auditing rows =
    option_map (λ file. Auditing file (is_set (codes "legal") rows) (output_in rows))
    (first_of (codes "FILE") rows)

-- a trace and a report that are both standard input
abbrev pub are_both_input : Text → Option Text → Bool
are_both_input file observed =
    option_map_or
    (λ report. bytes_eq file (codes "-") && bytes_eq report (codes "-")) observed false

-- one of the two at most is standard input
abbrev pub finding_in : Text → Option Text → ℕ → Output → Option Asking
finding_in file observed limit output =
    if are_both_input file observed then None else Some (Finding file limit observed output)

abbrev pub finding : List Row → Option Asking
finding rows =
    option_and_then
    (λ file. option_and_then
    (λ limit. finding_in file (first_of (codes "observed") rows) limit (output_in rows))
    (asked_limit (first_of (codes "limit") rows)))
    (first_of (codes "FILE") rows)

-- `check --record` takes one file
abbrev pub recording : List Text → Option Asking
recording [] = None
recording (file ∷ []) = Some (Recording file)
recording (file ∷ more ∷ files) = None

-- and so does `check --expand`
abbrev pub expanding : List Text → Option Asking
expanding [] = None
expanding (file ∷ []) = Some (Expanding file)
expanding (file ∷ more ∷ files) = None

-- only one of the two may be given
abbrev pub writing : Bool → Bool → List Text → Option Asking
writing true true files = None
writing true false files = recording files
writing false expands files = expanding files

abbrev pub checking : List Row → Option Asking
checking rows =
    option_and_then
    (λ files. option_and_then
    (λ looks. if is_set (codes "record") rows || is_set (codes "expand") rows
    then writing (is_set (codes "record") rows) (is_set (codes "expand") rows) files
    else Some (Checking files looks (output_in rows)))
    (asked_looks (first_of (codes "oracle") rows))) (all_of (codes "FILE") rows)

abbrev pub covering : List Row → Option Asking
covering rows =
    option_map
    (λ files. Covering files (is_set (codes "missing") rows) (is_set (codes "quiet") rows))
    (all_of (codes "FILE") rows)

abbrev pub explaining : List Row → Option Asking
explaining rows =
    option_and_then
    (λ file. option_map (λ line. Explaining file line (output_in rows))
    (asked_line (first_of (codes "line") rows)))
    (first_of (codes "FILE") rows)

abbrev pub generating : List Row → Option Asking
generating rows =
    option_and_then
    (λ seed. option_and_then
    (λ steps. option_and_then
    (λ cpus. option_and_then
    (λ pages. option_and_then
    (λ geometry. option_map (Generating seed steps cpus pages geometry)
    (asked_number 0 (first_of (codes "hostile") rows)))
    (asked_number 39 (first_of (codes "geometry") rows)))
    (asked_number 2048 (first_of (codes "pages") rows)))
    (asked_number 4 (first_of (codes "cpus") rows)))
    (option_and_then number_of (first_of (codes "STEPS") rows)))
    (option_and_then number_of (first_of (codes "SEED") rows))

abbrev pub drawing : List Row → Option Asking
drawing rows =
    option_map (λ file. Drawing file (is_set (codes "text") rows)) (first_of (codes "FILE") rows)

-- all words that are given for an id; none if there are none
abbrev pub words_given : Text → List Row → List Text
words_given id rows = unwrap_or (all_of id rows) []

abbrev pub dump_in : List Row → Text → Text → Text → Option ℕ → Option ℕ → DumpAsked
dump_in rows image host hyp base vmemmap = record {
  image = image;
  host = host;
  hyp = hyp;
  guests = words_given (codes "guest") rows;
  profiles = words_given (codes "profile") rows;
  skips = words_given (codes "skip") rows;
  base = base;
  vmemmap = vmemmap;
  draw = is_set (codes "draw") rows;
  output = output_in rows;
}

abbrev pub dump_given : List Row → Option Asking
dump_given rows =
    option_and_then
    (λ image. option_and_then
    (λ host. option_and_then
    (λ hyp. option_and_then
    (λ base. option_map
    (λ vmemmap. Dumping (dump_in rows image host hyp base vmemmap))
    (number_given (first_of (codes "vmemmap") rows))) (number_given (first_of (codes "base") rows)))
    (first_of (codes "hyp") rows)) (first_of (codes "host") rows)) (first_of (codes "IMAGE") rows)

-- a picture is no JSON
abbrev pub dumping : List Row → Option Asking
dumping rows =
    if is_set (codes "draw") rows && is_set (codes "json") rows then None else dump_given rows

-- the task asked for by a subcommand's name and its values
abbrev pub asked_in : Text × List Row → Option Asking
asked_in (name, rows) =
    if bytes_eq name (codes "replay") then replaying rows
    else (if bytes_eq name (codes "race") then racing rows
    else (if bytes_eq name (codes "audit") then auditing rows
    else (if bytes_eq name (codes "outcomes") then finding rows
    else (if bytes_eq name (codes "check") then checking rows
    else (if bytes_eq name (codes "cover") then covering rows
    else (if bytes_eq name (codes "explain") then explaining rows
    else (if bytes_eq name (codes "generate") then generating rows
    else (if bytes_eq name (codes "draw") then drawing rows
    else (if bytes_eq name (codes "dump") then dumping rows
    else None)))))))))

-- what words ask for, if clap finds no fault in them
abbrev pub asked_by : List Text → Option Asking
asked_by words = option_and_then asked_in (subcommand_of program words)

-- the result of a parse: what the words ask for; a fault that clap finds in them, or that it finds
-- none and they ask for nothing, since a value isn't of its form; or that memory was refused
abbrev pub IsRead : List Text → Result Invocation UsageFault → Type 0
IsRead words (Ok invocation) =
    (fault_of program words ≡ []) × (asked_by words ≡ Some (asking_of invocation))
IsRead words (Err (Usage error)) =
    IsAmong (kind_of error) (fault_of program words)
    ⊎ ((fault_of program words ≡ []) × (asked_by words ≡ None))
IsRead words (Err NoMemory) = ⊤

-- the trace asks for this, unless memory was refused
abbrev pub Gives : Asking → Result Invocation UsageFault → Type 0
Gives asking (Ok invocation) = asking_of invocation ≡ asking
Gives asking (Err (Usage error)) = ⊥
Gives asking (Err NoMemory) = ⊤

-- the words were refused, or memory was
abbrev pub IsRefused : Result Invocation UsageFault → Type 0
IsRefused (Ok invocation) = ⊥
IsRefused (Err fault) = ⊤

-- a word that is no option: it doesn't begin with a hyphen (45)
abbrev pub IsPlain : Text → Type 0
IsPlain word = slice_get word 0 ≢ Some 45

-- an ELF core, of which nothing is known but both roots
abbrev pub of_core : Text → Text → Text → DumpAsked
of_core image host hyp =
    record {
      image = image;
      host = host;
      hyp = hyp;
      guests = [];
      profiles = [];
      skips = [];
      base = None;
      vmemmap = None;
      draw = false;
      output = Report;
    }

-- the heap that `replay` takes, with its size, and that a race and an audit take none
pub record TakesHeaps (words : List Text) (r : Result Invocation UsageFault) : Type 0 where
  pub heap : (name file bytes : Text) (size : ℕ)
      → words ≡ name ∷ codes "replay" ∷ file ∷ codes "--heap" ∷ bytes ∷ []
      → IsPlain file
      → IsPlain bytes
      → heap_size bytes ≡ Some size
      → Gives (Replaying file (Some size) Each Report) r
  pub no_size : (name file bytes : Text)
      → words ≡ name ∷ codes "replay" ∷ file ∷ codes "--heap" ∷ bytes ∷ []
      → IsPlain file
      → IsPlain bytes
      → heap_size bytes ≡ None
      → IsRefused r
  pub no_heap : (name subcommand file bytes : Text)
      → (subcommand ≡ codes "race") ⊎ (subcommand ≡ codes "audit")
      → words ≡ name ∷ subcommand ∷ file ∷ codes "--heap" ∷ bytes ∷ []
      → IsPlain file
      → IsRefused r

-- the words that are taken, the program's name first, and what they ask for
pub record Takes (words : List Text) (r : Result Invocation UsageFault) : Type 0 where
  pub replay : (name file : Text)
      → words ≡ name ∷ codes "replay" ∷ file ∷ []
      → IsPlain file
      → Gives (Replaying file None Each Report) r
  pub input : (name : Text)
      → words ≡ name ∷ codes "replay" ∷ codes "-" ∷ []
      → Gives (Replaying (codes "-") None Each Report) r
  pub heaps : TakesHeaps words r
  pub race : (name file : Text)
      → words ≡ name ∷ codes "race" ∷ file ∷ []
      → IsPlain file
      → Gives (Racing file false Report) r
  pub outcomes : (name file : Text)
      → words ≡ name ∷ codes "outcomes" ∷ file ∷ []
      → IsPlain file
      → Gives (Finding file 100000 None Report) r
  pub audit : (name file : Text)
      → words ≡ name ∷ codes "audit" ∷ file ∷ []
      → IsPlain file
      → Gives (Auditing file false Report) r
  pub check : (name file : Text)
      → words ≡ name ∷ codes "check" ∷ file ∷ []
      → IsPlain file
      → Gives (Checking (file ∷ []) Each Report) r
  pub cover : (name file : Text)
      → words ≡ name ∷ codes "cover" ∷ file ∷ []
      → IsPlain file
      → Gives (Covering (file ∷ []) false false) r
  pub explain : (name file : Text)
      → words ≡ name ∷ codes "explain" ∷ file ∷ []
      → IsPlain file
      → Gives (Explaining file None Report) r
  pub generate : (name seed steps : Text) (n count : ℕ)
      → words ≡ name ∷ codes "generate" ∷ seed ∷ steps ∷ []
      → IsPlain seed
      → IsPlain steps
      → number_of seed ≡ Some n
      → number_of steps ≡ Some count
      → Gives (Generating n count 4 2048 39 0) r
  pub dump : (name image host hyp : Text)
      → words ≡ name ∷ codes "dump" ∷ image ∷ codes "--host" ∷ host ∷ codes "--hyp" ∷ hyp ∷ []
      → IsPlain image
      → IsPlain host
      → IsPlain hyp
      → Gives (Dumping (of_core image host hyp)) r
  pub draw : (name file : Text)
      → words ≡ name ∷ codes "draw" ∷ file ∷ []
      → IsPlain file
      → Gives (Drawing file false) r

-- ---- parts of it

-- the fault for an error of clap's
abbrev pub StandsFor : Error → UsageFault → Type 0
StandsFor error (Usage shown) = (shown ≡ error) × (kind_of error ≢ OutOfMemory)
StandsFor error NoMemory = kind_of error ≡ OutOfMemory

-- the value that was read is the one found, and a refusal means that none was found
abbrev pub IsReadAs : {X Y : Type 0} → Option Y → (X → Y) → Result X Unread → Type 0
IsReadAs found of (Ok value) = found ≡ Some (of value)
IsReadAs found of (Err (unread.Word wanted)) = found ≡ None
IsReadAs found of (Err unread.NoMemory) = ⊥

-- the same, except that memory may be refused
abbrev pub IsReadUnlessMemory : {X Y : Type 0} → Option Y → (X → Y) → Result X Unread → Type 0
IsReadUnlessMemory found of (Ok value) = found ≡ Some (of value)
IsReadUnlessMemory found of (Err (unread.Word wanted)) = found ≡ None
IsReadUnlessMemory found of (Err unread.NoMemory) = ⊤

abbrev pub HasAsked : Option Asking → Result Invocation Unread → Type 0
HasAsked found = IsReadUnlessMemory found asking_of
