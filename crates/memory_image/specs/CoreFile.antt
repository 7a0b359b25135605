-- An ELF core of physical memory (ELF-64 Object File Format, "File header" and "Program header
-- table"; Linux's elf.h).
--
--   Bytes    of the file header                   Bytes    of a program header
--   0-3      0x7f 'E' 'L' 'F'                     0-3      p_type: 1 PT_LOAD
--   4        EI_CLASS: 2 ELFCLASS64               8-15     p_offset, its place in the file
--   5        EI_DATA: 1 ELFDATA2LSB               24-31    p_paddr, its first physical address
--   16-17    e_type: 4 ET_CORE                    32-39    p_filesz, its bytes in the file
--   18-19    e_machine: 183 EM_AARCH64
--   32-39    e_phoff, the place of the program headers
--   54-55    e_phentsize: 56
--   56-57    e_phnum, how many there are
use Rattle.std.specs.Prelude.{ℕ, zero, suc, ◌+◌, ◌-◌, ◌*◌, ◌^◌, ◌≤◌, ◌<◌, ◌==◌, not, nat_lt, Bool, List, [], ◌∷◌, ◌++◌, codes, length, slice_index, take, Option, Some, None, Result, Ok, Err, if◌then◌else◌}
use Rattle.std.specs.List.{list_any}
use Rattle.std.specs.Str.{bytes_eq}
use Rattle.memory_image.specs.Pieces.{number16, number32, number64, piece}
use Rattle.memory_image.specs.declared.header.Table.{Table}
use Rattle.memory_image.specs.declared.segment.Segment.{Segment}
use Rattle.memory_image.specs.declared.refused.Fault.{Fault}
use Rattle.memory_image.specs.declared.refused.Why.{Why}
use Rattle.memory_image.specs.declared.refused.Why.TheVariants.{KdumpCompressed, Flattened, NotElf, NotElf64, NotLittleEndian, NotCore, OtherMachine, HeaderSize, TooManyHeaders, Truncated, Overlap, PastLimit}

-- bytes begin with these
abbrev pub begins_with : List ℕ → List ℕ → Bool
begins_with bytes name = bytes_eq (take (length name) bytes) name

abbrev pub fault : {X : Type 0} → Why → ℕ → Result X Fault
fault why at = Err (record { at = at; why = why })

-- the program headers by the first 64 bytes of a file of `count`, or the first thing that is wrong
abbrev pub table_of : (count : ℕ) → List ℕ → Result Table Fault
table_of count head =
    if begins_with head (codes "KDUMP   ") then fault KdumpCompressed 0
    else (if begins_with head (codes "makedumpfile") then fault Flattened 0
    else (if not (begins_with head (127 ∷ codes "ELF")) then fault NotElf 0
    else (if not (slice_index head 4 == 2) then fault NotElf64 4
    else (if not (slice_index head 5 == 1) then fault NotLittleEndian 5
    else (if not (number16 head 16 == 4) then fault NotCore 16
    else (if not (number16 head 18 == 183) then fault OtherMachine 18
    else (if not (number16 head 54 == 56) then fault HeaderSize 54
    else (if nat_lt 4096 (number16 head 56) then fault TooManyHeaders 56
    else (if nat_lt count (number64 head 32 + 56 * number16 head 56) then fault Truncated 32
    else Ok (record { at = number64 head 32; headers = number16 head 56 }))))))))))

-- all program headers end before the file does
abbrev pub IsReachable : ℕ → Table → Type 0
IsReachable count table = table.at + 56 * table.headers ≤ count

-- the segment of a program header: it is loaded, and the file has bytes of it
abbrev pub segment_of : List ℕ → Option Segment
segment_of header =
    if not (number32 header 0 == 1) then None
    else (if number64 header 32 == 0 then None
    else Some
    (record {
      address = number64 header 24;
      at = number64 header 8;
      count = number64 header 32;
    }))

-- two segments share an address
abbrev pub shares_address : Segment → Segment → Bool
shares_address s t =
    if nat_lt s.address t.address then nat_lt (t.address - s.address) s.count
    else nat_lt (s.address - t.address) t.count

-- a segment's bytes in the file end at a place that 64 bits say
abbrev pub IsPlaced : Segment → Type 0
IsPlaced s = s.at + s.count < 2 ^ 64

-- the fault of the segment of the program header at `place`, after those before it
abbrev pub fault_of : (count : ℕ) → List Segment → ℕ → Segment → Option Fault
fault_of count before place s =
    if nat_lt (2 ^ 52) (s.address + s.count) then Some (record { at = place + 24; why = PastLimit })
    else (if nat_lt count (s.at + s.count) then Some (record { at = place + 8; why = Truncated })
    else (if list_any (λ t. shares_address t s) before
    then Some (record { at = place + 24; why = Overlap })
    else None))

-- the segments with one more, unless that has a fault
abbrev pub unless : List Segment → Segment → Option Fault → Result (List Segment) Fault
unless before s None = Ok (before ++ s ∷ [])
unless before s (Some f) = Err f

-- the segments with that of a program header, if it has one
abbrev pub joined_by : (count : ℕ) → List Segment → ℕ → Option Segment → Result (List Segment) Fault
joined_by count before place None = Ok before
joined_by count before place (Some s) = unless before s (fault_of count before place s)

-- what follows if nothing was wrong
abbrev pub and_then : {X Y : Type 0} → Result X Fault → (X → Result Y Fault) → Result Y Fault
and_then (Ok x) next = next x
and_then (Err f) next = Err f

-- the segments of the first program headers of a file of `count` bytes, or the first thing that is
-- wrong
unfoldable pub segments_of : (count : ℕ) → List ℕ → Table → ℕ → Result (List Segment) Fault
segments_of count bytes table zero = Ok []
segments_of count bytes table (suc n) =
    and_then (segments_of count bytes table n)
    (λ before. joined_by count before (table.at + 56 * n)
    (segment_of (piece bytes (table.at + 56 * n) 56)))

-- the segments of a core, or the first thing that is wrong
abbrev pub core_of : List ℕ → Result (List Segment) Fault
core_of bytes =
    if nat_lt (length bytes) 64 then fault Truncated 0
    else and_then (table_of (length bytes) (piece bytes 0 64))
    (λ table. segments_of (length bytes) bytes table table.headers)

-- the one segment of a raw image
abbrev pub raw_of : ℕ → List ℕ → Result (List Segment) Fault
raw_of base bytes =
    if nat_lt (2 ^ 52) (base + length bytes) then fault PastLimit 0
    else Ok (record { address = base; at = 0; count = length bytes } ∷ [])
