-- Program headers one by one.
use Rattle.std.proofs.Common.{◌≡◌, ℕ, zero, suc, ◌+◌, ◌-◌, ◌*◌, ◌<◌, ◌≤◌, List, [], ◌∷◌, ◌++◌, Option, Some, Result, Ok, Err, Bool, true, false, is_err, OnOk, nat_lt, length, if◌then◌else◌, refl, ap, sym, ◌∙◌, subst, add-one, length-append, arith}
use Rattle.std.proofs.lemmas.Bool.Decides.{nat_tests}
use Rattle.std.specs.Global.{Global}
use Rattle.std.specs.Option.{ForSome}
use Rattle.std.specs.declared.vec.Vec.{Vec}
use Rattle.memory_image.specs.CoreFile.{and_then, core_of, joined_by, segment_of, segments_of, table_of}
use Rattle.memory_image.specs.Opened.{IsAnswered, IsJoined}
use Rattle.memory_image.specs.Pages.{words_in}
use Rattle.memory_image.specs.Pieces.{number64, piece}
use Rattle.memory_image.specs.declared.header.Table.{Table}
use Rattle.memory_image.specs.declared.segment.Segment.{Segment}
use Rattle.memory_image.specs.declared.refused.Fault.{Fault}
use Rattle.memory_image.specs.declared.refused.Refused.{Refused}
use Rattle.memory_image.specs.declared.refused.Refused.TheVariants.{Wrong, Unread, NoMemory}

-- what is answered after one more program header
pub one_more : (count : ℕ) (bytes : List ℕ) (table : Table) (n : ℕ) (before : List Segment)
    → segments_of count bytes table n ≡ Ok before
    → segments_of count bytes table (n + 1)
    ≡ joined_by count before (table.at + 56 * n) (segment_of (piece bytes (table.at + 56 * n) 56))
unfolding segments_of
one_more count bytes table n before e = rw (add-one, e) refl

-- no header yet
pub none_yet : (count : ℕ) (bytes : List ℕ) (table : Table) → segments_of count bytes table 0 ≡ Ok []
unfolding segments_of
none_yet count bytes table = refl

-- a fault stays the first one
stays_wrong : (count : ℕ) (bytes : List ℕ) (table : Table) (n : ℕ) (f : Fault) (k : ℕ)
    → segments_of count bytes table n ≡ Err f
    → segments_of count bytes table (k + n) ≡ Err f
unfolding segments_of
stays_wrong count bytes table n f zero e =
    let same : n ≡ 0 + n = omega arith in
    subst (λ m. segments_of count bytes table m ≡ Err f) same e
stays_wrong count bytes table n f (suc k) e =
    let same : suc (k + n) ≡ suc k + n = omega arith in
    let next : segments_of count bytes table (suc (k + n)) ≡ Err f = rw (stays_wrong count bytes table n f k e) refl in
    subst (λ m. segments_of count bytes table m ≡ Err f) same next

pub wrong_at : (count : ℕ) (bytes : List ℕ) (table : Table) (n m : ℕ) (f : Fault)
    → segments_of count bytes table n ≡ Err f
    → n ≤ m
    → segments_of count bytes table m ≡ Err f
wrong_at count bytes table n m f e h =
    let same : (m - n) + n ≡ m = omega arith in
    subst (λ k. segments_of count bytes table k ≡ Err f) same (stays_wrong count bytes table n f (m - n) e)

-- one more word
pub one_more_word : (page : List ℕ) (n : ℕ) → words_in page (n + 1) ≡ words_in page n ++ number64 page (8 * n) ∷ []
unfolding words_in
one_more_word page n = rw add-one refl

-- so many words
pub length-words_in : (page : List ℕ) (n : ℕ) → length (words_in page n) ≡ n
unfolding words_in
length-words_in page zero = refl
length-words_in page (suc n) =
    length-append (words_in page n) _ ∙ (ap (λ k. k + 1) (length-words_in page n) ∙ add-one n)

pub no_word : (page : List ℕ) → words_in page 0 ≡ []
unfolding words_in
no_word page = refl

-- what was read, where a read didn't fail
pub of_ok : {X E : Type 0} (r : Result X E) (P : Type 0) → is_err r ≡ false → OnOk r P → P
of_ok (Ok x) P e h = h
of_ok (Err x) P e h = cc

-- a refusal of one header is one of all
pub passed : (known : Option (List ℕ)) (may_fail : ℕ → ℕ → Type 0) (said : List ℕ → Result (List Segment) Fault)
    (joined : Result (List Segment) Fault) (new : List Segment) (refused : Refused)
    → IsJoined joined new (Err refused)
    → ((f : Fault) → joined ≡ Err f → ForSome known (λ all. said all ≡ Err f))
    → IsAnswered known may_fail said (Err refused)
passed known may_fail said joined new (Wrong f) h each = each f h
passed known may_fail said joined new (Unread at) h each = absurd h
passed known may_fail said joined new NoMemory h each = tt

-- after one more header, of which the bytes were read
pub after_header : (count : ℕ) (bytes : List ℕ) (table : Table) (n : ℕ) (before : List Segment) (header : List ℕ)
    (r : Result (List Segment) Fault)
    → segments_of count bytes table n ≡ Ok before
    → header ≡ piece bytes (table.at + 56 * n) 56
    → joined_by count before (table.at + 56 * n) (segment_of header) ≡ r
    → segments_of count bytes table (n + 1) ≡ r
after_header count bytes table n before header r e h j =
    one_more count bytes table n before e
    ∙ (ap (λ b. joined_by count before (table.at + 56 * n) (segment_of b)) (sym h) ∙ j)

-- a header's fault is that of all
pub wrong_header : (count : ℕ) (bytes : List ℕ) (table : Table) (n : ℕ) (before : List Segment) (header : List ℕ)
    (f : Fault)
    → segments_of count bytes table n ≡ Ok before
    → header ≡ piece bytes (table.at + 56 * n) 56
    → joined_by count before (table.at + 56 * n) (segment_of header) ≡ Err f
    → n < table.headers
    → segments_of count bytes table table.headers ≡ Err f
wrong_header count bytes table n before header f e h j some =
    let below : n + 1 ≤ table.headers = omega arith in
    wrong_at count bytes table (n + 1) table.headers f
    (after_header count bytes table n before header (Err f) e h j) below

chosen : {X : Type 0} (b : Bool) (x y : X) → b ≡ false → (if b then x else y) ≡ y
chosen true x y e = cc
chosen false x y e = refl

with_table : (bytes : List ℕ) (table : Table) (r : Result (List Segment) Fault)
    → nat_lt (length bytes) 64 ≡ false
    → table_of (length bytes) (piece bytes 0 64) ≡ Ok table
    → segments_of (length bytes) bytes table table.headers ≡ r
    → core_of bytes ≡ r
with_table bytes table r here found all =
    chosen (nat_lt (length bytes) 64) _ _ here
    ∙ (ap (λ t. and_then t (λ u. segments_of (length bytes) bytes u u.headers)) found ∙ all)

without_table : (bytes : List ℕ) (f : Fault)
    → nat_lt (length bytes) 64 ≡ false
    → table_of (length bytes) (piece bytes 0 64) ≡ Err f
    → core_of bytes ≡ Err f
without_table bytes f here found =
    chosen (nat_lt (length bytes) 64) _ _ here
    ∙ ap (λ t. and_then t (λ u. segments_of (length bytes) bytes u u.headers)) found

-- a core of at least 64 bytes, by the table
pub by_table : (bytes head : List ℕ) (count : ℕ) (table : Table) (r : Result (List Segment) Fault)
    → count ≡ length bytes
    → 64 ≤ count
    → head ≡ piece bytes 0 64
    → table_of count head ≡ Ok table
    → segments_of count bytes table table.headers ≡ r
    → core_of bytes ≡ r
by_table bytes head count table r c long h t s =
    let here : nat_lt (length bytes) 64 ≡ false = grind (arith, nat_tests) in
    let found : table_of (length bytes) (piece bytes 0 64) ≡ Ok table =
    subst (λ b. table_of (length bytes) b ≡ Ok table) h (subst (λ n. table_of n head ≡ Ok table) c t) in
    let all : segments_of (length bytes) bytes table table.headers ≡ r =
    subst (λ n. segments_of n bytes table table.headers ≡ r) c s in
    with_table bytes table r here found all

-- one whose table is wrong
pub by_fault : (bytes head : List ℕ) (count : ℕ) (f : Fault)
    → count ≡ length bytes
    → 64 ≤ count
    → head ≡ piece bytes 0 64
    → table_of count head ≡ Err f
    → core_of bytes ≡ Err f
by_fault bytes head count f c long h t =
    let here : nat_lt (length bytes) 64 ≡ false = grind (arith, nat_tests) in
    let found : table_of (length bytes) (piece bytes 0 64) ≡ Err f =
    subst (λ b. table_of (length bytes) b ≡ Err f) h (subst (λ n. table_of n head ≡ Err f) c t) in
    without_table bytes f here found

-- an answer of one reading is one of another that says the same
pub read_on : (known : Option (List ℕ)) (may_fail : ℕ → ℕ → Type 0) (said more : List ℕ → Result (List Segment) Fault)
    (r : Result (Vec Segment Global) Refused)
    → IsAnswered known may_fail said r
    → ((all : List ℕ) (s : Result (List Segment) Fault) → known ≡ Some all → said all ≡ s → more all ≡ s)
    → IsAnswered known may_fail more r
read_on known may_fail said more (Ok segments) h each = λ all e. each all _ e (h all e)
read_on known may_fail said more (Err (Wrong f)) h each = λ all e. each all _ e (h all e)
read_on known may_fail said more (Err (Unread at)) h each = h
read_on known may_fail said more (Err NoMemory) h each = tt
