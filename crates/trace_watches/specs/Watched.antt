-- A trace in which a watch's query comes after a step, and the reply that is recorded (profile).
use Rattle.std.specs.Prelude.{◌≡◌, ℕ, ◌+◌, Bool, false, true, ◌&&◌, ◌||◌, ◌==◌, not, nat_eq, nat_le, List, [], ◌∷◌, ◌++◌, codes, drop, filter, length, slice_get, take, Option, Some, None, if◌then◌else◌}
use Rattle.std.specs.List.{list_all, list_any, slice_split, starts_with}
use Rattle.trace_cases.specs.Cases.{IsCaseRecord}
use Rattle.trace_cases.specs.Kinds.{trimmed}
use Rattle.trace_cases.specs.Ways.{is_start}
use Rattle.trace_check.specs.Records.{bytes_of}
use Rattle.trace_reader.specs.Reading.{lines_of}
use Rattle.trace_values.specs.Expansions.{note_at, text_in}
use Rattle.trace_watches.specs.Watches.{Watch, query_of, wanted_of, word_at}
use Rattle.trace_words.specs.Numbers.{number_of}

-- a step line, which begins with a digit
abbrev pub is_step : List ℕ → Bool
is_step [] = false
is_step (first ∷ rest) = nat_le 0x30 first && nat_le first 0x39

-- whether two words are one number
abbrev pub are_same : Option ℕ → Option ℕ → Bool
are_same (Some one) (Some other) = one == other
are_same (Some one) None = false
are_same None other = false

-- a step line of the CPU of another step line
abbrev pub is_of_cpu : List ℕ → List ℕ → Bool
is_of_cpu step line =
    is_step line && are_same (number_of (word_at step 0)) (number_of (word_at line 0))

-- the lines behind a step that may come before the query, by those before the step and those behind
-- it: if the step is after `start`, all but the later steps of its CPU
abbrev pub others : List ℕ → List (List ℕ) → List (List ℕ) → List (List ℕ)
others step before rest =
    if list_any is_start before then filter (λ line. not (is_of_cpu step line)) rest else []

-- the lines up to the step at a place, those others, and then the query, of the step's CPU. After
-- `start` the others may be made in any order with the query, so it comes at each point at which
-- this step is the last of its CPU
abbrev pub watched : List (List ℕ) → ℕ → List ℕ → Watch → List (List ℕ)
watched lines place step w =
    take (place + 1) lines ++ others step (take place lines) (drop (place + 1) lines)
    ++ (word_at step 0 ++ query_of w.line) ∷ []

-- the expectation that is recorded behind the query, if there is one
pub record IsNoted (A : Type 0) (lines : List (List ℕ)) (place : ℕ) (step : List ℕ) (w : Watch)
    (note : Option (List ℕ)) : Type 0 where
  pub text : List ℕ
  pub is : IsCaseRecord A (bytes_of (watched lines place step w)) text
  pub note_is : note ≡ note_at (lines_of text) 0

-- a text that begins with these words: then it ends, or a space follows
abbrev pub ends_word : Option ℕ → Bool
ends_word None = true
ends_word (Some byte) = byte == 0x20

abbrev pub begins : List ℕ → List ℕ → Bool
begins text words = starts_with nat_eq text words && ends_word (slice_get text (length words))

-- a reply that begins as is wanted: a leading `ok` may be left out
abbrev pub without_ok : List ℕ → List ℕ
without_ok reply = if starts_with nat_eq reply (codes "ok ") then drop 3 reply else reply

abbrev pub is_wanted : List ℕ → List ℕ → Bool
is_wanted wanted reply = begins reply wanted || begins (without_ok reply) wanted

-- each of several replies does, which have bars between them
abbrev pub are_wanted : List ℕ → List ℕ → Bool
are_wanted wanted text =
    list_all (λ part. is_wanted wanted (trimmed part)) (slice_split (λ byte. byte == 0x7c) text)

-- whether the recorded expectation is as a watch wants it, and what stands there
abbrev pub meets : Watch → Option (List ℕ) → Bool
meets w None = false
meets w (Some note) = are_wanted (wanted_of w.line) (text_in note)

abbrev pub got_of : Option (List ℕ) → List ℕ
got_of None = codes "nothing"
got_of (Some note) = text_in note
