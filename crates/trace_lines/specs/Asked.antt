-- What the first words of a line ask for, a row for each form of lines (profile).
use Rattle.std.specs.Prelude.{ℕ, Bool, false, List, [], ◌∷◌, ◌+◌, codes, Option, Some, option_map, option_and_then, slice_get, if◌then◌else◌}
use Rattle.std.specs.Str.{bytes_eq}
use Rattle.page_state.specs.declared.entry.PageRange.{PageRange}
use Rattle.trace_lines.specs.declared.asked.Asked.{Asked}
use Rattle.trace_lines.specs.declared.asked.NamedTree.{NamedTree}
use Rattle.trace_lines.specs.declared.call.Called.{Called}
use Rattle.trace_lines.specs.declared.line.Line.{Line}
use Rattle.trace_lines.specs.declared.line.Line.TheVariants as lines
use Rattle.trace_lines.specs.declared.line.Query.TheVariants as queries
use Rattle.trace_lines.specs.declared.line.Setting.{Setting}
use Rattle.trace_lines.specs.declared.line.Setting.TheVariants as settings
use Rattle.trace_lines.specs.declared.line.TreeName.{TreeName}
use Rattle.trace_lines.specs.declared.line.TreeName.TheVariants.{Host, Hyp, Guest}
use Rattle.trace_lines.specs.declared.place.SettingName.{SettingName}
use Rattle.trace_lines.specs.declared.place.SettingName.TheVariants as names
use Rattle.trace_lines.specs.declared.place.Verb.TheVariants as verbs
use Rattle.trace_lines.specs.Arguments.{number_at, range_of, level_word_at, slot_word_at}
use Rattle.trace_lines.specs.Calls.{called as called_by}
use Rattle.trace_words.specs.Numbers.{is_decimal_digit}
use Rattle.trace_words.specs.Words.{named}

-- whether a word begins with a digit, as that of a step line does
abbrev pub begins_with_digit : List ℕ → Bool
begins_with_digit [] = false
begins_with_digit (byte ∷ bytes) = is_decimal_digit byte

-- `show` of a tree
abbrev pub of_show : NamedTree → Asked
of_show named =
    record {
      verb = verbs.Query;
      words = 1 + named.words;
      line = option_map (λ tree. lines.Query (queries.Show tree)) named.tree;
    }

module _ (words : List (List ℕ)) where
  -- a setting that is a number, and one that is a range
  abbrev pub of_number : SettingName → (ℕ → Setting) → Asked
  of_number name make =
      record {
        verb = verbs.Setting name;
        words = 2;
        line = option_map (λ n. lines.Setting (make n)) (number_at words 1);
      }

  abbrev pub of_range : SettingName → (PageRange → Setting) → Asked
  of_range name make =
      record {
        verb = verbs.Setting name;
        words = 3;
        line = option_map (λ r. lines.Setting (make r)) (range_of words);
      }

  -- the lines whose first word says the whole request
  abbrev pub headers : List (List ℕ × Asked)
  headers =
      (codes "geometry", of_number names.Geometry settings.Geometry)
      ∷ (codes "cpus", of_number names.Cpus settings.Cpus)
      ∷ (codes "log", of_number names.Log settings.Log)
      ∷ (codes "memory", of_range names.Memory settings.Memory)
      ∷ (codes "device", of_range names.Device settings.Device)
      ∷ (codes "carve", of_range names.Carve settings.Carve)
      ∷ (codes "boot", record { verb = verbs.Boot; words = 1; line = Some lines.Boot })
      ∷ (codes "start", record { verb = verbs.Start; words = 1; line = Some lines.Start }) ∷ []

  -- a step line
  abbrev pub of_call : Called → Asked
  of_call called =
      record {
        verb = verbs.Step;
        words = called.words;
        line =
            option_and_then (λ cpu. option_map (lines.Step cpu) called.step) (number_at words 0);
      }

  -- the trees, each named by one word or, a guest's, by two: `guest` and its slot
  abbrev pub tree_names : List (List ℕ × NamedTree)
  tree_names =
      (codes "host", record { words = 1; tree = Some Host })
      ∷ (codes "hyp", record { words = 1; tree = Some Hyp })
      ∷ (codes "guest", record { words = 2; tree = option_map Guest (slot_word_at words 2) }) ∷ []

  -- the word on a path that a line asks for whose page is at a place
  abbrev pub word_of : ℕ → TreeName → Option Line
  word_of place tree =
      option_and_then
      (λ page. option_map (λ level. lines.Query (queries.Word tree page level))
      (level_word_at words (place + 1)))
      (number_at words place)

  -- `word` of a tree
  abbrev pub of_tree : NamedTree → Asked
  of_tree named =
      record {
        verb = verbs.Query;
        words = 3 + named.words;
        line = option_and_then (word_of (1 + named.words)) named.tree;
      }

  -- the poke whose page is at a place
  abbrev pub poke_of : ℕ → TreeName → Option Line
  poke_of place tree =
      option_and_then
      (λ page. option_and_then
      (λ level. option_map
      (λ word. lines.Poke
      (record { tree = tree; page = page; level = level; word = word }))
      (number_at words (place + 2)))
      (level_word_at words (place + 1)))
      (number_at words place)

  -- `poke` of a tree
  abbrev pub of_poke : NamedTree → Asked
  of_poke named =
      record {
        verb = verbs.Poke;
        words = 4 + named.words;
        line = option_and_then (poke_of (1 + named.words)) named.tree;
      }

  -- `free` of a pool
  abbrev pub pools : List (List ℕ × Asked)
  pools = (
    codes "shared",
    record { verb = verbs.Query; words = 2; line = Some (lines.Query queries.FreeShared) },
  )
      ∷ (
        codes "guest",
        record {
          verb = verbs.Query;
          words = 3;
          line =
              option_map (λ slot. lines.Query (queries.FreeGuest slot))
              (slot_word_at words 2);
        },
      )
      ∷ []

  -- what the first word and the one after it ask for
  abbrev pub asked_from : List ℕ → Option (List ℕ) → Option Asked
  asked_from first second =
      if begins_with_digit first then option_map of_call (option_and_then (called_by words) second)
      else (if bytes_eq first (codes "word")
      then option_map of_tree (option_and_then (named tree_names) second)
      else (if bytes_eq first (codes "free") then option_and_then (named pools) second
      else (if bytes_eq first (codes "show")
      then option_map of_show (option_and_then (named tree_names) second)
      else (if bytes_eq first (codes "poke")
      then option_map of_poke (option_and_then (named tree_names) second)
      else named headers first))))

  -- what a line of these words asks for
  unfoldable pub asked : Option Asked
  asked = option_and_then (λ first. asked_from first (slice_get words 1)) (slice_get words 0)
