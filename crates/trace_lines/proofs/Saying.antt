-- What can be said: each line is of the kind that its words ask for, and allowed, and each step is that of a call of
-- the grammar.
use Rattle.std.proofs.Common.{ℕ, ◌+◌, refl, Bool, true, false, not, cond, List, [], ◌∷◌, length, Option, Some, None, Err, IfOk, IfSome, option_map, option_and_then}
use Rattle.std.specs.Prelude.{ok_or, if◌then◌else◌, slice_get, codes, ◌==◌, ◌&&◌, IsTrue, is_some}
use Rattle.std.specs.Str.{bytes_eq}
use Rattle.std.specs.Map.{lookup}
use Rattle.page_state.specs.declared.entry.PageRange.{PageRange}
use Rattle.call_table.specs.declared.step.Step.{Step}
use Rattle.trace_lines.specs.declared.asked.Asked.{Asked}
use Rattle.trace_lines.specs.declared.asked.NamedTree.{NamedTree}
use Rattle.trace_lines.specs.declared.call.Called.{Called}
use Rattle.trace_lines.specs.declared.fault.LineFault.TheVariants.{Place, Count, Form}
use Rattle.trace_lines.specs.declared.line.Line.{Line}
use Rattle.trace_lines.specs.declared.line.Line.TheVariants as lines
use Rattle.trace_lines.specs.declared.line.Poke.{Poke}
use Rattle.trace_lines.specs.declared.line.Query.{Query}
use Rattle.trace_lines.specs.declared.line.Query.TheVariants as queries
use Rattle.trace_lines.specs.declared.line.Setting.{Setting}
use Rattle.trace_lines.specs.declared.line.Setting.TheVariants as settings
use Rattle.trace_lines.specs.declared.line.TreeName.{TreeName}
use Rattle.trace_lines.specs.declared.place.Allows.{Allows}
use Rattle.trace_lines.specs.declared.place.SettingName.{SettingName}
use Rattle.trace_lines.specs.declared.place.SettingName.TheVariants as names
use Rattle.trace_lines.specs.declared.place.Verb.{Verb}
use Rattle.trace_lines.specs.declared.place.Verb.TheVariants as verbs
use Rattle.trace_lines.specs.Arguments.{number_at, range_of, level_word_at, slot_word_at}
use Rattle.trace_lines.specs.Asked.{asked, asked_from, begins_with_digit, headers, of_call, of_number, of_range, of_tree, of_poke, of_show, poke_of, pools, tree_names, word_of}
use Rattle.trace_lines.specs.Calls.{called as called_by}
use Rattle.trace_lines.specs.Places.{IsAllowed, may_stand, may_set}
use Rattle.trace_lines.specs.Said.{said_by_asked, said_by_words}
use Rattle.trace_lines.specs.Settings.{Told}
use Rattle.trace_words.specs.Words.{named}

pub mapped : {X Y : Type 0} (P : Y → Type 0) (f : X → Y)
    → ((x : X) → P (f x))
    → (o : Option X)
    → IfSome (option_map f o) P
mapped P f h None = tt
mapped P f h (Some x) = h x

pub chained : {X Y : Type 0} (P : Y → Type 0) (f : X → Option Y)
    → ((x : X) → IfSome (f x) P)
    → (o : Option X)
    → IfSome (option_and_then f o) P
chained P f h None = tt
chained P f h (Some x) = h x

-- all that names stand for
abbrev Each : {X : Type 0} → (X → Type 0) → List (List ℕ × X) → Type 0
Each P [] = Unit {0}
Each P (name ∷ names) = P name.1 × Each P names

found : {X : Type 0} (P : X → Type 0) (names : List (List ℕ × X)) (word : List ℕ)
    → Each P names
    → IfSome (named names word) P
found P [] word h = tt
found P (name ∷ names) word h =
    elim (bytes_eq word name.0) as (λ b. IfSome (cond b (Some name.1) (lookup (bytes_eq word) names)) P)
    [ true ↦ h.0 | false ↦ found P names word h.1 ]

-- what holds of the lines of each row, by their verb
module _ (R : Verb → Line → Type 0)
    (of_setting : (name : SettingName) (setting : Setting) → R (verbs.Setting name) (lines.Setting setting))
    (of_boot : R verbs.Boot lines.Boot)
    (of_step : (cpu : ℕ) (step : Step) → R verbs.Step (lines.Step cpu step))
    (of_query : (query : Query) → R verbs.Query (lines.Query query))
    (of_poke_line : (poke : Poke) → R verbs.Poke (lines.Poke poke))
    (of_start : R verbs.Start lines.Start) (words : List (List ℕ)) where
  abbrev Holds : Asked → Type 0
  Holds a = IfSome a.line (R a.verb)

  number_row : (name : SettingName) (make : ℕ → Setting) → Holds (of_number words name make)
  number_row name make = mapped _ (λ n. lines.Setting (make n)) (λ n. of_setting name (make n)) (number_at words 1)

  range_row : (name : SettingName) (make : PageRange → Setting) → Holds (of_range words name make)
  range_row name make = mapped _ (λ r. lines.Setting (make r)) (λ r. of_setting name (make r)) (range_of words)

  header_rows : Each Holds (headers words)
  header_rows = (
    number_row names.Geometry settings.Geometry,
    (
      number_row names.Cpus settings.Cpus,
      (
        number_row names.Log settings.Log,
        (
          range_row names.Memory settings.Memory,
          (
            range_row names.Device settings.Device,
            (range_row names.Carve settings.Carve, (of_boot, (of_start, tt))),
          ),
        ),
      ),
    ),
  )

  call_row : (called : Called) → Holds (of_call words called)
  call_row called =
      chained _ (λ cpu. option_map (lines.Step cpu) called.step)
      (λ cpu. mapped _ (lines.Step cpu) (of_step cpu) called.step) (number_at words 0)

  word_row : (place : ℕ) (tree : TreeName) → IfSome (word_of words place tree) (R verbs.Query)
  word_row place tree =
      chained _
      (λ page. option_map (λ level. lines.Query (queries.Word tree page level)) (level_word_at words (place + 1)))
      (λ page. mapped _ (λ level. lines.Query (queries.Word tree page level))
      (λ level. of_query (queries.Word tree page level)) (level_word_at words (place + 1)))
      (number_at words place)

  tree_row : (tree : NamedTree) → Holds (of_tree words tree)
  tree_row tree = chained _ (word_of words (1 + tree.words)) (word_row (1 + tree.words)) tree.tree

  show_row : (tree : NamedTree) → Holds (of_show tree)
  show_row tree = mapped _ (λ name. lines.Query (queries.Show name)) (λ name. of_query (queries.Show name)) tree.tree

  poke_row : (place : ℕ) (tree : TreeName) → IfSome (poke_of words place tree) (R verbs.Poke)
  poke_row place tree =
      chained _
      (λ page. option_and_then
      (λ level. option_map (λ word. lines.Poke (poked page level word)) (number_at words (place + 2)))
      (level_word_at words (place + 1)))
      (λ page. chained _
      (λ level. option_map (λ word. lines.Poke (poked page level word)) (number_at words (place + 2)))
      (λ level. mapped _ (λ word. lines.Poke (poked page level word)) (λ word. of_poke_line (poked page level word))
      (number_at words (place + 2)))
      (level_word_at words (place + 1)))
      (number_at words place)
    where
      poked : ℕ → ℕ → ℕ → Poke
      poked page level word = record { tree = tree; page = page; level = level; word = word }

  poke_tree_row : (tree : NamedTree) → Holds (of_poke words tree)
  poke_tree_row tree = chained _ (poke_of words (1 + tree.words)) (poke_row (1 + tree.words)) tree.tree

  pool_rows : Each Holds (pools words)
  pool_rows = (
    of_query queries.FreeShared,
    (
      mapped _ (λ slot. lines.Query (queries.FreeGuest slot)) (λ slot. of_query (queries.FreeGuest slot))
          (slot_word_at words 2),
      tt,
    ),
  )

  by_first : (first : List ℕ) (second : Option (List ℕ)) → IfSome (asked_from words first second) Holds
  by_first first second =
      either (begins_with_digit first) _ _
      (mapped Holds (of_call words) call_row (option_and_then (called_by words) second))
      (either (bytes_eq first (codes "word")) _ _
      (mapped Holds (of_tree words) tree_row (option_and_then (named (tree_names words)) second))
      (either (bytes_eq first (codes "free")) _ _
      (chained Holds (named (pools words)) (λ name. found Holds (pools words) name pool_rows) second)
      (either (bytes_eq first (codes "show")) _ _
      (mapped Holds of_show show_row (option_and_then (named (tree_names words)) second))
      (either (bytes_eq first (codes "poke")) _ _
      (mapped Holds (of_poke words) poke_tree_row (option_and_then (named (tree_names words)) second))
      (found Holds (headers words) first header_rows)))))
    where
      either : (b : Bool) (x y : Option Asked) → IfSome x Holds → IfSome y Holds → IfSome (if b then x else y) Holds
      either true x y h k = h
      either false x y h k = k

  pub of_asked : IfSome (asked words) Holds
  unfolding asked
  of_asked =
      chained Holds (λ first. asked_from words first (slice_get words 1)) (λ first. by_first first (slice_get words 1))
      (slice_get words 0)

-- a line is of the kind that is asked for
abbrev pub IsOf : Verb → Line → Type 0
IsOf (verbs.Setting name) (lines.Setting setting) = Unit {0}
IsOf verbs.Boot lines.Boot = Unit {0}
IsOf verbs.Step (lines.Step cpu step) = Unit {0}
IsOf verbs.Query (lines.Query query) = Unit {0}
IsOf verbs.Poke (lines.Poke poke) = Unit {0}
IsOf verbs.Start lines.Start = Unit {0}
IsOf verb line = ⊥

pub asked_suits : (words : List (List ℕ)) → IfSome (asked words) (λ a. IfSome a.line (IsOf a.verb))
asked_suits words = of_asked IsOf (λ name setting. tt) tt (λ cpu step. tt) (λ query. tt) (λ poke. tt) tt words

-- the line that words say has a property, where that of what they ask for has it in its place
module _ (Q : Line → Type 0) (allows : Allows) (told : Told) where
  tested : (may counted : Bool) (o : Option Line) → (IsTrue may → IfSome o Q)
      → IfOk (if not may then Err Place else (if not counted then Err Count else ok_or (option_map Some o) Form))
      (λ said. IfSome said Q)
  tested false counted o h = tt
  tested true false o h = tt
  tested true true None h = tt
  tested true true (Some line) h = h refl

  by_asked : (count : ℕ) (o : Option Asked) → IfSome o (λ a. IsTrue (may_stand allows told a.verb) → IfSome a.line Q)
      → IfOk (said_by_asked allows told count o) (λ said. IfSome said Q)
  by_asked count None h = tt
  by_asked count (Some a) h = tested (may_stand allows told a.verb) (count == a.words) a.line h

-- what words say is allowed
first : (a b : Bool) → IsTrue (a && b) → IsTrue a
first true b h = refl
first false b h = absurd (let e = h in cc)

stands : (allows : Allows) (told : Told) (verb : Verb) (line : Line)
    → IsOf verb line
    → IsTrue (may_stand allows told verb)
    → IsAllowed allows line
stands allows told (verbs.Setting name) (lines.Setting setting) h may = first allows.settings (may_set told name) may
stands allows told verbs.Boot lines.Boot h may = first allows.boot (is_some told.carve) may
stands allows told verbs.Step (lines.Step cpu step) h may = may
stands allows told verbs.Query (lines.Query query) h may = may
stands allows told verbs.Poke (lines.Poke poke) h may = may
stands allows told verbs.Start lines.Start h may = may
stands allows told verb line h may = absurd h

pub words_allowed : (allows : Allows) (told : Told) (words : List (List ℕ))
    → IfOk (said_by_words allows told words) (λ said. IfSome said (IsAllowed allows))
words_allowed allows told words =
    by_asked (IsAllowed allows) allows told (length words) (asked words) (every (asked words) (asked_suits words))
  where
    each : (verb : Verb) (o : Option Line)
        → IfSome o (IsOf verb)
        → IsTrue (may_stand allows told verb)
        → IfSome o (IsAllowed allows)
    each verb None h may = tt
    each verb (Some line) h may = stands allows told verb line h may

    every : (o : Option Asked)
        → IfSome o (λ a. IfSome a.line (IsOf a.verb))
        → IfSome o (λ a. IsTrue (may_stand allows told a.verb) → IfSome a.line (IsAllowed allows))
    every None h = tt
    every (Some a) h = each a.verb a.line h
