-- A fault of form has a word that isn't of its form.
use Rattle.std.proofs.Common.{◌≡◌, ◌≢◌, ℕ, ◌+◌, zero, suc, ◌<◌, ◌≤◌, refl, sym, ◌∙◌, ap, subst, arith, ◌==◌, not, Bool, true, false, List, [], ◌∷◌, length, map, Option, Some, None, Ok, Err, nat_lt}
use Rattle.std.specs.Prelude.{◌&&◌, codes, unwrap_or, is_some, slice_get, option_and_then, option_map, ok_or, if◌then◌else◌}
use Rattle.std.proofs.lemmas.Bool.Decides.{nat_tests}
use Rattle.call_table.specs.declared.argument.Arguments.{Arguments}
use Rattle.call_table.specs.declared.argument.Form.{Form as ArgumentForm}
use Rattle.call_table.specs.declared.argument.Form.TheVariants.{Frame, Page, Count as CountForm, LastCount, Vcpus, Vcpu, Vm, Kind, Rights}
use Rattle.call_table.specs.declared.row.CallName.{CallName}
use Rattle.call_table.specs.declared.step.Step.{Step}
use Rattle.call_table.specs.Made.{step_by}
use Rattle.call_table.specs.Named.{blank}
use Rattle.call_table.specs.Rows.{named as call_named, row}
use Rattle.trace_faults.specs.declared.form.Form.{Form}
use Rattle.trace_faults.specs.declared.form.Form.TheVariants.{Name, Cpu, Number, Word, Level, Slot, Argument}
use Rattle.trace_faults.specs.Forms.{first_wrong, forms, is_of}
use Rattle.std.specs.Str.{bytes_eq}
use Rattle.page_state.specs.declared.entry.PageRange.{PageRange}
use Rattle.trace_faults.specs.Forms.{call_forms, forms_from, header_forms, pool_forms, range_forms, tree_forms}
use Rattle.trace_faults.specs.Laws.{FormIsFound}
use Rattle.trace_lines.specs.declared.asked.Asked.{Asked}
use Rattle.trace_lines.specs.declared.fault.LineFault.TheVariants.{Long, Byte, Space, Place, Count, Form as WrongForm}
use Rattle.trace_lines.specs.declared.line.Line.{Line}
use Rattle.trace_lines.specs.declared.line.Line.TheVariants as lines
use Rattle.trace_lines.specs.declared.line.Query.TheVariants as queries
use Rattle.trace_lines.specs.declared.line.Setting.{Setting}
use Rattle.trace_lines.specs.declared.line.Setting.TheVariants as settings
use Rattle.trace_lines.specs.declared.line.TreeName.{TreeName}
use Rattle.trace_lines.specs.declared.line.TreeName.TheVariants.{Host, Hyp, Guest}
use Rattle.trace_lines.specs.declared.place.SettingName.{SettingName}
use Rattle.trace_lines.specs.declared.place.SettingName.TheVariants as names
use Rattle.trace_lines.specs.declared.place.Verb.TheVariants as verbs
use Rattle.trace_lines.specs.declared.place.Allows.{Allows}
use Rattle.trace_lines.specs.Arguments.{count_word_at, level_word_at, number_at, slot_word_at, vm_word_at, kind_word_at, rights_word_at}
use Rattle.trace_lines.specs.Asked.{asked, asked_from, begins_with_digit, headers, of_call, of_number, of_poke, of_range, of_show, of_tree, pools, tree_names}
use Rattle.trace_lines.specs.Places.{may_stand}
use Rattle.trace_lines.specs.Said.{said, said_by_asked, said_by_words}
use Rattle.trace_lines.specs.Settings.{Told}
use Rattle.trace_words.specs.Words.{has_stray_byte, has_stray_space, is_silent, named, words_of}
use Rattle.trace_lines.specs.Calls.{argument_at, arguments_from, called, words_of as words_for, words_from}

off : {P : Type 0} → true ≡ false → P
off h = cc

-- the first wrong place, at or after one, is in a list of forms and in the words
pub record IsWrongFrom (words : List (List ℕ)) (forms : List Form) (place : ℕ) : Type 0 where
  pub offset : ℕ
  pub at : first_wrong words forms place ≡ place + offset
  pub form : Form
  pub asked : slice_get forms offset ≡ Some form
  pub other : is_of words (place + offset) form ≡ false
  pub there : place + offset < length words

-- it is here, or further on
here : (words : List (List ℕ)) (form : Form) (more : List Form) (place : ℕ)
    → is_of words place form ≡ false
    → place < length words
    → IsWrongFrom words (form ∷ more) place
here words form more place e h =
    let same : place ≡ place + 0 = omega arith in
    record {
      offset = 0;
      at = rw e same;
      form = form;
      asked = refl;
      other = subst (λ n. is_of words n form ≡ false) same e;
      there = omega (arith, h);
    }

further : (words : List (List ℕ)) (form : Form) (more : List Form) (place : ℕ)
    → is_of words place form ≡ true
    → IsWrongFrom words more (place + 1)
    → IsWrongFrom words (form ∷ more) place
further words form more place e w = record {
  offset = suc w.offset;
  at = rw e (w.at ∙ omega arith);
  form = w.form;
  asked = w.asked;
  other = subst (λ n. is_of words n w.form ≡ false) (omega arith) w.other;
  there = let t = w.there in omega arith;
}

-- past the end of the words there is none
past_end : {X : Type 0} (xs : List X) (place : ℕ) → slice_get xs place ≡ None → length xs ≤ place
past_end [] place e = omega arith
past_end (x ∷ xs) zero e = absurd (let c : Some x ≡ None = e in cc)
past_end (x ∷ xs) (suc place) e = let h = past_end xs place e in omega arith

none_past : {X : Type 0} (xs : List X) (place : ℕ) → length xs ≤ place → slice_get xs place ≡ None
none_past [] place h = refl
none_past (x ∷ xs) zero h = absurd (omega (arith, h))
none_past (x ∷ xs) (suc place) h = none_past xs place (omega (arith, h))

-- whether an argument can be read depends on no other
put_some : {X : Type 0} (f g : X → Arguments) (o : Option X) → is_some (option_map f o) ≡ is_some (option_map g o)
put_some f g None = refl
put_some f g (Some x) = refl

same_read : (form : ArgumentForm) (words : List (List ℕ)) (place : ℕ) (a b : Arguments)
    → is_some (argument_at form words place a) ≡ is_some (argument_at form words place b)
same_read Frame words place a b =
    put_some (λ n. record a { frame = n }) (λ n. record b { frame = n }) (number_at words place)
same_read Page words place a b =
    put_some (λ n. record a { page = n }) (λ n. record b { page = n }) (number_at words place)
same_read CountForm words place a b =
    put_some (λ n. record a { count = n }) (λ n. record b { count = n }) (number_at words place)
same_read LastCount words place a b =
    put_some (λ n. record a { count = n }) (λ n. record b { count = n }) (count_word_at words place)
same_read Vcpus words place a b =
    put_some (λ n. record a { vcpus = n }) (λ n. record b { vcpus = n }) (number_at words place)
same_read Vcpu words place a b =
    put_some (λ n. record a { vcpu = n }) (λ n. record b { vcpu = n }) (number_at words place)
same_read Vm words place a b = put_some (λ v. record a { vm = v }) (λ v. record b { vm = v }) (vm_word_at words place)
same_read Kind words place a b =
    put_some (λ k. record a { kind = k }) (λ k. record b { kind = k }) (kind_word_at words place)
same_read Rights words place a b =
    put_some (λ r. record a { rights = r }) (λ r. record b { rights = r }) (rights_word_at words place)

-- for an argument a line has one word, or none where a last count is missing
data WordsFor (words : List (List ℕ)) (form : ArgumentForm) (place : ℕ) : Type 0 where
  one_word : words_for form words place ≡ 1 → WordsFor words form place
  missing : words_for form words place ≡ 0
      → slice_get words place ≡ None
      → ((a : Arguments) → is_some (argument_at form words place a) ≡ true)
      → WordsFor words form place

last_words : (words : List (List ℕ)) (place : ℕ) (word : Option (List ℕ))
    → slice_get words place ≡ word
    → WordsFor words LastCount place
last_words words place None w =
    let one : count_word_at words place ≡ Some 1 = rw (w, count_word_at) refl in
    missing (rw w refl) w (λ a. ap (λ o. is_some (option_map (λ n. record a { count = n }) o)) one)
last_words words place (Some word) w = one_word (rw w refl)

words_for_each : (words : List (List ℕ)) (form : ArgumentForm) (place : ℕ) → WordsFor words form place
words_for_each words LastCount place = last_words words place (slice_get words place) refl
words_for_each words Frame place = one_word refl
words_for_each words Page place = one_word refl
words_for_each words CountForm place = one_word refl
words_for_each words Vcpus place = one_word refl
words_for_each words Vcpu place = one_word refl
words_for_each words Vm place = one_word refl
words_for_each words Kind place = one_word refl
words_for_each words Rights place = one_word refl

module _ (words : List (List ℕ)) where
  -- arguments of which all are missing, and may be, are read
  none_missing : (arguments : List ArgumentForm) (place : ℕ) (a : Arguments)
      → words_from arguments words place ≡ 0
      → length words ≤ place
      → arguments_from arguments words place a ≢ None
  none_missing [] place a e h n = let c : Some a ≡ None = n in cc
  none_missing (form ∷ more) place a e h n =
      by_words (none_missing more (place + 1)) (words_for_each words form place) (argument_at form words place a) refl
    where
      by_words :
          ((b : Arguments)
          → words_from more words (place + 1) ≡ 0
          → length words ≤ place + 1
          → arguments_from more words (place + 1) b ≢ None)
          → WordsFor words form place → (read : Option Arguments) → argument_at form words place a ≡ read → ⊥
      by_words rest (one_word one) read r = omega (arith, e, one)
      by_words rest (missing none w some) None r = let c = sym (some a) ∙ ap is_some r in cc
      by_words rest (missing none w some) (Some b) r =
          rest b (omega (arith, e, none)) (omega (arith, h))
          (sym (ap (option_and_then (arguments_from more words (place + 1))) r) ∙ n)

  -- a step line whose words are as many as its call has, and whose arguments can't be read
  step_wrong : (arguments : List ArgumentForm) (place : ℕ) (a : Arguments)
      → length words ≡ place + words_from arguments words place
      → arguments_from arguments words place a ≡ None
      → IsWrongFrom words (map Argument arguments) place
  step_wrong [] place a count n = let c : Some a ≡ None = n in absurd cc
  step_wrong (form ∷ more) place a count n =
      by_words (step_wrong more (place + 1)) (words_for_each words form place) (argument_at form words place a) refl
    where
      onward : (b : Arguments)
          → argument_at form words place a ≡ Some b
          → arguments_from more words (place + 1) b ≡ None
      onward b r = sym (ap (option_and_then (arguments_from more words (place + 1))) r) ∙ n

      reads : (read : Option Arguments)
          → argument_at form words place a ≡ read
          → is_of words place (Argument form) ≡ is_some read
      reads read r = same_read form words place blank a ∙ ap is_some r

      by_words :
          ((b : Arguments)
          → length words ≡ place + 1 + words_from more words (place + 1)
          → arguments_from more words (place + 1) b ≡ None
          → IsWrongFrom words (map Argument more) (place + 1))
          → WordsFor words form place
          → (read : Option Arguments)
          → argument_at form words place a ≡ read
          → IsWrongFrom words (Argument form ∷ map Argument more) place
      by_words rest (one_word one) None r =
          here words (Argument form) (map Argument more) place (reads None r) (omega (arith, count, one))
      by_words rest (one_word one) (Some b) r =
          further words (Argument form) (map Argument more) place (reads (Some b) r)
          (rest b (omega (arith, count, one)) (onward b r))
      by_words rest (missing none w some) None r = absurd (let c = sym (some a) ∙ ap is_some r in cc)
      by_words rest (missing none w some) (Some b) r =
          let past = past_end words place w in
          absurd (none_missing more (place + 1) b (omega (arith, count, none, past)) (omega (arith, past)) (onward b r))

-- what a line whose fault is one of form asks for
pub record AsksFor (words : List (List ℕ)) : Type 0 where
  pub for : Asked
  pub asks : asked words ≡ Some for
  pub count : length words ≡ for.words
  pub none : for.line ≡ None

no_ok : {X E : Type 0} {P : Type 0} (x : X) (e : E) → Ok x ≡ Err e → P
no_ok x e h = cc

asked_tests : (allows : Allows) (told : Told) (words : List (List ℕ)) (a : Asked) (stands same : Bool)
    (line : Option Line)
    → asked words ≡ Some a
    → may_stand allows told a.verb ≡ stands
    → (length words == a.words) ≡ same
    → a.line ≡ line
    → (if not stands then Err Place else (if not same then Err Count else ok_or (option_map Some line) WrongForm))
    ≡ Err WrongForm
    → AsksFor words
asked_tests allows told words a false same line is s e l h = absurd cc
asked_tests allows told words a true false line is s e l h = absurd cc
asked_tests allows told words a true true (Some line) is s e l h = absurd cc
asked_tests allows told words a true true None is s e l h =
    record { for = a; asks = is; count = grind (arith, nat_tests); none = l }

words_tests : (allows : Allows) (told : Told) (words : List (List ℕ)) (a : Option Asked)
    → asked words ≡ a
    → said_by_asked allows told (length words) a ≡ Err WrongForm
    → AsksFor words
words_tests allows told words None is h = absurd cc
words_tests allows told words (Some a) is h =
    asked_tests allows told words a (may_stand allows told a.verb) (length words == a.words) a.line is refl refl refl h

line_tests : (allows : Allows) (told : Told) (line : List ℕ) (long stray silent spaced : Bool)
    → (if long then Err Long
    else (if stray then Err Byte
    else (if silent then Ok None else (if spaced then Err Space else said_by_words allows told (words_of line)))))
    ≡ Err WrongForm
    → AsksFor (words_of line)
line_tests allows told line true stray silent spaced h = absurd cc
line_tests allows told line false true silent spaced h = absurd cc
line_tests allows told line false false true spaced h = absurd cc
line_tests allows told line false false false true h = absurd cc
line_tests allows told line false false false false h =
    words_tests allows told (words_of line) (asked (words_of line)) refl h

asks_for : (allows : Allows) (told : Told) (line : List ℕ)
    → said allows told line ≡ Err WrongForm
    → AsksFor (words_of line)
unfolding said
asks_for allows told line h =
    line_tests allows told line (nat_lt 256 (length line)) (has_stray_byte line) (is_silent line)
    (has_stray_space line) h

-- whether each word has its form
abbrev all_right : List (List ℕ) → List Form → ℕ → Bool
all_right words [] place = true
all_right words (form ∷ more) place = is_of words place form && all_right words more (place + 1)

by_form : (words : List (List ℕ)) (form : Form) (more : List Form) (place : ℕ)
    → length words ≡ place + suc (length more)
    → (b : Bool)
    → is_of words place form ≡ b
    → (b && all_right words more (place + 1)) ≡ false
    → (all_right words more (place + 1) ≡ false → IsWrongFrom words more (place + 1))
    → IsWrongFrom words (form ∷ more) place
by_form words form more place count false is h next = here words form more place is (omega (arith, count))
by_form words form more place count true is h next = further words form more place is (next h)

-- of as many words as forms one is wrong where not each is right
rights_wrong : (words : List (List ℕ)) (forms : List Form) (place : ℕ)
    → length words ≡ place + length forms
    → all_right words forms place ≡ false
    → IsWrongFrom words forms place
rights_wrong words [] place count e = off e
rights_wrong words (form ∷ more) place count e =
    let c : length words ≡ place + suc (length more) = count in
    by_form words form more place c (is_of words place form) refl e
    (λ h. rights_wrong words more (place + 1) (omega (arith, c)) h)

-- values of which one is none
one_none : {X Y : Type 0} (f : X → Y) (a : Option X) → option_map f a ≡ None → (is_some a && true) ≡ false
one_none f None h = refl
one_none f (Some x) h = absurd cc

two_none : {Y Z : Type 0} (f : ℕ → Y → Z) (a : Option ℕ) (b : Option Y)
    → option_and_then (λ x. option_map (f x) b) a ≡ None
    → (is_some (option_map (λ n. record blank { page = n }) a) && (is_some b && true)) ≡ false
two_none f None b h = refl
two_none f (Some x) None h = refl
two_none f (Some x) (Some y) h = absurd cc

three_none : {Y Z V : Type 0} (f : ℕ → Y → Z → V) (a : Option ℕ) (b : Option Y) (c : Option Z)
    → option_and_then (λ x. option_and_then (λ y. option_map (f x y) c) b) a ≡ None
    → (is_some (option_map (λ n. record blank { page = n }) a) && (is_some b && (is_some c && true))) ≡ false
three_none f None b c h = refl
three_none f (Some x) None c h = refl
three_none f (Some x) (Some y) None h = refl
three_none f (Some x) (Some y) (Some z) h = absurd cc

-- what some lines ask for, and none
abbrev IsAsk : List (List ℕ) → List Form → Option Asked → Type 0
IsAsk words forms ask = (a : Asked) → ask ≡ Some a → length words ≡ a.words → a.line ≡ None → IsWrongFrom words forms 0

no_ask : (words : List (List ℕ)) (forms : List Form) → IsAsk words forms None
no_ask words forms a e count none = absurd cc

the_ask : (words : List (List ℕ)) (forms : List Form) (a : Asked)
    → a.words ≡ length forms
    → (a.line ≡ None → all_right words forms 0 ≡ false)
    → IsAsk words forms (Some a)
the_ask words forms a same right b e count none =
    let is : a ≡ b = cc in
    rights_wrong words forms 0 (count ∙ ap (λ x. x.words) (sym is) ∙ same ∙ (omega arith))
    (right (ap (λ x. x.line) is ∙ none))

module _ (words : List (List ℕ)) where
  -- a setting of one number, and of a range
  number_ask : (name : SettingName) (make : ℕ → Setting)
      → IsAsk words (Name ∷ Number ∷ []) (Some (of_number words name make))
  number_ask name make =
      the_ask words (Name ∷ Number ∷ []) (of_number words name make) refl
      (λ none. one_none (λ n. lines.Setting (make n)) (number_at words 1) none)

  range_none : (a b : Option ℕ) (make : PageRange → Setting)
      → option_map (λ r. lines.Setting (make r))
      (option_and_then (λ first. option_map (λ count. record { first = record { 0 = first }; count = count }) b) a)
      ≡ None
      → (is_some (option_map (λ n. record blank { page = n }) a)
      && (is_some (option_map (λ n. record blank { count = n }) b) && true))
      ≡ false
  range_none None b make h = refl
  range_none (Some x) None make h = refl
  range_none (Some x) (Some y) make h = absurd cc

  range_ask : (name : SettingName) (make : PageRange → Setting)
      → IsAsk words range_forms (Some (of_range words name make))
  range_ask name make =
      the_ask words range_forms (of_range words name make) refl
      (λ none. range_none (number_at words 1) (number_at words 2) make none)

  -- a line without a word that could be wrong
  sure_ask : (forms : List Form) (a : Asked) (line : Line)
      → a.line ≡ Some line
      → a.words ≡ length forms
      → IsAsk words forms (Some a)
  sure_ask forms a line is same =
      the_ask words forms a same (λ none. absurd (let c : Some line ≡ None = sym is ∙ none in cc))

  -- the lines that the first word tells
  header_ask : (first : List ℕ) (a b c d e f g h : Bool)
      → IsAsk words
      (unwrap_or
      (if a then Some (Name ∷ Number ∷ [])
      else (if b then Some (Name ∷ Number ∷ [])
      else (if c then Some (Name ∷ Number ∷ []) else (if d then Some range_forms
      else (if e then Some range_forms
      else (if f then Some range_forms
      else (if g then Some (Name ∷ []) else (if h then Some (Name ∷ []) else None))))))))
      [])
      (if a then Some (of_number words names.Geometry settings.Geometry)
      else (if b then Some (of_number words names.Cpus settings.Cpus)
      else (if c then Some (of_number words names.Log settings.Log)
      else (if d then Some (of_range words names.Memory settings.Memory)
      else (if e then Some (of_range words names.Device settings.Device)
      else (if f then Some (of_range words names.Carve settings.Carve)
      else (if g then Some (record { verb = verbs.Boot; words = 1; line = Some lines.Boot })
      else (if h then Some (record { verb = verbs.Start; words = 1; line = Some lines.Start }) else None))))))))
  header_ask first true b c d e f g h = number_ask names.Geometry settings.Geometry
  header_ask first false true c d e f g h = number_ask names.Cpus settings.Cpus
  header_ask first false false true d e f g h = number_ask names.Log settings.Log
  header_ask first false false false true e f g h = range_ask names.Memory settings.Memory
  header_ask first false false false false true f g h = range_ask names.Device settings.Device
  header_ask first false false false false false true g h = range_ask names.Carve settings.Carve
  header_ask first false false false false false false true h = sure_ask (Name ∷ []) _ lines.Boot refl refl
  header_ask first false false false false false false false true = sure_ask (Name ∷ []) _ lines.Start refl refl
  header_ask first false false false false false false false false = no_ask words []

  -- `free`
  pool_ask : (a b : Bool)
      → IsAsk words
      (unwrap_or (if a then Some (Name ∷ Name ∷ []) else (if b then Some (Name ∷ Name ∷ Slot ∷ []) else None)) [])
      (if a then Some (record { verb = verbs.Query; words = 2; line = Some (lines.Query queries.FreeShared) })
      else (if b
      then Some
      (record {
        verb = verbs.Query;
        words = 3;
        line = option_map (λ slot. lines.Query (queries.FreeGuest slot)) (slot_word_at words 2);
      })
      else None))
  pool_ask true b = sure_ask (Name ∷ Name ∷ []) _ (lines.Query queries.FreeShared) refl refl
  pool_ask false true =
      the_ask words (Name ∷ Name ∷ Slot ∷ []) _ refl
      (λ none. one_none (λ slot. lines.Query (queries.FreeGuest slot)) (slot_word_at words 2) none)
  pool_ask false false = no_ask words []

  pool_asks : (second : Option (List ℕ))
      → IsAsk words (pool_forms (unwrap_or second [])) (option_and_then (named (pools words)) second)
  pool_asks None = λ a e. absurd cc
  pool_asks (Some name) = pool_ask (bytes_eq name (codes "shared")) (bytes_eq name (codes "guest"))

  -- `show`
  map_none : {X Y Z : Type 0} (f : X → Y) (g : Y → Z) (a : Option X)
      → option_map g (option_map f a) ≡ None
      → (is_some a && true) ≡ false
  map_none f g None h = refl
  map_none f g (Some x) h = absurd cc

  show_ask : (a b c : Bool)
      → IsAsk words
      (unwrap_or
      (if a then Some (Name ∷ Name ∷ [])
      else (if b then Some (Name ∷ Name ∷ []) else (if c then Some (Name ∷ Name ∷ Slot ∷ []) else None)))
      [])
      (option_map of_show
      (if a then Some (record { words = 1; tree = Some Host })
      else (if b then Some (record { words = 1; tree = Some Hyp })
      else (if c then Some (record { words = 2; tree = option_map Guest (slot_word_at words 2) }) else None))))
  show_ask true b c = sure_ask (Name ∷ Name ∷ []) _ (lines.Query (queries.Show Host)) refl refl
  show_ask false true c = sure_ask (Name ∷ Name ∷ []) _ (lines.Query (queries.Show Hyp)) refl refl
  show_ask false false true =
      the_ask words (Name ∷ Name ∷ Slot ∷ []) _ refl
      (λ none. map_none Guest (λ tree. lines.Query (queries.Show tree)) (slot_word_at words 2) none)
  show_ask false false false = no_ask words []

  show_asks : (second : Option (List ℕ))
      → IsAsk words (tree_forms (Name ∷ Name ∷ []) (Name ∷ Name ∷ Slot ∷ []) (unwrap_or second []))
      (option_map of_show (option_and_then (named (tree_names words)) second))
  show_asks None = λ a e. absurd cc
  show_asks (Some name) =
      show_ask (bytes_eq name (codes "host")) (bytes_eq name (codes "hyp")) (bytes_eq name (codes "guest"))

  -- `word`
  path_none : (f : TreeName → ℕ → ℕ → Line) (s p l : Option ℕ)
      → option_and_then (λ tree. option_and_then (λ page. option_map (f tree page) l) p) (option_map Guest s) ≡ None
      → (is_some s && (is_some (option_map (λ n. record blank { page = n }) p) && (is_some l && true))) ≡ false
  path_none f None p l h = refl
  path_none f (Some s) None l h = refl
  path_none f (Some s) (Some p) None h = refl
  path_none f (Some s) (Some p) (Some l) h = absurd cc

  word_ask : (a b c : Bool) → IsAsk words
      (unwrap_or
      (if a then Some (Name ∷ Name ∷ Argument Page ∷ Level ∷ [])
      else (if b then Some (Name ∷ Name ∷ Argument Page ∷ Level ∷ [])
      else (if c then Some (Name ∷ Name ∷ Slot ∷ Argument Page ∷ Level ∷ []) else None)))
      [])
      (option_map (of_tree words)
      (if a then Some (record { words = 1; tree = Some Host })
      else (if b then Some (record { words = 1; tree = Some Hyp })
      else (if c then Some (record { words = 2; tree = option_map Guest (slot_word_at words 2) }) else None))))
  word_ask true b c =
      the_ask words (Name ∷ Name ∷ Argument Page ∷ Level ∷ []) _ refl
      (λ none. two_none (λ page level. lines.Query (queries.Word Host page level)) (number_at words 2)
      (level_word_at words 3) none)
  word_ask false true c =
      the_ask words (Name ∷ Name ∷ Argument Page ∷ Level ∷ []) _ refl
      (λ none. two_none (λ page level. lines.Query (queries.Word Hyp page level)) (number_at words 2)
      (level_word_at words 3) none)
  word_ask false false true =
      the_ask words (Name ∷ Name ∷ Slot ∷ Argument Page ∷ Level ∷ []) _ refl
      (λ none. path_none (λ tree page level. lines.Query (queries.Word tree page level)) (slot_word_at words 2)
      (number_at words 3) (level_word_at words 4) none)
  word_ask false false false = no_ask words []

  word_asks : (second : Option (List ℕ))
      → IsAsk words
      (tree_forms (Name ∷ Name ∷ Argument Page ∷ Level ∷ []) (Name ∷ Name ∷ Slot ∷ Argument Page ∷ Level ∷ [])
      (unwrap_or second []))
      (option_map (of_tree words) (option_and_then (named (tree_names words)) second))
  word_asks None = λ a e. absurd cc
  word_asks (Some name) =
      word_ask (bytes_eq name (codes "host")) (bytes_eq name (codes "hyp")) (bytes_eq name (codes "guest"))

  -- `poke`
  poke_none : (f : TreeName → ℕ → ℕ → ℕ → Line) (s p l w : Option ℕ)
      → option_and_then
      (λ tree. option_and_then (λ page. option_and_then (λ level. option_map (f tree page level) w) l) p)
      (option_map Guest s)
      ≡ None
      → (is_some s && (is_some (option_map (λ n. record blank { page = n }) p) && (is_some l && (is_some w && true))))
      ≡ false
  poke_none f None p l w h = refl
  poke_none f (Some s) None l w h = refl
  poke_none f (Some s) (Some p) None w h = refl
  poke_none f (Some s) (Some p) (Some l) None h = refl
  poke_none f (Some s) (Some p) (Some l) (Some w) h = absurd cc

  abbrev poked : TreeName → ℕ → ℕ → ℕ → Line
  poked tree page level word = lines.Poke (record { tree = tree; page = page; level = level; word = word })

  poke_ask : (a b c : Bool) → IsAsk words
      (unwrap_or
      (if a then Some (Name ∷ Name ∷ Argument Page ∷ Level ∷ Word ∷ [])
      else (if b then Some (Name ∷ Name ∷ Argument Page ∷ Level ∷ Word ∷ [])
      else (if c then Some (Name ∷ Name ∷ Slot ∷ Argument Page ∷ Level ∷ Word ∷ []) else None)))
      [])
      (option_map (of_poke words)
      (if a then Some (record { words = 1; tree = Some Host })
      else (if b then Some (record { words = 1; tree = Some Hyp })
      else (if c then Some (record { words = 2; tree = option_map Guest (slot_word_at words 2) }) else None))))
  poke_ask true b c =
      the_ask words (Name ∷ Name ∷ Argument Page ∷ Level ∷ Word ∷ []) _ refl
      (λ none. three_none (poked Host) (number_at words 2) (level_word_at words 3) (number_at words 4) none)
  poke_ask false true c =
      the_ask words (Name ∷ Name ∷ Argument Page ∷ Level ∷ Word ∷ []) _ refl
      (λ none. three_none (poked Hyp) (number_at words 2) (level_word_at words 3) (number_at words 4) none)
  poke_ask false false true =
      the_ask words (Name ∷ Name ∷ Slot ∷ Argument Page ∷ Level ∷ Word ∷ []) _ refl
      (λ none. poke_none poked (slot_word_at words 2) (number_at words 3) (level_word_at words 4)
      (number_at words 5) none)
  poke_ask false false false = no_ask words []

  poke_asks : (second : Option (List ℕ))
      → IsAsk words
      (tree_forms (Name ∷ Name ∷ Argument Page ∷ Level ∷ Word ∷ [])
      (Name ∷ Name ∷ Slot ∷ Argument Page ∷ Level ∷ Word ∷ []) (unwrap_or second []))
      (option_map (of_poke words) (option_and_then (named (tree_names words)) second))
  poke_asks None = λ a e. absurd cc
  poke_asks (Some name) =
      poke_ask (bytes_eq name (codes "host")) (bytes_eq name (codes "hyp")) (bytes_eq name (codes "guest"))

  -- a step line, by its call
  row_ask : (call : CallName) (first : List ℕ) → slice_get words 0 ≡ Some first
      → IsAsk words (Cpu ∷ Name ∷ map Argument (row call).forms)
      (Some
      (of_call words
      (record {
        words = 2 + words_from (row call).forms words 2;
        step = option_map (step_by call) (arguments_from (row call).forms words 2 blank);
      })))
  row_ask call first is a e count none =
      let same : of_call words (record { words = 2 + words_from forms_of words 2; step = step }) ≡ a = cc in
      by_cpu (number_at words 0) refl (count ∙ ap (λ x. x.words) (sym same)) (ap (λ x. x.line) same ∙ none)
    where
      forms_of : List ArgumentForm
      forms_of = (row call).forms

      step : Option Step
      step = option_map (step_by call) (arguments_from forms_of words 2 blank)

      some_words : (words : List (List ℕ)) (first : List ℕ) → slice_get words 0 ≡ Some first → 0 < length words
      some_words [] first is = absurd (let c : None ≡ Some first = is in cc)
      some_words (x ∷ xs) first is = omega arith

      by_step : (read : Option Arguments) (cpu : ℕ)
          → option_and_then (λ c. option_map (lines.Step c) (option_map (step_by call) read)) (Some cpu) ≡ None
          → read ≡ None
      by_step None cpu h = refl
      by_step (Some arguments) cpu h = absurd cc

      by_cpu : (cpu : Option ℕ)
          → number_at words 0 ≡ cpu
          → length words ≡ 2 + words_from forms_of words 2
          → option_and_then (λ c. option_map (lines.Step c) step) (number_at words 0) ≡ None
          → IsWrongFrom words (Cpu ∷ Name ∷ map Argument forms_of) 0
      by_cpu None c count h = here words Cpu (Name ∷ map Argument forms_of) 0 (ap is_some c) (some_words words first is)
      by_cpu (Some cpu) c count h =
          further words Cpu (Name ∷ map Argument forms_of) 0 (ap is_some c)
          (further words Name (map Argument forms_of) 1 refl
          (step_wrong words forms_of 2 blank count
          (by_step (arguments_from forms_of words 2 blank) cpu
          (sym (ap (option_and_then (λ c. option_map (lines.Step c) step)) c) ∙ h))))

  call_ask : (first : List ℕ) → slice_get words 0 ≡ Some first → (call : Option CallName)
      → IsAsk words (elim call [ Some c ↦ Cpu ∷ Name ∷ map Argument (row c).forms | None ↦ [] ])
      (option_map (of_call words)
      (option_map
      (λ c. record {
        words = 2 + words_from (row c).forms words 2;
        step = option_map (step_by c) (arguments_from (row c).forms words 2 blank);
      }) call))
  call_ask first is None = no_ask words []
  call_ask first is (Some call) = row_ask call first is

  step_asks : (first : List ℕ)
      → slice_get words 0 ≡ Some first
      → (second : Option (List ℕ))
      → IsAsk words (call_forms (unwrap_or second []))
      (option_map (of_call words) (option_and_then (called words) second))
  unfolding called
  step_asks first is None = λ a e. absurd cc
  step_asks first is (Some name) = call_ask first is (call_named name)

  -- any line, by its first words
  first_ask : (first : List ℕ)
      → slice_get words 0 ≡ Some first
      → (second : Option (List ℕ)) (digit word free show poke : Bool)
      → IsAsk words
      (if digit then call_forms (unwrap_or second [])
      else (if word
      then tree_forms (Name ∷ Name ∷ Argument Page ∷ Level ∷ []) (Name ∷ Name ∷ Slot ∷ Argument Page ∷ Level ∷ [])
      (unwrap_or second [])
      else (if free then pool_forms (unwrap_or second [])
      else (if show then tree_forms (Name ∷ Name ∷ []) (Name ∷ Name ∷ Slot ∷ []) (unwrap_or second [])
      else (if poke
      then tree_forms (Name ∷ Name ∷ Argument Page ∷ Level ∷ Word ∷ [])
      (Name ∷ Name ∷ Slot ∷ Argument Page ∷ Level ∷ Word ∷ []) (unwrap_or second [])
      else header_forms first)))))
      (if digit then option_map (of_call words) (option_and_then (called words) second)
      else (if word then option_map (of_tree words) (option_and_then (named (tree_names words)) second)
      else (if free then option_and_then (named (pools words)) second
      else (if show then option_map of_show (option_and_then (named (tree_names words)) second)
      else (if poke then option_map (of_poke words) (option_and_then (named (tree_names words)) second)
      else named (headers words) first)))))
  first_ask first is second true word free show poke = step_asks first is second
  first_ask first is second false true free show poke = word_asks second
  first_ask first is second false false true show poke = pool_asks second
  first_ask first is second false false false true poke = show_asks second
  first_ask first is second false false false false true = poke_asks second
  first_ask first is second false false false false false =
      header_ask first (bytes_eq first (codes "geometry")) (bytes_eq first (codes "cpus"))
      (bytes_eq first (codes "log")) (bytes_eq first (codes "memory"))
      (bytes_eq first (codes "device")) (bytes_eq first (codes "carve")) (bytes_eq first (codes "boot"))
      (bytes_eq first (codes "start"))

  by_first : (first : Option (List ℕ)) → slice_get words 0 ≡ first
      → IsAsk words (elim first [ Some word ↦ forms_from word (unwrap_or (slice_get words 1) []) | None ↦ [] ])
      (option_and_then (λ word. asked_from words word (slice_get words 1)) first)
  by_first None is = no_ask words []
  by_first (Some first) is =
      first_ask first is (slice_get words 1) (begins_with_digit first) (bytes_eq first (codes "word"))
      (bytes_eq first (codes "free")) (bytes_eq first (codes "show")) (bytes_eq first (codes "poke"))

  all_asks : IsAsk words (forms words) (asked words)
  unfolding asked forms
  all_asks = by_first (slice_get words 0) refl

pub form_found : FormIsFound
form_found allows told line h =
    let a = asks_for allows told line h in
    let w = all_asks (words_of line) a.for a.asks a.count a.none in
    let at : first_wrong (words_of line) (forms (words_of line)) 0 ≡ w.offset = w.at ∙ omega arith in
    let zero : 0 + w.offset ≡ w.offset = omega arith in
    record {
      form = w.form;
      asked = ap (slice_get (forms (words_of line))) at ∙ w.asked;
      other = ap (λ n. is_of (words_of line) n w.form) (at ∙ sym zero) ∙ w.other;
      there = let t = w.there in omega (arith, at, t);
    }
