-- The line of each step says that step.
use Rattle.std.proofs.Common.{◌≡◌, ℕ, suc, ◌+◌, ◌<◌, ◌≤◌, ◌&&◌, nat_lt, nat_le, Bool, true, false, cond, List, [], ◌∷◌, ◌++◌, length, refl, arith, sym, ap, ◌∙◌, subst, Option, Some, None}
use Rattle.std.specs.Prelude.{codes, find, option_and_then, option_map, slice_get}
use Rattle.std.specs.Fmt.{decimal}
use Rattle.std.specs.List.{list_all}
use Rattle.std.specs.Str.{bytes_eq}
use Rattle.std.proofs.lemmas.Bool.Decides.{nat_tests}
use Rattle.std.proofs.lemmas.List.{append-nil, append_assoc}
use Rattle.call_table.specs.declared.argument.Arguments.{Arguments}
use Rattle.call_table.specs.declared.argument.Form.{Form}
use Rattle.call_table.specs.declared.argument.Form.TheVariants.{Frame, Page, Count, LastCount, Vcpus, Vcpu, Vm, Kind, Rights}
use Rattle.call_table.specs.declared.row.CallName.{CallName}
use Rattle.call_table.specs.declared.step.Step.{Step}
use Rattle.call_table.specs.Made.{step_by}
use Rattle.call_table.specs.Named.{blank, kept, named_by, taken}
use Rattle.call_table.specs.Rows.{calls, named, row}
use Rattle.call_table.specs.Words.{rights_named, vm_kind_named}
use Rattle.call_table.proofs.CallsNamed.{calls_named, rows_differ}
use Rattle.call_table.proofs.StepsMade.{steps_made}
use Rattle.trace_lines.specs.Arguments.{vm_of}
use Rattle.trace_lines.specs.Asked.{asked, begins_with_digit}
use Rattle.trace_lines.specs.Calls.{argument_at, arguments_from, called, words_from, words_of}
use Rattle.trace_lines.specs.declared.line.Line.TheVariants as lines
use Rattle.trace_lines.specs.declared.place.Verb.TheVariants as verbs
use Rattle.trace_lines.specs.Places.{of_replay}
use Rattle.trace_lines.specs.Said.{said}
use Rattle.trace_words.specs.Numbers.{number_of}
use Rattle.trace_generate.specs.declared.line.StepLine.{StepLine}
use Rattle.trace_generate.specs.Lines.{text_of_argument, text_of_arguments, text_of_call, text_of_line}
use Rattle.trace_generate.specs.Reading.{FitForms, FitsForm, IsIn64Bits, LinesAreRead, LinesAreShort}
use Rattle.trace_generate.proofs.Words.{IsWord, and_left, and_right, begins-decimal, is_plain, number_of-decimal, number_of-page, named-kind, named-rights, vm_of-vm, word_of-decimal, word_of-kind, word_of-page, word_of-rights, word_of-vm}
use Rattle.trace_generate.proofs.Spaces.{AreWords, spaced, said-spaced, said-step, length-spaced}

-- the words of arguments of these forms
abbrev argument_words : List Form → Arguments → List (List ℕ)
argument_words [] a = []
argument_words (form ∷ more) a = text_of_argument form a ∷ argument_words more a

spaced_arguments : (w : List ℕ) (forms : List Form) (a : Arguments)
    → w ++ text_of_arguments forms a ≡ spaced w (argument_words forms a)
spaced_arguments w [] a = append-nil w
spaced_arguments w (form ∷ more) a = ap (λ t. w ++ (32 ∷ t)) (spaced_arguments (text_of_argument form a) more a)

word_of-argument : (form : Form) (a : Arguments) → FitsForm form a → IsWord (text_of_argument form a)
word_of-argument Frame a h = word_of-page a.frame h
word_of-argument Page a h = word_of-page a.page h
word_of-argument Count a h = word_of-decimal a.count h
word_of-argument LastCount a h = word_of-decimal a.count h
word_of-argument Vcpus a h = word_of-decimal a.vcpus h
word_of-argument Vcpu a h = word_of-decimal a.vcpu h
word_of-argument Vm a h = word_of-vm a.vm h
word_of-argument Kind a h = word_of-kind a.kind
word_of-argument Rights a h = word_of-rights a.rights

are_words : (forms : List Form) (a : Arguments) → FitForms forms a → AreWords (argument_words forms a)
are_words [] a h = tt
are_words (form ∷ more) a h = (word_of-argument form a h.0, are_words more a h.1)

as_many : (forms : List Form) (a : Arguments) → length (argument_words forms a) ≡ length forms
as_many [] a = refl
as_many (form ∷ more) a = ap suc (as_many more a)

-- the name of each call is a word
abbrev is_word : List ℕ → Bool
is_word w = nat_lt 0 (length w) && (nat_le (length w) 41 && list_all is_plain w)

of_test : (w : List ℕ) → is_word w ≡ true → IsWord w
of_test w e =
    let more = and_right (nat_lt 0 (length w)) (nat_le (length w) 41 && list_all is_plain w) e in
    record {
      some = less (length w) (and_left (nat_lt 0 (length w)) (nat_le (length w) 41 && list_all is_plain w) e);
      short = most (length w) (and_left (nat_le (length w) 41) (list_all is_plain w) more);
      plain = and_right (nat_le (length w) 41) (list_all is_plain w) more;
    }
  where
    less : (n : ℕ) → nat_lt 0 n ≡ true → 0 < n
    less n e = grind (arith, nat_tests)

    most : (n : ℕ) → nat_le n 41 ≡ true → n ≤ 41
    most n e = grind (arith, nat_tests)

found_passes : {X : Type 0} (p q : X → Bool) (xs : List X) (x : X)
    → find p xs ≡ Some x
    → list_all q xs ≡ true
    → q x ≡ true
found_passes p q [] x e h = absurd (cc)
found_passes p q (y ∷ ys) x e h =
    (elim (p y) as (λ b. cond b (Some y) (find p ys) ≡ Some x → q x ≡ true) [
      | true ↦ λ s. let same : y ≡ x = cc in subst (λ z. q z ≡ true) same (and_left (q y) (list_all q ys) h)
      | false ↦ λ s. found_passes p q ys x s (and_right (q y) (list_all q ys) h)
    ]) e

word_of-call : (call : CallName) → IsWord (row call).word
unfolding named
word_of-call call =
    of_test (row call).word
    (found_passes (λ c. bytes_eq (row call).word (row c).word) (λ c. is_word (row c).word) calls call
    (rows_differ call).0 refl)

-- from a place on stand these words
abbrev AreAt : List (List ℕ) → ℕ → List (List ℕ) → Type 0
AreAt words place [] = Unit {0}
AreAt words place (w ∷ ws) = (slice_get words place ≡ Some w) × AreAt words (place + 1) ws

behind_name : (a n : List ℕ) (ws : List (List ℕ)) → length ws ≤ 4 → AreAt (a ∷ n ∷ ws) 2 ws
behind_name a n [] h = tt
behind_name a n (w ∷ []) h = (refl, tt)
behind_name a n (w ∷ x ∷ []) h = (refl, (refl, tt))
behind_name a n (w ∷ x ∷ y ∷ []) h = (refl, (refl, (refl, tt)))
behind_name a n (w ∷ x ∷ y ∷ z ∷ []) h = (refl, (refl, (refl, (refl, tt))))
behind_name a n (w ∷ x ∷ y ∷ z ∷ v ∷ more) h = absurd (omega (arith, h))

mapped : {X Y : Type 0} {o : Option X} {x : X} (f : X → Y) → o ≡ Some x → option_map f o ≡ Some (f x)
mapped f e = ap (option_map f) e

chained : {X Y : Type 0} {x : X} {y : Y} (f : X → Option Y) (o : Option X)
    → o ≡ Some x
    → f x ≡ Some y
    → option_and_then f o ≡ Some y
chained f o e h = ap (option_and_then f) e ∙ h

counted : {w : List ℕ} {n : ℕ} (o : Option (List ℕ))
    → o ≡ Some w
    → number_of w ≡ Some n
    → elim o [ None ↦ Some 1 | Some word ↦ number_of word ] ≡ Some n
counted o e h = ap (λ p. elim p [ None ↦ Some 1 | Some word ↦ number_of word ]) e ∙ h

-- an argument is read as what it was written for, and so are those of these forms
read_one : (form : Form) (a to : Arguments) (words : List (List ℕ)) (place : ℕ)
    → slice_get words place ≡ Some (text_of_argument form a)
    → FitsForm form a
    → argument_at form words place to ≡ Some (taken form a to)
read_one Frame a to words place e h =
    mapped (λ n. record to { frame = n }) (chained number_of (slice_get words place) e (number_of-page a.frame h))
read_one Page a to words place e h =
    mapped (λ n. record to { page = n }) (chained number_of (slice_get words place) e (number_of-page a.page h))
read_one Count a to words place e h =
    mapped (λ n. record to { count = n }) (chained number_of (slice_get words place) e (number_of-decimal a.count h))
read_one LastCount a to words place e h =
    mapped (λ n. record to { count = n }) (counted (slice_get words place) e (number_of-decimal a.count h))
read_one Vcpus a to words place e h =
    mapped (λ n. record to { vcpus = n }) (chained number_of (slice_get words place) e (number_of-decimal a.vcpus h))
read_one Vcpu a to words place e h =
    mapped (λ n. record to { vcpu = n }) (chained number_of (slice_get words place) e (number_of-decimal a.vcpu h))
read_one Vm a to words place e h =
    mapped (λ v. record to { vm = v }) (chained vm_of (slice_get words place) e (vm_of-vm a.vm h))
read_one Kind a to words place e h =
    mapped (λ k. record to { kind = k }) (chained vm_kind_named (slice_get words place) e (named-kind a.kind))
read_one Rights a to words place e h =
    mapped (λ r. record to { rights = r }) (chained rights_named (slice_get words place) e (named-rights a.rights))

read_all : (forms : List Form) (a to : Arguments) (words : List (List ℕ)) (place : ℕ)
    → AreAt words place (argument_words forms a)
    → FitForms forms a
    → arguments_from forms words place to ≡ Some (kept forms a to)
read_all [] a to words place e h = refl
read_all (form ∷ more) a to words place e h =
    ap (option_and_then (arguments_from more words (place + 1))) (read_one form a to words place e.0 h.0)
    ∙ read_all more a (taken form a to) words (place + 1) e.1 h.1

-- each counts as one word
count_one : (form : Form) (words : List (List ℕ)) (place : ℕ) (w : List ℕ)
    → slice_get words place ≡ Some w
    → words_of form words place ≡ 1
count_one Frame words place w e = refl
count_one Page words place w e = refl
count_one Count words place w e = refl
count_one LastCount words place w e = rw e refl
count_one Vcpus words place w e = refl
count_one Vcpu words place w e = refl
count_one Vm words place w e = refl
count_one Kind words place w e = refl
count_one Rights words place w e = refl

count_all : (forms : List Form) (a : Arguments) (words : List (List ℕ)) (place : ℕ)
    → AreAt words place (argument_words forms a)
    → words_from forms words place ≡ length (argument_words forms a)
count_all [] a words place e = refl
count_all (form ∷ more) a words place e =
    let one = count_one form words place (text_of_argument form a) e.0 in
    let rest = count_all more a words (place + 1) e.1 in
    omega arith

-- the arguments that are kept make the step
kept_makes : (step : Step)
    → step_by (named_by step).call (kept (row (named_by step).call).forms (named_by step).arguments blank) ≡ step
kept_makes step =
    let n = named_by step in
    let made : step_by n.call n.arguments ≡ step = steps_made step in
    let same : n.arguments ≡ kept (row n.call).forms n.arguments blank =
    ap (λ s. (named_by s).arguments) (sym made) ∙ ap (λ m. m.arguments) (calls_named n.call n.arguments) in
    ap (step_by n.call) (sym same) ∙ made

-- what the words of a step ask for
asked_by : (a w : List ℕ) (ws : List (List ℕ)) (call : CallName) (cpu : ℕ) (given : Arguments) (step : Step)
    → begins_with_digit a ≡ true
    → number_of a ≡ Some cpu
    → named w ≡ Some call
    → words_from (row call).forms (a ∷ w ∷ ws) 2 ≡ length ws
    → arguments_from (row call).forms (a ∷ w ∷ ws) 2 blank ≡ Some given
    → step_by call given ≡ step
    → asked (a ∷ w ∷ ws)
    ≡ Some (record { verb = verbs.Step; words = length (a ∷ w ∷ ws); line = Some (lines.Step cpu step) })
unfolding asked called
asked_by a w ws call cpu given step b e n count read made =
    rw (b, n, e, count, read, made)
    (ap (λ k. Some (record { verb = verbs.Step; words = k; line = Some (lines.Step cpu step) })) (omega arith))

-- the words of a step behind its CPU, as they are read
abbrev step_words : Step → List (List ℕ)
step_words step =
    (row (named_by step).call).word ∷ argument_words (row (named_by step).call).forms (named_by step).arguments

asks : (a : List ℕ) (cpu : ℕ) (step : Step) → begins_with_digit a ≡ true → number_of a ≡ Some cpu → IsIn64Bits step
    → asked (a ∷ step_words step)
    ≡ Some (record { verb = verbs.Step; words = length (a ∷ step_words step); line = Some (lines.Step cpu step) })
asks a cpu step b e h =
    let n = named_by step in
    let forms = (row n.call).forms in
    let word = (row n.call).word in
    let ws = argument_words forms n.arguments in
    let few : length ws ≤ 4 = omega (arith, as_many forms n.arguments, (rows_differ n.call).2) in
    let at = behind_name a word ws few in
    asked_by a word ws n.call cpu (kept forms n.arguments blank) step b e (rows_differ n.call).0
    (count_all forms n.arguments (a ∷ word ∷ ws) 2 at)
    (read_all forms n.arguments blank (a ∷ word ∷ ws) 2 at h) (kept_makes step)

line_spaced : (line : StepLine) → text_of_line line ≡ spaced (decimal line.cpu) (step_words line.step)
unfolding text_of_call
line_spaced line =
    let n = named_by line.step in
    append_assoc (decimal line.cpu) (codes " ") (text_of_call line.step)
    ∙ ap (λ t. decimal line.cpu ++ (32 ∷ t)) (spaced_arguments (row n.call).word (row n.call).forms n.arguments)

words_few : (step : Step) → length (step_words step) ≤ 5
words_few step = let n = named_by step in omega (arith, as_many (row n.call).forms n.arguments, (rows_differ n.call).2)

words_are : (step : Step) → IsIn64Bits step → AreWords (step_words step)
words_are step f = let n = named_by step in (word_of-call n.call, are_words (row n.call).forms n.arguments f)

pub lines_are_read : LinesAreRead
lines_are_read started told line h f =
    ap (said (of_replay started) told) (line_spaced line)
    ∙ said-spaced (of_replay started) told (decimal line.cpu) (step_words line.step) (begins-decimal line.cpu h)
    (word_of-decimal line.cpu h) (words_are line.step f) (words_few line.step)
    ∙ said-step started told (decimal line.cpu ∷ step_words line.step) line.cpu line.step
    (asks (decimal line.cpu) line.cpu line.step (begins-decimal line.cpu h) (number_of-decimal line.cpu h) f)

pub lines_are_short : LinesAreShort
lines_are_short line h f =
    subst (λ t. length t ≤ 256) (sym (line_spaced line))
    (length-spaced (decimal line.cpu) (step_words line.step) (word_of-decimal line.cpu h) (words_are line.step f)
    (words_few line.step))
