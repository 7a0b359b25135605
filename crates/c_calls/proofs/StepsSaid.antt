-- A step in numbers says that step.
use Rattle.std.proofs.Common.{◌≡◌, ℕ, ◌+◌, ◌≤◌, nat_le, Bool, true, false, cond, ◌&&◌, Some, List, [], ◌∷◌, refl, arith, sym, ap, ◌∙◌, subst}
use Rattle.std.specs.Prelude.{find, option_and_then}
use Rattle.std.specs.List.{list_all}
use Rattle.std.specs.Str.{bytes_eq}
use Rattle.std.proofs.lemmas.Bool.Decides.{nat_tests}
use Rattle.descriptor.specs.declared.Prot.{Prot}
use Rattle.descriptor.specs.declared.Prot.TheVariants.{R, RW, RX, RWX}
use Rattle.call_table.specs.declared.argument.Arguments.{Arguments}
use Rattle.call_table.specs.declared.argument.Form.{Form}
use Rattle.call_table.specs.declared.argument.Form.TheVariants.{Vm, Kind, Rights}
use Rattle.call_table.specs.declared.row.CallName.{CallName}
use Rattle.call_table.specs.declared.step.Step.{Step}
use Rattle.call_table.specs.declared.step.VmKind.{VmKind}
use Rattle.call_table.specs.declared.step.VmKind.TheVariants.{Plain, Protected}
use Rattle.call_table.specs.Made.{step_by}
use Rattle.call_table.specs.Named.{blank, kept, named_by, taken}
use Rattle.call_table.specs.Rows.{calls, named, numbered, row}
use Rattle.call_table.proofs.CallsNamed.{calls_named, rows_differ}
use Rattle.call_table.proofs.StepsMade.{steps_made}
use Rattle.c_words.specs.declared.step.PlainStep.{PlainStep}
use Rattle.c_words.specs.Numbers.{rights_from_c, rights_written, vm_kind_from_c}
use Rattle.c_words.specs.Steps.{argument_from_c, arguments_from_c, numbers_behind, step_from_c}
use Rattle.c_calls.specs.Steps.{all_in_front, bare, in_front, step_written, vm_kind_written}

rights_says : (prot : Prot) → rights_from_c (rights_written prot) ≡ Some prot
rights_says R = refl
rights_says RX = refl
rights_says RW = refl
rights_says RWX = refl

kind_says : (kind : VmKind) → vm_kind_from_c (vm_kind_written kind) ≡ Some kind
kind_says Plain = refl
kind_says Protected = refl

-- how many numbers arguments of these forms have
abbrev weight : List Form → ℕ
weight [] = 0
weight (Vm ∷ more) = 2 + weight more
weight (form ∷ more) = 1 + weight more

abbrev written : List Form → Arguments → ℕ → PlainStep
written forms a call = all_in_front forms a (bare call)

-- where there are few, the last numbers are 0
some : (form : Form) (more : List Form) → 1 ≤ weight (form ∷ more)
some Vm more = omega arith
some form more = omega arith

zero_first : (fs : List Form) (a : Arguments) (c : ℕ) → weight fs ≤ 0 → (written fs a c).first ≡ 0
zero_first [] a c h = refl
zero_first (form ∷ more) a c h = absurd (omega (arith, h, some form more))

zero_second : (fs : List Form) (a : Arguments) (c : ℕ) → weight fs ≤ 1 → (written fs a c).second ≡ 0
zero_second [] a c h = refl
zero_second (Vm ∷ more) a c h = absurd (omega (arith, h))
zero_second (form ∷ more) a c h = zero_first more a c (omega (arith, h))

zero_third : (fs : List Form) (a : Arguments) (c : ℕ) → weight fs ≤ 2 → (written fs a c).third ≡ 0
zero_third [] a c h = refl
zero_third (Vm ∷ more) a c h = zero_first more a c (omega (arith, h))
zero_third (form ∷ more) a c h = zero_second more a c (omega (arith, h))

zero_fourth : (fs : List Form) (a : Arguments) (c : ℕ) → weight fs ≤ 3 → (written fs a c).fourth ≡ 0
zero_fourth [] a c h = refl
zero_fourth (Vm ∷ more) a c h = zero_second more a c (omega (arith, h))
zero_fourth (form ∷ more) a c h = zero_third more a c (omega (arith, h))

refill : (s : PlainStep) (m n : ℕ) → m ≡ s.third → n ≡ s.fourth → record s { third = m; fourth = n } ≡ s
refill s m n e f = rw (e, f) refl

-- what is behind an argument is what it was put before
behind : (form : Form) (more : List Form) (a : Arguments) (c : ℕ)
    → weight (form ∷ more) ≤ 4
    → numbers_behind form (in_front form a (written more a c)) ≡ written more a c
behind Vm more a c h =
    refill (written more a c) 0 0 (sym (zero_third more a c (omega (arith, h))))
    (sym (zero_fourth more a c (omega (arith, h))))
behind form more a c h =
    refill (written more a c) (written more a c).third 0 refl (sym (zero_fourth more a c (omega (arith, h))))

-- the argument is said
argument_back : (form : Form) (a to : Arguments) (s : PlainStep)
    → argument_from_c form (in_front form a s) to ≡ Some (taken form a to)
argument_back Kind a to s = rw (kind_says a.kind) refl
argument_back Rights a to s = rw (rights_says a.rights) refl
argument_back form a to s = refl

less : (form : Form) (more : List Form) → weight (form ∷ more) ≤ 4 → weight more ≤ 4
less Vm more h = omega (arith, h)
less form more h = omega (arith, h)

arguments_back : (fs : List Form) (a to : Arguments) (c : ℕ)
    → weight fs ≤ 4
    → arguments_from_c fs (written fs a c) to ≡ Some (kept fs a to)
arguments_back [] a to c h = refl
arguments_back (form ∷ more) a to c h =
    ap (option_and_then (arguments_from_c more (numbers_behind form (written (form ∷ more) a c))))
    (argument_back form a to (written more a c))
    ∙ ap (λ s. arguments_from_c more s (taken form a to)) (behind form more a c h)
    ∙ arguments_back more a (taken form a to) c (less form more h)

call_kept : (fs : List Form) (a : Arguments) (c : ℕ) → (written fs a c).call ≡ c
call_kept [] a c = refl
call_kept (Vm ∷ more) a c = call_kept more a c
call_kept (form ∷ more) a c = call_kept more a c

-- each call has four numbers at most
and_left : (a b : Bool) → (a && b) ≡ true → a ≡ true
and_left true b e = refl
and_left false b e = e

and_right : (a b : Bool) → (a && b) ≡ true → b ≡ true
and_right true b e = e
and_right false b e = absurd (cc)

found_passes : {X : Type 0} (p q : X → Bool) (xs : List X) (x : X)
    → find p xs ≡ Some x
    → list_all q xs ≡ true
    → q x ≡ true
found_passes p q [] x e h = absurd (cc)
found_passes p q (y ∷ ys) x e h =
    (elim (p y) as (λ b. cond b (Some y) (find p ys) ≡ Some x → q x ≡ true) [
      | true ↦ λ s. let same : y ≡ x = cc in subst (λ z. q z ≡ true) same (and_left (q y) (list_all q ys) h)
      | false ↦ λ s. found_passes p q ys x s (and_right (q y) (list_all q ys) h)
    ]) e

most : (n : ℕ) → nat_le n 4 ≡ true → n ≤ 4
most n e = grind (arith, nat_tests)

four : (call : CallName) → weight (row call).forms ≤ 4
unfolding named
four call =
    most (weight (row call).forms)
    (found_passes (λ c. bytes_eq (row call).word (row c).word) (λ c. nat_le (weight (row c).forms) 4) calls call
    (rows_differ call).0 refl)

-- the arguments that are kept make the step
kept_makes : (step : Step)
    → step_by (named_by step).call (kept (row (named_by step).call).forms (named_by step).arguments blank) ≡ step
kept_makes step =
    let n = named_by step in
    let made : step_by n.call n.arguments ≡ step = steps_made step in
    let same : n.arguments ≡ kept (row n.call).forms n.arguments blank =
    ap (λ s. (named_by s).arguments) (sym made) ∙ ap (λ m. m.arguments) (calls_named n.call n.arguments) in
    ap (step_by n.call) (sym same) ∙ made

said_by : (s : PlainStep) (call : CallName) (given : Arguments) (step : Step)
    → numbered s.call ≡ Some call
    → arguments_from_c (row call).forms s blank ≡ Some given
    → step_by call given ≡ step
    → step_from_c s ≡ Some step
unfolding step_from_c
said_by s call given step e f g = rw (e, f, g) refl

pub steps_said : (step : Step) → step_from_c (step_written step) ≡ Some step
steps_said step =
    let n = named_by step in
    let forms = (row n.call).forms in
    let number = (row n.call).number in
    said_by (step_written step) n.call (kept forms n.arguments blank) step
    (ap numbered (call_kept forms n.arguments number) ∙ (rows_differ n.call).1)
    (arguments_back forms n.arguments blank number (four n.call)) (kept_makes step)
