-- Expansions, one name after another.
use Rattle.std.proofs.Common.{◌≡◌, refl, ◌∙◌, sym, subst, cond, ℕ, ◌+◌, ◌++◌, Bool, true, false, ◌&&◌, List, [], ◌∷◌, drop, is_some, Option, None, Some, Result, Ok, Err}
use Rattle.std.specs.Prelude.{IfOk, MatchOption, if◌then◌else◌, option_and_then}
use Rattle.trace_cases.specs.Cases.{IsCaseChecked}
use Rattle.trace_check.specs.declared.checking.Checked.{Checked}
use Rattle.trace_check.specs.Expectations.{expectation}
use Rattle.trace_faults.specs.Spots.{Told}
use Rattle.trace_reader.specs.Reading.{lines_of}
use Rattle.trace_values.specs.declared.expanding.Next.{Next}
use Rattle.trace_values.specs.declared.expanding.Next.TheVariants as nexts
use Rattle.trace_values.specs.Checked.{ChecksExpanded, IsValueChecked}
use Rattle.trace_values.specs.Expansions.{Expands, HasValues, IsExpansion, IsPut, Says, SaysFirst, twice_at}
use Rattle.trace_values.specs.Laws.{IsPlain}
use Rattle.trace_values.specs.Names.{Name, dollar_in, first_from, first_name, first_word, is_seen, name_at, name_of, reserves_next, twice, twice_from}
use Rattle.trace_values.specs.Steps.{IsNext, PutsFirst}

pub mapped : {T E : Type 0} (r : Result T E) (P Q : T → Type 0) → ((x : T) → P x → Q x) → IfOk r P → IfOk r Q
mapped (Ok x) P Q f h = f x h
mapped (Err e) P Q f h = tt

no_name : {X : Type 0} {x : X} → None ≡ Some x → ⊥
no_name e = let bad = e in cc

other_told : {X Y : Type 0} {r : Result X Y} (x : X) (y : Y) → r ≡ Ok x → r ≡ Err y → ⊥
other_told x y is e = let bad = sym is ∙ e in cc

given : {X : Type 0} (o : Option X) (P : Type 0) (F : X → Type 0) → o ≡ None → MatchOption o P F → P
given None P F e m = m
given (Some x) P F e m = absurd (no_name (sym e))

pub gives : {X : Type 0} (o : Option X) (P : Type 0) (F : X → Type 0) → o ≡ None → P → MatchOption o P F
gives None P F e p = p
gives (Some x) P F e p = absurd (no_name (sym e))

pub gives_some : {X : Type 0} (o : Option X) (P : Type 0) (F : X → Type 0) (x : X)
    → o ≡ Some x
    → F x
    → MatchOption o P F
gives_some o P F x e h = subst (λ p. MatchOption p P F) (sym e) h

unreserved : (b : Bool) (o : Option ℕ) → o ≡ None → cond b o None ≡ None
unreserved true o e = e
unreserved false o e = refl

-- the first name of a line and of those after it, by the place of the line's own
abbrev first_by : List ℕ → List (List ℕ) → ℕ → Option ℕ → Option Name
first_by line rest other None = first_from (other + 1) rest
first_by line rest other (Some offset) = Some (name_at other line offset)

-- the name of two reservations of a line and of those after it, by the place of the line's own
abbrev seen_by : List (List ℕ) → List ℕ → Option ℕ → List (List ℕ)
seen_by seen line None = seen
seen_by seen line (Some offset) = seen ++ first_word (drop offset line) ∷ []

abbrev found_by : List (List ℕ) → Bool → ℕ → List ℕ → List (List ℕ) → List (List ℕ) → Option ℕ → Option Name
found_by seen reserved number line rest next None = twice_from next (reserves_next reserved line) (number + 1) rest
found_by seen reserved number line rest next (Some offset) = Some (name_at number line offset)

abbrev next_by : List (List ℕ) → Bool → ℕ → List ℕ → List (List ℕ) → Option ℕ → Option Name
next_by seen reserved number line rest o =
    found_by seen reserved number line rest (seen_by seen line o)
    (option_and_then (λ offset. if is_seen seen (first_word (drop offset line)) then Some offset else None) o)

one_line : (line : List ℕ) (rest : List (List ℕ)) (seen : List (List ℕ)) (reserved : Bool) (number other : ℕ)
    (o : Option ℕ)
    → dollar_in line ≡ o
    → first_by line rest other o ≡ None
    → (first_from (other + 1) rest ≡ None → twice_from seen (reserves_next reserved line) (number + 1) rest ≡ None)
    → twice_from seen reserved number (line ∷ rest) ≡ None
one_line line rest seen reserved number other (Some offset) e h more = absurd (no_name (sym h))
one_line line rest seen reserved number other None e h more =
    subst (λ o. next_by seen reserved number line rest o ≡ None)
    (sym (unreserved (reserved && is_some (expectation line)) (dollar_in line) e)) (more h)

no_twice : (lines : List (List ℕ)) (seen : List (List ℕ)) (reserved : Bool) (number other : ℕ)
    → first_from other lines ≡ None → twice_from seen reserved number lines ≡ None
no_twice [] seen reserved number other none = refl
no_twice (line ∷ rest) seen reserved number other none =
    one_line line rest seen reserved number other (dollar_in line) refl none
    (no_twice rest seen (reserves_next reserved line) (number + 1) (other + 1))

module _ (A : Type 0) where
  -- what a text expands to, the trace does
  abbrev pub Leads : List ℕ → List ℕ → Type 0
  Leads trace text = (told : Result (List ℕ) Told) → HasValues A text told → HasValues A trace told

  pub leads_on : (trace text value new : List ℕ) → Leads trace text → IsPut A text value new → Leads trace new
  leads_on trace text value new leads put told e =
      leads told (record { values = value ∷ e.values; expands = (new, put, e.expands) })

  pub expands_plain : (text : List ℕ) → first_name (lines_of text) ≡ None → HasValues A text (Ok text)
  expands_plain text none = record { values = []; expands = (none, refl) }

  pub expands_fault : (text : List ℕ) (fault : Told) → SaysFirst A text (Err fault) → HasValues A text (Err fault)
  expands_fault text fault says = record { values = []; expands = says }

  pub next_is : (text value : List ℕ) (n : Name) (next : Next) → first_name (lines_of text) ≡ Some n
      → Says A (lines_of text) n (Ok value) → PutsFirst text (name_of n) value next → IsNext A text next
  next_is text value n nexts.Plain first says p = absurd p
  next_is text value n (nexts.Text new) first says p =
      (value, record { name = n; first = first; says = says; new_is = p })
  next_is text value n (nexts.Fault spot) first says p = absurd p

  none_left : (values : List (List ℕ)) (trace text : List ℕ) → Expands A values trace (Ok text)
      → first_name (lines_of text) ≡ None
  none_left [] trace text (none, is) = subst (λ t. first_name (lines_of t) ≡ None) (sym is) none
  none_left (value ∷ values) trace text (new, put, more) = none_left values new text more

  plain_by : (trace text : List ℕ) (o : Option Name)
      → MatchOption o (HasValues A trace (Ok text)) (λ n. Ok text ≡ Err (twice_at n)) → IsPlain A text
  plain_by trace text None h =
      let none = none_left h.values trace text h.expands in
      record {
        none = none;
        own = gives (twice (lines_of text)) _ _ (no_twice (lines_of text) [] false 1 1 none) (expands_plain text none);
      }
  plain_by trace text (Some n) h = absurd (other_told text (twice_at n) refl h)

  pub plain : (trace text : List ℕ) → IsExpansion A trace (Ok text) → IsPlain A text
  plain trace text e = plain_by trace text (twice (lines_of trace)) e

  told_plain : (name trace : List ℕ) (checked : Checked) (values : List (List ℕ)) (told : Result (List ℕ) Told)
      → first_name (lines_of trace) ≡ None → Expands A values trace told
      → ChecksExpanded A name trace told checked → IsCaseChecked A name trace checked
  told_plain name trace checked [] (Ok text) none (is_none, is) checks =
      subst (λ t. IsCaseChecked A name t checked) is checks
  told_plain name trace checked [] (Err fault) none says checks = absurd (no_name (sym none ∙ says.first))
  told_plain name trace checked (value ∷ values) told none (new, put, more) checks =
      absurd (no_name (sym none ∙ put.first))

  pub plain_checked : (name trace : List ℕ) (checked : Checked) → first_name (lines_of trace) ≡ None
      → IsValueChecked A name trace checked → IsCaseChecked A name trace checked
  plain_checked name trace checked none v =
      let h = given (twice (lines_of trace)) _ _ (no_twice (lines_of trace) [] false 1 1 none) v.expansion in
      told_plain name trace checked h.values v.told none h.expands v.checks
