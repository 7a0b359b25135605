-- Watches without a miss.
use Rattle.std.proofs.Common.{arith, suc, ◌≡◌, refl, ◌∙◌, sym, subst, ℕ, ◌+◌, ◌++◌, Bool, true, false, ◌&&◌, ◌==◌, List, [], ◌∷◌, length, Option, None, Some, Result, Ok, Err}
use Rattle.std.specs.Prelude.{All, MatchBool, MatchOption, if◌then◌else◌}
use Rattle.std.proofs.lemmas.Bool.Decides.{nat_tests}
use Rattle.std.proofs.lemmas.List.Elements.{All-cons, All-nil}
use Rattle.trace_cases.specs.Cases.{IsCaseChecked}
use Rattle.trace_check.specs.declared.checking.Checked.{Checked}
use Rattle.trace_check.specs.Misses.{Miss}
use Rattle.trace_faults.specs.Spots.{Told}
use Rattle.trace_reader.specs.Reading.{lines_of}
use Rattle.trace_values.specs.Checked.{IsUnexpanded, IsValueChecked}
use Rattle.trace_values.specs.Expansions.{IsExpansion}
use Rattle.trace_watches.specs.Checked.{ChecksPlain, ChecksWatched, IsWatchChecked}
use Rattle.trace_watches.specs.Laws.{EachHolds, Holds, HoldsAfter, HoldsFrom}
use Rattle.trace_watches.specs.Told.{IsTold, Tells, TellsAll, TellsFrom, TellsLine, miss_at, miss_list, missed_by}
use Rattle.trace_watches.specs.Watched.{is_step, meets}
use Rattle.trace_watches.specs.Watches.{Watch, watches_of}

no_miss : {X : Type 0} {x : X} → None ≡ Some x → ⊥
no_miss e = let bad = e in cc

differ : true ≡ false → ⊥
differ e = let bad = e in cc

-- a test that gives no miss is met
met_by : {X : Type 0} (b : Bool) (x : X) → None ≡ (if b then None else Some x) → b ≡ true
met_by true x e = refl
met_by false x e = absurd (no_miss e)

none_by : {X : Type 0} (b : Bool) (x : X) → b ≡ true → None ≡ (if b then None else Some x)
none_by true x e = refl
none_by false x e = absurd (differ (sym e))

second : (s t : Bool) → (s && t) ≡ true → t ≡ true
second true t e = e
second false t e = absurd (differ (sym e))

never : (n : ℕ) → (suc n == 0) ≡ true → ⊥
never n e = grind (arith, nat_tests)

no_items : (missed : List Miss) → (length missed == 0) ≡ true → missed ≡ []
no_items [] e = refl
no_items (miss ∷ missed) e = absurd (never (length missed) e)

module _ (A : Type 0) (lines : List (List ℕ)) (w : Watch) where
  holds_by : (place : ℕ) (step : List ℕ) → IsTold A lines w place step None → HoldsAfter A lines w place step
  holds_by place step told = record {
    note = told.note;
    is = told.is;
    met = met_by (meets w told.note) (miss_at w (place + 1) told.note) told.missed_is;
  }

  told_by : (place : ℕ) (step : List ℕ) → HoldsAfter A lines w place step → IsTold A lines w place step None
  told_by place step h = record {
    note = h.note;
    is = h.is;
    missed_is = none_by (meets w h.note) (miss_at w (place + 1) h.note) h.met;
  }

  line_holds : (place : ℕ) (line : List ℕ) (b : Bool)
      → MatchBool b (IsTold A lines w place line None) (◌≡◌ {A = Option Miss} None None)
      → b ≡ true
      → HoldsAfter A lines w place line
  line_holds place line true told e = holds_by place line told
  line_holds place line false told e = absurd (differ (sym e))

  line_told : (place : ℕ) (line : List ℕ) (b : Bool)
      → (b ≡ true → HoldsAfter A lines w place line)
      → MatchBool b (IsTold A lines w place line None) (◌≡◌ {A = Option Miss} None None)
  line_told place line true h = told_by place line (h refl)
  line_told place line false h = refl

  holds_on : (place : ℕ) (line : List ℕ) (rest : List (List ℕ)) (own : Option Miss)
      → TellsLine A lines w place line own
      → MatchOption own (TellsFrom A lines w (place + 1) rest None) (λ miss. None ≡ Some miss)
      → (TellsFrom A lines w (place + 1) rest None → HoldsFrom A lines w (place + 1) rest)
      → HoldsFrom A lines w place (line ∷ rest)
  holds_on place line rest None told more on = (line_holds place line (is_step line) told, on more)
  holds_on place line rest (Some miss) told is on = absurd (no_miss is)

  pub holds_from : (place : ℕ) (rest : List (List ℕ))
      → TellsFrom A lines w place rest None → HoldsFrom A lines w place rest
  holds_from place [] told = tt
  holds_from place (line ∷ rest) told =
      holds_on place line rest told.0 told.1 told.2 (holds_from (place + 1) rest)

  pub tells_from : (place : ℕ) (rest : List (List ℕ))
      → HoldsFrom A lines w place rest → TellsFrom A lines w place rest None
  tells_from place [] holds = refl
  tells_from place (line ∷ rest) holds =
      (None, line_told place line (is_step line) holds.0, tells_from (place + 1) rest holds.1)

module _ (A : Type 0) where
  pub unmissed : (lines : List (List ℕ)) (w : Watch)
      → (Tells A lines w None → Holds A lines w) × (Holds A lines w → Tells A lines w None)
  unmissed lines w = (holds_from A lines w 0 lines, tells_from A lines w 0 lines)

  none_of : (own : Option Miss) (others : List Miss) → [] ≡ miss_list own ++ others → (own ≡ None) × ([] ≡ others)
  none_of None others e = (refl, e)
  none_of (Some miss) others e = absurd (let bad = e in cc)

  each : (lines : List (List ℕ)) (ws : List Watch) (missed : List Miss)
      → TellsAll A lines ws missed → missed ≡ [] → All (Holds A lines) ws
  each lines [] missed told e = All-nil (Holds A lines)
  each lines (w ∷ ws) missed (own, others, told, more, is) e =
      let none = none_of own others (sym e ∙ is) in
      All-cons (Holds A lines) w ws (holds_from A lines w 0 lines (subst (Tells A lines w) none.0 told))
      (each lines ws others more (sym none.1))

  no_clean : (b : Bool) → b ≡ false → b ≡ true → ⊥
  no_clean b f t = differ (sym t ∙ f)

  clean_missed : (b : Bool) (missed : List Miss) → (b && length missed == 0) ≡ true → missed ≡ []
  clean_missed b missed e = no_items missed (second b (length missed == 0) e)

  watched : (name trace plain : List ℕ) (checked : Checked) (watches : Result (List Watch) Told)
      → IsExpansion A trace (Ok plain)
      → watches_of (lines_of plain) ≡ watches
      → ChecksWatched A name plain watches checked
      → checked.clean ≡ true
      → EachHolds A trace
  watched name trace plain checked (Ok []) expansion are checks clean =
      record {
        plain = plain;
        expansion = expansion;
        watches = [];
        watches_are = are;
        hold = All-nil (Holds A (lines_of plain));
      }
  watched name trace plain checked (Ok (w ∷ more)) expansion are checks clean = record {
    plain = plain;
    expansion = expansion;
    watches = w ∷ more;
    watches_are = are;
    hold = each (lines_of plain) (w ∷ more) checks.adds.missed checks.adds.tells
        (clean_missed _ checks.adds.missed (sym checks.adds.answer.clean ∙ clean));
  }
  watched name trace plain checked (Err fault) expansion are checks clean =
      absurd (no_clean checked.clean checks.clean clean)

  clean_by : (name trace : List ℕ) (checked : Checked) (told : Result (List ℕ) Told)
      → IsExpansion A trace told
      → ChecksPlain A name trace told checked
      → checked.clean ≡ true
      → EachHolds A trace
  clean_by name trace checked (Ok plain) expansion checks clean =
      watched name trace plain checked (watches_of (lines_of plain)) expansion refl checks clean
  clean_by name trace checked (Err fault) expansion checks clean =
      absurd (no_clean checked.clean checks.clean clean)

  pub clean_holds : (name trace : List ℕ) (checked : Checked)
      → IsWatchChecked A name trace checked → checked.clean ≡ true → EachHolds A trace
  clean_holds name trace checked h clean = clean_by name trace checked h.told h.expansion h.checks clean

  plain_by : (name trace : List ℕ) (checked : Checked) (told : Result (List ℕ) Told)
      → ((plain : List ℕ) → IsExpansion A trace (Ok plain) → watches_of (lines_of plain) ≡ Ok [])
      → IsExpansion A trace told
      → ChecksPlain A name trace told checked
      → IsValueChecked A name trace checked
  plain_by name trace checked (Ok plain) none expansion checks = record {
    told = Ok plain;
    expansion = expansion;
    checks = subst (λ ws. ChecksWatched A name plain ws checked) (none plain expansion) checks;
  }
  plain_by name trace checked (Err fault) none expansion checks =
      record { told = Err fault; expansion = expansion; checks = checks }

  pub plain_checked : (name trace : List ℕ) (checked : Checked)
      → ((plain : List ℕ) → IsExpansion A trace (Ok plain) → watches_of (lines_of plain) ≡ Ok [])
      → IsWatchChecked A name trace checked
      → IsValueChecked A name trace checked
  plain_checked name trace checked none h = plain_by name trace checked h.told none h.expansion h.checks
