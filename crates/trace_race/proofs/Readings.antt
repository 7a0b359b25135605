-- A trace that is read line by line asks for what its lines ask for.
use Rattle.std.proofs.Common.{◌≡◌, ℕ, ◌+◌, ◌<◌, ◌≤◌, refl, sym, ap, subst, ◌∙◌, arith, inl, inr, true, false, List, ◌∷◌, length, take, Option, Some, None, Ok, Err, IfSome, IsSomeAnd, nat_lt}
use Rattle.std.proofs.lemmas.Bool.{lt-ltb, cases_lt}
use Rattle.trace_lines.specs.declared.fault.LineFault.TheVariants.{Long}
use Rattle.trace_reader.specs.Reading.{ReadsLine, lines_of}
use Rattle.trace_text.specs.declared.fault.Fault.{Fault}
use Rattle.trace_text.specs.declared.fault.Fault.TheVariants as faults
use Rattle.trace_text.specs.declared.session.Stop.{Stop}
use Rattle.trace_text.specs.declared.session.Stop.TheVariants as stops
use Rattle.trace_text.proofs.ReplayLemmas.{no_lines, said-front, said-long}
use Rattle.trace_race.specs.Courses.{Asking, Takes, allowed, course_of, follows, nothing_asked, taken}

-- what the lines that are left ask for is what all of them do
abbrev pub Goes : Option (List ℕ) → Option (List ℕ) → ℕ → Asking → Type 0
Goes all left number a =
    IfSome all
    (λ bytes. IsSomeAnd left
    (λ rest. course_of 1 nothing_asked (lines_of bytes) ≡ course_of number a (lines_of rest)))

pub goes_first : (all : Option (List ℕ)) → Goes all all 1 nothing_asked
goes_first None = tt
goes_first (Some bytes) = refl

-- of a long line any 257 bytes serve
taken_front : (number : ℕ) (whole : List ℕ) (a : Asking) → taken number (take 257 whole) a ≡ taken number whole a
taken_front number whole a = ap (λ r. follows number r a) (said-front (allowed a) a.told whole)

taken_long : (number : ℕ) (whole : List ℕ) (a : Asking)
    → 256 < length whole
    → taken number whole a ≡ Err (faults.Line Long)
taken_long number whole a long = ap (λ r. follows number r a) (said-long (allowed a) a.told whole long)

-- one line more
one_line : (number : ℕ) (a b : Asking) (whole : List ℕ) (rest : List (List ℕ))
    → number ≤ 1048576
    → taken number whole a ≡ Ok b
    → course_of number a (whole ∷ rest) ≡ course_of (number + 1) b rest
one_line number a b whole rest few e = let past : nat_lt 1048576 number ≡ false = not-past number few in
    rw (past, e) refl
  where
    not-past : (n : ℕ) → n ≤ 1048576 → nat_lt 1048576 n ≡ false
    not-past n few = grind (arith)

fault_line : (number : ℕ) (a : Asking) (fault : Fault) (whole : List ℕ) (rest : List (List ℕ))
    → number ≤ 1048576
    → taken number whole a ≡ Err fault
    → course_of number a (whole ∷ rest) ≡ Err (number, fault)
fault_line number a fault whole rest few e = let past : nat_lt 1048576 number ≡ false = not-past number few in
    rw (past, e) refl
  where
    not-past : (n : ℕ) → n ≤ 1048576 → nat_lt 1048576 n ≡ false
    not-past n few = grind (arith)

past_line : (number : ℕ) (a : Asking) (whole : List ℕ) (rest : List (List ℕ))
    → 1048576 < number
    → course_of number a (whole ∷ rest) ≡ Err (number, faults.Lines)
past_line number a whole rest many = let past : nat_lt 1048576 number ≡ true = lt-ltb 1048576 number many in
    rw past refl

short : (number : ℕ) (a b : Asking) (whole : List ℕ) → taken number whole a ≡ Ok b → length whole ≤ 256
short number a b whole e =
    elim (cases_lt 256 (length whole))
    [ inl long ↦ absurd (let no = sym (taken_long number whole a long) ∙ e in cc) | inr few ↦ few ]

pub goes_next : (all left next : Option (List ℕ)) (line : List ℕ) (number : ℕ) (a b : Asking)
    → Goes all left number a
    → ReadsLine true left next line
    → number ≤ 1048576
    → taken number line a ≡ Ok b
    → Goes all next (number + 1) b
goes_next None left next line number a b goes read few e = tt
goes_next (Some bytes) None next line number a b goes read few e = absurd goes
goes_next (Some bytes) (Some rest) next line number a b goes read few e =
    let whole : taken number read.whole a ≡ Ok b =
    sym (taken_front number read.whole a) ∙ (ap (λ l. taken number l a) (sym read.read) ∙ e) in
    onward next (read.next (short number a b read.whole whole)) whole
  where
    onward : (next : Option (List ℕ))
        → IsSomeAnd next (λ more. lines_of more ≡ read.rest)
        → taken number read.whole a ≡ Ok b
        → Goes (Some bytes) next (number + 1) b
    onward None there whole = absurd there
    onward (Some more) there whole =
        goes
        ∙ (ap (course_of number a) read.lines
        ∙ (one_line number a b read.whole read.rest few whole ∙ ap (course_of (number + 1) b) (sym there)))

pub goes_fault : (all left next : Option (List ℕ)) (line : List ℕ) (number : ℕ) (a : Asking) (fault : Fault)
    → Goes all left number a
    → ReadsLine true left next line
    → number ≤ 1048576
    → taken number line a ≡ Err fault
    → IfSome all (λ bytes. course_of 1 nothing_asked (lines_of bytes) ≡ Err (number, fault))
goes_fault None left next line number a fault goes read few e = tt
goes_fault (Some bytes) None next line number a fault goes read few e = absurd goes
goes_fault (Some bytes) (Some rest) next line number a fault goes read few e =
    let whole : taken number read.whole a ≡ Err fault =
    sym (taken_front number read.whole a) ∙ (ap (λ l. taken number l a) (sym read.read) ∙ e) in
    goes ∙ (ap (course_of number a) read.lines ∙ fault_line number a fault read.whole read.rest few whole)

pub goes_past : (all left next : Option (List ℕ)) (line : List ℕ) (number : ℕ) (a : Asking)
    → Goes all left number a
    → ReadsLine true left next line
    → 1048576 < number
    → IfSome all (λ bytes. course_of 1 nothing_asked (lines_of bytes) ≡ Err (number, faults.Lines))
goes_past None left next line number a goes read many = tt
goes_past (Some bytes) None next line number a goes read many = absurd goes
goes_past (Some bytes) (Some rest) next line number a goes read many =
    goes ∙ (ap (course_of number a) read.lines ∙ past_line number a read.whole read.rest many)

pub goes_end : (all left next : Option (List ℕ)) (line : List ℕ) (number : ℕ) (a : Asking)
    → Goes all left number a
    → ReadsLine false left next line
    → IfSome all (λ bytes. course_of 1 nothing_asked (lines_of bytes) ≡ Ok a)
goes_end None left next line number a goes none = tt
goes_end (Some bytes) None next line number a goes none = absurd goes
goes_end (Some bytes) (Some rest) next line number a goes none =
    goes ∙ ap (course_of number a) (ap lines_of none ∙ no_lines)

-- a line's fault, as it was told
pub takes_fault : (X : Type 0) (number : ℕ) (bytes line : List ℕ) (old new : Asking) (stop : Stop) (fault : Fault)
    → bytes ≡ line
    → stop ≡ stops.Fault fault
    → Takes {X = X} number bytes old (Err stop) new
    → taken number line old ≡ Err fault
takes_fault X number bytes line old new stop fault same is takes =
    subst (λ l. taken number l old ≡ Err fault) same
    (subst (λ (k : Stop). Takes {X = X} number bytes old (Err k) new) is takes)

pub takes_line : (X : Type 0) (number : ℕ) (bytes line : List ℕ) (old new : Asking) (x : X)
    → bytes ≡ line
    → Takes {X = X} number bytes old (Ok x) new
    → taken number line old ≡ Ok new
takes_line X number bytes line old new x same takes = subst (λ l. taken number l old ≡ Ok new) same takes
