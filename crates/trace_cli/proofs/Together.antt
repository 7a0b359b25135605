-- The steps of several files, one after another.
use Rattle.std.proofs.Common.{◌≡◌, ◌∙◌, ℕ, ◌+◌, ◌<◌, ◌≤◌, Bool, true, false, List, [], ◌∷◌, ◌++◌, length, get_or, map, take, drop, Option, Some, None, Result, Ok, Err, refl, sym, ap, ap₂, subst, inl, inr}
use Rattle.std.specs.Prelude.{◌⊎◌, ◌||◌, IfSome, MatchResult}
use Rattle.std.proofs.lemmas.List.{append_assoc, append-nil, drop_all, drop_more, take-append-drop}
use Rattle.trace_cli.specs.Covering.{AddsFile, AddsOpened, AddsSteps, AreOfFiles, HasCoverStatus, IsCovered, IsOfFile, IsReportedStatus, IsUnopened, is_faulty}
use Rattle.trace_cover.specs.declared.steps.Seen.{Seen}
use Rattle.trace_cover.specs.Steps.{CountsAll}
use Rattle.trace_reader.specs.Reading.{lines_of}
use Rattle.trace_reader.specs.declared.outcome.Outcome.{Outcome}

-- the steps of known bytes
pub of_bytes : (path : List ℕ) (bytes : Option (List ℕ)) (trace given : List ℕ) (steps : List Seen) (text : List ℕ)
    (outcome : Outcome)
    → IfSome bytes (λ all. trace ≡ all)
    → given ≡ trace
    → CountsAll path (lines_of given) steps text outcome → IsOfFile path bytes steps outcome
of_bytes path None trace given steps text outcome is same counts = tt
of_bytes path (Some all) trace given steps text outcome is same counts =
    (text, subst (λ t. CountsAll path (lines_of t) steps text outcome) (same ∙ is) counts)

or_assoc : (a b c : Bool) → (a || (b || c)) ≡ ((a || b) || c)
or_assoc true b c = refl
or_assoc false b c = refl

or_false : (a : Bool) → (a || false) ≡ a
or_false true = refl
or_false false = refl

module _ {F E : Type 0} (bytes : F → Option (List ℕ)) (opens : List ℕ → Result F E → Type 0) where
  -- a file whose steps were added
  pub record IsAdded (path : List ℕ) (before after : List Seen) (outcome : Outcome) : Type 0 where
    pub file : F
    pub own : List Seen
    pub opened : opens path (Ok file)
    pub of_file : IsOfFile path (bytes file) own outcome
    pub is : after ≡ before ++ own

  added : (path : List ℕ) (before after : List Seen) (result : Result Outcome ℕ) (outcome : Outcome)
      (opened : Result F E)
      → opens path opened
      → MatchResult opened (λ file. AddsOpened path (bytes file) before after result) (λ _. result ≡ Err 2)
      → result ≡ Ok outcome
      → IsAdded path before after outcome
  added path before after result outcome (Err error) o told is = absurd (let e = sym told ∙ is in cc)
  added path before after (Err status) outcome (Ok file) o told is = absurd (let e = is in cc)
  added path before after (Ok other) outcome (Ok file) o (own, of_file, more) is =
      let same : other ≡ outcome = let e = is in cc in
      record {
        file = file;
        own = own;
        opened = o;
        of_file = subst (λ (x : Outcome). IsOfFile path (bytes file) own x) same of_file;
        is = more;
      }

  pub ok_added : (path : List ℕ) (before after : List Seen) (result : Result Outcome ℕ) (outcome : Outcome)
      → AddsFile bytes opens path before after result
      → result ≡ Ok outcome
      → IsAdded path before after outcome
  ok_added path before after result outcome (opened, o, told) is =
      added path before after result outcome opened o told is

  failed : (path : List ℕ) (before after : List Seen) (result : Result Outcome ℕ) (status : ℕ) (opened : Result F E)
      → opens path opened
      → MatchResult opened (λ file. AddsOpened path (bytes file) before after result) (λ _. result ≡ Err 2)
      → result ≡ Err status
      → ((error : E) × opens path (Err error) × (status ≡ 2)) ⊎ (status ≡ 1)
  failed path before after result status (Err error) o told is =
      let same : status ≡ 2 = let e = sym is ∙ told in cc in
      inl (error, o, same)
  failed path before after (Err other) status (Ok file) o told is =
      let same : status ≡ other = let e = sym is in cc in
      inr (same ∙ told)
  failed path before after (Ok outcome) status (Ok file) o told is = absurd (let e = is in cc)

  module _ (paths : List (List ℕ)) where
    -- what lies ahead at a place: the steps of the rest go behind those so far, and are then those of all
    abbrev pub IsAhead : ℕ → List Seen → Bool → Type 0
    IsAhead place seen faulty =
        (more : List Seen) (rest : Bool)
        → AreOfFiles bytes opens (drop place paths) more rest
        → AreOfFiles bytes opens paths (seen ++ more) (faulty || rest)

    pub at_first : (seen : List Seen) (faulty : Bool) → seen ≡ [] → faulty ≡ false → IsAhead 0 seen faulty
    at_first seen faulty none clean more rest files =
        subst (λ xs. AreOfFiles bytes opens paths (xs ++ more) (faulty || rest)) (sym none)
        (subst (λ b. AreOfFiles bytes opens paths more (b || rest)) (sym clean) files)

    pub one_further : (place : ℕ) (seen now : List Seen) (faulty ends : Bool) (path : List ℕ) (outcome : Outcome)
        → place < length paths
        → path ≡ get_or paths place []
        → IsAhead place seen faulty
        → IsAdded path seen now outcome → ends ≡ (faulty || is_faulty outcome) → IsAhead (place + 1) now ends
    one_further place seen now faulty ends path outcome h at ahead one is more rest files =
        let head : AreOfFiles bytes opens (path ∷ drop (place + 1) paths) (one.own ++ more) (is_faulty outcome || rest) =
        (one.file, one.own, outcome, more, rest, one.opened, one.of_file, files, refl, refl) in
        let here : AreOfFiles bytes opens (drop place paths) (one.own ++ more) (is_faulty outcome || rest) =
        subst (λ xs. AreOfFiles bytes opens xs (one.own ++ more) (is_faulty outcome || rest))
        (ap (λ p. p ∷ drop (place + 1) paths) at ∙ sym (drop_more paths place [] h)) head in
        subst (λ xs. AreOfFiles bytes opens paths xs (ends || rest))
        (sym (append_assoc seen one.own more) ∙ ap (λ xs. xs ++ more) (sym one.is))
        (subst (λ b. AreOfFiles bytes opens paths (seen ++ (one.own ++ more)) b)
        (or_assoc faulty (is_faulty outcome) rest ∙ ap (λ b. b || rest) (sym is))
        (ahead (one.own ++ more) (is_faulty outcome || rest) here))

    pub all_done : (place : ℕ) (seen : List Seen) (faulty missing : Bool) (status : ℕ)
        → length paths ≤ place
        → IsAhead place seen faulty
        → IsReportedStatus missing faulty seen status
        → HasCoverStatus bytes opens missing paths status
    all_done place seen faulty missing status h ahead (inr one) = inr (inr one)
    all_done place seen faulty missing status h ahead (inl told) = inl (record {
      seen = seen;
      faulty = faulty;
      files = subst (λ xs. AreOfFiles bytes opens paths xs faulty) (append-nil seen)
          (subst (λ b. AreOfFiles bytes opens paths (seen ++ []) b) (or_false faulty)
          (ahead [] false
          (subst (λ xs. AreOfFiles bytes opens xs [] false) (sym (drop_all place paths h)) (refl, refl))));
      told = told;
    })

    pub stopped : (place : ℕ) (path : List ℕ) (before after : List Seen) (result : Result Outcome ℕ) (missing : Bool)
        (status : ℕ)
        → place < length paths
        → path ≡ get_or paths place []
        → AddsFile bytes opens path before after result
        → result ≡ Err status → HasCoverStatus bytes opens missing paths status
    stopped place path before after result missing status h at (opened, o, told) is =
        go (failed path before after result status opened o told is)
      where
        go : ((error : E) × opens path (Err error) × (status ≡ 2)) ⊎ (status ≡ 1)
            → HasCoverStatus bytes opens missing paths status
        go (inr one) = inr (inr one)
        go (inl (error, unopened, two)) = inr (inl (record {
          before = take place paths;
          path = path;
          after = drop (place + 1) paths;
          error = error;
          one =
              sym (take-append-drop place paths)
              ∙ ap (λ xs. take place paths ++ xs)
              (drop_more paths place [] h ∙ ap (λ p. p ∷ drop (place + 1) paths) (sym at));
          opened = unopened;
          told = two;
        }))
