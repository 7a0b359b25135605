-- What is missed of watches, one line and one watch after another.
use Rattle.std.proofs.Common.{drop, get_or, length, map, ◌<◌, ◌≤◌, ◌≡◌, refl, ◌∙◌, sym, subst, ℕ, ◌+◌, ◌++◌, append_assoc, ap, Bool, true, false, List, [], ◌∷◌, Option, None, Some, Result, Ok, Err}
use Rattle.std.specs.Prelude.{IfOk}
use Rattle.std.proofs.lemmas.List.{append-nil, drop_all, drop_more}
use Rattle.trace_check.specs.Misses.{Miss}
use Rattle.trace_watches.specs.Told.{AddsTold, Tells, TellsAll, TellsFrom, TellsLine, miss_list}
use Rattle.trace_watches.specs.Watches.{Watch}

pub mapped : {T E : Type 0} (r : Result T E) (P Q : T → Type 0) → ((x : T) → P x → Q x) → IfOk r P → IfOk r Q
mapped (Ok x) P Q f h = f x h
mapped (Err e) P Q f h = tt

module _ (A : Type 0) (lines : List (List ℕ)) where
  -- what is missed from a place on is what is missed
  abbrev pub Leads : Watch → ℕ → List (List ℕ) → Type 0
  Leads w place rest = (missed : Option Miss) → TellsFrom A lines w place rest missed → Tells A lines w missed

  -- a line without a miss leads on
  pub leads_on : (w : Watch) (place : ℕ) (line : List ℕ) (rest : List (List ℕ))
      → Leads w place (line ∷ rest)
      → TellsLine A lines w place line None
      → Leads w (place + 1) rest
  leads_on w place line rest leads told missed more = leads missed (None, told, more)

  -- one with a miss is the first
  pub leads_out : (w : Watch) (place : ℕ) (line : List ℕ) (rest : List (List ℕ)) (miss : Miss)
      → Leads w place (line ∷ rest)
      → TellsLine A lines w place line (Some miss)
      → Tells A lines w (Some miss)
  leads_out w place line rest miss leads told = leads (Some miss) (Some miss, told, refl)

  -- what is missed of the other watches comes behind what is missed so far
  abbrev pub AllLead : List Watch → List Watch → List Miss → Type 0
  AllLead all left missed =
      (others : List Miss) → TellsAll A lines left others → TellsAll A lines all (missed ++ others)

  pub all_lead_on : (all left : List Watch) (w : Watch) (old new : List Miss)
      → AllLead all (w ∷ left) old
      → AddsTold A lines w old new
      → AllLead all left new
  all_lead_on all left w old new leads (own, told, is) others more =
      subst (TellsAll A lines all)
      (sym (append_assoc old (miss_list own) others) ∙ ap (λ t. t ++ others) (sym is))
      (leads (miss_list own ++ others) (own, others, told, more, refl))

  -- one watch of those that code holds
  pub all_lead_turn : {X : Type 0} (view : X → Watch) (all : List Watch) (xs : List X) (i : ℕ) (d : X)
      (old new : List Miss)
      → i < length xs
      → AllLead all (map view (drop i xs)) old
      → AddsTold A lines (view (get_or xs i d)) old new
      → AllLead all (map view (drop (i + 1) xs)) new
  all_lead_turn view all xs i d old new below leads adds =
      all_lead_on all (map view (drop (i + 1) xs)) (view (get_or xs i d)) old new
      (subst (λ ys. AllLead all (map view ys) old) (drop_more xs i d below) leads) adds

  -- no watch is left
  pub all_lead_out : {X : Type 0} (view : X → Watch) (all : List Watch) (xs : List X) (i : ℕ) (missed : List Miss)
      → length xs ≤ i
      → AllLead all (map view (drop i xs)) missed
      → TellsAll A lines all missed
  all_lead_out view all xs i missed past leads =
      let end = subst (λ ys. AllLead all (map view ys) missed) (drop_all i xs past) leads in
      subst (TellsAll A lines all) (append-nil missed) (end [] refl)
