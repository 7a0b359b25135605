-- Runs of pages before a page, and what a run behind them gives.
use Rattle.std.proofs.Common.{◌≡◌, ℕ, ◌+◌, ◌-◌, ◌^◌, ◌<◌, ◌≤◌, true, false, cond, ltb, List, [], ◌∷◌, ◌++◌, Some, None, refl, sym, ap, ◌∙◌, arith}
use Rattle.std.proofs.lemmas.List.Elements.{All-nil, All-cons}
use Rattle.std.proofs.lemmas.Bool.Decides.{nat_tests}
use Rattle.page_state.specs.declared.entry.Entry.{Entry}
use Rattle.page_state.specs.declared.entry.Entry.TheVariants.{Unmapped}
use Rattle.page_state.specs.declared.entry.Run.{Run}
use Rattle.page_state.specs.declared.entry.Target.{Target}
use Rattle.page_state.specs.Entries.{advance, target_of}
use Rattle.page_state.specs.Map.{is_within}
use Rattle.page_state.specs.Regions.{is_in_range}
use Rattle.page_state.specs.Runs.{map_of, entry_on, run_end, IsCoarsest, Precedes, PrecedesFirst}
use Rattle.page_state.proofs.Cases.{by_test, by_lt}
use Rattle.page_state.proofs.Common.{if-true}
use Rattle.page_state.proofs.Updates.{below_test, above_test}
use Rattle.ghost_trees.specs.Small.{HasLowFrames, IsSmall, AreSmall}
use Rattle.ghost_trees.specs.Joins.{continues, longer}
use Rattle.ghost_trees.proofs.Coarse.{head_of, rest_of, map_of-joined, small_joined, joined_coarsest}
use Rattle.ghost_trees.proofs.Entries.{some_target, no_target}
use Rattle.ghost_oracle.specs.inner.Walking.{EndBy, AreRunsTo, GoesOn, joined_last}

pub map_ended : (first p : ℕ) (rs : List Run) → EndBy first rs → first ≤ p → map_of rs p ≡ Unmapped
map_ended first p [] e h = refl
map_ended first p (r ∷ rs) e h =
    rw (above_test r.pages.first.0 r.pages.count p (omega (arith, e.0))) (map_ended first p rs e.1 h)

pub ended_later : (first later : ℕ) (rs : List Run) → first ≤ later → EndBy first rs → EndBy later rs
ended_later first later [] h e = tt
ended_later first later (r ∷ rs) h e = (omega (arith, e.0), ended_later first later rs h e.1)

-- a run joined to the end
joined_as_put : (rs : List Run) (r : Run) (p : ℕ) → map_of (joined_last rs r) p ≡ map_of (rs ++ r ∷ []) p
joined_as_put [] r p = refl
joined_as_put (n ∷ []) r p = map_of-joined n (r ∷ []) p
joined_as_put (n ∷ (m ∷ rs)) r p = ap (λ e. cond (is_in_range n.pages p) (entry_on n p) e) (joined_as_put (m ∷ rs) r p)

put_before : (rs : List Run) (r : Run) (p : ℕ) → p < r.pages.first.0 → map_of (rs ++ r ∷ []) p ≡ map_of rs p
put_before [] r p h = rw (below_test r.pages.first.0 r.pages.count p h) refl
put_before (n ∷ rs) r p h = ap (λ e. cond (is_in_range n.pages p) (entry_on n p) e) (put_before rs r p h)

put_from : (rs : List Run) (r : Run) (p : ℕ)
    → EndBy r.pages.first.0 rs
    → r.pages.first.0 ≤ p
    → map_of (rs ++ r ∷ []) p ≡ map_of (r ∷ []) p
put_from [] r p e h = refl
put_from (n ∷ rs) r p e h = rw (above_test n.pages.first.0 n.pages.count p (omega (arith, e.0))) (put_from rs r p e.1 h)

small_last : (rs : List Run) (r : Run) → IsSmall r → AreSmall rs → AreSmall (joined_last rs r)
small_last [] r h s = All-cons IsSmall r [] h (All-nil IsSmall)
small_last (n ∷ []) r h s = small_joined n (r ∷ []) (head_of IsSmall n [] s) (All-cons IsSmall r [] h (All-nil IsSmall))
small_last (n ∷ (m ∷ rs)) r h s =
    All-cons IsSmall n (joined_last (m ∷ rs) r) (head_of IsSmall n (m ∷ rs) s)
    (small_last (m ∷ rs) r h (rest_of IsSmall n (m ∷ rs) s))

precedes_longer : (n m r : Run) → Precedes n m → Precedes n (longer m r)
precedes_longer n m r p = record { before = p.before; apart = p.apart }

precedes_last : (n m : Run) (rs : List Run) (r : Run) → Precedes n m → PrecedesFirst n (joined_last (m ∷ rs) r)
precedes_last n m [] r p = by_test (continues m r) (λ h. rw h (precedes_longer n m r p)) (λ h. rw h p)
precedes_last n m (x ∷ rs) r p = p

coarsest_last : (rs : List Run) (r : Run)
    → 0 < r.pages.count
    → EndBy r.pages.first.0 rs
    → IsCoarsest rs
    → IsCoarsest (joined_last rs r)
coarsest_last [] r h e c = (h, tt, tt)
coarsest_last (n ∷ []) r h e c = joined_coarsest n (r ∷ []) c.0 e.0 (h, tt, tt)
coarsest_last (n ∷ (m ∷ rs)) r h e c = (c.0, precedes_last n m rs r c.1, coarsest_last (m ∷ rs) r h e.1 c.2)

ended_last : (rs : List Run) (r : Run) → EndBy r.pages.first.0 rs → EndBy (run_end r) (joined_last rs r)
ended_last [] r e = (omega arith, tt)
ended_last (n ∷ []) r e =
    by_test (continues n r) (λ h. rw h (omega (arith, e.0), tt)) (λ h. rw h (omega (arith, e.0), (omega arith, tt)))
ended_last (n ∷ (m ∷ rs)) r e = (omega (arith, e.0), ended_last (m ∷ rs) r e.1)

-- an entry on the pages of a block behind the runs
module _ (rs : List Run) (first count : ℕ) (entry : Entry) (before : AreRunsTo first rs) where
  abbrev pub run_for : Target → Run
  run_for t = record { pages = record { first = record { 0 = first }; count = count }; target = t }

  pub small_for : (t : Target)
      → target_of entry ≡ Some t
      → first + count ≤ 2 ^ 63
      → HasLowFrames entry count
      → IsSmall (run_for t)
  small_for t e h l = (h, rw (some_target entry t e) l)

  pub runs_some : (t : Target)
      → target_of entry ≡ Some t
      → 0 < count
      → first + count ≤ 2 ^ 63
      → HasLowFrames entry count
      → AreRunsTo (first + count) (joined_last rs (run_for t))
  runs_some t e z h l = record {
    small = small_last rs (run_for t) (small_for t e h l) before.small;
    coarsest = coarsest_last rs (run_for t) z before.ended before.coarsest;
    ended = ended_last rs (run_for t) before.ended;
  }

  in_block : (p : ℕ) → first ≤ p → p < first + count → is_within first count p ≡ true
  in_block p h k = grind (arith, nat_tests)

  less_block : (p : ℕ) → p < first → ltb p first ≡ true
  less_block p h = grind (arith, nat_tests)

  more_block : (p : ℕ) → first ≤ p → ltb p first ≡ false
  more_block p h = grind (arith, nat_tests)

  pub map_some : (t : Target)
      → target_of entry ≡ Some t
      → GoesOn (λ p. advance entry (p - first)) first (first + count) (map_of rs) (map_of (joined_last rs (run_for t)))
  map_some t e p l = joined_as_put rs (run_for t) p ∙ by_lt p first
      (λ h. put_before rs (run_for t) p h
      ∙ sym (ap (λ b. cond b (map_of rs p) (advance entry (p - first))) (less_block p h)))
      (λ h. put_from rs (run_for t) p before.ended h
      ∙ if-true (is_within first count p) (entry_on (run_for t) p) Unmapped (in_block p h l)
      ∙ ap (λ x. advance x (p - first)) (some_target entry t e)
      ∙ sym (ap (λ b. cond b (map_of rs p) (advance entry (p - first))) (more_block p h)))

  pub runs_none : AreRunsTo (first + count) rs
  runs_none =
      record {
        small = before.small;
        coarsest = before.coarsest;
        ended = ended_later first (first + count) rs (omega arith) before.ended;
      }

  pub map_none : target_of entry ≡ None
      → GoesOn (λ p. advance entry (p - first)) first (first + count) (map_of rs) (map_of rs)
  map_none e p l = by_lt p first
      (λ h. sym (ap (λ b. cond b (map_of rs p) (advance entry (p - first))) (less_block p h)))
      (λ h. map_ended first p rs before.ended h ∙ sym (ap (λ x. advance x (p - first)) (no_target entry e))
      ∙ sym (ap (λ b. cond b (map_of rs p) (advance entry (p - first))) (more_block p h)))
