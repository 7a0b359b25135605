-- A text that goes on by a line.
use Rattle.std.proofs.Common.{◌≡◌, ℕ, ◌+◌, ◌<◌, ◌≤◌, List, [], ◌++◌, length, get_or, drop, refl, sym, ap, ◌∙◌, subst, Option, Some, None, Ok, Err}
use Rattle.std.proofs.lemmas.List.{append_assoc, append-nil, drop_all, drop_more}
use Rattle.trace_explain.specs.Carried.{IsCarried}
use Rattle.trace_explain.specs.Explained.{Explains, Says, faulty, is_shown}
use Rattle.trace_reader.specs.declared.outcome.Outcome.{Outcome}
use Rattle.trace_reader.specs.declared.outcome.Outcome.TheVariants.{Clean, Fault}
use Rattle.trace_text.specs.declared.fault.Fault.{Fault as LineFault}
use Rattle.trace_text.specs.declared.session.Stop.TheVariants as stops
use Rattle.trace_text.specs.Oracles.{agreed}
use Rattle.trace_text.specs.Replay.{IsPlayed}
use Rattle.trace_text.specs.Session.{Answer, Standing, at_start}

-- what lies ahead at a place: what explains the rest goes after what was said so far, and explains all
abbrev pub IsAhead : Option ℕ → List ℕ → List (List ℕ) → ℕ → Standing → List ℕ → Type 0
IsAhead only name ls place now said =
    (more : List ℕ) (outcome : Outcome)
    → Explains only name ls place now (drop place ls) more outcome
    → Explains only name ls 0 at_start ls (said ++ more) outcome

pub at_first : (only : Option ℕ) (name : List ℕ) (ls : List (List ℕ)) (now : Standing) (said : List ℕ)
    → now ≡ at_start
    → said ≡ []
    → IsAhead only name ls 0 now said
at_first only name ls now said e none more outcome leads =
    subst (λ t. Explains only name ls 0 at_start ls (t ++ more) outcome) (sym none)
    (subst (λ s. Explains only name ls 0 s ls more outcome) e leads)

module _ (only : Option ℕ) (name : List ℕ) (ls : List (List ℕ)) (place : ℕ) (old next : Standing) (said : List ℕ)
    (h : place < length ls) (ahead : IsAhead only name ls place old said) where
  goes : (answer : Answer) (more : List ℕ) (outcome : Outcome)
      → IsPlayed agreed (place + 1) (get_or ls place []) old answer next
      → Says only name ls place (get_or ls place []) old answer next
      (Explains only name ls (place + 1) next (drop (place + 1) ls)) more outcome
      → Explains only name ls 0 at_start ls (said ++ more) outcome
  goes answer more outcome played says =
      ahead more outcome
      (subst (λ ms. Explains only name ls place old ms more outcome) (sym (drop_more ls place [] h))
      (answer, next, played, says))

  pub one_further : (now : List ℕ)
      → IsCarried (is_shown only (place + 1)) (place + 1) (get_or ls place []) old said next now None
      → IsAhead only name ls (place + 1) next now
  one_further now (reported, played, (block, made, is)) more outcome leads =
      subst (λ t. Explains only name ls 0 at_start ls t outcome)
      (sym (append_assoc said block more) ∙ ap (λ t. t ++ more) (sym is))
      (goes (Ok reported) (block ++ more) outcome played (block, more, made, refl, leads))

  pub ends_at_fault : (there now : List ℕ) (fault : LineFault)
      → IsCarried (is_shown only (place + 1)) (place + 1) (get_or ls place []) old said next there (Some fault)
      → now ≡ there ++ faulty name ls place (get_or ls place []) fault
      → Explains only name ls 0 at_start ls now Fault
  ends_at_fault there now fault (played, stays) is =
      subst (λ t. Explains only name ls 0 at_start ls t Fault)
      (sym (is ∙ ap (λ t. t ++ faulty name ls place (get_or ls place []) fault) stays))
      (goes (Err (stops.Fault fault)) (faulty name ls place (get_or ls place []) fault) Fault played (refl, refl))

pub ends_clean : (only : Option ℕ) (name : List ℕ) (ls : List (List ℕ)) (place : ℕ) (now : Standing) (said : List ℕ)
    → length ls ≤ place
    → IsAhead only name ls place now said
    → Explains only name ls 0 at_start ls said Clean
ends_clean only name ls place now said h ahead =
    subst (λ t. Explains only name ls 0 at_start ls t Clean) (append-nil said)
    (ahead [] Clean
    (subst (λ ms. Explains only name ls place now ms [] Clean) (sym (drop_all place ls h)) (refl, refl)))
