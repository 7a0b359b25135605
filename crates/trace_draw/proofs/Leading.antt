-- Runs of a trace that go on by a line.
use Rattle.std.proofs.Common.{◌≡◌, ℕ, zero, suc, ◌+◌, ◌<◌, ◌≤◌, List, [], ◌∷◌, length, get_or, drop, refl, arith, sym, ap, ◌∙◌, subst, Ok, Err, add-one}
use Rattle.trace_draw.specs.declared.course.Ended.{Ended}
use Rattle.trace_draw.specs.declared.course.Ended.TheVariants.{Clean, Fault}
use Rattle.trace_draw.specs.Courses.{GoesOn, Leads}
use Rattle.trace_text.specs.declared.fault.Fault.{Fault as LineFault}
use Rattle.trace_text.specs.declared.report.ReportLine.{ReportLine}
use Rattle.trace_text.specs.declared.session.Stop.TheVariants as stops
use Rattle.trace_text.specs.Oracles.{agreed}
use Rattle.trace_text.specs.Reports.{IsPlayed}
use Rattle.trace_text.specs.Session.{Answer, RunsLine, Standing, at_start}

-- what lies ahead at a place: where the rest leads, all leads
abbrev pub IsAhead : List (List ℕ) → ℕ → Standing → Type 0
IsAhead ls place now =
    (new : Standing) (ended : Ended) → Leads (place + 1) now (drop place ls) new ended → Leads 1 at_start ls new ended

front : (ls : List (List ℕ)) (place : ℕ) → place < length ls → drop place ls ≡ get_or ls place [] ∷ drop (place + 1) ls
front [] place h = absurd (omega (arith, h))
front (l ∷ ls) zero h = refl
front (l ∷ ls) (suc place) h = rw add-one (front ls place (omega (arith, h)) ∙ rw add-one refl)

pub at_first : (ls : List (List ℕ)) (now : Standing) → now ≡ at_start → IsAhead ls 0 now
at_first ls now e new ended leads = subst (λ s. Leads 1 s ls new ended) e leads

module _ (ls : List (List ℕ)) (place : ℕ) (old next : Standing) (answer : Answer) (h : place < length ls)
    (played : IsPlayed (RunsLine agreed) (place + 1) (get_or ls place []) old answer next)
    (ahead : IsAhead ls place old) where
  goes : (new : Standing) (ended : Ended)
      → GoesOn (place + 1) answer next (Leads (place + 1 + 1) next (drop (place + 1) ls)) new ended
      → Leads 1 at_start ls new ended
  goes new ended rest =
      ahead new ended
      (subst (λ ms. Leads (place + 1) old ms new ended) (sym (front ls place h)) (answer, next, played, rest))

  pub one_further : (told : List ReportLine) → answer ≡ Ok told → IsAhead ls (place + 1) next
  one_further told e new ended leads =
      goes new ended
      (subst (λ a. GoesOn (place + 1) a next (Leads (place + 1 + 1) next (drop (place + 1) ls)) new ended)
      (sym e) leads)

  pub ends_at_fault : (fault : LineFault)
      → answer ≡ Err (stops.Fault fault)
      → Leads 1 at_start ls next (Fault (place + 1) fault)
  ends_at_fault fault e =
      goes next (Fault (place + 1) fault)
      (subst
      (λ a. GoesOn (place + 1) a next (Leads (place + 1 + 1) next (drop (place + 1) ls)) next
      (Fault (place + 1) fault))
      (sym e) (refl, refl))

all_dropped : (ls : List (List ℕ)) (place : ℕ) → length ls ≤ place → drop place ls ≡ []
all_dropped [] zero h = refl
all_dropped [] (suc place) h = refl
all_dropped (l ∷ ls) zero h = absurd (omega (arith, h))
all_dropped (l ∷ ls) (suc place) h = all_dropped ls place (omega (arith, h))

pub ends_clean : (ls : List (List ℕ)) (place : ℕ) (now : Standing)
    → length ls ≤ place
    → IsAhead ls place now
    → Leads 1 at_start ls now Clean
ends_clean ls place now h ahead =
    ahead now Clean (subst (λ ms. Leads (place + 1) now ms now Clean) (sym (all_dropped ls place h)) (refl, refl))
