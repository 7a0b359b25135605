-- What is told of what was found.
use Rattle.std.proofs.Common.{◌≡◌, ℕ, inl, inr, ◌⊎◌, length, subst, Option, Some, None, Ok}
use Rattle.std.specs.Prelude.{MatchOption}
use Rattle.page_state.specs.declared.entry.PageRange.{PageRange}
use Rattle.trace_race.specs.Courses.{Asking}
use Rattle.trace_text.specs.declared.fault.Fault.{Fault}
use Rattle.trace_text.specs.Worlds.{Machine}
use Rattle.trace_outcomes.specs.declared.finding.Found.{Found}
use Rattle.trace_outcomes.specs.declared.finding.Found.TheVariants as founds
use Rattle.trace_outcomes.specs.declared.finding.Outcomes.{Outcomes}
use Rattle.trace_outcomes.specs.declared.telling.Told.{Told}
use Rattle.trace_outcomes.specs.Finds.{Finds, FindsOn}
use Rattle.trace_outcomes.specs.Races.{first_of, raced_of}
use Rattle.trace_outcomes.specs.Texts.{all_text, end_text, too_many_text}
use Rattle.trace_outcomes.specs.Told.{IsBoot, IsNoBoot, ReportsClean, ReportsFault, ReportsOutcomes, ReportsRaced, ReportsUnclean}

-- what is told where a boot is refused, where nothing boots, and where a machine does
on_boot : {T U : Type 0} (F : ℕ → Fault → T → Type 0) (I : T → Type 0) (P : Machine → T → Type 0)
    (G : ℕ → Fault → U → Type 0) (J : U → Type 0) (Q : Machine → U → Type 0) (a : Asking) (t : T) (u : U)
    → ((n : ℕ) (fault : Fault) → F n fault t → G n fault u)
    → (I t → J u)
    → ((m : Machine) → P m t → Q m u)
    → (b : Option ℕ) (k : Option PageRange)
    → MatchOption b (I t) (λ number. MatchOption k (I t) (λ carve. IsNoBoot F a carve number t ⊎ IsBoot P a carve t))
    → MatchOption b (J u) (λ number. MatchOption k (J u) (λ carve. IsNoBoot G a carve number u ⊎ IsBoot Q a carve u))
on_boot F I P G J Q a t u f i p None k h = i h
on_boot F I P G J Q a t u f i p (Some n) None h = i h
on_boot F I P G J Q a t u f i p (Some n) (Some c) (inl x) =
    inl (record { fault = x.fault; refused = x.refused; tells = f n x.fault x.tells })
on_boot F I P G J Q a t u f i p (Some n) (Some c) (inr x) =
    inr (record { machine = x.machine; booted = x.booted; tells = p x.machine x.tells })

fault_number : {m n : ℕ} {f g : Fault} → founds.Fault m f ≡ founds.Fault n g → m ≡ n
fault_number e = let same = e in cc

fault_same : {m n : ℕ} {f g : Fault} → founds.Fault m f ≡ founds.Fault n g → f ≡ g
fault_same e = let same = e in cc

no_fault : {P : Type 0} {n : ℕ} {fault : Fault} → founds.Idle ≡ founds.Fault n fault → P
no_fault e = let same = e in cc

no_idle : {P : Type 0} {n : ℕ} {fault : Fault} → founds.Fault n fault ≡ founds.Idle → P
no_idle e = let same = e in cc

many_fault : {P : Type 0} {k n : ℕ} {fault : Fault} → founds.TooMany k ≡ founds.Fault n fault → P
many_fault e = let same = e in cc

many_idle : {P : Type 0} {k : ℕ} → founds.TooMany k ≡ founds.Idle → P
many_idle e = let same = e in cc

all_fault : {P : Type 0} {o : Outcomes} {n : ℕ} {fault : Fault} → founds.All o ≡ founds.Fault n fault → P
all_fault e = let same = e in cc

all_idle : {P : Type 0} {o : Outcomes} → founds.All o ≡ founds.Idle → P
all_idle e = let same = e in cc

module _ (limit : ℕ) (a : Asking) (t : Told) where
  told_by : (f : Found)
      → ((n : ℕ) (fault : Fault) → f ≡ founds.Fault n fault → ReportsFault n fault t)
      → (f ≡ founds.Idle → ReportsClean (end_text 0 0) t)
      → ((m : Machine) → FindsOn limit a m f → ReportsRaced limit a m t)
      → Finds limit a f → ReportsOutcomes limit (Ok a) t
  told_by f faults idle on h =
      on_boot (λ number fault f. f ≡ founds.Fault number fault) (λ f. f ≡ founds.Idle) (FindsOn limit a) ReportsFault
      (ReportsClean (end_text 0 0)) (ReportsRaced limit a) a f t faults idle on a.boot a.told.carve h

  pub idle_told : Finds limit a founds.Idle → ReportsClean (end_text 0 0) t → ReportsOutcomes limit (Ok a) t
  idle_told h tells = told_by founds.Idle (λ n fault e. no_fault e) (λ _. tells) (λ m no. absurd no) h

  pub fault_reported : (line : ℕ) (fault : Fault)
      → Finds limit a (founds.Fault line fault)
      → ReportsFault line fault t
      → ReportsOutcomes limit (Ok a) t
  fault_reported line fault h tells =
      told_by (founds.Fault line fault)
      (λ n other e. subst (λ f. ReportsFault n f t) (fault_same e)
      (subst (λ n. ReportsFault n fault t) (fault_number e) tells))
      (λ e. no_idle e) (λ m no. absurd no) h

  pub many_told : (made : ℕ)
      → Finds limit a (founds.TooMany made)
      → ReportsUnclean (too_many_text made) t
      → ReportsOutcomes limit (Ok a) t
  many_told made h tells =
      told_by (founds.TooMany made) (λ n fault e. many_fault e) (λ e. many_idle e)
      (λ m more. inr (record { made = made; more = more; tells = tells })) h

  pub all_told : (o : Outcomes)
      → Finds limit a (founds.All o)
      → ReportsClean (all_text (first_of a) o.replies.items (raced_of a) o.found.items) t
      → ReportsOutcomes limit (Ok a) t
  all_told o h tells =
      told_by (founds.All o) (λ n fault e. all_fault e) (λ e. all_idle e)
      (λ m all. inl
      (record {
        found = o.found.items;
        all = all.all;
        tells =
            subst
            (λ rs. ReportsClean (all_text (first_of a) rs (raced_of a) o.found.items) t) all.replies tells;
      })) h

-- as many replies as there are steps before `start`
count_by : (limit : ℕ) (a : Asking) (o : Outcomes) (b : Option ℕ) (k : Option PageRange)
    → MatchOption b (founds.All o ≡ founds.Idle)
    (λ number. MatchOption k (founds.All o ≡ founds.Idle)
    (λ carve. IsNoBoot (λ number fault f. f ≡ founds.Fault number fault) a carve number (founds.All o)
    ⊎ IsBoot (FindsOn limit a) a carve (founds.All o)))
    → length o.replies.items ≡ length (first_of a)
count_by limit a o None k h = all_idle h
count_by limit a o (Some n) None h = all_idle h
count_by limit a o (Some n) (Some c) (inl x) = all_fault x.tells
count_by limit a o (Some n) (Some c) (inr x) = x.tells.count

pub found_count : (limit : ℕ) (a : Asking) (o : Outcomes)
    → Finds limit a (founds.All o)
    → length o.replies.items ≡ length (first_of a)
found_count limit a o h = count_by limit a o a.boot a.told.carve h
