-- What a call that ends a replay early tells of the failures of source and sink.
use Rattle.std.proofs.Common.{◌≡◌, ℕ, ◌∙◌, ap, subst, sym, Result, Ok, Err, IfOk}
use Rattle.std.specs.Prelude.{IsErrAnd}
use Rattle.trace_reader.specs.Devices.{ReportsRead, one_more}
use Rattle.trace_reader.specs.declared.outcome.EngineFault.{EngineFault}
use Rattle.trace_reader.specs.declared.outcome.EngineFault.TheVariants.{Read, Write, NoMemory}
use Rattle.trace_text.specs.Failures.{CountsReads, CountsWrites, ReportsWrite}

-- what fails is none that is well
pub failed : {X E : Type 0} (P : X → Type 0) (Q : E → Type 0) (r : Result X E) → IsErrAnd r Q → IfOk r P
failed P Q (Ok x) h = absurd h
failed P Q (Err e) h = tt

module _ {X : Type 0} where
  -- a fault is no report
  pub no_report : (P : X → Type 0) (Q : EngineFault → Type 0) (r : Result X EngineFault) → IsErrAnd r Q → IfOk r P
  no_report P Q (Ok x) h = absurd h
  no_report P Q (Err e) h = tt

  -- by what a write told
  pub reads_same : (r : Result X EngineFault) (s0 s1 w0 w1 : ℕ) → s1 ≡ s0 → ReportsWrite w0 w1 r → CountsReads s0 s1 r
  reads_same (Ok x) s0 s1 w0 w1 e h = e
  reads_same (Err Read) s0 s1 w0 w1 e h = absurd h
  reads_same (Err Write) s0 s1 w0 w1 e h = e
  reads_same (Err NoMemory) s0 s1 w0 w1 e h = e

  pub writes_told : (r : Result X EngineFault) (w0 w1 w2 : ℕ) → w1 ≡ w0 → ReportsWrite w1 w2 r → CountsWrites w0 w2 r
  writes_told (Ok x) w0 w1 w2 e h = h ∙ e
  writes_told (Err Read) w0 w1 w2 e h = absurd h
  writes_told (Err Write) w0 w1 w2 e h = h ∙ ap one_more e
  writes_told (Err NoMemory) w0 w1 w2 e h = h ∙ e

  -- and where its fault is passed on
  told_again : (r : Result X EngineFault) (e : EngineFault) (w0 w1 : ℕ)
      → IsErrAnd r (λ f. f ≡ e)
      → ReportsWrite {X = X} w0 w1 (Err e)
      → ReportsWrite w0 w1 r
  told_again (Ok x) e w0 w1 h t = absurd h
  told_again (Err Read) e w0 w1 h t = subst (λ f. ReportsWrite {X = X} w0 w1 (Err f)) (sym h) t
  told_again (Err Write) e w0 w1 h t = subst (λ f. ReportsWrite {X = X} w0 w1 (Err f)) (sym h) t
  told_again (Err NoMemory) e w0 w1 h t = subst (λ f. ReportsWrite {X = X} w0 w1 (Err f)) (sym h) t

  pub reads_passed : (r : Result X EngineFault) (e : EngineFault) (s0 s1 w0 w1 : ℕ)
      → IsErrAnd r (λ f. f ≡ e)
      → s1 ≡ s0
      → ReportsWrite {X = X} w0 w1 (Err e)
      → CountsReads s0 s1 r
  reads_passed r e s0 s1 w0 w1 h same t = reads_same r s0 s1 w0 w1 same (told_again r e w0 w1 h t)

  pub writes_passed : (r : Result X EngineFault) (e : EngineFault) (w0 w1 w2 : ℕ)
      → IsErrAnd r (λ f. f ≡ e)
      → w1 ≡ w0
      → ReportsWrite {X = X} w1 w2 (Err e)
      → CountsWrites w0 w2 r
  writes_passed r e w0 w1 w2 h same t = writes_told r w0 w1 w2 same (told_again r e w1 w2 h t)

  -- by what a read told, where its fault is passed on
  pub read_failed : (r : Result X EngineFault) (e : EngineFault) (s0 s1 s2 : ℕ)
      → IsErrAnd r (λ f. f ≡ e)
      → s1 ≡ s0
      → ReportsRead {X = X} s1 s2 (Err e)
      → CountsReads s0 s2 r
  read_failed (Ok x) e s0 s1 s2 h same t = absurd h
  read_failed (Err Read) e s0 s1 s2 h same t =
      subst (λ f. ReportsRead {X = X} s1 s2 (Err f)) (sym h) t ∙ ap one_more same
  read_failed (Err Write) e s0 s1 s2 h same t = absurd (subst (λ f. ReportsRead {X = X} s1 s2 (Err f)) (sym h) t)
  read_failed (Err NoMemory) e s0 s1 s2 h same t = subst (λ f. ReportsRead {X = X} s1 s2 (Err f)) (sym h) t ∙ same

  pub writes_none : (r : Result X EngineFault) (e : EngineFault) (s1 s2 w0 w1 : ℕ)
      → IsErrAnd r (λ f. f ≡ e)
      → w1 ≡ w0
      → ReportsRead {X = X} s1 s2 (Err e)
      → CountsWrites w0 w1 r
  writes_none (Ok x) e s1 s2 w0 w1 h same t = absurd h
  writes_none (Err Read) e s1 s2 w0 w1 h same t = same
  writes_none (Err Write) e s1 s2 w0 w1 h same t = absurd (subst (λ f. ReportsRead {X = X} s1 s2 (Err f)) (sym h) t)
  writes_none (Err NoMemory) e s1 s2 w0 w1 h same t = same
