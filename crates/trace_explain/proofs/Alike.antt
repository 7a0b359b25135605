-- One run has one explanation.
use Rattle.std.proofs.Common.{◌≡◌, ◌∙◌, ℕ, ◌+◌, Bool, true, false, List, [], ◌∷◌, ◌++◌, Option, Some, None, refl, sym, ap, subst, Ok, Err}
use Rattle.trace_reader.specs.declared.outcome.Outcome.{Outcome}
use Rattle.trace_text.specs.declared.fault.Fault.{Fault}
use Rattle.trace_text.specs.declared.report.ReportLine.{ReportLine}
use Rattle.trace_text.specs.declared.session.Stop.TheVariants as stops
use Rattle.trace_text.specs.Session.{Answer, Standing}
use Rattle.state_changes.proofs.Once.{all_once}
use Rattle.state_changes.specs.Together.{IsOnce}
use Rattle.call_table.specs.declared.step.Step.{Step}
use Rattle.trace_explain.specs.Explained.{Explains, IsBlock, ReportsStep, explained, faulty, is_shown, step_at}
use Rattle.trace_text.specs.Worlds.{Machine}
use Rattle.trace_explain.specs.Laws.{OneText, run_of}

-- a line that has a fault, and one that reports lines
abbrev pub at_fault : Fault → Standing → Answer × Standing
at_fault fault new = (Err (stops.Fault fault), new)

abbrev pub at_lines : List ReportLine → Standing → Answer × Standing
at_lines told new = (Ok told, new)

same_head : (x y : Answer × Standing) (xs ys : List (Answer × Standing)) → x ∷ xs ≡ y ∷ ys → x ≡ y
same_head x y xs ys e = cc

same_tail : (x y : Answer × Standing) (xs ys : List (Answer × Standing)) → x ∷ xs ≡ y ∷ ys → xs ≡ ys
same_tail x y xs ys e = cc

faults_same : (a b : Answer) (fault other : Fault)
    → a ≡ Err (stops.Fault fault)
    → b ≡ Err (stops.Fault other)
    → a ≡ b
    → fault ≡ other
faults_same a b fault other x y e = cc

lines_same : (a b : Answer) (told other : List ReportLine) → a ≡ Ok told → b ≡ Ok other → a ≡ b → told ≡ other
lines_same a b told other x y e = cc

same_fault : (fault other : Fault) (new now : Standing) → at_fault fault new ≡ at_fault other now → fault ≡ other
same_fault fault other new now e = faults_same _ _ fault other refl refl (ap (λ (x : Answer × Standing). x.0) e)

same_lines : (told other : List ReportLine) (new now : Standing) → at_lines told new ≡ at_lines other now → told ≡ other
same_lines told other new now e = lines_same _ _ told other refl refl (ap (λ (x : Answer × Standing). x.0) e)

same_standing : (told other : List ReportLine) (new now : Standing) → at_lines told new ≡ at_lines other now → new ≡ now
same_standing told other new now e = ap (λ (x : Answer × Standing). x.1) e

not_both : (fault : Fault) (told : List ReportLine) (new now : Standing) → at_fault fault new ≡ at_lines told now → ⊥
not_both fault told new now e = let h : Err (stops.Fault fault) ≡ Ok told = ap (λ (x : Answer × Standing). x.0) e in cc

step_once : (old : Option Machine) (asked : Option (ℕ × Step)) (new : Option Machine)
    → IsOnce (ReportsStep old asked new)
step_once None asked new a b p q = p ∙ sym q
step_once (Some m) None new a b p q = p ∙ sym q
step_once (Some m) (Some (cpu, step)) None a b p q = p ∙ sym q
step_once (Some m) (Some (cpu, step)) (Some n) a b p q = all_once m.state.contents n.state.contents cpu a b p q

block_once : (shown : Bool) (line : List ℕ) (old : Standing) (reported : List ReportLine) (new : Standing)
    → IsOnce (IsBlock shown line old reported new)
block_once false line old reported new a b p q = p ∙ sym q
block_once true line old reported new a b (x, p, e) (y, q, f) =
    e ∙ ap (λ t. explained line old reported new ++ t) (step_once old.machine (step_at old line) new.machine x y p q)
    ∙ sym f

module _ (only : Option ℕ) (name : List ℕ) (all : List (List ℕ)) where
  alike : (lines : List (List ℕ)) (place : ℕ) (old was : Standing) (text other : List ℕ) (outcome end : Outcome)
      (e : Explains only name all place old lines text outcome) (f : Explains only name all place was lines other end)
      → old ≡ was
      → run_of only name all place old lines text outcome e ≡ run_of only name all place was lines other end f
      → (text ≡ other) × (outcome ≡ end)
  alike [] place old was text other outcome end e f from same = (e.0 ∙ sym f.0, e.1 ∙ sym f.1)
  alike (line ∷ rest) place old was text other outcome end (Err stops.NoMemory, new, played, said) f from same =
      absurd said
  alike (line ∷ rest) place old was text other outcome end (Err (stops.Fault fault), new, played, said)
      (Err stops.NoMemory, now, done, told) from same = absurd told
  alike (line ∷ rest) place old was text other outcome end (Err (stops.Fault fault), new, played, said)
      (Err (stops.Fault again), now, done, told) from same =
      let k = same_fault fault again new now (same_head (at_fault fault new) (at_fault again now) [] [] same) in
      (said.0 ∙ ap (λ x. faulty name all place line x) k ∙ sym told.0, said.1 ∙ sym told.1)
  alike (line ∷ rest) place old was text other outcome end (Err (stops.Fault fault), new, played, said)
      (Ok reported, now, done, (piece, more, made, is, follows)) from same =
      absurd (not_both fault reported new now (same_head (at_fault fault new) (at_lines reported now) _ _ same))
  alike (line ∷ rest) place old was text other outcome end (Ok reported, new, played, (block, more, made, is, follows))
      (Err stops.NoMemory, now, done, told) from same = absurd told
  alike (line ∷ rest) place old was text other outcome end (Ok reported, new, played, (block, more, made, is, follows))
      (Err (stops.Fault fault), now, done, told) from same =
      absurd (not_both fault reported now new (sym (same_head (at_lines reported new) (at_fault fault now) _ _ same)))
  alike (line ∷ rest) place old was text other outcome end (Ok reported, new, played, (block, more, made, is, follows))
      (Ok again, now, done, (piece, left, built, so, leads)) from same =
      let h = same_head (at_lines reported new) (at_lines again now) _ _ same in
      let t = same_lines reported again new now h in
      let n = same_standing reported again new now h in
      let there : IsBlock (is_shown only (place + 1)) line old reported new piece =
      subst (λ (x : Standing). IsBlock (is_shown only (place + 1)) line x reported new piece) (sym from)
      (subst (λ (x : List ReportLine). IsBlock (is_shown only (place + 1)) line was x new piece) (sym t)
      (subst (λ (x : Standing). IsBlock (is_shown only (place + 1)) line was again x piece) (sym n) built)) in
      let one : block ≡ piece = block_once (is_shown only (place + 1)) line old reported new block piece made there in
      let rest_is =
      alike rest (place + 1) new now more left outcome end follows leads n
      (same_tail (at_lines reported new) (at_lines again now) _ _ same) in
      (is ∙ ap (λ x. x ++ more) one ∙ ap (λ x. piece ++ x) rest_is.0 ∙ sym so, rest_is.1)

pub one_text : OneText
one_text only name all place old lines text other outcome end e f same =
    alike only name all lines place old old text other outcome end e f refl same
