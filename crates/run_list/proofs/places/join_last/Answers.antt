use Rattle.std.proofs.Common.{◌≡◌, ◌∙◌, ◌-◌, ℕ, List, suc, false, true, get_or, length, arith, sym, subst}
use Rattle.std.proofs.lemmas.List.{get_or_default}
use Rattle.run_list.specs.declared.run.Run.{Run}
use Rattle.run_list.specs.Parts.{continues}
use Rattle.run_list.proofs.Behind.{first_behind, last_behind, last_longer}
use Rattle.run_list.proofs.Found.{reach_read}
use Rattle.run_list.proofs.places.join_last.Goals as goal
use Rattle.run_list.proofs.places.join_last.Goals.{else-last-gt0-via-then-last-gt0+else-is_continued_by, else-last-gt0-via-else-last-gt0}

same_place : {V : Type 0} (rs : List (Run V)) (n : ℕ) (a b : Run V)
    → length rs ≡ suc n
    → a ≡ get_or rs n a
    → a ≡ get_or rs n b
same_place rs n a b h e = e ∙ get_or_default rs n a b (omega (arith, h))

pub is_continued_by-requires : goal.is_continued_by-requires
is_continued_by-requires g c =
    reach_read g.V.Advance.CanAdvance
    (c.len-last.result - 1) c.args.runs.now.items c.index.result.now c.index.ensures c.requires.reach
    (omega (arith, c.args.runs.now.ok.0, c.len-last.ensures, c.if-last-gt0.true))

pub returns-then-is_continued_by-clause-joined : goal.returns-then-is_continued_by-clause-joined
returns-then-is_continued_by-clause-joined g c = λ told.
    let rs = c.args.runs.now.items in
    let x = c.index.result.now in
    let y = c.args.run in
    let some : length rs ≡ suc (c.len-last.result - 1) =
    omega (arith, c.args.runs.now.ok.0, c.len-last.ensures, c.if-last-gt0.true) in
    let goes : continues g.V.Advance.advance g.V.PartialEq.eq x y ≡ true =
    sym c.is_continued_by.ensures ∙ c.if-is_continued_by.true in
    let long =
    last_longer g.V.Advance.advance g.V.Advance.CanAdvance g.V.PartialEq.eq g.met.V.Advance.laws rs
    (c.len-last.result - 1) x y some
    (subst (λ r. continues g.V.Advance.advance g.V.PartialEq.eq r y ≡ true) c.index.ensures goes) in
    let again : c.index-then-is_continued_by.result.now ≡ get_or rs (c.len-last.result - 1) x =
    same_place rs
    (c.len-last.result - 1) c.index-then-is_continued_by.result.now x some c.index-then-is_continued_by.ensures
    in
    rw (c.longer_by.ensures, again) long

pub returns-clause-apart : goal.returns-clause-apart
returns-clause-apart g c = λ told.
    let rs = c.args.runs.now.items in
    let y = c.args.run in
    let old : length rs ≡ c.len-last.result = omega (arith, c.args.runs.now.ok.0, c.len-last.ensures) in
    elim c.else-last-gt0.branch [
      | else-last-gt0-via-then-last-gt0+else-is_continued_by w ↦ last_behind g.V.Advance.advance g.V.Advance.CanAdvance
          g.V.PartialEq.eq g.met.V.Advance.laws rs
          (c.len-last.result - 1) w.index.result.now y (omega (arith, old, w.if-last-gt0.true))
          (subst (λ r. continues g.V.Advance.advance g.V.PartialEq.eq r y ≡ false) w.index.ensures
          (sym w.is_continued_by.ensures ∙ w.if-is_continued_by.false))
      | else-last-gt0-via-else-last-gt0 w ↦ first_behind g.V.Advance.advance g.V.Advance.CanAdvance g.V.PartialEq.eq
          g.met.V.Advance.laws rs y
          (omega (arith, old, w.if-last-gt0.false))
    ]
