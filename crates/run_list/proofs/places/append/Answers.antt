use Rattle.std.proofs.Common.{◌≡◌, ◌∙◌, ◌+◌, ◌++◌, ◌∷◌, [], Option, Some, None, length, arith, refl, sym, ap}
use Rattle.run_list.specs.declared.run.Run.{Run}
use Rattle.run_list.specs.Parts.{glue, one_run}
use Rattle.run_list.proofs.Behind.{last_put}
use Rattle.run_list.proofs.Glue.{glue_none}
use Rattle.run_list.proofs.places.append.Goals as goal

no_run : {V : Type 0} (run : Option (Run V)) → ((x : Run V) → run ≡ Some x → ⊥) → [] ≡ one_run run
no_run None n = refl
no_run (Some x) n = absurd (n x refl)

pub returns-in_default-clause-items : goal.returns-in_default-clause-items
returns-in_default-clause-items g c =
    sym
    (glue_none g.V.Advance.advance g.V.Advance.CanAdvance g.V.PartialEq.eq g.met.V.Advance.laws
    c.args.runs.now.items)
    ∙ ap (λ us. glue g.V.Advance.advance g.V.PartialEq.eq c.args.runs.now.items us)
    (no_run c.args.run c.in_default.not-Some)

pub returns-then-join_last-clause-items : goal.returns-then-join_last-clause-items
returns-then-join_last-clause-items g c = rw c.in-Some.is (c.join_last.ensures.joined c.if-join_last.true)

pub returns-clause-items : goal.returns-clause-items
returns-clause-items g c =
    let rs = c.join_last.new.runs.items in
    let y = c.in-Some.run' in
    let old : length rs ≡ c.len-last.result = omega (arith, c.join_last.new.runs.ok.0, c.len-last.ensures) in
    let new : length c.insert_at.new.runs.items ≡ c.len-last.result + 1 =
    omega (arith, c.insert_at.new.runs.ok.0, c.insert_at.ensures.len) in
    let put : c.insert_at.new.runs.items ≡ rs ++ y ∷ [] =
    last_put rs c.insert_at.new.runs.items _ c.len-last.result old new c.insert_at.ensures.front in
    rw c.in-Some.is
    (put ∙ ap (λ us. us ++ y ∷ []) (c.join_last.ensures.stays c.if-join_last.false)
    ∙ c.join_last.ensures.apart c.if-join_last.false)
