use Rattle.std.proofs.Common.{◌≡◌, ◌∙◌, ◌+◌, ◌<◌, ◌++◌, ℕ, List, ap, drop, get_or, length, sym}
use Rattle.std.proofs.lemmas.List.{append_assoc, drop_more}
use Rattle.call_table.specs.declared.row.CallName.{CallName}
use Rattle.trace_cover.specs.declared.rows.Row.{Row}
use Rattle.trace_cover.specs.Rows.{rows_in, rows_of}
use Rattle.trace_cover.proofs.rows.add_rows.Goals as goal

rows_more : (cs : List CallName) (i : ℕ) (d : CallName) (before now all : List Row)
    → i < length cs
    → before ++ rows_in (drop i cs) ≡ all
    → now ≡ before ++ rows_of (get_or cs i d)
    → now ++ rows_in (drop (i + 1) cs) ≡ all
rows_more cs i d before now all h same is =
    ap (λ (t : List Row). t ++ rows_in (drop (i + 1) cs)) is
    ∙ append_assoc before (rows_of (get_or cs i d)) (rows_in (drop (i + 1) cs))
    ∙ ap (λ (xs : List CallName). before ++ rows_in xs) (sym (drop_more cs i d h)) ∙ same

pub loop-call-preserved : goal.loop-call-preserved
loop-call-preserved c =
    rows_more c.args.calls.now c.loop-call.call-index _ c.loop-call.rows.items c.add_rows_of.new.rows.items _
    c.loop-call-test.true c.loop-call.invariant c.in_ok-add_rows_of.ensures
