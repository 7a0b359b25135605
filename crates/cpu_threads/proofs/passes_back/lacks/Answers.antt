use Rattle.std.proofs.Common.{◌≡◌, ℕ, ◌<◌, length, ap, ◌∙◌, not, true≢false, arith}
use Rattle.std.specs.Prelude.{Option, List, Some, None}
use Rattle.std.proofs.lemmas.Bool.{false≢true}
use Rattle.part_table.specs.Passes.{Pass}
use Rattle.cpu_threads.specs.Ends.{IsOut, IsNotGiven}
use Rattle.cpu_threads.proofs.Ends.{get_of_or, no_some}
use Rattle.cpu_threads.proofs.passes_back.lacks.Goals as goal

pub returns-then-not-has_pass-clause-missing : goal.returns-then-not-has_pass-clause-missing
returns-then-not-has_pass-clause-missing g c _ =
    let ps : List (Option Pass) = c.args.passes.now.items in
    let n : ℕ = c.loop-cpu.cpu in
    let o : Option Pass = c.index.result.now in
    let inside : n < length ps = omega (arith, c.loop-cpu-test.true, c.len-cpu-end.ensures, c.args.passes.now.ok.0) in
    let gone : o ≡ None = no_some o (c.is_none.ensures ∙ ap not c.if-is_none.true) in
    let out : IsOut ps n = get_of_or ps n o inside c.index.ensures ∙ ap (λ (z : Option Pass). Some z) gone in
    let lacking : IsNotGiven c.args.given.now.items n = c.has_pass.ensures.none c.if-not-has_pass.true in
    record { cpu = n; below = inside; out = out; none = lacking }

pub returns-then-not-has_pass-clause-all : goal.returns-then-not-has_pass-clause-all
returns-then-not-has_pass-clause-all g c e = absurd (true≢false e)

pub loop-cpu-init : goal.loop-cpu-init
loop-cpu-init g c k less _ = absurd (omega (arith, less))

pub returns-clause-missing : goal.returns-clause-missing
returns-clause-missing g c e = absurd (false≢true e)

pub returns-clause-all : goal.returns-clause-all
returns-clause-all g c _ k less out =
    c.loop-cpu.invariant k
    (omega (arith, less, c.loop-cpu-test.false, c.len-cpu-end.ensures, c.args.passes.now.ok.0)) out
