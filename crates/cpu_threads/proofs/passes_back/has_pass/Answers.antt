use Rattle.std.proofs.Common.{rules, ◌≡◌, ◌≢◌, ℕ, ◌<◌, length, arith, sym, ap, ◌∙◌, subst}
use Rattle.std.specs.Prelude.{List, slice_get}
use mathlib.Core.Logic.{dite}
use native.Mathlib.Decide.{ℕ_discrete}
use Rattle.part_table.specs.Passes.{Pass}
use Rattle.part_table.proofs.Lists.{from}
use Rattle.cpu_threads.proofs.Ends.{get_of_or, get_bound}
use Rattle.cpu_threads.proofs.passes_back.has_pass.Goals as goal

pub returns-then-cpu-clause-there : goal.returns-then-cpu-clause-there
returns-then-cpu-clause-there g c _ =
    let ps : List Pass = c.args.given.now.items in
    let n : ℕ = c.loop-j.j in
    let o : Pass = c.index.result.now in
    let inside : n < length ps = search rules in
    let same : o.knows.cpu ≡ c.args.cpu = search rules in
    record { place = n; pass = o; there = get_of_or ps n o inside c.index.ensures; cpu = same }

pub loop-j-preserved : goal.loop-j-preserved
loop-j-preserved g c j p lt e =
    let ps : List Pass = c.args.given.now.items in
    let n : ℕ = c.loop-j.j in
    let o : Pass = c.index.result.now in
    let inside : n < length ps = search rules in
    let other : o.knows.cpu ≢ c.args.cpu = search rules in
    dite (ℕ_discrete j n)
    (λ is. let same : o ≡ p =
    ap (from o) (sym (get_of_or ps n o inside c.index.ensures) ∙ (ap (slice_get ps) (sym is) ∙ e)) in
    subst (λ (q : Pass). q.knows.cpu ≢ c.args.cpu) same other)
    (λ ne. c.loop-j.invariant j p (omega arith) e)

pub returns-clause-none : goal.returns-clause-none
returns-clause-none g c _ j p e =
    let ps : List Pass = c.args.given.now.items in
    let done : length ps ≡ c.loop-j.j = search rules in
    let lt = get_bound ps j p e in
    c.loop-j.invariant j p (omega arith) e
