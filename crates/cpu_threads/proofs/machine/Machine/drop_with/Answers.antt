use Rattle.std.proofs.Common.{ℕ, ◌<◌, sym, ap, subst, arith}
use Rattle.part_table.specs.Passes.{AreHomeFrom, Opened}
use Rattle.cpu_threads.specs.Ends.{AreOf, AllGiven, HasEndOf}
use Rattle.cpu_threads.specs.Machines.{Machine}
use Rattle.cpu_threads.proofs.Ends.{end_fresh, end_given}
use Rattle.cpu_threads.proofs.Tries.{fresh_theirs}
use Rattle.cpu_threads.proofs.machine.Machine.drop_with.Goals as goal

pub all_back-passes-requires-clause-given : goal.all_back-passes-requires-clause-given
all_back-passes-requires-clause-given g c =
    subst (λ (t : Opened). AreOf t c.args.given.items)
    (ap (λ (m : Machine). m.table) (sym c.self.view_is)) c.requires.pass

pub all_back-passes-requires-clause-all : goal.all_back-passes-requires-clause-all
all_back-passes-requires-clause-all g c n less out =
    let all : AllGiven c.self.inside.table.layout c.args.given.items =
    subst (λ (m : Machine). AllGiven m.table.layout c.args.given.items) (sym c.self.view_is) c.requires.all in
    all n (subst (λ k. n < k) c.self.invariant.count less)

pub all_back-passes-requires-clause-count : goal.all_back-passes-requires-clause-count
all_back-passes-requires-clause-count g c = c.self.invariant.count

pub all_back-passes-requires-clause-theirs : goal.all_back-passes-requires-clause-theirs
all_back-passes-requires-clause-theirs g c =
    fresh_theirs c.self.inside.table c.self.inside.passes.items c.self.invariant.fresh

pub drop_with-requires-clause-count : goal.drop_with-requires-clause-count
drop_with-requires-clause-count g c =
    omega (arith, c.all_back-passes.ensures.count.1, c.self.inside.passes.ok.0, c.self.invariant.count)

pub drop_with-requires-clause-home : goal.drop_with-requires-clause-home
drop_with-requires-clause-home g c =
    subst (λ (n : ℕ). AreHomeFrom c.self.inside.table.table n 0 c.all_back-passes.result.items)
    (sym c.all_back-passes.ensures.count.1) c.all_back-passes.ensures.home

pub returns : goal.returns
returns g c =
    let b = c.all_back-passes.ensures in
    let e = c.drop_with.ensures in
    subst (λ (m : Machine). HasEndOf g.row.A.Denot m.table m.passes c.args.given.items) c.self.view_is (
      e.0,
      e.1,
      end_given c.all_back-passes.result.items c.args.given.items b.back e.2,
      end_fresh c.self.inside.table c.self.inside.passes.items c.all_back-passes.result.items e.1
          c.self.invariant.fresh b.stays e.2.own,
    )
