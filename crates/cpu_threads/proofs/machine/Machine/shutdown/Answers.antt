use Rattle.std.proofs.Common.{◌≡◌, ℕ, [], length, refl, sym, ap, ◌∙◌, subst, arith}
use Rattle.std.specs.Prelude.{List, Option}
use Rattle.std.specs.Vec.{vec_len}
use Rattle.std.proofs.Math.Logic.{∥∥₁_map}
use Rattle.part_types.specs.declared.parts.CpuState.{CpuState}
use Rattle.part_table.specs.Endings.{IsEndFor}
use Rattle.part_table.specs.Slots.{slots_of}
use Rattle.part_table.specs.Passes.{AreHomeFrom, Opened, Pass}
use Rattle.page_state.specs.declared.layout.Layout.{Layout as TheLayout}
use Rattle.hypercalls.specs.declared.parts.Parts.{Parts}
use Rattle.hypercalls.specs.Stands.{HasHistory, kept_of, parts_layout}
use Rattle.world.specs.declared.merge.Histories.{Histories}
use Rattle.world.specs.Merges.{AreLogsOf, IsOfHistory}
use Rattle.cpu_threads.specs.Rooms.{CanHold, HaveRoom}
use Rattle.cpu_threads.proofs.Bounds.{can_hold, room_back}
use Rattle.cpu_threads.specs.Ends.{AreFreshAt, AreOf, HasAll, LacksOne, OfGiven}
use Rattle.cpu_threads.specs.declared.shutdown.ShutdownFault.TheVariants.{Missing, NoMemory}
use Rattle.cpu_threads.specs.Machines.{Machine}
use Rattle.cpu_threads.proofs.Ends.{end_fresh, end_given}
use Rattle.cpu_threads.proofs.Tries.{fresh_theirs}
use Rattle.cpu_threads.proofs.machine.Machine.shutdown.Goals as goal

of_history : {A : Type 0} (p : Parts A) (h : Histories)
    → HasHistory p
    → AreLogsOf h (parts_layout p) (kept_of p)
    → IsOfHistory h
of_history p h has logs =
    record {
      layout = parts_layout p;
      ready = has.ready;
      kept = kept_of p;
      log = has.log;
      history = has.history;
      logs = logs;
    }

differ : Missing ≡ NoMemory → ⊥
differ e = cc

pub all_back-passes-requires-clause-given : goal.all_back-passes-requires-clause-given
all_back-passes-requires-clause-given g c =
    subst (λ (t : Opened). AreOf t c.args.given.items)
    (ap (λ (m : Machine). m.table) (sym c.self.view_is)) c.requires.pass

pub all_back-passes-requires-clause-all : goal.all_back-passes-requires-clause-all
all_back-passes-requires-clause-all g c =
    c.lacks.ensures.all c.if-lacks.false

pub all_back-passes-requires-clause-count : goal.all_back-passes-requires-clause-count
all_back-passes-requires-clause-count g c = c.self.invariant.count

pub ended-world-requires-clause-home : goal.ended-world-requires-clause-home
ended-world-requires-clause-home g c =
    subst (λ (n : ℕ). AreHomeFrom c.self.inside.table.table n 0 c.all_back-passes.result.items)
    (sym c.all_back-passes.ensures.count.1) c.all_back-passes.ensures.home

pub returns-clause-all : goal.returns-clause-all
returns-clause-all g c =
    subst (λ (l : List (Option Pass)). HasAll l c.args.given.items) (ap (λ (m : Machine). m.passes) c.self.view_is)
    (c.lacks.ensures.all c.if-lacks.false)

pub returns-then-lacks-clause-end : goal.returns-then-lacks-clause-end
returns-then-lacks-clause-end g c = tt

pub returns-then-lacks-clause-all : goal.returns-then-lacks-clause-all
returns-then-lacks-clause-all g c = tt

pub returns-then-lacks-clause-missing : goal.returns-then-lacks-clause-missing
returns-then-lacks-clause-missing g c =
    λ _. subst (λ (l : List (Option Pass)). LacksOne l c.args.given.items)
    (ap (λ (m : Machine). m.passes) c.self.view_is) (c.lacks.ensures.missing c.if-lacks.true)

pub returns-then-lacks-clause-no_memory : goal.returns-then-lacks-clause-no_memory
returns-then-lacks-clause-no_memory g c = λ e. absurd (differ e)

pub returns-then-lacks-clause-same : goal.returns-then-lacks-clause-same
returns-then-lacks-clause-same g c = (refl, refl)

pub returns-in_default-clause-end : goal.returns-in_default-clause-end
returns-in_default-clause-end g c = tt

pub returns-in_default-clause-all : goal.returns-in_default-clause-all
returns-in_default-clause-all g c = tt

pub returns-in_default-clause-missing : goal.returns-in_default-clause-missing
returns-in_default-clause-missing g c = λ e. absurd (differ (sym e))

pub returns-in_default-clause-no_memory : goal.returns-in_default-clause-no_memory
returns-in_default-clause-no_memory g c =
    λ _. subst (λ (l : List (Option Pass)). HasAll l c.args.given.items)
    (ap (λ (m : Machine). m.passes) c.self.view_is) (c.lacks.ensures.all c.if-lacks.false)

pub returns-in_default-clause-same : goal.returns-in_default-clause-same
returns-in_default-clause-same g c = (refl, refl)

pub all_back-passes-requires-clause-theirs : goal.all_back-passes-requires-clause-theirs
all_back-passes-requires-clause-theirs g c =
    fresh_theirs c.self.inside.table c.self.inside.passes.items c.self.invariant.fresh

pub ended-world-requires-clause-count : goal.ended-world-requires-clause-count
ended-world-requires-clause-count g c =
    omega (arith, c.all_back-passes.ensures.count.1, c.self.inside.passes.ok.0, c.self.invariant.count)

pub ended-world-requires-clause-found : goal.ended-world-requires-clause-found
ended-world-requires-clause-found g c = c.in-Ok.ensures.found

pub ended-world-requires-clause-cpus : goal.ended-world-requires-clause-cpus
ended-world-requires-clause-cpus g c =
    (c.in-Ok.ensures.cpus.0, omega (arith, c.all_back-passes.ensures.count.1, c.len.ensures, c.in-Ok.ensures.cpus.1))

pub ended-world-requires-clause-guests : goal.ended-world-requires-clause-guests
ended-world-requires-clause-guests g c = c.in-Ok.ensures.guests

pub returns-clause-end : goal.returns-clause-end
returns-clause-end g c =
    subst
    (λ (t : Opened). IsEndFor {A = g.row.A.Denot} t
    (slots_of c.ended-world.result.parts) c.ended-world.result.parts.cpus.items (OfGiven c.args.given.items))
    (ap (λ (m : Machine). m.table) c.self.view_is)
    (end_given c.all_back-passes.result.items c.args.given.items c.all_back-passes.ensures.back
    c.ended-world.ensures.end)

pub returns-clause-fresh : goal.returns-clause-fresh
returns-clause-fresh g c =
    let cpus : List CpuState = c.ended-world.result.parts.cpus.items in
    subst (λ (m : Machine). AreFreshAt m.table m.passes cpus) c.self.view_is
    (end_fresh c.self.inside.table c.self.inside.passes.items c.all_back-passes.result.items cpus
    c.self.invariant.fresh c.all_back-passes.ensures.stays c.ended-world.ensures.end.own)

pub returns-clause-missing : goal.returns-clause-missing
returns-clause-missing g c = tt

pub returns-clause-no_memory : goal.returns-clause-no_memory
returns-clause-no_memory g c = tt

pub returns-clause-same : goal.returns-clause-same
returns-clause-same g c = tt

pub returns-clause-layout : goal.returns-clause-layout
returns-clause-layout g c = c.ended-world.ensures.layout ∙ ap (λ (m : Machine). m.table.layout) c.self.view_is

pub returns-then-lacks-clause-layout : goal.returns-then-lacks-clause-layout
returns-then-lacks-clause-layout g c = tt

pub returns-then-lacks-clause-fresh : goal.returns-then-lacks-clause-fresh
returns-then-lacks-clause-fresh g c = tt

pub returns-in_default-clause-layout : goal.returns-in_default-clause-layout
returns-in_default-clause-layout g c = tt

pub returns-in_default-clause-fresh : goal.returns-in_default-clause-fresh
returns-in_default-clause-fresh g c = tt

pub returns-then-lacks-clause-logs : goal.returns-then-lacks-clause-logs
returns-then-lacks-clause-logs g c = tt

pub returns-in_default-clause-logs : goal.returns-in_default-clause-logs
returns-in_default-clause-logs g c = tt

pub copied-histories-requires : goal.copied-histories-requires
copied-histories-requires g c =
    let w : Parts g.row.A.Denot = c.ended-world.result.parts in
    let k = c.all_back-passes.ensures in
    let long : length c.all_back-passes.result.items ≡ length c.self.inside.passes.items = k.count.0 in
    let count : length c.all_back-passes.result.items ≡ w.layout.config.cpus =
    omega (
      arith,
      long,
      c.self.inside.passes.ok.0,
      c.self.invariant.count,
      ap (λ (l : TheLayout). l.config.cpus) c.ended-world.ensures.layout,
    ) in
    let all : vec_len c.self.inside.passes ≡ length c.all_back-passes.result.items =
    omega (arith, long, c.self.inside.passes.ok.0) in
    let home = subst (λ (n : ℕ). AreHomeFrom c.self.inside.table.table n 0 c.all_back-passes.result.items) all k.home in
    let room =
    room_back c.self.inside.passes.items c.all_back-passes.result.items c.args.given.items _ c.in-Ok-log_rooms.logs
    k.few c.in-Ok-log_rooms.ensures in
    let there : CanHold (kept_of w) w.layout.config.cpus c.in-Ok-log_rooms.logs =
    can_hold w c.self.inside.table.table c.all_back-passes.result.items c.in-Ok-log_rooms.logs count home
    c.ended-world.ensures.end.own c.ended-world.result.history
    (subst (λ (n : ℕ). HaveRoom c.all_back-passes.result.items [] n c.in-Ok-log_rooms.logs) all room) in
    record {
      room = subst
          (λ (q : Parts g.row.A.Denot). CanHold (kept_of q) q.layout.config.cpus c.in-Ok-log_rooms.logs)
          (sym c.parts.ensures) there;
    }

pub returns-clause-logs : goal.returns-clause-logs
returns-clause-logs g c =
    let w : Parts g.row.A.Denot = c.ended-world.result.parts in
    let logs =
    subst
    (λ (q : Parts g.row.A.Denot). AreLogsOf c.copied-histories.result (parts_layout q)
    (kept_of q)) c.parts.ensures c.copied-histories.ensures in
    record {
      logs = logs;
      history = ∥∥₁_map c.ended-world.result.history (λ has. of_history w c.copied-histories.result has logs);
    }

pub returns-in_default-log_rooms-clause-no_memory : goal.returns-in_default-log_rooms-clause-no_memory
returns-in_default-log_rooms-clause-no_memory g c =
    λ _. subst (λ (l : List (Option Pass)). HasAll l c.args.given.items)
    (ap (λ (m : Machine). m.passes) c.self.view_is) (c.lacks.ensures.all c.if-lacks.false)
