use Rattle.std.proofs.Common.{arith, ap, refl, rules, length, ◌∙◌}
use Rattle.page_state.specs.Counts.{frame_count}
use Rattle.page_state.specs.Tables.{all_given}
use Rattle.page_state.proofs.Counts.{count_parts}
use Rattle.table_tree.specs.Stocks.{frames_of}
use Rattle.walk_plan.proofs.Given.{take_length}
use Rattle.part_types.specs.declared.shared.SharedPlan.{SharedPlan}
use Rattle.part_types.proofs.Planned.{apart_after, apart_same, came_back, taken, told}
use Rattle.part_types.proofs.Shares.{same_shared, unchanged}
use Rattle.part_types.proofs.parts.SharedPart.reserve.Goals as goal

pub invariant_of-self-in-Break-1 : goal.invariant_of-self-in-Break-1
invariant_of-self-in-Break-1 g c =
    let s = c.args.self.now in
    let stays = c.reserve.ensures.stays in
    record {
      apart = apart_same s.host.tree s.hyp.tree c.reserve.new.self.tree s.hyp.tree s.pool c.reserve.new.pool
          stays.geometry stays.table refl refl c.in_err-host_plan.ensures.left.pool s.apart;
      alike = search (rules);
    }

pub returns-in_err-host_plan-clause-err : goal.returns-in_err-host_plan-clause-err
returns-in_err-host_plan-clause-err g c =
    let left = c.in_err-host_plan.ensures.left in
    unchanged c.args.self.now c.from_residual.result _ c.reserve.ensures.stays
    (record { geometry = refl; table = refl }) left.pool refl (record { host = left.spares; hyp = omega arith })

pub invariant_of-self-in-Ok-1 : goal.invariant_of-self-in-Ok-1
invariant_of-self-in-Ok-1 g c =
    let p : SharedPlan g.row.A.Denot = record { host = c.in_ok-host_plan.host_plan; hyp = c.in-Ok.hyp_plan } in
    record {
      apart =
          apart_after c.args.self.now c.args.need c.reserve.new.self.tree c.reserve-2.new.self.tree c.reserve.new.pool
          c.reserve-2.new.pool p c.in_ok-host_plan.ensures.taken c.in-Ok.ensures.taken c.reserve.ensures.stays
          c.reserve-2.ensures.stays
          (c.reserve-2.ensures.room ∙ c.reserve.ensures.room);
      alike = search (rules);
    }

pub returns-in-Ok-clause-planned : goal.returns-in-Ok-clause-planned
returns-in-Ok-clause-planned g c =
    let s = c.args.self.now in
    let a = c.in_ok-host_plan.ensures in
    let b = c.in-Ok.ensures in
    let p : SharedPlan g.row.A.Denot = record { host = c.in_ok-host_plan.host_plan; hyp = c.in-Ok.hyp_plan } in
    let room = c.reserve-2.ensures.room ∙ c.reserve.ensures.room in
    record {
      ready =
          taken s c.args.need c.reserve.new.self.tree c.reserve-2.new.self.tree c.reserve.new.pool c.reserve-2.new.pool
          p a.taken b.taken c.reserve.ensures.stays c.reserve-2.ensures.stays room c.args.changes.now _ refl refl
          refl c.free.ensures.pool c.requires a.planned b.planned;
      both = record { host = a.planned.change; hyp = b.planned.change };
      whole =
          told s c.args.need c.reserve.new.self.tree c.reserve-2.new.self.tree c.reserve.new.pool c.reserve-2.new.pool
          p a.taken b.taken c.reserve.ensures.stays c.reserve-2.ensures.stays room;
      host_spares = a.taken.spares;
      hyp_spares = b.taken.spares;
    }

pub release-requires-clause-distinct : goal.release-requires-clause-distinct
release-requires-clause-distinct g c f =
    let s = c.args.self.now in
    let a = c.in_ok-host_plan.ensures.taken in
    omega (
      arith,
      ap (frame_count f) a.frames,
      ap (λ q. frame_count f q.frames) c.in-Err.ensures.left.pool,
      ap (frame_count f) a.pool,
      count_parts f c.args.need.host s.pool.frames,
      s.apart.0 f,
    )

pub invariant_of-self-in-Err : goal.invariant_of-self-in-Err
invariant_of-self-in-Err g c =
    let s = c.args.self.now in
    let first = c.reserve.ensures.stays in
    let second = c.reserve-2.ensures.stays in
    let given = c.release.ensures.given in
    let left = c.in-Err.ensures.left.pool in
    let back =
    came_back c.args.need.host s.host.tree c.reserve.new.self.tree c.release.new.self.tree s.pool
    c.reserve.new.pool c.release.new.pool
    (frames_of c.in_ok-host_plan.host_plan.spare.stock) c.free.ensures.pool c.in_ok-host_plan.ensures.taken
    c.reserve.ensures.room
    (given.frames ∙ ap (λ q. all_given (frames_of c.in_ok-host_plan.host_plan.spare.stock) q.frames) left)
    (given.room ∙ ap (λ q. q.room) left) in
    record {
      apart = apart_same s.host.tree s.hyp.tree c.release.new.self.tree c.reserve-2.new.self.tree s.pool
          c.release.new.pool
          (given.stays.geometry ∙ first.geometry)
          (given.stays.table ∙ first.table) second.geometry second.table back s.apart;
      alike = search (rules);
    }

pub returns-in-Err-clause-err : goal.returns-in-Err-clause-err
returns-in-Err-clause-err g c =
    let s = c.args.self.now in
    let first = c.reserve.ensures.stays in
    let given = c.release.ensures.given in
    let left = c.in-Err.ensures.left in
    let taken = c.in_ok-host_plan.ensures.taken in
    let back =
    came_back c.args.need.host s.host.tree c.reserve.new.self.tree c.release.new.self.tree s.pool
    c.reserve.new.pool c.release.new.pool
    (frames_of c.in_ok-host_plan.host_plan.spare.stock) c.free.ensures.pool taken c.reserve.ensures.room
    (given.frames
    ∙ ap (λ q. all_given (frames_of c.in_ok-host_plan.host_plan.spare.stock) q.frames) left.pool)
    (given.room ∙ ap (λ q. q.room) left.pool) in
    record {
      same =
          same_shared s c.release.new.self.tree c.reserve-2.new.self.tree c.release.new.pool.frames
          (record {
            geometry = given.stays.geometry ∙ first.geometry;
            table = given.stays.table
                ∙ first.table;
          }) c.reserve-2.ensures.stays
          (ap (λ q. q.frames) back);
      spares =
          record {
            host = omega (
              arith,
              given.spares,
              taken.spares,
              ap length taken.frames,
              take_length c.args.need.host s.pool.frames taken.enough,
            );
            hyp = left.spares;
          };
    }
