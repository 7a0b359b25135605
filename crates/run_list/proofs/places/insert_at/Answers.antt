use Rattle.std.proofs.Common.{◌≤◌, length, arith}
use Rattle.run_list.proofs.Gaps.{insert_front, insert_back}
use Rattle.run_list.proofs.places.insert_at.Goals as goal

pub returns-clause-front : goal.returns-clause-front
returns-clause-front g c =
    let within : c.args.at ≤ length c.args.runs.now.items = omega (arith, c.args.runs.now.ok.0) in
    insert_front c.args.runs.now.items c.args.at c.args.run within c.insert.new.self.items
    (rw c.unwrap.ensures at c.insert.ensures.items)

pub returns-clause-back : goal.returns-clause-back
returns-clause-back g c =
    let within : c.args.at ≤ length c.args.runs.now.items = omega (arith, c.args.runs.now.ok.0) in
    insert_back c.args.runs.now.items c.args.at c.args.run within c.insert.new.self.items
    (rw c.unwrap.ensures at c.insert.ensures.items)
