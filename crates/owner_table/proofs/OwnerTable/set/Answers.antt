use Rattle.owner_table.specs.Room.{frame_limit}
use Rattle.owner_table.specs.Rows.{HasRows}
use Rattle.owner_table.proofs.Frames.{few_enough, room-kept, frames-kept}
use Rattle.owner_table.proofs.OwnerTable.set.Goals as goal

pub set-requires-clause-room : goal.set-requires-clause-room
set-requires-clause-room c = few_enough c.self.inside.rows.runs c.self.inside.rows.room frame_limit c.self.invariant

pub invariant_of-self : goal.invariant_of-self
invariant_of-self c =
    let known : HasRows c.self.inside.rows.runs c.args.frames = rw c.self.view_is c.requires.known in
    room-kept c.self.inside.rows.runs c.set.new.self.runs c.self.inside.rows.room c.set.new.self.room frame_limit
    c.args.frames c.args.row known c.self.invariant c.set.ensures.map c.set.ensures.coarsest c.set.ensures.room

pub returns-clause-map : goal.returns-clause-map
returns-clause-map c = rw (← c.self.view_is) c.set.ensures.map

pub returns-clause-same : goal.returns-clause-same
returns-clause-same c =
    frames-kept c.args.self.now c.set.new.self.runs c.args.frames c.args.row c.requires.known (returns-clause-map c)
