use Rattle.std.proofs.Common.{◌≡◌, ◌≤◌, length, take, vec_len}
use Rattle.std.specs.Vec.{vec_capacity}
use Rattle.world.proofs.Headline.{Made}
use Rattle.world.proofs.World.run.Given as goal

abbrev pub invariant-loop-asked : goal.invariant-loop-asked
invariant-loop-asked g l = record {
  made : Made l.initial.self.parts (take l.asked-index l.steps) l.replies.items l.self.parts;
  layout : l.self.parts.layout ≡ l.initial.self.parts.layout;
  count : vec_len l.replies ≡ l.asked-index;
  room : length l.steps ≤ vec_capacity l.replies;
}
