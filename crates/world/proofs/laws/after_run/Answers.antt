use Rattle.world.proofs.HeadlineLaws.{begins_right, refusals_leave, step_keeps_frames, step_keeps_hand, step_keeps_held}
use Rattle.world.proofs.laws.after_run.Goals as goal

pub returns : goal.returns
returns g c =
    record {
      refused = refusals_leave;
      frames = step_keeps_frames;
      held = step_keeps_held;
      hand = step_keeps_hand;
      begins = begins_right;
    }
