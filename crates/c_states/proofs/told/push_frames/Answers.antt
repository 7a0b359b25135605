use Rattle.std.proofs.Common.{ap, ◌∙◌}
use Rattle.std.specs.Prelude.{◌==◌}
use Rattle.c_states.specs.Lists.{frames_from_c, frame_from_c}
use Rattle.c_states.proofs.Telling.{list_more}
use Rattle.c_states.specs.Known.{is_frame}
use Rattle.c_states.proofs.ToldKnown.{frame_known, known_more}
use Rattle.c_states.proofs.told.push_frames.Goals as goal

pub loop-i-preserved : goal.loop-i-preserved
loop-i-preserved c = (
  λ t.
      ap (λ xs. frames_from_c xs t) c.in_ok-push.ensures.items
      ∙ list_more (frame_from_c t)
      (c.args.pool == t) c.args.told.now.items c.loop-i.told.items c.frame_to_c.result c.args.frames.now c.loop-i.i
      _ c.loop-i-test.true
      (c.loop-i.invariant.0 t) (c.frame_to_c.ensures t),
  λ some low known. known_more is_frame c.loop-i.told.items c.push.new.self.items c.frame_to_c.result
      c.in_ok-push.ensures.items
      (c.loop-i.invariant.1 some low known)
      (frame_known c.args.pool c.frame_to_c.result _ c.frame_to_c.ensures some low),
)
