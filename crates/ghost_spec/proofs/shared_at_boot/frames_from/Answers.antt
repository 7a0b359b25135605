use Rattle.ghost_spec.proofs.BootLists.{frames_more}
use Rattle.ghost_spec.proofs.shared_at_boot.frames_from.Goals as goal

pub loop-i-preserved : goal.loop-i-preserved
loop-i-preserved c = rw (c.in_ok-push.ensures.items, c.loop-i.invariant) (frames_more c.args.first c.loop-i.i)
