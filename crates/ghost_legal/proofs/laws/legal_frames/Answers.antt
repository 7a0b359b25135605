use Rattle.ghost_legal.proofs.Pointwise.{each-condition, guest-pages, hyp-below}
use Rattle.ghost_legal.proofs.laws.legal_frames.Goals as goal

pub returns : goal.returns
returns c = λ g hs o a k. (each-condition g hs o a k, guest-pages g hs o a k, hyp-below g hs o a k)
