use Rattle.std.proofs.Common.{refl}
use Rattle.ghost_oracle.proofs.PokedParts.{but_hyp, poked_alike}
use Rattle.ghost_oracle.proofs.raw.RawParts.set_hyp.Goals as goal

pub returns-clause-poked : goal.returns-clause-poked
returns-clause-poked g c = record {
  poked =
      poked_alike c.args.self.now.shared.hyp.tree.geometry c.args.self.now.layout.geometry _ _ c.args.path.now
      c.args.word c.args.self.now.hyp_depth c.set.ensures.poked;
  others = but_hyp _ _ refl (λ v. refl);
}
