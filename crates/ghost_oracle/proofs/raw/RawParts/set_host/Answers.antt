use Rattle.std.proofs.Common.{refl}
use Rattle.ghost_oracle.proofs.PokedParts.{but_host, poked_alike}
use Rattle.ghost_oracle.proofs.raw.RawParts.set_host.Goals as goal

pub returns-clause-poked : goal.returns-clause-poked
returns-clause-poked g c = record {
  poked =
      poked_alike c.args.self.now.shared.host.tree.geometry c.args.self.now.layout.geometry _ _ c.args.path.now
      c.args.word c.args.self.now.host_depth c.set.ensures.poked;
  others = but_host _ _ refl (λ v. refl);
}
