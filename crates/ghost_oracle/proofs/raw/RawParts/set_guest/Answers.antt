use Rattle.std.proofs.Common.{refl, ap}
use mathlib.Core.Path.{fun_ext}
use Rattle.ghost_oracle.specs.Poked.{raw_beside_of}
use Rattle.ghost_oracle.proofs.PokedParts.{but_guest}
use Rattle.ghost_oracle.proofs.raw.RawParts.set_guest.Goals as goal

pub returns-clause-poked : goal.returns-clause-poked
returns-clause-poked g c = record {
  poked =
      c.set_place.ensures.poked c.args.self.now.layout.geometry
      (c.args.self.now.guest_depth, c.args.self.now.poked_depth);
  others = but_guest _ _ c.args.slot refl refl (λ w n. c.set_place.ensures.others w n);
}

pub returns-clause-beside : goal.returns-clause-beside
returns-clause-beside g c =
    ap (λ f. record (raw_beside_of c.args.self.now) { guest = f }) (fun_ext c.set_place.ensures.beside)

pub invariant_of-self-clause-guest_depth : goal.invariant_of-self-clause-guest_depth
invariant_of-self-clause-guest_depth g c =
    (c.set_place.ensures.depth c.args.self.now.layout.geometry
    (c.args.self.now.guest_depth, c.args.self.now.poked_depth)).0

pub invariant_of-self-clause-poked_depth : goal.invariant_of-self-clause-poked_depth
invariant_of-self-clause-poked_depth g c =
    (c.set_place.ensures.depth c.args.self.now.layout.geometry
    (c.args.self.now.guest_depth, c.args.self.now.poked_depth)).1
