use Rattle.std.proofs.Common.{◌≡◌, ◌∙◌, Option, All, IfSome, ap, arith, length, refl, subst, sym}
use Rattle.page_state.specs.Geometries.{levels_below}
use Rattle.part_types.specs.MemoryRows.{HasMemoryRows}
use Rattle.ghost_oracle.specs.declared.raw.RawGuest.{RawGuest}
use Rattle.ghost_oracle.specs.Poked.{guest_seen, guest_beside}
use Rattle.ghost_oracle.proofs.PokedParts.{all_trees, none_length, unpoked_beside, unpoked_depth, unpoked_seen}
use Rattle.ghost_oracle.proofs.pokes.raw_parts.Goals as goal

pub invariant_of-result : goal.invariant_of-result
invariant_of-result g c = record {
  slots = c.args.parts.slots;
  places = let n : length c.args.poked.items ≡ 64 = none_length c.args.poked.items 64 c.requires.nothing in
      omega (arith, n, c.args.poked.ok.0);
  counted = c.args.parts.counted;
  memory_rows =
      subst (HasMemoryRows c.args.parts.layout.map)
      (sym (ap (λ x. x.rows) c.raw_shared.ensures.beside)) c.args.parts.rows;
  host_depth = c.raw_shared.ensures.host_depth ∙ c.args.parts.depth;
  hyp_depth = c.raw_shared.ensures.hyp_depth ∙ c.args.parts.depth;
  guest_depth = c.args.parts.guest_depth;
  poked_depth =
      subst
      (λ ps. All
      (λ (r : Option (RawGuest g.row.A.Denot)). IfSome r
      (λ t. levels_below t.map.tree.geometry ≡ levels_below c.args.parts.layout.geometry)) ps)
      (sym c.requires.nothing) (unpoked_depth 64 (levels_below c.args.parts.layout.geometry));
}

pub returns-clause-trees : goal.returns-clause-trees
returns-clause-trees g c =
    all_trees _ _ c.raw_shared.ensures.host c.raw_shared.ensures.hyp
    (λ v. ap (λ ps. guest_seen c.args.parts.guests.items ps v) c.requires.nothing
    ∙ unpoked_seen c.args.parts.guests.items 64 v)

pub returns-clause-beside : goal.returns-clause-beside
returns-clause-beside g c = record {
  layout = refl;
  vms = refl;
  shared = c.raw_shared.ensures.beside;
  guest =
      λ v. ap (λ ps. guest_beside c.args.parts.guests.items ps v) c.requires.nothing
      ∙ unpoked_beside c.args.parts.guests.items 64 v;
  cpus = refl;
}
