-- A state on lists that is that of poked parts can be audited.
use Rattle.std.proofs.Common.{◌≡◌, List, [], ◌∷◌, length, Option, All, ap, arith}
use Rattle.part_types.specs.declared.parts.GuestPart.{GuestPart}
use Rattle.part_types.specs.View.{cpu_of}
use Rattle.page_state.specs.Rows.{HasPageBelow}
use Rattle.run_list.specs.Runs.{AreInReach}
use Rattle.ghost_spec.specs.declared.parts.GhostGuest.{GhostGuest}
use Rattle.ghost_spec.specs.declared.lists.GhostLists.{GhostLists}
use Rattle.ghost_trees.specs.KeptTrees.{IsKeptTree}
use Rattle.ghost_spec.specs.Views.{cpu_in}
use Rattle.ghost_oracle.specs.declared.raw.RawGuest.{RawGuest}
use Rattle.ghost_oracle.specs.declared.raw.RawParts.{RawParts}
use Rattle.ghost_oracle.specs.declared.trees.Source.{Source}
use Rattle.ghost_judge.specs.Audits.{AreMapsKept}
use Rattle.ghost_oracle.specs.RawFound.{AreSlotsFound, IsRawFound}
use Rattle.ghost_oracle.proofs.Founds.{as_long}

trees_kept : {A : Type 0} (source : Source) (parts : List (GuestPart A)) (helds : List (Option (RawGuest A)))
    (gs : List GhostGuest)
    → length parts ≡ 64
    → length helds ≡ 64
    → length gs ≡ 64
    → AreSlotsFound source parts helds gs
    → All (λ x. IsKeptTree x.tree) gs
trees_kept source [] helds gs a b c h = absurd (omega (arith, a))
trees_kept source (p ∷ ps) [] gs a b c h = absurd (omega (arith, b))
trees_kept source (p ∷ ps) (r ∷ rs) gs a b c h = λ k d less. (h k p r d (omega (arith, less, c))).kept

module _ {A : Type 0} (source : Source) (p : RawParts A) (g : GhostLists) (found : IsRawFound source p g) where
  pub guests_kept : All (λ x. IsKeptTree x.tree) g.guests.items
  guests_kept =
      trees_kept source p.guests.items p.poked.items g.guests.items (omega (arith, p.slots, p.guests.ok.0))
      (omega (arith, p.places, p.poked.ok.0)) found.count found.guests

  pub cpus_counted : length g.cpus.items ≡ g.layout.config.cpus
  cpus_counted =
      as_long cpu_in cpu_of g.cpus.items p.cpus.items g.layout.config.cpus found.cpus
      (let told = ap (λ l. l.config.cpus) found.layout in omega (arith, told, p.counted, p.cpus.ok.0))

  pub ready : AreInReach HasPageBelow g.shared.rows.runs → AreMapsKept g
  ready reach =
      record { host = found.host_kept; hyp = found.hyp_kept; guests = guests_kept; count = found.count; rows = reach }
