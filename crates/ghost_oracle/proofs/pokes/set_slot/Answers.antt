use Rattle.std.proofs.Common.{◌∙◌, Option, Some, ap, subst, sym}
use Rattle.std.specs.Prelude.{IsSome}
use Rattle.page_state.proofs.Common.{same2}
use Rattle.page_state.specs.Geometries.{levels_below}
use Rattle.table_tree.specs.Said.{block_of}
use Rattle.maplets.specs.View.{KeptMaplets}
use Rattle.part_types.specs.Logs.{StoredCalls}
use Rattle.ghost_oracle.specs.Beside.{GuestBeside}
use Rattle.ghost_oracle.specs.Poked.{IsPokedSeen}
use Rattle.ghost_oracle.specs.Seen.{raw_seen, slot_seen}
use Rattle.ghost_oracle.proofs.PokedParts.{poked_alike, unseen}
use Rattle.ghost_oracle.proofs.pokes.set_slot.Goals as goal
use Rattle.ghost_oracle.proofs.pokes.set_slot.Given as Given

pub returns-in-Some-clause-poked : goal.returns-in-Some-clause-poked
returns-in-Some-clause-poked g c = λ geometry h.
    let path = c.args.path.now in
    subst
    (λ t. IsPokedSeen (block_of geometry path) t
    (raw_seen c.set.new.self.tree) path c.args.word) c.in-Some.ensures.seen
    (poked_alike c.in-Some.guest.map.tree.geometry geometry _ _ path c.args.word
    (c.in-Some.ensures.depth geometry h).1 c.set.ensures.poked)

pub returns-in-Some-clause-beside : goal.returns-in-Some-clause-beside
returns-in-Some-clause-beside g c =
    same2 (λ (guest : Option GuestBeside) (log : StoredCalls). record { guest = guest; log = log })
    (ap
    (λ (maplets : KeptMaplets). Some
    (record {
      phase = c.in-Some.guest.phase;
      generation = c.in-Some.guest.generation;
      kind = c.in-Some.guest.kind;
      maplets = maplets;
      pool = c.in-Some.guest.pool;
    })) c.set.ensures.maplets
    ∙ c.in-Some.ensures.beside)
    c.in-Some.ensures.log

pub returns-in-Some-clause-depth : goal.returns-in-Some-clause-depth
returns-in-Some-clause-depth g c = λ geometry h. let depth = c.in-Some.ensures.depth geometry h in
    (depth.0, ap levels_below c.set.ensures.geometry ∙ depth.1)

gone : (g : Given.Over) (c : goal.In_default g) → ⊥
gone g c = unseen (slot_seen c.args.part.now c.args.held.now) c.args.path.now c.in_default.ensures.seen c.requires.there

pub returns-in_default-clause-poked : goal.returns-in_default-clause-poked
returns-in_default-clause-poked g c = absurd (gone g c)

pub returns-in_default-clause-beside : goal.returns-in_default-clause-beside
returns-in_default-clause-beside g c = absurd (gone g c)

pub returns-in_default-clause-depth : goal.returns-in_default-clause-depth
returns-in_default-clause-depth g c = absurd (gone g c)

pub set-requires : goal.set-requires
set-requires g c = record {
  there = subst (λ t. IsSome (t.words c.args.path.now)) (sym c.in-Some.ensures.seen) c.requires.there;
}
