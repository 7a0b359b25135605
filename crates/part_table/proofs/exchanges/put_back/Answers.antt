use Rattle.std.proofs.Common.{ap, ◌∙◌}
use Rattle.part_table.specs.Rule.{Seated, held_at, releasing, tail}
use Rattle.part_table.proofs.Pairs.{by_front}
use Rattle.part_table.proofs.exchanges.put_back.Goals as goal

pub release-requires-clause-held : goal.release-requires-clause-held
release-requires-clause-held g c =
    let n = c.put.ensures.in_slot in
    (c.args.part, by_front (ap (λ m. m.1) n), ap (λ m. held_at m.0.held c.args.k) n ∙ c.requires.held)

pub returns-clause-home : goal.returns-clause-home
returns-clause-home g c =
    c.release.ensures.home ∙ ap (λ (m : Seated g.row.A.Denot). (releasing m.0 c.args.k, tail m.1)) c.put.ensures.in_slot
