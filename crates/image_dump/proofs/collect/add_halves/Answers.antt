use Rattle.std.specs.List.{filter_map}
use Rattle.image_findings.specs.Unborrowed.{unborrowed_of, unshared_of}
use Rattle.image_dump.proofs.Collected.{in_two}
use Rattle.image_dump.proofs.collect.add_halves.Goals as goal

pub returns : goal.returns
returns c =
    in_two c.args.found.now.items (filter_map (unborrowed_of c.args.claims.now) c.args.claims.now)
    (filter_map (unshared_of c.args.claims.now) c.args.claims.now) c.add_unborrowed.new.found.items
    c.add_unshared.new.found.items c.in_ok-add_unborrowed.ensures c.in_ok-add_unshared.ensures
