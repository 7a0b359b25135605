use Rattle.std.specs.List.{filter_map}
use Rattle.image_findings.specs.Findings.{bad_word}
use Rattle.image_dump.proofs.Collected.{in_two}
use Rattle.image_dump.proofs.collect.add_bad.Goals as goal

pub returns : goal.returns
returns c =
    in_two c.args.words.now.items (filter_map (bad_word c.args.tree) c.args.runs.now) c.args.denied.now
    c.add_words.new.found.items c.extend_from_slice.new.self.items c.in_ok-add_words.ensures
    c.in_ok-extend_from_slice.ensures.items
