use Rattle.std.specs.Prelude.{option_map}
use Rattle.trace_watches.proofs.Leading.{mapped}
use Rattle.trace_watches.proofs.telling.told_at.Goals as goal

pub returns : goal.returns
returns g c =
    mapped c.missed_by.result _ _
    (λ missed is. record {
      note = option_map (λ note. note.items) c.in_ok-note.note;
      is = c.in_ok-note.ensures;
      missed_is = is;
    })
    c.missed_by.ensures
