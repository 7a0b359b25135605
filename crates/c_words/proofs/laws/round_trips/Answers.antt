use Rattle.c_words.proofs.RoundTrips.{descs_said, entries_said, replies_said, rows_from_c, targets_said}
use Rattle.c_words.proofs.laws.round_trips.Goals as goal

pub returns : goal.returns
returns c =
    record {
      entries = entries_said;
      targets = targets_said;
      descs = descs_said;
      rows = rows_from_c;
      replies = replies_said;
    }
