-- A written value says again the value that it was written for.
use Rattle.std.specs.Prelude.{◌≡◌, Some}
use Rattle.descriptor.specs.declared.Desc.{Desc}
use Rattle.page_state.specs.declared.entry.Entry.{Entry}
use Rattle.page_state.specs.declared.entry.Target.{Target}
use Rattle.page_state.specs.declared.row.Row.{Row}
use Rattle.call_table.specs.declared.reply.Reply.{Reply}
use Rattle.c_words.specs.Said.{desc_from_c, entry_from_c, reply_from_c, row_from_c, target_from_c}
use Rattle.c_words.specs.Written.{desc_written, entry_written, reply_written, row_written, target_written}

abbrev pub EntriesRoundTrip : Type 0
EntriesRoundTrip = (entry : Entry) → entry_from_c (entry_written entry) ≡ Some entry

abbrev pub TargetsRoundTrip : Type 0
TargetsRoundTrip = (target : Target) → target_from_c (target_written target) ≡ Some target

abbrev pub DescsRoundTrip : Type 0
DescsRoundTrip = (desc : Desc) → desc_from_c (desc_written desc) ≡ Some desc

abbrev pub RowsRoundTrip : Type 0
RowsRoundTrip = (row : Row) → row_from_c (row_written row) ≡ Some row

abbrev pub RepliesRoundTrip : Type 0
RepliesRoundTrip = (reply : Reply) → reply_from_c (reply_written reply) ≡ Some reply
