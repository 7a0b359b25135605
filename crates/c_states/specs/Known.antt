-- Which members of plain lists have known numbers, and the first that hasn't.
use Rattle.std.specs.Prelude.{ℕ, Bool, ◌==◌, ◌&&◌, ◌||◌, nat_lt, nat_le, is_some}
use Rattle.c_words.specs.Said.{target_from_c, row_from_c}
use Rattle.c_states.specs.declared.members.PlainRun.{PlainRun}
use Rattle.c_states.specs.declared.members.PlainTable.{PlainTable}
use Rattle.c_states.specs.declared.members.PlainFrame.{PlainFrame}
use Rattle.c_states.specs.declared.members.PlainSlot.{PlainSlot}
use Rattle.c_states.specs.declared.members.PlainLoad.{PlainLoad}
use Rattle.c_states.specs.declared.members.PlainGuest.{PlainGuest}
use Rattle.c_states.specs.declared.members.PlainCpu.{PlainCpu}
use Rattle.c_states.specs.declared.members.PlainRow.{PlainRow}

-- a tree: the host's, the hypervisor's, or one of the 64 guests'
abbrev pub is_tree : ℕ → Bool
is_tree n = nat_lt n 66

abbrev pub is_run : PlainRun → Bool
is_run r = is_tree r.tree && is_some (target_from_c r.word)

abbrev pub is_table : PlainTable → Bool
is_table t = is_tree t.tree

-- a pool: the shared one, or one of the 64 guests'
abbrev pub is_frame : PlainFrame → Bool
is_frame f = nat_le 1 f.pool && nat_lt f.pool 66

abbrev pub is_slot : PlainSlot → Bool
is_slot s = nat_lt s.slot 64 && (nat_lt s.stand 4 && nat_lt s.kind 2)

abbrev pub is_load : PlainLoad → Bool
is_load l = nat_lt l.slot 64 && nat_lt l.vcpu 8

abbrev pub is_guest : PlainGuest → Bool
is_guest g = nat_lt g.slot 64 && (nat_lt g.phase 3 && nat_lt g.kind 2)

-- a ticket, if there is one, has known numbers
abbrev pub has_known_ticket : PlainCpu → Bool
has_known_ticket k = k.has_ticket == 0 || nat_lt k.ticket_kind 2 && nat_lt k.ticket_stage 5

-- one of `count` CPUs, with known numbers
abbrev pub is_cpu : ℕ → PlainCpu → Bool
is_cpu count k = nat_lt k.cpu count && ((k.has_vcpu == 0 || nat_lt k.vcpu 8) && has_known_ticket k)

abbrev pub is_row : PlainRow → Bool
is_row r = is_some (row_from_c r.owner)
