-- The freedom of own tables: two states that differ only in tables and free frames.
use Rattle.std.specs.Prelude.{◌≡◌, []}
use Rattle.page_state.specs.Trees.{Tree, no_tree}
use Rattle.reference_model.specs.model.State.{Shared, Guest, Contents}
use Rattle.reference_model.specs.model.Used.{Used}

-- a tree without its tables
abbrev pub bare_tree : Tree → Tree
bare_tree t = record { map = t.map; table = no_tree.table }

-- the Shared part without tables and free frames
abbrev pub bare_shared : Shared → Shared
bare_shared x = record { host = bare_tree x.host; hyp = bare_tree x.hyp; free = []; row = x.row }

-- a guest without them
abbrev pub bare_guest : Guest → Guest
bare_guest g =
    record {
      phase = g.phase;
      generation = g.generation;
      kind = g.kind;
      tree = bare_tree g.tree;
      free = [];
    }

-- the parts that a call uses, without tables and free frames
abbrev pub bare_used : Used → Used
bare_used x =
    record { vms = x.vms; shared = bare_shared x.shared; guest = bare_guest x.guest; cpu = x.cpu }

-- a state without them
abbrev pub without_tables : Contents → Contents
without_tables s =
    record {
      vms = s.vms;
      shared = bare_shared s.shared;
      guest = λ v. bare_guest (s.guest v);
      cpu = s.cpu;
    }

-- own tables: the free frames and the tables may be any, and all else is the same
abbrev pub OwnTables : Contents → Contents → Type 0
OwnTables s t = without_tables s ≡ without_tables t
