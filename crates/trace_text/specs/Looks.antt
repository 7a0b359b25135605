-- What the check of a step reads.
use Rattle.std.specs.Prelude.{◌≡◌, ℕ, ◌+◌, Option, Some, None}
use Rattle.table_tree.specs.Reading.{count_of}
use Rattle.ghost_oracle.specs.Counted.{HasRead, tables_of_parts}
use Rattle.trace_text.specs.declared.session.Session.{Session}
use Rattle.world.specs.declared.World.{World}

-- the tables of all trees of a world
abbrev pub world_tables : {A : Type 0} → World A → ℕ
world_tables w = tables_of_parts w.parts

-- those of a session's world; before the boot there is none
abbrev pub tables_in : {A : Type 0} → Option (World A) → ℕ
tables_in None = 0
tables_in (Some w) = world_tables w

-- those of a session
abbrev pub session_tables : {A : Type 0} → Session A → ℕ
session_tables s = tables_in s.world

-- if a step was made, the session's count of reads has grown by the number of words of all tables
-- after it
abbrev pub Looks : {A : Type 0} → Session A → Session A → Type 0
Looks old new =
    new.steps ≡ old.steps + 1
    → HasRead (count_of old.reads) (session_tables new) (count_of new.reads)
