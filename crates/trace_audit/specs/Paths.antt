-- Paths of pages, and the trees that lines name (profile).
use Rattle.std.specs.Prelude.{ℕ, ◌-◌, ◌+◌, nat_le, nat_lt, ◌&&◌, List, Option, Some, None, if◌then◌else◌}
use Rattle.page_state.specs.Geometries.{levels_below, input_pages}
use Rattle.page_state.specs.declared.layout.Geometry.{Geometry}
use Rattle.table_tree.specs.OnPage.{path_of}
use Rattle.ghost_oracle.specs.declared.raw.Which.{Which}
use Rattle.ghost_oracle.specs.declared.raw.Which.TheVariants as which
use Rattle.trace_lines.specs.declared.line.Line.{Line}
use Rattle.trace_lines.specs.declared.line.Line.TheVariants as lines
use Rattle.trace_lines.specs.declared.line.Poke.{Poke}
use Rattle.trace_lines.specs.declared.line.TreeName.{TreeName}
use Rattle.trace_lines.specs.declared.line.TreeName.TheVariants.{Host, Hyp, Guest}

-- the path of a page down to a level. None if the page isn't an input page, or the level isn't one
-- of the tree's; the root's is 3 less the levels below it
unfoldable pub path_on : Geometry → ℕ → ℕ → Option (List ℕ)
path_on geometry page level =
    let depth = levels_below geometry in
    if nat_lt page (input_pages geometry) && (nat_le (3 - depth) level && nat_le level 3)
    then Some (path_of page depth (level + 1 - (3 - depth))) else None

-- the tree of a name
abbrev pub which_of : TreeName → Which
which_of Host = which.Host
which_of Hyp = which.Hyp
which_of (Guest slot) = which.Guest slot

-- the poke that a line asks for, if it asks for one
abbrev pub poke_in : Line → Option Poke
poke_in (lines.Setting setting) = None
poke_in lines.Boot = None
poke_in (lines.Step cpu step) = None
poke_in (lines.Query query) = None
poke_in (lines.Poke poke) = Some poke
poke_in lines.Start = None
