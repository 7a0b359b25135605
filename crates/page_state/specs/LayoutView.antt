-- The reference layout of a layout that code has.
use Rattle.page_state.specs.declared.layout.Layout.{Layout as TheLayout}
use Rattle.page_state.specs.Geometries.{levels_below}
use Rattle.page_state.specs.Layouts.{Layout}

-- the reference layout: the depth is that of the geometry
abbrev pub layout_of : TheLayout → Layout
layout_of l = record { memory = l.map; config = l.config; depth = levels_below l.geometry }
