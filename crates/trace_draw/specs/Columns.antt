-- Which frames the columns of a picture have (profile).
use Rattle.std.specs.Prelude.{ℕ, List, [], ◌∷◌}
use Rattle.std.specs.List.{flat_map, range_with_len}
use Rattle.trace_draw.specs.declared.bands.Band.{Band}
use Rattle.trace_draw.specs.declared.columns.Column.{Column}
use Rattle.trace_draw.specs.declared.course.Scene.{Scene}

abbrev pub frames_of_column : Column → List ℕ
frames_of_column c = range_with_len c.first c.count

-- the frames of columns, one after another
abbrev pub frames_of : List Column → List ℕ
frames_of columns = flat_map frames_of_column columns

abbrev pub frames_of_band : Band → List ℕ
frames_of_band b = range_with_len b.first b.count

-- and of bands
abbrev pub frames_in : List Band → List ℕ
frames_in bands = flat_map frames_of_band bands

-- the frames that are drawn: those of the first scene, as of every scene
abbrev pub frames_drawn : List Scene → List ℕ
frames_drawn [] = []
frames_drawn (s ∷ ss) = frames_in s.bands.items
