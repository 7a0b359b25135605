-- Laws of the texts.
use Rattle.std.specs.Prelude.{ℕ}
use Rattle.reference_model.specs.model.State.{Contents}
use Rattle.state_changes.specs.Changed.{ReportsAll}
use Rattle.state_changes.specs.Together.{IsOnce}

-- at most one text is that of the changes from one state to another
abbrev pub OneText : Type 0
OneText = (before after : Contents) (cpu : ℕ) → IsOnce (ReportsAll before after cpu)
