-- The names of maps.
use Rattle.std.specs.Prelude.{ℕ, List, codes}
use Rattle.state_changes.specs.declared.maps.Label.{Label}
use Rattle.state_changes.specs.declared.maps.Label.TheVariants.{Host, Hyp, Guest, Owner}
use Rattle.state_changes.specs.Changed.{guest_name}

abbrev pub text_of_label : Label → List ℕ
text_of_label Host = codes "host"
text_of_label Hyp = codes "hyp"
text_of_label (Guest slot) = guest_name slot
text_of_label Owner = codes "owner"
