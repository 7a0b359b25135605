-- How what a step looks at is written (profile).
use Rattle.std.specs.Prelude.{ℕ, List, [], ◌∷◌, ◌++◌, codes, if◌then◌else◌}
use Rattle.std.specs.Fmt.{decimal}
use Rattle.std.specs.Str.{bytes_eq}
use Rattle.page_state.specs.Texts.{text_of_page}
use Rattle.trace_explain.specs.declared.place.Place.{Place}
use Rattle.trace_explain.specs.declared.place.Place.TheVariants as places
pub use Rattle.state_changes.specs.Texts.{guest_line, text_of_guest, text_of_hand, text_of_holder, text_of_loaded, text_of_slot, text_of_ticket, text_of_vcpu}

-- the name of an item that a step looks at
abbrev pub name_of : Place → List ℕ
name_of (places.Host page) = codes "host " ++ text_of_page page
name_of (places.Hyp page) = codes "hyp " ++ text_of_page page
name_of (places.GuestPage slot page) =
    codes "guest " ++ decimal slot ++ codes " " ++ text_of_page page
name_of (places.Owner frame) = codes "owner " ++ text_of_page frame
name_of places.FreeShared = codes "free shared"
name_of (places.Guest slot) = codes "guest " ++ decimal slot
name_of (places.Vm slot) = codes "vm " ++ decimal slot
name_of (places.Vcpu slot vcpu) = codes "vm " ++ decimal slot ++ codes " vcpu " ++ decimal vcpu
name_of places.Loaded = codes "loaded"
name_of places.Hand = codes "hand"
name_of places.Ticket = codes "ticket"

-- a line of an item that a step looks at, if it is as before
abbrev pub look_line : List ℕ → List ℕ → List ℕ → List ℕ
look_line name before after =
    if bytes_eq before after then codes "    " ++ name ++ codes ": " ++ before ++ 10 ∷ [] else []
