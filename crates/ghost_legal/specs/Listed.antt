-- All that is held in a state, as a list of pieces.
use Rattle.std.specs.Prelude.{ℕ, suc, ◌+◌, List, [], ◌∷◌, ◌++◌, map, Option, Some, None}
use Rattle.page_state.specs.declared.entry.PageRange.{PageRange}
use Rattle.page_state.specs.declared.entry.Run.{Run}
use Rattle.page_state.specs.declared.entry.Target.{Target}
use Rattle.page_state.specs.declared.entry.Target.TheVariants.{Leaf}
use Rattle.ghost_trees.specs.declared.tree.Table.{Table as TableOf}
use Rattle.ghost_spec.specs.declared.cpu.GhostCpu.{GhostCpu}
use Rattle.ghost_spec.specs.declared.lists.GhostLists.{GhostLists}
use Rattle.ghost_spec.specs.declared.parts.GhostGuest.{GhostGuest}
use Rattle.ghost_spec.specs.declared.shared.Shared.{Shared}
use Rattle.ghost_legal.specs.declared.finding.Holder.{Holder}
use Rattle.ghost_legal.specs.declared.finding.Holder.TheVariants.{SharedPool, VmPool, Table, Hand, Guest}
use Rattle.ghost_legal.specs.declared.held.Held.{Held}

-- one frame
abbrev pub piece : ℕ → Holder → Held
piece f h = record { frames = record { first = record { 0 = f }; count = 1 }; holder = h }

-- free frames
abbrev pub free_held : Holder → List ℕ → List Held
free_held h frames = map (λ f. piece f h) frames

-- the tables of a tree
abbrev pub tables_held : ℕ → List TableOf → List Held
tables_held tree ts = map (λ t. piece t.frame (Table (record { tree = tree; block = t.block }))) ts

-- the frames that a guest's run maps
abbrev pub target_held : ℕ → PageRange → Target → Option Held
target_held slot pages (Leaf frame prot kind state) =
    Some
    (record {
      frames = record { first = record { 0 = frame.0 }; count = pages.count };
      holder = Guest slot pages.first.0 state;
    })
target_held slot pages other = None

abbrev pub mapped_of : ℕ → Run → Option Held
mapped_of slot r = target_held slot r.pages r.target

-- one piece or none
abbrev pub option_list : Option Held → List Held
option_list None = []
option_list (Some h) = h ∷ []

abbrev pub runs_held : ℕ → List Run → List Held
runs_held slot [] = []
runs_held slot (r ∷ rs) = option_list (mapped_of slot r) ++ runs_held slot rs

-- the frames that a guest holds
abbrev pub guest_held : ℕ → GhostGuest → List Held
guest_held v g =
    tables_held (2 + v) g.tree.tables.items
    ++ (free_held (VmPool v) g.free.items ++ runs_held v g.tree.runs.items)

-- the frames that guests hold, by slot from a number on
abbrev pub guests_held : ℕ → List GhostGuest → List Held
guests_held from [] = []
guests_held from (g ∷ gs) = guest_held from g ++ guests_held (suc from) gs

-- a hand
abbrev pub hand_held : ℕ → Option PageRange → List Held
hand_held c None = []
hand_held c (Some frames) = record { frames = frames; holder = Hand c } ∷ []

-- the hands of CPUs from a number on
abbrev pub hands_held : ℕ → List GhostCpu → List Held
hands_held from [] = []
hands_held from (k ∷ ks) = hand_held from k.hand ++ hands_held (suc from) ks

-- the frames that the Shared part holds
abbrev pub shared_held : Shared → List Held
shared_held s =
    tables_held 0 s.host.tables.items
    ++ (tables_held 1 s.hyp.tables.items ++ free_held SharedPool s.free.items)

-- all
abbrev pub all_held_in : GhostLists → List Held
all_held_in g = shared_held g.shared ++ (guests_held 0 g.guests.items ++ hands_held 0 g.cpus.items)
