-- The state of lists that are filled in as plain lists say, and their faults.
use Rattle.std.proofs.Common.{◌≡◌, ℕ, zero, suc, List, [], ◌∷◌, All, Option, None, get_or, length, map, refl, sym, ap, subst, inl, inr, ◌∙◌}
use Rattle.std.specs.Prelude.{◌⊎◌, ◌↔◌, nat_lt, if◌then◌else◌, unwrap_or, IfErr, IfOk, Result, Ok, Err}
use Rattle.std.specs.List.{range_with_len}
use Rattle.std.proofs.lemmas.List.{get_or_past, length-map}
use Rattle.std.proofs.lemmas.List.FromFn.{length-map-range_with_len}
use mathlib.Core.Path.{fun_ext}
use Rattle.page_state.proofs.Cases.{by_lt}
use Rattle.page_state.proofs.Common.{same2}
use Rattle.page_state.specs.declared.entry.Run.{Run}
use Rattle.page_state.specs.declared.row.Row.{Row}
use Rattle.page_state.specs.Rows.{plain_row}
use Rattle.page_state.specs.Runs.{map_of}
use Rattle.page_state.specs.Trees.{Tree, Pool}
use Rattle.reference_model.specs.model.State.{Cpu, Guest, Reference, Rooms, Slot, no_cpu, no_guest, no_slot}
use Rattle.ghost_trees.specs.declared.tree.Table.{Table}
use Rattle.ghost_trees.specs.declared.tree.Tree.{Tree as TreeOfLists}
use Rattle.ghost_trees.specs.Pools.{in_order}
use Rattle.ghost_trees.specs.Trees.{table_of, tree_in_lists}
use Rattle.ghost_spec.specs.declared.filled.GhostFault.{GhostFault}
use Rattle.ghost_spec.specs.declared.filled.GhostFault.TheVariants.{WrongCount, TooLarge, Overlap, TableTwice, FrameTwice, NoMemory as NoGhostMemory}
use Rattle.ghost_spec.specs.declared.lists.GhostLists.{GhostLists}
use Rattle.ghost_spec.specs.declared.parts.GhostGuest.{GhostGuest}
use Rattle.ghost_spec.specs.Filled.{ordered, state_filled, HasCounts, IsFirstFault, MakesState}
use Rattle.ghost_spec.specs.States.{guest_in, rooms_in, slot_in}
use Rattle.ghost_spec.specs.Views.{cpu_in, row_in}
use Rattle.c_states.specs.declared.state.PlainFault.{PlainFault}
use Rattle.c_states.specs.declared.state.PlainFault.TheVariants.{Unknown, Rows as RowsFault, Twice, Lists as ListsFault, NoMemory}
use Rattle.c_states.specs.Faults.{first_unknown_of, AreRead, AreTaken, IsFirstOfLists, IsListsFault, IsPlainFault}
use Rattle.c_states.specs.Filled.{GuestLists, guest_lists_from_c, lists_in, slot_filled, IsFilled, IsFilledTree, IsRoomy}
use Rattle.c_states.specs.Lists.{cpu_listed, cpu_from_c, frames_from_c, guest_listed, rows_from_c, slot_listed, slot_from_c}
use Rattle.c_states.specs.States.{Lists, guest_from_c, rooms_from_c, state_from_c, tree_from_c}
use Rattle.c_states.proofs.FilledLists.{frames_in, frames_out, low_in, low_out, runs_in, runs_out, tables_in, tables_out}
use Rattle.c_states.proofs.KnownLists.{cpu_whole, known_cpus, known_loads, slot_whole}
use Rattle.c_states.proofs.OneMore.{by_numbers}

-- a state of its parts
abbrev whole : (ℕ → Slot) → Tree → Tree → Pool → (ℕ → Row) → (ℕ → Guest) → (ℕ → Cpu) → Rooms → Reference
whole slot host hyp free row guest cpu rooms =
    record {
      contents = record {
        vms = record { slot = slot };
        shared = record { host = host; hyp = hyp; free = free; row = row };
        guest = guest;
        cpu = cpu;
      };
      rooms = rooms;
    }

abbrev tree_from : List Run → List Table → Tree
tree_from runs tables = record { map = map_of runs; table = table_of tables }

tree_at : (p : Lists) (n : ℕ) (t : TreeOfLists) → IsFilledTree p n t → tree_in_lists t ≡ tree_from_c p n
tree_at p n t f = same2 tree_from f.runs f.tables

-- the guest of its lists
abbrev guest_from : GuestLists → Guest
guest_from g =
    record {
      phase = g.phase;
      generation = g.generation;
      kind = g.kind;
      tree = tree_from g.runs g.tables;
      free = in_order g.free;
    }

guests_seen : (gs : List GhostGuest) (v : ℕ)
    → ordered (get_or (map guest_in gs) v no_guest) ≡ get_or (map guest_from (map lists_in gs)) v no_guest
guests_seen [] v = refl
guests_seen (g ∷ gs) zero = refl
guests_seen (g ∷ gs) (suc v) = guests_seen gs v

guests_from : (p : Lists) (vs : List ℕ)
    → map guest_from (map (λ n. guest_lists_from_c p n (guest_listed p.guests n)) vs)
    ≡ map (λ n. guest_from_c p n (guest_listed p.guests n)) vs
guests_from p [] = refl
guests_from p (v ∷ vs) = ap (λ (xs : List Guest). guest_from_c p v (guest_listed p.guests v) ∷ xs) (guests_from p vs)

-- what lists that are filled in number by number have at a number
slots_at : (cpus : ℕ) (p : Lists) (l : GhostLists) → first_unknown_of cpus p ≡ None → IsFilled cpus p l → (v : ℕ)
    → get_or (map slot_in l.vms.items) v (no_slot 1)
    ≡ (if nat_lt v 64 then slot_from_c p.loads v (slot_listed p.slots v) else no_slot 1)
slots_at cpus p l known f v =
    ap (λ (xs : List Slot). get_or xs v (no_slot 1)) f.slots
    ∙ (by_numbers (λ n. slot_filled p.loads n (slot_listed p.slots n)) (no_slot 1) 64 v
    ∙ ap (λ (s : Slot). if nat_lt v 64 then s else no_slot 1)
    (slot_whole p.loads v (slot_listed p.slots v) (known_loads cpus p known)))

guests_at : (cpus : ℕ) (p : Lists) (l : GhostLists) → IsFilled cpus p l → (v : ℕ)
    → ordered (get_or (map guest_in l.guests.items) v no_guest)
    ≡ (if nat_lt v 64 then guest_from_c p v (guest_listed p.guests v) else no_guest)
guests_at cpus p l f v =
    guests_seen l.guests.items v ∙ (ap (λ (xs : List GuestLists). get_or (map guest_from xs) v no_guest) f.guests
    ∙ (ap (λ (xs : List Guest). get_or xs v no_guest) (guests_from p (range_with_len 0 64))
    ∙ by_numbers (λ n. guest_from_c p n (guest_listed p.guests n)) no_guest 64 v))

cpus_at : (cpus : ℕ) (p : Lists) (l : GhostLists) → first_unknown_of cpus p ≡ None → IsFilled cpus p l → (c : ℕ)
    → get_or (map cpu_in l.cpus.items) c no_cpu ≡ cpu_from_c (cpu_listed p.cpus c)
cpus_at cpus p l known f c =
    ap (λ (xs : List Cpu). get_or xs c no_cpu) f.cpus
    ∙ (by_numbers (λ n. cpu_from_c (cpu_listed p.cpus n)) no_cpu cpus c
    ∙ cpu_whole cpus p.cpus (known_cpus cpus p known) c)

ones_at : (xs : List ℕ) → All (λ n. n ≡ 1) xs → (v : ℕ) → get_or xs v 1 ≡ 1
ones_at xs all v = by_lt v (length xs) (λ l. all v 1 l) (λ l. get_or_past xs v 1 l)

abbrev rooms_from : ℕ → ℕ → (ℕ → ℕ) → (ℕ → ℕ) → Rooms
rooms_from vms shared guest cpu = record { vms = vms; shared = shared; guest = guest; cpu = cpu }

rooms_at : (l : GhostLists)
    → IsRoomy l.rooms
    → l.layout.config.log ≡ 1
    → rooms_in l.layout.config.log l.rooms ≡ rooms_from_c
rooms_at l r log =
    ap (λ (n : ℕ). rooms_in n l.rooms) log
    ∙ (same2
    (λ (v s : ℕ). rooms_from v s (λ i. get_or l.rooms.guests.items i 1) (λ i. get_or l.rooms.cpus.items i 1)) r.vms
    r.shared
    ∙ same2 (λ (g c : ℕ → ℕ). rooms_from 1 1 g c) (fun_ext (ones_at l.rooms.guests.items r.guests))
    (fun_ext (ones_at l.rooms.cpus.items r.cpus)))

-- lists that are filled in as plain lists say have the state that these say
pub filled_state : (cpus : ℕ) (p : Lists) (l : GhostLists)
    → first_unknown_of cpus p ≡ None
    → IsFilled cpus p l
    → state_filled l ≡ state_from_c p
filled_state cpus p l known f =
    let slots : (λ v. get_or (map slot_in l.vms.items) v (no_slot 1)) ≡ (λ v. if nat_lt v 64 then slot_from_c p.loads v (slot_listed p.slots v) else no_slot 1) =
    fun_ext (slots_at cpus p l known f) in
    let host = tree_at p 0 l.shared.host f.shared.host in
    let hyp = tree_at p 1 l.shared.hyp f.shared.hyp in
    let free = ap in_order f.shared.free in
    let rows : row_in l.shared.rows.runs ≡ row_in (rows_from_c p.rows) =
    ap {B = ℕ → Row} (λ (m : ℕ → Option Row) n. unwrap_or (m n) plain_row) f.shared.rows in
    let guests : (λ v. ordered (get_or (map guest_in l.guests.items) v no_guest)) ≡ (λ v. if nat_lt v 64 then guest_from_c p v (guest_listed p.guests v) else no_guest) =
    fun_ext (guests_at cpus p l f) in
    let own : (λ c. get_or (map cpu_in l.cpus.items) c no_cpu) ≡ (λ c. cpu_from_c (cpu_listed p.cpus c)) =
    fun_ext (cpus_at cpus p l known f) in
    let rooms = rooms_at l f.rooms f.log in
    same2
    (λ (x : ℕ → Slot) (y : Tree). whole x y (tree_in_lists l.shared.hyp) (in_order l.shared.free.items)
    (row_in l.shared.rows.runs) (λ v. ordered (get_or (map guest_in l.guests.items) v no_guest))
    (λ c. get_or (map cpu_in l.cpus.items) c no_cpu) (rooms_in l.layout.config.log l.rooms)) slots host
    ∙ (same2
    (λ (x : Tree) (y : Pool). whole
    (λ v. if nat_lt v 64 then slot_from_c p.loads v (slot_listed p.slots v) else no_slot 1) (tree_from_c p 0) x y
    (row_in l.shared.rows.runs) (λ v. ordered (get_or (map guest_in l.guests.items) v no_guest))
    (λ c. get_or (map cpu_in l.cpus.items) c no_cpu) (rooms_in l.layout.config.log l.rooms)) hyp free
    ∙ (same2
    (λ (x : ℕ → Row) (y : ℕ → Guest). whole
    (λ v. if nat_lt v 64 then slot_from_c p.loads v (slot_listed p.slots v) else no_slot 1) (tree_from_c p 0)
    (tree_from_c p 1) (in_order (frames_from_c p.frames 1)) x y
    (λ c. get_or (map cpu_in l.cpus.items) c no_cpu) (rooms_in l.layout.config.log l.rooms)) rows guests
    ∙ same2
    (λ (x : ℕ → Cpu) (y : Rooms). whole
    (λ v. if nat_lt v 64 then slot_from_c p.loads v (slot_listed p.slots v) else no_slot 1) (tree_from_c p 0)
    (tree_from_c p 1) (in_order (frames_from_c p.frames 1)) (row_in (rows_from_c p.rows))
    (λ v. if nat_lt v 64 then guest_from_c p v (guest_listed p.guests v) else no_guest) x y) own rooms))

-- lists that are filled in have the counts of a state
filled_counts : (cpus : ℕ) (p : Lists) (l : GhostLists)
    → IsFilled cpus p l
    → length l.rooms.guests.items ≡ 64
    → length l.rooms.cpus.items ≡ cpus
    → l.layout.config.cpus ≡ cpus
    → HasCounts l
filled_counts cpus p l f guests rooms are = record {
  slots =
      sym (length-map l.vms.items slot_in)
      ∙ (ap length f.slots ∙ length-map-range_with_len (λ n. slot_filled p.loads n (slot_listed p.slots n)) 0 64);
  guests =
      sym (length-map l.guests.items lists_in)
      ∙ (ap length f.guests ∙ length-map-range_with_len (λ n. guest_lists_from_c p n (guest_listed p.guests n)) 0 64);
  cpus =
      sym (length-map l.cpus.items cpu_in)
      ∙ (ap length f.cpus ∙ (length-map-range_with_len (λ n. cpu_from_c (cpu_listed p.cpus n)) 0 cpus ∙ sym are));
  guest_rooms = guests;
  cpu_rooms = rooms ∙ sym are;
}

-- lists that are filled in make a state where the plain ones do
pub taken_lists : (cpus : ℕ) (p : Lists) (l : GhostLists)
    → AreRead cpus p
    → IsFilled cpus p l
    → MakesState l
    → AreTaken cpus p
taken_lists cpus p l read f m = record {
  read = read;
  numbers = low_out cpus p l f m.numbers;
  runs = runs_out cpus p l f m.runs;
  tables = tables_out cpus p l f m.tables;
  frames = frames_out cpus p l f m.frames;
}

-- the first fault of lists that are filled in is that of the plain lists
first_of : (cpus : ℕ) (p : Lists) (l : GhostLists)
    → IsFilled cpus p l
    → HasCounts l
    → (f : GhostFault)
    → IsFirstFault f l
    → IsFirstOfLists cpus p f
first_of cpus p l f counts WrongCount h = h counts
first_of cpus p l f counts TooLarge h = λ low. h.1 (low_in cpus p l f low)
first_of cpus p l f counts Overlap h = (low_out cpus p l f h.1, λ apart. h.2 (runs_in cpus p l f apart))
first_of cpus p l f counts TableTwice h =
    (low_out cpus p l f h.1, runs_out cpus p l f h.2, λ apart. h.3 (tables_in cpus p l f apart))
first_of cpus p l f counts FrameTwice h = (
  low_out cpus p l f h.1,
  runs_out cpus p l f h.2,
  tables_out cpus p l f h.3,
  λ apart. h.4 (frames_in cpus p l f apart),
)
first_of cpus p l f counts NoGhostMemory h = absurd h

lists_fault : (cpus : ℕ) (p : Lists) (why : PlainFault)
    → AreRead cpus p
    → IsListsFault cpus p why
    → IsPlainFault cpus p why
lists_fault cpus p (Unknown list at) read h = absurd h
lists_fault cpus p (RowsFault fault) read h = absurd h
lists_fault cpus p (Twice list at) read h = absurd h
lists_fault cpus p (ListsFault fault culprit) read h = (read, h.0, h.1)
lists_fault cpus p NoMemory read h = tt

no_memory_fault : (cpus : ℕ) (p : Lists) (why : PlainFault) → why ≡ NoMemory → IsPlainFault cpus p why
no_memory_fault cpus p why e = subst (IsPlainFault cpus p) (sym e) tt

-- what is told of a fault of theirs is true of the plain lists
pub told_fault : (cpus : ℕ) (p : Lists) (l : GhostLists)
    → AreRead cpus p
    → IsFilled cpus p l
    → length l.rooms.guests.items ≡ 64
    → length l.rooms.cpus.items ≡ cpus
    → l.layout.config.cpus ≡ cpus
    → (f : GhostFault) (why : PlainFault)
    → (f ≡ NoGhostMemory ⊎ IsFirstFault f l)
    → (f ≡ NoGhostMemory → why ≡ NoMemory)
    → ((n : ℕ) → IsFirstOfLists n p f → IsListsFault n p why)
    → IsPlainFault cpus p why
told_fault cpus p l read filled guests rooms are f why (inl e) memory fault = no_memory_fault cpus p why (memory e)
told_fault cpus p l read filled guests rooms are f why (inr h) memory fault =
    lists_fault cpus p why read
    (fault cpus (first_of cpus p l filled (filled_counts cpus p l filled guests rooms are) f h))

-- a fault that is answered is the first
pub first_fault : {G : Type 0} (l : GhostLists) (r : Result G GhostFault)
    → ((r ≡ Err WrongCount) ↔ IsFirstFault WrongCount l)
    → ((r ≡ Err TooLarge) ↔ IsFirstFault TooLarge l)
    → ((r ≡ Err Overlap) ↔ IsFirstFault Overlap l)
    → ((r ≡ Err TableTwice) ↔ IsFirstFault TableTwice l)
    → ((r ≡ Err FrameTwice) ↔ IsFirstFault FrameTwice l)
    → IfErr r (λ f. f ≡ NoGhostMemory ⊎ IsFirstFault f l)
first_fault l (Ok made) a b c d e = tt
first_fault l (Err WrongCount) a b c d e = inr (a.0 refl)
first_fault l (Err TooLarge) a b c d e = inr (b.0 refl)
first_fault l (Err Overlap) a b c d e = inr (c.0 refl)
first_fault l (Err TableTwice) a b c d e = inr (d.0 refl)
first_fault l (Err FrameTwice) a b c d e = inr (e.0 refl)
first_fault l (Err NoGhostMemory) a b c d e = inl refl

-- what a result's value has in two ways
pub in_both : {X E : Type 0} (P Q : X → Type 0) (r : Result X E) → IfOk r (λ x. P x × Q x) → IfOk r P × IfOk r Q
in_both P Q (Ok x) h = h
in_both P Q (Err e) h = (tt, tt)
