-- Lists that are told of a state say its contents, with each pool in order.
use Rattle.std.proofs.Common.{◌≡◌, ℕ, zero, suc, ◌+◌, ◌≤◌, Bool, List, [], ◌∷◌, Option, None, get_or, length, map, refl, subst, sym, ap, ◌∙◌, arith}
use Rattle.std.specs.Prelude.{nat_lt, if◌then◌else◌, Result, Ok, IfOk}
use Rattle.std.specs.List.{range_with_len}
use Rattle.std.proofs.lemmas.Bool.Decides.{nat_tests}
use Rattle.std.proofs.lemmas.List.{get_or_past, length-map}
use mathlib.Core.Path.{fun_ext}
use Rattle.page_state.proofs.Cases.{by_test}
use Rattle.page_state.proofs.Common.{same2}
use Rattle.page_state.specs.declared.entry.Run.{Run}
use Rattle.page_state.specs.declared.row.Row.{Row}
use Rattle.page_state.specs.Runs.{map_of}
use Rattle.page_state.specs.Trees.{Tree, Pool}
use Rattle.reference_model.specs.model.State.{Contents, Cpu, Guest, Slot, no_cpu, no_guest, no_slot}
use Rattle.ghost_trees.specs.declared.tree.Table.{Table}
use Rattle.ghost_trees.specs.Pools.{in_order}
use Rattle.ghost_trees.specs.Trees.{table_of, tree_in_lists}
use Rattle.ghost_spec.specs.declared.lists.GhostLists.{GhostLists}
use Rattle.ghost_spec.specs.declared.parts.GhostGuest.{GhostGuest}
use Rattle.ghost_spec.specs.declared.parts.GhostSlot.{GhostSlot}
use Rattle.ghost_spec.specs.Filled.{ordered}
use Rattle.ghost_spec.specs.States.{contents_in, guest_in, slot_in}
use Rattle.ghost_spec.specs.Views.{cpu_in, row_in}
use Rattle.c_states.specs.declared.members.PlainCpu.{PlainCpu}
use Rattle.c_states.specs.declared.members.PlainGuest.{PlainGuest}
use Rattle.c_states.specs.declared.members.PlainSlot.{PlainSlot}
use Rattle.c_states.specs.Lists.{cpu_listed, cpu_from_c, frames_from_c, guest_listed, loader_from_c, no_plain_cpu, no_plain_guest, no_plain_slot, rows_from_c, runs_from_c, slot_listed, slot_from_c, tables_from_c}
use Rattle.c_states.specs.States.{Lists, contents_from_c, guest_from_c, tree_from_c}
use Rattle.c_states.specs.Told.{GuestHead, SlotHead, guest_head_in, guest_head_from_c, in_pool_order, slot_head_in, slot_head_from_c}
use Rattle.c_states.proofs.Telling.{listed_at}

-- what the lists say, part by part
pub record IsTold (p : Lists) (g : GhostLists) : Type 0 where
  pub host_runs : runs_from_c p.runs 0 ≡ g.shared.host.runs.items
  pub hyp_runs : runs_from_c p.runs 1 ≡ g.shared.hyp.runs.items
  pub guest_runs : (v : ℕ)
      → runs_from_c p.runs (2 + v) ≡ get_or (map (λ (x : GhostGuest). x.tree.runs.items) g.guests.items) v []
  pub host_tables : tables_from_c p.tables 0 ≡ g.shared.host.tables.items
  pub hyp_tables : tables_from_c p.tables 1 ≡ g.shared.hyp.tables.items
  pub guest_tables : (v : ℕ)
      → tables_from_c p.tables (2 + v) ≡ get_or (map (λ (x : GhostGuest). x.tree.tables.items) g.guests.items) v []
  pub shared_frames : frames_from_c p.frames 1 ≡ g.shared.free.items
  pub guest_frames : (v : ℕ)
      → frames_from_c p.frames (2 + v) ≡ get_or (map (λ (x : GhostGuest). x.free.items) g.guests.items) v []
  pub slot_numbers : map (λ (s : PlainSlot). s.slot) p.slots ≡ map (λ n. n) (range_with_len 0 (length g.vms.items))
  pub slot_heads : map slot_head_from_c p.slots ≡ map slot_head_in g.vms.items
  pub loads : (s k : ℕ)
      → loader_from_c p.loads s k ≡ get_or (get_or (map (λ (x : GhostSlot). x.loaded.items) g.vms.items) s []) k None
  pub guest_numbers : map (λ (x : PlainGuest). x.slot) p.guests
      ≡ map (λ n. n) (range_with_len 0 (length g.guests.items))
  pub guest_heads : map guest_head_from_c p.guests ≡ map guest_head_in g.guests.items
  pub cpu_numbers : map (λ (k : PlainCpu). k.cpu) p.cpus ≡ map (λ n. n) (range_with_len 0 (length g.cpus.items))
  pub cpus_said : map cpu_from_c p.cpus ≡ map cpu_in g.cpus.items
  pub rows : rows_from_c p.rows ≡ g.shared.rows.runs

abbrev tree_from : List Run → List Table → Tree
tree_from runs tables = record { map = map_of runs; table = table_of tables }

-- a slot of its parts
abbrev slot_from : SlotHead → (ℕ → Option ℕ) → Slot
slot_from h loaded =
    record { stand = h.stand; generation = h.generation; kind = h.kind; vcpus = h.vcpus; loaded = loaded }

slots_seen : (xs : List GhostSlot) (v : ℕ)
    → slot_from (get_or (map slot_head_in xs) v (slot_head_from_c no_plain_slot))
    (λ k. get_or (get_or (map (λ (x : GhostSlot). x.loaded.items) xs) v []) k None)
    ≡ get_or (map slot_in xs) v (no_slot 1)
slots_seen [] v = refl
slots_seen (x ∷ xs) zero = refl
slots_seen (x ∷ xs) (suc v) = slots_seen xs v

-- a guest of its parts
abbrev guest_from : GuestHead → List Run → List Table → List ℕ → Guest
guest_from h runs tables free =
    record {
      phase = h.phase;
      generation = h.generation;
      kind = h.kind;
      tree = tree_from runs tables;
      free = in_order free;
    }

guests_seen : (xs : List GhostGuest) (v : ℕ)
    → guest_from (get_or (map guest_head_in xs) v (guest_head_from_c no_plain_guest))
    (get_or (map (λ (x : GhostGuest). x.tree.runs.items) xs) v [])
    (get_or (map (λ (x : GhostGuest). x.tree.tables.items) xs) v [])
    (get_or (map (λ (x : GhostGuest). x.free.items) xs) v [])
    ≡ ordered (get_or (map guest_in xs) v no_guest)
guests_seen [] v = refl
guests_seen (x ∷ xs) zero = refl
guests_seen (x ∷ xs) (suc v) = guests_seen xs v

module _ (p : Lists) (g : GhostLists) (t : IsTold p g) where
  slot_head : (v : ℕ)
      → slot_head_from_c (slot_listed p.slots v)
      ≡ get_or (map slot_head_in g.vms.items) v (slot_head_from_c no_plain_slot)
  slot_head v =
      listed_at (λ (s : PlainSlot). s.slot) slot_head_from_c no_plain_slot p.slots (length g.vms.items) t.slot_numbers v
      ∙ ap (λ (hs : List SlotHead). get_or hs v (slot_head_from_c no_plain_slot)) t.slot_heads

  guest_head : (v : ℕ)
      → guest_head_from_c (guest_listed p.guests v)
      ≡ get_or (map guest_head_in g.guests.items) v (guest_head_from_c no_plain_guest)
  guest_head v =
      listed_at (λ (x : PlainGuest). x.slot) guest_head_from_c no_plain_guest p.guests
      (length g.guests.items) t.guest_numbers v
      ∙ ap (λ (hs : List GuestHead). get_or hs v (guest_head_from_c no_plain_guest)) t.guest_heads

  slot_at : length g.vms.items ≡ 64
      → (v : ℕ)
      → (if nat_lt v 64 then slot_from_c p.loads v (slot_listed p.slots v) else no_slot 1)
      ≡ get_or (map slot_in g.vms.items) v (no_slot 1)
  slot_at count v = by_test (nat_lt v 64)
      (λ e. ap (λ (b : Bool). if b then slot_from_c p.loads v (slot_listed p.slots v) else no_slot 1) e
      ∙ (same2 slot_from (slot_head v) (fun_ext (t.loads v)) ∙ slots_seen g.vms.items v))
      (λ e. let past : 64 ≤ v = grind (arith, nat_tests) in
      ap (λ (b : Bool). if b then slot_from_c p.loads v (slot_listed p.slots v) else no_slot 1) e
      ∙ sym (get_or_past (map slot_in g.vms.items) v (no_slot 1) (rw (length-map g.vms.items slot_in) (rw count past))))

  guest_at : length g.guests.items ≡ 64
      → (v : ℕ)
      → (if nat_lt v 64 then guest_from_c p v (guest_listed p.guests v) else no_guest)
      ≡ ordered (get_or (map guest_in g.guests.items) v no_guest)
  guest_at count v = by_test (nat_lt v 64)
      (λ e. ap (λ (b : Bool). if b then guest_from_c p v (guest_listed p.guests v) else no_guest) e
      ∙ (same2
      (λ (h : GuestHead) (rs : List Run). guest_from h rs (tables_from_c p.tables (2 + v))
      (frames_from_c p.frames (2 + v)))
      (guest_head v) (t.guest_runs v)
      ∙ (same2
      (guest_from (get_or (map guest_head_in g.guests.items) v (guest_head_from_c no_plain_guest))
      (get_or (map (λ (x : GhostGuest). x.tree.runs.items) g.guests.items) v []))
      (t.guest_tables v) (t.guest_frames v)
      ∙ guests_seen g.guests.items v)))
      (λ e. let past : 64 ≤ v = grind (arith, nat_tests) in
      ap (λ (b : Bool). if b then guest_from_c p v (guest_listed p.guests v) else no_guest) e
      ∙ ap ordered
      (sym
      (get_or_past (map guest_in g.guests.items) v no_guest
      (rw (length-map g.guests.items guest_in) (rw count past)))))

  cpu_at : (c : ℕ) → cpu_from_c (cpu_listed p.cpus c) ≡ get_or (map cpu_in g.cpus.items) c no_cpu
  cpu_at c =
      listed_at (λ (k : PlainCpu). k.cpu) cpu_from_c no_plain_cpu p.cpus (length g.cpus.items) t.cpu_numbers c
      ∙ ap (λ (ks : List Cpu). get_or ks c no_cpu) t.cpus_said

-- contents of their parts
abbrev whole : (ℕ → Slot) → Tree → Tree → Pool → (ℕ → Row) → (ℕ → Guest) → (ℕ → Cpu) → Contents
whole slot host hyp free row guest cpu =
    record {
      vms = record { slot = slot };
      shared = record { host = host; hyp = hyp; free = free; row = row };
      guest = guest;
      cpu = cpu;
    }

pub told_contents : (p : Lists) (g : GhostLists)
    → length g.vms.items ≡ 64
    → length g.guests.items ≡ 64
    → IsTold p g
    → contents_from_c p ≡ in_pool_order (contents_in g)
told_contents p g slots guests t =
    let slot : (λ v. if nat_lt v 64 then slot_from_c p.loads v (slot_listed p.slots v) else no_slot 1) ≡ (λ v. get_or (map slot_in g.vms.items) v (no_slot 1)) =
    fun_ext (slot_at p g t slots) in
    let guest : (λ v. if nat_lt v 64 then guest_from_c p v (guest_listed p.guests v) else no_guest) ≡ (λ v. ordered (get_or (map guest_in g.guests.items) v no_guest)) =
    fun_ext (guest_at p g t guests) in
    let cpu : (λ c. cpu_from_c (cpu_listed p.cpus c)) ≡ (λ c. get_or (map cpu_in g.cpus.items) c no_cpu) =
    fun_ext (cpu_at p g t) in
    let host : tree_from_c p 0 ≡ tree_in_lists g.shared.host = same2 tree_from t.host_runs t.host_tables in
    let hyp : tree_from_c p 1 ≡ tree_in_lists g.shared.hyp = same2 tree_from t.hyp_runs t.hyp_tables in
    same2
    (λ (x : ℕ → Slot) (y : Tree). whole x y (tree_from_c p 1) (in_order (frames_from_c p.frames 1))
    (row_in (rows_from_c p.rows))
    (λ v. if nat_lt v 64 then guest_from_c p v (guest_listed p.guests v) else no_guest)
    (λ c. cpu_from_c (cpu_listed p.cpus c))) slot host
    ∙ (same2
    (λ (x : Tree) (y : Pool). whole (λ v. get_or (map slot_in g.vms.items) v (no_slot 1))
    (tree_in_lists g.shared.host) x y (row_in (rows_from_c p.rows))
    (λ v. if nat_lt v 64 then guest_from_c p v (guest_listed p.guests v) else no_guest)
    (λ c. cpu_from_c (cpu_listed p.cpus c))) hyp
    (ap in_order t.shared_frames)
    ∙ (same2
    (λ (x : ℕ → Row) (y : ℕ → Guest). whole (λ v. get_or (map slot_in g.vms.items) v (no_slot 1))
    (tree_in_lists g.shared.host) (tree_in_lists g.shared.hyp) (in_order g.shared.free.items) x y
    (λ c. cpu_from_c (cpu_listed p.cpus c)))
    (ap {B = ℕ → Row} row_in t.rows) guest
    ∙ ap
    (λ (x : ℕ → Cpu). whole (λ v. get_or (map slot_in g.vms.items) v (no_slot 1)) (tree_in_lists g.shared.host)
    (tree_in_lists g.shared.hyp) (in_order g.shared.free.items) (row_in g.shared.rows.runs)
    (λ v. ordered (get_or (map guest_in g.guests.items) v no_guest)) x) cpu))

-- what is known of results that are both there
pub first_ok : {A B E : Type 0} {r : Result (A × B) E} {first : Result A E} {x : A × B}
    → r ≡ Ok x
    → IfOk r (λ y. first ≡ Ok y.0)
    → first ≡ Ok x.0
first_ok {A} {B} {E} {r} {first} {x} is known = subst (λ (q : Result (A × B) E). IfOk q (λ y. first ≡ Ok y.0)) is known

pub second_ok : {A B E : Type 0} {r : Result (A × B) E} {second : Result B E} {x : A × B}
    → r ≡ Ok x
    → IfOk r (λ y. second ≡ Ok y.1)
    → second ≡ Ok x.1
second_ok {A} {B} {E} {r} {second} {x} is known =
    subst (λ (q : Result (A × B) E). IfOk q (λ y. second ≡ Ok y.1)) is known

pub at_ok : {A E : Type 0} {r : Result A E} {x : A} → r ≡ Ok x → (P : A → Type 0) → IfOk r P → P x
at_ok {A} {E} {r} {x} is P known = subst (λ (q : Result A E). IfOk q P) is known
