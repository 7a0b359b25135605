-- When two states are the same.
use Rattle.std.proofs.Common.{◌≡◌, ◌≢◌, ℕ, ap, ◌∙◌, sym, length, get_or}
use Rattle.std.proofs.lemmas.List.{ext_get_or}
use Rattle.page_state.specs.LayoutView.{layout_of}
use Rattle.page_state.specs.Layouts.{Layout}
use Rattle.reference_model.specs.model.State.{Reference, Rooms}
use Rattle.ghost_spec.specs.declared.lists.GhostLists.{GhostLists}
use Rattle.ghost_spec.specs.declared.lists.GhostRooms.{GhostRooms}
use Rattle.ghost_spec.specs.States.{IsKept, contents_in, ghost_state, rooms_in}
use Rattle.race_outcomes.specs.Layers.{AreSameRooms}

rooms_same : (a b : GhostRooms) (l m : ℕ) → l ≡ m → AreSameRooms a b → rooms_in l a ≡ rooms_in m b
rooms_same a b l m e h i =
    record {
      vms = h.vms i;
      shared = h.shared i;
      guest = λ v. get_or (h.guests i) v (e i);
      cpu = λ c. get_or (h.cpus i) c (e i);
    }

rooms_back : (a b : GhostRooms) (log : ℕ)
    → length a.guests.items ≡ length b.guests.items
    → length a.cpus.items ≡ length b.cpus.items
    → rooms_in log a ≡ rooms_in log b
    → AreSameRooms a b
rooms_back a b log guests cpus e = record {
  vms = ap (λ (r : Rooms). r.vms) e;
  shared = ap (λ (r : Rooms). r.shared) e;
  guests = ext_get_or log a.guests.items b.guests.items guests (λ v less. ap (λ (r : Rooms). r.guest v) e);
  cpus = ext_get_or log a.cpus.items b.cpus.items cpus (λ c less. ap (λ (r : Rooms). r.cpu c) e);
}

module _ (a b : GhostLists) where
  pub log_same : layout_of a.layout ≡ layout_of b.layout → a.layout.config.log ≡ b.layout.config.log
  log_same e = ap (λ (l : Layout). l.config.log) e

  pub state_same : a.layout.config.log ≡ b.layout.config.log
      → AreSameRooms a.rooms b.rooms
      → contents_in a ≡ contents_in b
      → ghost_state a ≡ ghost_state b
  state_same e h c i =
      record { contents = c i; rooms = rooms_same a.rooms b.rooms a.layout.config.log b.layout.config.log e h i }

  pub rooms_apart : IsKept a
      → IsKept b
      → layout_of a.layout ≡ layout_of b.layout
      → ¬ AreSameRooms a.rooms b.rooms
      → ghost_state a ≢ ghost_state b
  rooms_apart k m e differ same =
      let log = log_same e in
      let cpus : a.layout.config.cpus ≡ b.layout.config.cpus = ap (λ (l : Layout). l.config.cpus) e in
      differ
      (rooms_back a.rooms b.rooms a.layout.config.log (k.guest_rooms_count ∙ sym m.guest_rooms_count)
      (k.cpu_rooms_count ∙ cpus ∙ sym m.cpu_rooms_count)
      (ap (λ (s : Reference). s.rooms) same ∙ ap (λ n. rooms_in n b.rooms) (sym log)))
