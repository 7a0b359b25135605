-- The reference step in the words of what a call uses.
use Rattle.std.proofs.Common.{◌≡◌, ℕ, ◌<◌, ◌==◌, Bool, true, false, List, Option, Some, None, length, map, get_or, set, refl, sym, ap, ◌∙◌}
use Rattle.std.proofs.lemmas.List.{map-set, length-map, get_or-set_same, get_or-set_other}
use Rattle.std.specs.Prelude.{if◌then◌else◌}
use mathlib.Core.Path.{fun_ext}
use Rattle.call_table.specs.declared.reply.Refusal.TheVariants.{LogFull}
use Rattle.call_table.specs.declared.reply.Reply.{Reply}
use Rattle.call_table.specs.declared.reply.Reply.TheVariants.{Refused}
use Rattle.call_table.specs.declared.step.Step.{Step}
use Rattle.page_state.specs.Layouts.{Layout}
use Rattle.page_state.proofs.Cases.{by_test, by_eq}
use Rattle.page_state.proofs.Common.{eq-self, eq-same, eq-other, same2}
use Rattle.reference_model.specs.model.Parts.{uses_vms, uses_shared}
use Rattle.reference_model.specs.model.Rules.{names, guest_slot}
use Rattle.reference_model.specs.model.State.{Vms, Shared, Guest, Cpu, Contents, Rooms, Reference, put_at, no_vms, no_shared}
use Rattle.reference_model.specs.model.Step.{is_full, stored, answer, predict, predict_step}
use Rattle.reference_model.specs.model.Used.{Used, UsedRooms, used_of, put_back, guest_at, put_guest, room_at, put_room, rooms_of, put_rooms}

abbrev pair : Reply → Reference → Reply × Reference
pair a b = (a, b)

-- a function whose value is put at its own place, and a list with one more

module _ {X : Type 0} where
  pub put-own : (f : ℕ → X) (k : ℕ) → put_at f k (f k) ≡ f
  put-own f k = fun_ext (λ j. by_test (j == k) (λ t. rw t (ap f (sym (eq-same j k t)))) (λ t. rw t refl))

  -- what is put at a place before counts no more
  pub put-again : (f : ℕ → X) (k : ℕ) (x y : X) → put_at (put_at f k x) k y ≡ put_at f k y
  put-again f k x y = fun_ext (λ j. by_test (j == k) (λ t. rw t refl) (λ t. rw t refl))

  pub put-list : {Y : Type 0} (g : Y → X) (d : X) (ys : List Y) (k : ℕ) (y : Y)
      → k < length ys
      → ◌≡◌ {A = ℕ → X} (λ j. get_or (map g (set ys k y)) j d) (put_at (λ j. get_or (map g ys) j d) k (g y))
  put-list g d ys k y h = fun_ext (λ j. ap (λ (xs : List X). get_or xs j d) (map-set g ys k y) ∙ by_eq j k
      (λ e. rw (e, eq-self k) (get_or-set_same (map g ys) k (g y) d (rw (length-map ys g) h)))
      (λ e. rw (eq-other j k e) (get_or-set_other (map g ys) k j (g y) d e)))

  pub put-items : (d : X) (xs : List X) (k : ℕ) (x : X)
      → k < length xs
      → ◌≡◌ {A = ℕ → X} (λ j. get_or (set xs k x) j d) (put_at (λ j. get_or xs j d) k x)
  put-items d xs k x h = fun_ext (λ j. by_eq j k
      (λ e. rw (e, eq-self k) (get_or-set_same xs k x d h))
      (λ e. rw (eq-other j k e) (get_or-set_other xs k j x d e)))

-- contents and rooms by their parts

abbrev pub contents-of : Vms → Shared → (ℕ → Guest) → (ℕ → Cpu) → Contents
contents-of a b c d = record { vms = a; shared = b; guest = c; cpu = d }

abbrev pub rooms-with : ℕ → ℕ → (ℕ → ℕ) → (ℕ → ℕ) → Rooms
rooms-with a b c d = record { vms = a; shared = b; guest = c; cpu = d }

pub contents-same : {a a' : Vms} {b b' : Shared} {c c' : ℕ → Guest} {d d' : ℕ → Cpu}
    → a ≡ a'
    → b ≡ b'
    → c ≡ c'
    → d ≡ d'
    → contents-of a b c d ≡ contents-of a' b' c' d'
contents-same p q r s = rw (p, q, r, s) refl

pub rooms-same : {a a' b b' : ℕ} {c c' d d' : ℕ → ℕ}
    → a ≡ a'
    → b ≡ b'
    → c ≡ c'
    → d ≡ d'
    → rooms-with a b c d ≡ rooms-with a' b' c' d'
rooms-same p q r s = rw (p, q, r, s) refl

if-own : {X : Type 0} (b : Bool) (x y : X) → ◌≡◌ {A = X} (if b then (if b then x else y) else x) x
if-own true x y = refl
if-own false x y = refl

pub if-stays : {X : Type 0} (b : Bool) (x y z : X)
    → (b ≡ false → y ≡ z)
    → ◌≡◌ {A = X} (if b then x else y) (if b then x else z)
if-stays true x y z h = refl
if-stays false x y z h = h refl

guest-own : (g : ℕ → Guest) (slot : Option ℕ) → put_guest g slot (guest_at g slot) ≡ g
guest-own g None = refl
guest-own g (Some v) = put-own g v

room-own : (g : ℕ → ℕ) (slot : Option ℕ) → put_room g slot (room_at g slot) ≡ g
room-own g None = refl
room-own g (Some v) = put-own g v

module _ (l : Layout) (s : Reference) (cpu : ℕ) (step : Step) (slot : Option ℕ)
    (named : slot ≡ guest_slot (s.contents.cpu cpu) step) where
  abbrev x : Used
  x = used_of (names step) slot cpu s.contents

  abbrev r : UsedRooms
  r = rooms_of (names step) slot cpu s.rooms

  abbrev told-after : Option ℕ → Reply × Used × UsedRooms → Reply × Reference
  told-after o p = (
    p.0,
    record {
      contents = put_back (names step) o cpu s.contents p.1;
      rooms = put_rooms (names step) o cpu s.rooms p.2;
    },
  )

  abbrev told-by : Option ℕ → Reply × Reference
  told-by o =
      told-after o (predict l cpu o step (used_of (names step) o cpu s.contents) (rooms_of (names step) o cpu s.rooms))

  by-slot : predict_step l s cpu step ≡ told-after slot (predict l cpu slot step x r)
  unfolding predict_step
  by-slot = ap told-by (sym named)

  abbrev predict-if : Bool → Reply × Used × UsedRooms
  predict-if b =
      if b then (Refused LogFull, x, r) else ((answer l cpu slot step x).0, (answer l cpu slot step x).1, stored r)

  predict-is : (b : Bool) → is_full (names step) slot r ≡ b → predict l cpu slot step x r ≡ predict-if b
  unfolding predict
  predict-is b h = ap predict-if h

  contents-own : put_back (names step) slot cpu s.contents x ≡ s.contents
  unfolding put_back used_of
  contents-own =
      contents-same (if-own (uses_vms (names step)) s.contents.vms no_vms)
      (if-own (uses_shared (names step) slot) s.contents.shared no_shared) (guest-own s.contents.guest slot)
      (put-own s.contents.cpu cpu)

  rooms-own : put_rooms (names step) slot cpu s.rooms r ≡ s.rooms
  unfolding put_rooms rooms_of
  rooms-own =
      rooms-same (if-own (uses_vms (names step)) s.rooms.vms 0)
      (if-own (uses_shared (names step) slot) s.rooms.shared 0) (room-own s.rooms.guest slot)
      (put-own s.rooms.cpu cpu)

  abbrev state-with : Contents → Rooms → Reference
  state-with c q = record { contents = c; rooms = q }

  pub predicted-full : is_full (names step) slot r ≡ true
      → ◌≡◌ {A = Reply × Reference} (predict_step l s cpu step) (Refused LogFull, s)
  predicted-full h =
      by-slot ∙ ap (told-after slot) (predict-is true h)
      ∙ ap (λ (t : Reference). pair (Refused LogFull) t) (same2 state-with contents-own rooms-own)

  abbrev with-rooms : Reply × Used → Reply × Used × UsedRooms
  with-rooms p = (p.0, p.1, stored r)

  pub predicted-answer : (reply : Reply) (y : Used)
      → is_full (names step) slot r ≡ false
      → ◌≡◌ {A = Reply × Used} (answer l cpu slot step x) (reply, y)
      → ◌≡◌ {A = Reply × Reference} (predict_step l s cpu step) (
        reply,
        record {
          contents = put_back (names step) slot cpu s.contents y;
          rooms = put_rooms (names step) slot cpu s.rooms (stored r);
        },
      )
  predicted-answer reply y h a = by-slot ∙ ap (told-after slot) (predict-is false h ∙ ap with-rooms a)

-- a state by its parts

abbrev state-of : Vms → Shared → (ℕ → Guest) → (ℕ → Cpu) → ℕ → ℕ → (ℕ → ℕ) → (ℕ → ℕ) → Reference
state-of a b c d e f g h =
    record {
      contents = record { vms = a; shared = b; guest = c; cpu = d };
      rooms = record { vms = e; shared = f; guest = g; cpu = h };
    }

pub state-same : {a a' : Vms} {b b' : Shared} {c c' : ℕ → Guest} {d d' : ℕ → Cpu} {e e' f f' : ℕ} {g g' h h' : ℕ → ℕ}
    → a ≡ a'
    → b ≡ b'
    → c ≡ c'
    → d ≡ d'
    → e ≡ e'
    → f ≡ f'
    → g ≡ g'
    → h ≡ h'
    → state-of a b c d e f g h ≡ state-of a' b' c' d' e' f' g' h'
state-same p q r s t u v w = rw (p, q, r, s, t, u, v, w) refl
