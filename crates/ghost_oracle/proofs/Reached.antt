-- One legal history leads to the very state that the parts stand for: past the 64 guests and the layout's CPUs there is
-- nothing.
use Rattle.std.proofs.Common.{◌≡◌, ℕ, ◌+◌, ◌-◌, ◌<◌, ◌≤◌, suc, refl, ap, sym, ◌∙◌, subst, arith, inl, inr, List, [], ◌∷◌, length, All, Option, Some, None, slice_get}
use Rattle.std.specs.Prelude.{true, false}
use Rattle.std.proofs.lemmas.Option.{slice_get_cases}
use mathlib.Core.Path.{fun_ext}
use Rattle.call_table.specs.declared.reply.Call.{Call}
use Rattle.page_state.specs.Layouts.{Layout}
use Rattle.page_state.proofs.Cases.{by_lt, by_test}
use Rattle.page_state.proofs.Common.{same2, same4, eq-same}
use Rattle.reference_model.specs.model.Boot.{boot, booted}
use Rattle.reference_model.specs.help.Conditions.{Legal, IsUsable}
use Rattle.reference_model.specs.model.Stored.{held_state}
use Rattle.reference_model.specs.model.Parts.{guest_part, is_slot}
use Rattle.reference_model.specs.model.Rules.{call_uses}
use Rattle.reference_model.specs.model.Run.{Runs, IsRun}
use Rattle.reference_model.specs.model.State.{Reference, no_guest, no_cpu}
use Rattle.reference_model.specs.claims.Laws.{guest_in, cpu_in}
use Rattle.reference_model.specs.model.Step.{Steps}
use Rattle.reference_model.specs.model.Used.{used_of}
use Rattle.reference_model.proofs.Held.{slot-low}
use Rattle.reference_model.proofs.RoomLaws.{run_rooms}
use Rattle.reference_model.proofs.Steps.{state_of as contents_of, all_of, whole, first-same, second-same, step_changes}
use Rattle.reference_model.proofs.conditions.Keeps.{legal_keeps}
use Rattle.reference_model.proofs.conditions.BootLegal.{boot_legal}
use Rattle.reference_model.proofs.conditions.RunsLegal.{ready-usable}
use Rattle.part_types.specs.View.{guest_held, cpu_of}
use Rattle.hypercalls.specs.declared.parts.Parts.{Parts}
use Rattle.hypercalls.specs.Stands.{at_place, parts_layout, kept_of, state_of, HasHistory}

slot_is : (slot : Option ℕ) (v : ℕ) → is_slot slot v ≡ true → slot ≡ Some v
slot_is None v h = cc
slot_is (Some u) v h = ap Some (sym (eq-same v u h))

-- past the 64 guests and the layout's CPUs there is nothing, and nothing is stored
record IsBlankPast (l : Layout) (s : Reference) : Type 0 where
  guest : (v : ℕ) → 64 ≤ v → guest_in v s ≡ (no_guest, l.config.log)
  cpu : (c : ℕ) → l.config.cpus ≤ c → cpu_in c s ≡ (no_cpu, l.config.log)

module _ (l : Layout) (usable : IsUsable l) where
  -- a call uses none of them
  other_guest : (s t : Reference) (c : Call)
      → Legal l s.contents
      → Steps l s c t
      → (v : ℕ)
      → 64 ≤ v
      → call_uses (guest_part v) c ≡ false
  unfolding used_of
  other_guest s t c legal step v past = by_test (is_slot c.slot v)
      (λ e. let low : v < 64 = slot-low l s.contents legal c.cpu v c.step (sym step.on.slot ∙ slot_is c.slot v e) in
      absurd (omega (arith, low, past)))
      (λ e. e)

  stays : (s t : Reference) (c : Call)
      → c.cpu < l.config.cpus
      → Legal l s.contents
      → Steps l s c t
      → IsBlankPast l s
      → IsBlankPast l t
  stays s t c known legal step h =
      let beside = step_changes l s t c step in
      record {
        guest = λ v past. beside.guest v (other_guest s t c legal step v past) ∙ h.guest v past;
        cpu =
            λ k past. beside.cpu k
            (λ e. let below : k < l.config.cpus = subst (λ n. n < l.config.cpus) (sym e) known in
            absurd (omega (arith, below, past)))
            ∙ h.cpu k past;
      }

  blank_from : (cs : List Call) (s t : Reference)
      → All (λ c. c.cpu < l.config.cpus) cs
      → Legal l s.contents
      → Runs (Steps l) s cs t
      → IsBlankPast l s
      → IsBlankPast l t
  blank_from [] s t known legal run h = subst (λ (u : Reference). IsBlankPast l u) run h
  blank_from (c ∷ cs) s t known legal run h =
      let first : c.cpu < l.config.cpus = known 0 c (omega arith) in
      blank_from cs run.0 t (λ k d less. known (suc k) d (omega arith))
      (legal_keeps l s run.0 c usable first legal run.1) run.2 (stays s run.0 c first legal run.1 h)

-- a state by its parts
pub state_same : (s t : Reference)
    → s.contents.vms ≡ t.contents.vms
    → s.contents.shared ≡ t.contents.shared
    → ((v : ℕ) → s.contents.guest v ≡ t.contents.guest v)
    → ((c : ℕ) → s.contents.cpu c ≡ t.contents.cpu c)
    → s.rooms.vms ≡ t.rooms.vms
    → s.rooms.shared ≡ t.rooms.shared
    → ((v : ℕ) → s.rooms.guest v ≡ t.rooms.guest v)
    → ((c : ℕ) → s.rooms.cpu c ≡ t.rooms.cpu c)
    → s ≡ t
unfolding contents_of all_of
state_same s t a b g k d e h i =
    same2 whole (same4 contents_of a b (fun_ext g) (fun_ext k)) (same4 all_of d e (fun_ext h) (fun_ext i))

-- a log's room is told by its calls
room_is : (log room : ℕ) (calls kept : List Call) → room + length calls ≡ log → kept ≡ calls → log - length kept ≡ room
room_is log room calls kept h e = let n : length kept ≡ length calls = ap length e in omega arith

minus_none : (n : ℕ) → n - 0 ≡ n
minus_none n = omega arith

-- a place past a list's end
past_end : {P : Type 0} (xs : List P) (n : ℕ) → length xs ≤ n → slice_get xs n ≡ None
past_end xs n h = elim (slice_get_cases xs n).1 [
  | inl (k, inside, at, is) ↦ absurd (omega (arith, inside, h))
  | inr past ↦ past.1
]

module _ {A : Type 0} (p : Parts A) (past : HasHistory p) where
  abbrev l : Layout
  l = parts_layout p

  abbrev end : Reference
  end = past.history.end

  blank : IsBlankPast l end
  unfolding booted
  blank =
      blank_from l (ready-usable l past.ready) past.log (boot l) end past.history.run.cpus
      (boot_legal l past.ready.enough (ready-usable l past.ready)) past.history.run.leads
      (record { guest = λ v h. refl; cpu = λ c h. refl })

  no_guest_at : (v : ℕ) → 64 ≤ v → slice_get p.guests.items v ≡ None
  no_guest_at v h = past_end p.guests.items v (omega (arith, p.slots, p.guests.ok.0, h))

  no_cpu_at : (c : ℕ) → l.config.cpus ≤ c → slice_get p.cpus.items c ≡ None
  no_cpu_at c h = past_end p.cpus.items c (omega (arith, p.counted, p.cpus.ok.0, h))

  stands : state_of p ≡ end
  stands =
      let told = run_rooms l past.log end past.history.run past.history.stored in
      let k = kept_of p in
      let h = past.history in
      state_same (held_state l k) end (first-same h.vms) (first-same h.shared)
      (λ v. by_lt v 64 (λ less. first-same (h.guest v less))
      (λ over. ap (at_place no_guest guest_held) (no_guest_at v over) ∙ sym (first-same (blank.guest v over))))
      (λ c. by_lt c l.config.cpus (λ less. first-same (h.cpu c less))
      (λ over. ap (at_place no_cpu cpu_of) (no_cpu_at c over) ∙ sym (first-same (blank.cpu c over))))
      (room_is l.config.log end.rooms.vms _ k.vms.1 told.vms (second-same h.vms))
      (room_is l.config.log end.rooms.shared _ k.shared.1 told.shared (second-same h.shared))
      (λ v. by_lt v 64
      (λ less. room_is l.config.log (end.rooms.guest v) _ (k.guest v).1 (told.guest v)
      (second-same (h.guest v less)))
      (λ over. ap (λ o. l.config.log - length (at_place [] (λ g. g.log.calls) o)) (no_guest_at v over)
      ∙ minus_none l.config.log ∙ sym (second-same (blank.guest v over))))
      (λ c. by_lt c l.config.cpus
      (λ less. room_is l.config.log (end.rooms.cpu c) _ (k.cpu c).1 (told.cpu c) (second-same (h.cpu c less)))
      (λ over. ap (λ o. l.config.log - length (at_place [] (λ k. k.log.calls) o)) (no_cpu_at c over)
      ∙ minus_none l.config.log ∙ sym (second-same (blank.cpu c over))))

  -- the state that the parts stand for is the end of a run
  pub run_to : IsRun (parts_layout p) past.log (state_of p)
  run_to = subst (λ (s : Reference). IsRun (parts_layout p) past.log s) (sym stands) past.history.run
