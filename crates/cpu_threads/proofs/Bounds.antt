-- The room that is counted before the end is enough for all logs after it.
use Rattle.std.proofs.Common.{◌≡◌, ℕ, suc, ◌+◌, ◌<◌, ◌≤◌, List, [], ◌∷◌, length, Bool, inl, inr, refl, sym, ap, ◌∙◌, subst, arith}
use Rattle.std.specs.Prelude.{Option, Some, filter, slice_get}
use Rattle.std.proofs.lemmas.Bool.{cases_lt}
use Rattle.std.proofs.lemmas.Grind.{not_there}
use Rattle.atomic_table.specs.Seated.{TableId}
use Rattle.call_table.specs.declared.reply.Call.{Call}
use Rattle.reference_model.specs.model.History.{calls_by}
use Rattle.part_types.specs.declared.parts.CpuState.{CpuState}
use Rattle.hypercalls.specs.declared.parts.Parts.{Parts}
use Rattle.hypercalls.specs.Stands.{HasHistory, at_place, kept_of}
use Rattle.part_table.specs.Endings.{ForEach, KeepsOwn}
use Rattle.part_table.specs.Passes.{AreHomeFrom, Pass}
use Rattle.part_table.proofs.Lists.{from}
use Rattle.world.specs.declared.merge.Histories.{Histories}
use Rattle.cpu_threads.specs.Rooms.{CanHold, HaveRoom, cpu_log, guest_log, of_pass, picks, shared_log, total, total_given, vms_log}
use Rattle.cpu_threads.proofs.Counts.{all_within, banded}
use Rattle.cpu_threads.proofs.Ends.{get_bound}

-- a bound comes out of a truncation
le_from : {X : Type 0} (m n : ℕ) → ∥ X ∥₁ → (X → m ≤ n) → m ≤ n
le_from m n a so =
    elim (cases_lt n m) [ inl below ↦ absurd (not_there a (λ x. omega (arith, so x))) | inr above ↦ above ]

-- passes that have the calls of a list by CPU
totals_from : (f : Call → Bool) (m : ℕ) (log : List Call) (passes : List (Option Pass))
    → ((i : ℕ) (o : Option Pass) → slice_get passes i ≡ Some o → of_pass f o ≡ length (filter f (calls_by (m + i) log)))
    → total f passes ≡ banded f m (length passes) log
totals_from f m log [] each = refl
totals_from f m log (o ∷ os) each =
    let here : m + 0 ≡ m = omega arith in
    let first : of_pass f o ≡ length (filter f (calls_by m log)) =
    each 0 o refl ∙ ap (λ j. length (filter f (calls_by j log))) here in
    let rest =
    totals_from f (suc m) log os
    (λ i d at. let on : m + suc i ≡ suc m + i = omega arith in
    each (suc i) d at ∙ ap (λ j. length (filter f (calls_by j log))) on) in
    ap (λ k. k + total f os) first ∙ ap (λ k. length (filter f (calls_by m log)) + k) rest

module _ {A : Type 0} (p : Parts A) (table : TableId) (passes : List (Option Pass)) (h : Histories)
    (all : length passes ≡ p.layout.config.cpus) (home : AreHomeFrom table (length passes) 0 passes)
    (keeps : ForEach passes (KeepsOwn p.cpus.items)) where
  own_calls : (has : HasHistory p) (f : Call → Bool) (i : ℕ) (o : Option Pass)
      → slice_get passes i ≡ Some o
      → of_pass f o ≡ length (filter f (calls_by (0 + i) has.log))
  own_calls has f i o at =
      let less : i < length passes = get_bound passes i o at in
      let q = home i (omega arith) less in
      let is : o ≡ Some q.0 = ap (from o) (sym at ∙ q.1) in
      let own : slice_get p.cpus.items i ≡ Some q.0.knows.own =
      ap (slice_get p.cpus.items) (sym q.3) ∙ keeps i q.0 q.1 in
      let calls : q.0.knows.own.log.calls ≡ calls_by i has.log =
      ap (at_place [] (λ (k : CpuState). k.log.calls)) (sym own)
      ∙ ap (λ z. z.1) (has.history.cpu i (subst (λ n. i < n) all less)) in
      let zero_plus : i ≡ 0 + i = omega arith in
      ap (of_pass f) is
      ∙ (ap (λ (cs : List Call). length (filter f cs)) calls
      ∙ ap (λ j. length (filter f (calls_by j has.log))) zero_plus)

  in_all : (has : HasHistory p) (f : Call → Bool) → total f passes ≡ length (filter f has.log)
  in_all has f =
      totals_from f 0 has.log passes (own_calls has f)
      ∙ (ap (λ n. banded f 0 n has.log) all ∙ all_within f p.layout.config.cpus has.log has.history.run.cpus)

  fits : (has : HasHistory p) (f : Call → Bool) (log : List Call) (n : ℕ)
      → log ≡ filter f has.log
      → total f passes + total_given f [] ≤ n
      → length log ≤ n
  fits has f log n is room =
      let long : length log ≡ total f passes = ap (λ (l : List Call). length l) is ∙ sym (in_all has f) in
      omega (arith, long, room)

  pub can_hold : ∥ HasHistory p ∥₁ → HaveRoom passes [] (length passes) h → CanHold (kept_of p) p.layout.config.cpus h
  can_hold some r = record {
    vms = (r.vms.0, le_from _ _ some (λ has. fits has (picks vms_log) _ _ (ap (λ z. z.1) has.history.vms) r.vms.1));
    shared = (
      r.shared.0,
      le_from _ _ some (λ has. fits has (picks shared_log) _ _ (ap (λ z. z.1) has.history.shared) r.shared.1),
    );
    guest_count = r.guests.0;
    guests = λ v x at. let e = r.guests.1 v x at in (
      e.0,
      le_from _ _ some
          (λ has. fits has (picks (guest_log v)) _ _
          (ap (λ z. z.1)
          (has.history.guest v (subst (λ n. v < n) r.guests.0 (get_bound h.guests.items v x at)))) e.1),
    );
    cpu_count = r.cpus.0 ∙ all;
    cpus = λ n x at. let e = r.cpus.1 n x at in (
      e.0,
      le_from _ _ some
          (λ has. fits has (picks (cpu_log n)) _ _
          (ap (λ z. z.1)
          (has.history.cpu n
          (subst (λ k. n < k) (r.cpus.0 ∙ all) (get_bound h.cpus.items n x at)))) e.1),
    );
  }

-- room for what two lists of passes have is room for what is then in one
pub room_back : (first passes : List (Option Pass)) (given : List Pass) (n : ℕ) (h : Histories)
    → ((f : Call → Bool) → total f passes ≤ total f first + total_given f given)
    → HaveRoom first given n h
    → HaveRoom passes [] n h
room_back first passes given n h few r = record {
  vms = (r.vms.0, omega (arith, few (picks vms_log), r.vms.1));
  shared = (r.shared.0, omega (arith, few (picks shared_log), r.shared.1));
  guests = (r.guests.0, λ v x at. let e = r.guests.1 v x at in (e.0, omega (arith, few (picks (guest_log v)), e.1)));
  cpus = (r.cpus.0, λ c x at. let e = r.cpus.1 c x at in (e.0, omega (arith, few (picks (cpu_log c)), e.1)));
}
