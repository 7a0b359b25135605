-- The logs of a world that has ended, and the calls of its history.
use Rattle.std.proofs.Common.{◌≡◌, ℕ, ◌<◌, ◌≤◌, zero, suc, refl, sym, ap, subst, ◌∙◌, arith, List, [], ◌∷◌, length, map, Option, Some, slice_get}
use Rattle.page_state.specs.declared.layout.Layout.{Layout as TheLayout}
use Rattle.page_state.specs.LayoutView.{layout_of}
use Rattle.page_state.specs.Layouts.{Layout}
use Rattle.page_state.proofs.Cases.{by_lt}
use Rattle.call_table.specs.declared.reply.Reply.{Reply}
use Rattle.call_table.specs.declared.step.Step.{Step}
use Rattle.reference_model.specs.model.History.{calls_by, calls_on}
use Rattle.reference_model.specs.model.Parts.{Part, guest_part, shared_part, vm_part}
use Rattle.part_types.specs.declared.parts.CpuState.{CpuState}
use Rattle.part_types.specs.declared.parts.GuestPart.{GuestPart}
use Rattle.hypercalls.specs.declared.parts.Parts.{Parts}
use Rattle.hypercalls.specs.Stands.{at_place, kept_of, parts_layout}
use Rattle.part_table.specs.declared.slot.Slot.{Slot}
use Rattle.part_table.specs.declared.slot.Slot.TheVariants.{Vm as VmSlot, Shared as SharedSlot, Guest as GuestSlot}
use Rattle.part_table.specs.Endings.{IsEndOf}
use Rattle.part_table.specs.Slots.{slots_of}
use Rattle.world.specs.declared.merge.Histories.{Histories}
use Rattle.world.specs.Merges.{AreLogsOf, IsMerged, ReportsMerged, log_by, log_on}
use Rattle.world.proofs.Merging.{log_past}
use Rattle.trace_race.specs.declared.course.Asked.{Asked}
use Rattle.trace_race.specs.Ordered.{IsMergedOf, IsOfLogs}
use Rattle.trace_race.proofs.Made.{at_place as got}
use Rattle.trace_race.proofs.Past.{no_guest_calls, none_by}

mapped : {X Y : Type 0} (f : X → Y) (xs : List X) (i : ℕ) (x : X)
    → slice_get xs i ≡ Some x
    → slice_get (map f xs) i ≡ Some (f x)
mapped f [] i x e = absurd (let no = e in cc)
mapped f (y ∷ xs) zero x e = ap (λ z. Some (f z)) (let same : y ≡ x = cc in same)
mapped f (y ∷ xs) (suc i) x e = mapped f xs i x e

module _ {A : Type 0} (p : Parts A) (logs : Histories) (l : TheLayout) (layout : p.layout ≡ l)
    (are : AreLogsOf logs (parts_layout p) (kept_of p)) (e : IsEndOf l (slots_of p) p.cpus.items) where
  many : length p.guests.items ≡ 64
  many = omega (arith, p.slots, p.guests.ok.0)

  cpus_same : (parts_layout p).config.cpus ≡ l.config.cpus
  cpus_same = ap (λ (k : TheLayout). k.config.cpus) layout

  on_part : (q : Part) → calls_on q e.left.log ≡ log_on logs q
  on_part vm_part = sym (are.vms ∙ (e.left.parts 0 (VmSlot p.vms) refl).1)
  on_part shared_part = sym (are.shared ∙ (e.left.parts 1 (SharedSlot p.shared) refl).1)
  on_part (guest_part v) = by_lt v 64
      (λ less.
      let g = got p.guests.items v (omega (arith, less, many)) in
      sym (are.guest v less ∙ ap (at_place [] (λ (g : GuestPart A). g.log.calls)) g.1
      ∙ (e.left.parts (suc (suc v)) (GuestSlot g.0)
      (mapped (λ (g : GuestPart A). GuestSlot g) p.guests.items v g.0 g.1)).1))
      (λ past. no_guest_calls (layout_of l) e.left.ready e.left.log e.left.history.end e.left.history.run v past
      ∙ sym (log_past logs.guests.items v (let few = are.guests in omega (arith, few, past))))

  by_cpu : (cpu : ℕ) → calls_by cpu e.left.log ≡ log_by logs cpu
  by_cpu cpu = by_lt cpu l.config.cpus
      (λ less.
      let k = got p.cpus.items cpu (let n = e.count in omega (arith, n, less)) in
      sym (are.cpu cpu (omega (arith, less, cpus_same)) ∙ ap (at_place [] (λ (k : CpuState). k.log.calls)) k.1
      ∙ (e.left.cpus cpu k.0 k.1).0))
      (λ past. none_by l.config.cpus e.left.log e.left.history.run.cpus cpu past
      ∙ sym (log_past logs.cpus.items cpu (let few = are.cpus in omega (arith, few, past, cpus_same))))

  pub merged_whole : IsMerged logs e.left.log
  merged_whole = record { on = on_part; by = by_cpu }

-- a merged list of the logs is one of the history
pub merged_of : (l : Layout) (start : ℕ) (steps : List Asked) (replies : List Reply) (logs : Histories)
    (calls told : List (ℕ × Step × Reply))
    → IsOfLogs l start steps replies logs
    → ReportsMerged logs calls
    → told ≡ calls
    → IsMergedOf l start steps replies told
merged_of l start steps replies logs calls told of m same = record {
  history = of.history;
  begins = of.begins;
  all = m.all;
  on = λ p. m.merged.on p ∙ sym (of.merged.on p);
  by = λ cpu. m.merged.by cpu ∙ sym (of.merged.by cpu);
  told = m.tells ∙ sym same;
}
