-- A part's log that was full stays full, and was before a call of a CPU that had seen it.
use Rattle.std.proofs.Common.{◌≡◌, ℕ, ◌+◌, ◌<◌, ◌≤◌, List, [], length, length-append, ap, ◌∙◌, subst, arith}
use Rattle.page_state.specs.declared.layout.Layout.{Layout as TheLayout}
use Rattle.page_state.specs.LayoutView.{layout_of}
use Rattle.call_table.specs.declared.reply.Call.{Call}
use Rattle.reference_model.specs.model.History.{calls_on}
use Rattle.reference_model.specs.model.Rules.{call_uses}
use Rattle.part_types.specs.declared.parts.CpuState.{CpuState}
use Rattle.part_types.specs.Logs.{StoredCalls}
use Rattle.part_table.specs.declared.slot.Slot.{Slot}
use Rattle.part_table.specs.Before.{before_own}
use Rattle.part_table.specs.Endings.{IsEndOf}
use Rattle.part_table.specs.Known.{StartsWith}
use Rattle.part_table.specs.Parts.{parts, part_of, log_of}
use Rattle.part_table.proofs.Before.{own_front, picked_front, starts_on}
use Rattle.part_table.proofs.Fronts.{part_size}
use Rattle.part_table.proofs.Left.{each_part}
use Rattle.cpu_threads.specs.Laws.{FullLogsStay}

module _ {A : Type 0} (l : TheLayout) (found : List (Slot A)) (cpus : List CpuState) (e : IsEndOf l found cpus) where
  -- no part has more calls than a log can store
  pub part_bound : (k : ℕ) → k < parts → length (calls_on (part_of k) e.left.log) ≤ l.config.log
  part_bound k less =
      let x = each_part e k less in
      let size : length (log_of x.0).calls + (log_of x.0).room ≡ l.config.log =
      part_size (layout_of l) e.left.history.end k x.0 x.2 in
      let long : length (log_of x.0).calls ≡ length (calls_on (part_of k) e.left.log) =
      ap (λ (cs : List Call). length cs) x.3 in
      omega (arith, size, long)

  -- a log that was full has all calls of its part
  pub full_stays : (k : ℕ) (g : StoredCalls)
      → (k < parts) × (length g.calls + g.room ≡ l.config.log) × StartsWith (calls_on (part_of k) e.left.log) g.calls
      → g.room ≡ 0
      → length (calls_on (part_of k) e.left.log) ≡ l.config.log
  full_stays k g h none =
      let most : length (calls_on (part_of k) e.left.log) ≤ l.config.log = part_bound k h.0 in
      let long : length (calls_on (part_of k) e.left.log) ≡ length g.calls + length h.2.0 =
      ap (λ (cs : List Call). length cs) h.2.1 ∙ length-append g.calls h.2.0 in
      let size : length g.calls + g.room ≡ l.config.log = h.1 in
      omega (arith, most, long, size, none)

  -- so it had, before a call of a CPU that had seen it
  pub full_before : (k cpu n : ℕ) (g : StoredCalls)
      → (k < parts)
      × (length g.calls + g.room ≡ l.config.log)
      × StartsWith (calls_on (part_of k) (before_own cpu n e.left.log)) g.calls
      → g.room ≡ 0
      → (length (calls_on (part_of k) (before_own cpu n e.left.log)) ≡ l.config.log)
      × (length (calls_on (part_of k) e.left.log) ≡ l.config.log)
  full_before k cpu n g h none =
      let there : List Call = calls_on (part_of k) (before_own cpu n e.left.log) in
      let front =
      picked_front (call_uses (part_of k)) e.left.log (before_own cpu n e.left.log) (own_front cpu n e.left.log) in
      let most : length (calls_on (part_of k) e.left.log) ≡ l.config.log =
      full_stays k g (h.0, h.1, starts_on (calls_on (part_of k) e.left.log) there g.calls front h.2) none in
      let all : length (calls_on (part_of k) e.left.log) ≡ length there + length front.0 =
      ap (λ (cs : List Call). length cs) front.1 ∙ length-append there front.0 in
      let long : length there ≡ length g.calls + length h.2.0 =
      ap (λ (cs : List Call). length cs) h.2.1 ∙ length-append g.calls h.2.0 in
      let size : length g.calls + g.room ≡ l.config.log = h.1 in
      (omega (arith, most, all, long, size, none), most)

pub full_logs_stay : (A : Type 0) → FullLogsStay A
full_logs_stay A m found cpus passes given h j p there i t less full =
    full_before m.layout found cpus h.end _ p.knows.cpu _ full.0
    ((h.each j p there).tried i t less full.0 full.1) full.2
