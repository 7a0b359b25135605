use Rattle.std.proofs.Common.{◌≡◌, ℕ, ◌<◌, ◌≤◌, List, [], length, drop, slice_index, slice_set, sym, ap, subst, ◌∙◌, arith, length-set}
use Rattle.std.specs.Prelude.{Vec, ◌==◌, if◌then◌else◌}
use Rattle.std.proofs.lemmas.List.{get_or-set_same, get_or-set_other}
use Rattle.page_state.proofs.Cases.{by_eq}
use Rattle.page_state.proofs.Common.{eq-made, eq-other, if-true, if-false}
use Rattle.call_table.specs.declared.reply.Call.{Call}
use Rattle.world.specs.Merges.{log_at}
use Rattle.world.specs.inner.Merging.{rest_of}
use Rattle.world.proofs.Merging.{drop_past, get_of, index_of, log_here, log_past}
use Rattle.world.proofs.merge.advance_at.Goals as goal

module _ {Z : Type 0} (logs : List (Vec Call Z)) (places : List ℕ) (i : ℕ) where
  -- the place moves on in one log
  moved : (n : ℕ)
      → i < length places
      → drop n (log_at logs i) ≡ rest_of (drop (slice_index places i) (log_at logs i))
      → (k : ℕ)
      → drop (slice_index (slice_set places i n) k) (log_at logs k)
      ≡ (if k == i then rest_of (drop (slice_index places k) (log_at logs k))
      else drop (slice_index places k) (log_at logs k))
  moved n inside on k = by_eq k i
      (λ e. subst
      (λ j. drop (slice_index (slice_set places i n) j) (log_at logs j)
      ≡ rest_of (drop (slice_index places j) (log_at logs j)))
      (sym e) (ap (λ m. drop m (log_at logs i)) (get_or-set_same places i n 0 inside) ∙ on)
      ∙ sym
      (if-true (k == i) (rest_of (drop (slice_index places k) (log_at logs k)))
      (drop (slice_index places k) (log_at logs k)) (eq-made k i e)))
      (λ ne. ap (λ m. drop m (log_at logs k)) (get_or-set_other places i k n 0 ne)
      ∙ sym
      (if-false (k == i) (rest_of (drop (slice_index places k) (log_at logs k)))
      (drop (slice_index places k) (log_at logs k)) (eq-other k i ne)))

  -- past all logs there is nothing to give
  stays : length logs ≤ i
      → (k : ℕ)
      → drop (slice_index places k) (log_at logs k)
      ≡ (if k == i then rest_of (drop (slice_index places k) (log_at logs k))
      else drop (slice_index places k) (log_at logs k))
  stays past k = by_eq k i
      (λ e. let none =
      ap (drop (slice_index places k)) (log_past logs k (omega (arith, e, past)))
      ∙ drop_past [] (slice_index places k) (omega arith) in
      none
      ∙ (sym (ap rest_of none)
      ∙ sym
      (if-true (k == i) (rest_of (drop (slice_index places k) (log_at logs k)))
      (drop (slice_index places k) (log_at logs k)) (eq-made k i e))))
      (λ ne. sym
      (if-false (k == i) (rest_of (drop (slice_index places k) (log_at logs k)))
      (drop (slice_index places k) (log_at logs k)) (eq-other k i ne)))

pub returns-then-i-logs-clause-count : goal.returns-then-i-logs-clause-count
returns-then-i-logs-clause-count c = length-set c.args.places.now.items c.args.i c.place_after.result

pub returns-then-i-logs-clause-left : goal.returns-then-i-logs-clause-left
returns-then-i-logs-clause-left c =
    let logs = c.args.logs.now in
    let places = c.args.places.now.items in
    let i = c.args.i in
    let log =
    c.as_slice.ensures.value
    ∙ sym
    (log_here logs i c.index-logs-i.result
    (get_of logs i c.index-logs-i.result c.if-i-logs.true c.index-logs-i.is)) in
    let inside : i < length places = omega (arith, c.requires, c.if-i-logs.true) in
    let read = c.as_slice.result.now in
    let on : drop c.place_after.result read ≡ rest_of (drop (slice_index places i) read) =
    subst (λ n. drop c.place_after.result read ≡ rest_of (drop n read))
    (sym (index_of places i c.index.result.now inside c.index.ensures)) c.place_after.ensures in
    moved logs places i c.place_after.result inside
    (subst (λ l. drop c.place_after.result l ≡ rest_of (drop (slice_index places i) l)) log on)

pub returns-else-i-logs-clause-left : goal.returns-else-i-logs-clause-left
returns-else-i-logs-clause-left c = stays c.args.logs.now c.args.places.now.items c.args.i c.if-i-logs.false
