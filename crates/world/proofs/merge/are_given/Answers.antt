use Rattle.std.proofs.Common.{true, ◌≡◌, ◌<◌, [], drop, length, slice_index, refl, sym, ap, ◌∙◌, subst, arith}
use Rattle.std.proofs.lemmas.Bool.{false≢true}
use Rattle.page_state.proofs.Cases.{by_lt}
use Rattle.world.specs.Merges.{log_at}
use Rattle.world.proofs.Merging.{drop_past, log_past, given_here, given_back}
use Rattle.world.proofs.merge.are_given.Goals as goal

pub loop-i-init : goal.loop-i-init
loop-i-init c = λ k l. absurd (omega (arith, l))

pub loop-i-preserved : goal.loop-i-preserved
loop-i-preserved c = λ k l. by_lt k c.loop-i.i (λ q. c.loop-i.invariant k q) (λ q.
    let logs = c.args.logs.now in
    let places = c.args.places.now in
    let e : k ≡ c.loop-i.i = omega (arith, l, q) in
    let inside : c.loop-i.i < length logs = omega (arith, c.loop-i-test.true) in
    subst (λ m. drop (slice_index places m) (log_at logs m) ≡ []) (sym e)
    (given_here logs c.loop-i.i
    (slice_index places c.loop-i.i) c.index-logs-i.result c.as_slice.result.now inside c.index-logs-i.is
    c.as_slice.ensures.value
    (c.is_given.ensures.0 c.if-not-is_given.false)))

pub returns-then-not-is_given : goal.returns-then-not-is_given
returns-then-not-is_given c = (
  (λ e. cc),
  (λ h.
      let logs = c.args.logs.now in
      let inside : c.loop-i.i < length logs = omega (arith, c.loop-i-test.true) in
      let given : c.is_given.result ≡ true =
      c.is_given.ensures.1
      (given_back logs c.loop-i.i
      (slice_index c.args.places.now c.loop-i.i) c.index-logs-i.result c.as_slice.result.now inside
      c.index-logs-i.is c.as_slice.ensures.value
      (h c.loop-i.i)) in
      absurd (false≢true (sym c.if-not-is_given.true ∙ given))),
)

pub returns : goal.returns
returns c = (
  (λ e k. by_lt k (length c.args.logs.now) (λ l. c.loop-i.invariant k (omega (arith, l, c.loop-i-test.false)))
      (λ p. ap (drop (slice_index c.args.places.now k)) (log_past c.args.logs.now k (omega (arith, p)))
      ∙ drop_past [] (slice_index c.args.places.now k) (omega arith))),
  (λ h. refl),
)
