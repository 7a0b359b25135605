use Rattle.std.proofs.Common.{◌≡◌, ◌+◌, ◌↔◌, Bool, true, false, ◌||◌, nat_lt, length, Result, Ok, Err, ap, sym, ◌∙◌, Some}
use Rattle.std.proofs.lemmas.Bool.{false≢true, lt-ltb, ltb-true}
use Rattle.page_state.specs.LayoutView.{layout_of}
use Rattle.page_state.proofs.Common.{not-holds}
use Rattle.guest_component.specs.View.{guest_depth, guest_of}
use Rattle.reference_model.specs.model.Step.{guest_need, shared_after, shared_need}
use Rattle.part_types.specs.Planned.{planned, shared_with}
use Rattle.part_types.specs.View.{shared_of}
use Rattle.part_types.proofs.Planned.{after_planned}
use Rattle.hypercalls.specs.Carried.{with_rows_touched}
use Rattle.hypercalls.proofs.Carried.{can_change, suits_after}
use Rattle.hypercalls.proofs.carry.change_both.Goals as goal

err_is : {X E : Type 0} {a b : E} → ◌≡◌ {A = Result X E} (Err a) (Err b) → a ≡ b
err_is h = cc

never : {X E : Type 0} {x : X} {e : E} → ◌≡◌ {A = Result X E} (Ok x) (Err e) → ⊥
never h = cc

-- neither pool is short
short_none : {R : Type 0} (a b : Bool) → a ≡ false → b ≡ false → (R → ⊥) → R ↔ ((a || b) ≡ true)
short_none true b p q n = (λ r. absurd (n r), λ _. absurd (false≢true (sym p)))
short_none false b p q n = (λ r. absurd (n r), λ e. absurd (false≢true (sym q ∙ e)))

pub reserve-requires : goal.reserve-requires
reserve-requires g c =
    can_change
    (layout_of c.args.layout.now) c.args.changes.now c.args.part.now.guest c.requires.can_guest.suits.depth
    c.requires.can_guest.fit c.requires.can_guest.parts

pub write_rows-requires-clause-suits : goal.write_rows-requires-clause-suits
write_rows-requires-clause-suits g c =
    let a = c.commit.ensures.rest in
    let b = c.reserve-2.ensures.rest in
    suits_after (layout_of c.args.layout.now) c.args.shared.now c.commit.new.self (a.depth ∙ b.depth) (a.rows ∙ b.rows)
    (a.log ∙ b.log) c.requires.can.suits

pub returns-in-Ok-clause-shared : goal.returns-in-Ok-clause-shared
returns-in-Ok-clause-shared g c =
    let l = layout_of c.args.layout.now in
    let h = c.args.changes.now in
    let p = c.in-Ok.plan in
    let x = shared_with p c.reserve-2.new.self in
    let a = c.commit.ensures.rest in
    let b = c.reserve-2.ensures.rest in
    record {
      made = c.write_rows.ensures.told
          ∙ ap (with_rows_touched l c.args.id (Some c.args.slot) h)
          (c.commit.ensures.made ∙ ap (λ d. shared_after d (planned p) x) (b.depth ∙ c.requires.can.suits.depth)
          ∙ after_planned l.depth h p x c.in-Ok.ensures.planned.both
          ∙ ap (shared_after l.depth h) c.in-Ok.ensures.planned.whole);
      err = tt;
      suits = c.write_rows.ensures.suits;
      log = c.write_rows.ensures.log ∙ a.log ∙ b.log;
    }

pub returns-in-Err-clause-no_pool : goal.returns-in-Err-clause-no_pool
returns-in-Err-clause-no_pool g c =
    let s = c.args.shared.now in
    let h = c.args.changes.now in
    let gs = guest_of c.args.part.now.guest in
    let enough : nat_lt (length s.pool.frames) (c.need-need.result.host + c.need-need.result.hyp) ≡ false =
    sym c.is_short.ensures ∙ c.if-is_short.false in
    let shared_enough =
    ap (λ d. nat_lt (length s.pool.frames) (shared_need d h (shared_of s))) (sym c.requires.can.suits.depth)
    ∙ ap (nat_lt (length s.pool.frames)) (sym c.need-need.ensures.total) ∙ enough in
    let guest_enough =
    ap (λ d. nat_lt (length gs.free) (guest_need d h gs)) (sym c.requires.can_guest.suits.depth)
    ∙ not-holds (nat_lt (length gs.free) (guest_need (guest_depth c.args.part.now.guest) h gs))
    (λ e. never (sym c.in_ok-guest_plan.was ∙ c.reserve.ensures.no_pool.1 (ltb-true _ _ e))) in
    short_none _ _ shared_enough guest_enough
    (λ e. false≢true (sym enough ∙ lt-ltb _ _ (c.reserve-2.ensures.no_pool.0 (c.in-Err.is ∙ ap Err (err_is e)))))

pub returns-in-Err-clause-shared : goal.returns-in-Err-clause-shared
returns-in-Err-clause-shared g c =
    let b = c.reserve-2.ensures.rest in
    record {
      made = tt;
      err = c.in-Err.ensures.err.same;
      suits =
          suits_after
          (layout_of c.args.layout.now) c.args.shared.now c.reserve-2.new.self b.depth b.rows
          b.log c.requires.can.suits;
      log = b.log;
    }
