use Rattle.std.proofs.Common.{◌≡◌, ◌<◌, ◌≤◌, ◌-◌, ◌∙◌, arith, get_or, length, refl, sym, subst}
use Rattle.std.specs.Box.{with_value}
use Rattle.table_tree.specs.Meaning.{slot_at}
use Rattle.table_tree.proofs.Slots.{set_here, set_wide}
use Rattle.table_tree.proofs.RawTables.{raw_wide}
use Rattle.table_tree.proofs.Pokes.{there_good, there_first, there_below, there_two, there_child, there_stops, poked_same, poked_other, poked_below, by_word}
use Rattle.table_tree.proofs.poke.+poke_in.Goals as goal

pub bounds-path-0 : goal.bounds-path-0
bounds-path-0 g t c = let x =
    (there_good c.args.depth c.args.table.now c.args.path.now c.requires.raw c.requires.there).0 in
    omega (arith, x)

pub poke_slot-requires-clause-within : goal.poke_slot-requires-clause-within
poke_slot-requires-clause-within g t c =
    there_first c.args.depth c.args.table.now c.args.path.now c.requires.raw c.requires.there

pub poke_slot-requires-clause-wide : goal.poke_slot-requires-clause-wide
poke_slot-requires-clause-wide g t c = raw_wide c.args.depth c.args.table.now c.requires.raw

pub returns-then-path-eq1 : goal.returns-then-path-eq1
returns-then-path-eq1 g t c =
    let l = there_first c.args.depth c.args.table.now c.args.path.now c.requires.raw c.requires.there in
    by_word (slot_at c.args.table.now (get_or c.args.path.now 0 0)) c.args.word
    (λ e. poked_same c.args.depth c.args.word c.args.path.now c.args.table.now c.poke_slot.new.table c.requires.raw
    c.if-path-eq1.true l e
    (c.poke_slot.ensures.same e) c.poke_slot.ensures.frame)
    (λ n. poked_other c.args.depth c.args.word c.args.path.now c.args.table.now c.poke_slot.new.table c.requires.raw
    c.if-path-eq1.true l n
    (c.poke_slot.ensures.other n) c.poke_slot.ensures.frame)

pub detach-requires-clause-within : goal.detach-requires-clause-within
detach-requires-clause-within g t c =
    there_first c.args.depth c.args.table.now c.args.path.now c.requires.raw c.requires.there

pub detach-requires-clause-wide : goal.detach-requires-clause-wide
detach-requires-clause-wide g t c = raw_wide c.args.depth c.args.table.now c.requires.raw

pub overflow_sub-depth : goal.overflow_sub-depth
overflow_sub-depth g t c =
    (there_child c.args.depth c.args.table.now c.args.path.now c.in-Some.child c.requires.raw c.requires.there
    c.in-Some.ensures.found).0

pub slice_bounds-poke_in-count : goal.slice_bounds-poke_in-count
slice_bounds-poke_in-count g t c = let x =
    there_two c.args.depth c.args.table.now c.args.path.now c.requires.raw c.requires.there c.if-path-eq1.false in
    omega (arith, x)

pub slice_bounds-poke_in-start : goal.slice_bounds-poke_in-start
slice_bounds-poke_in-start g t c = let x =
    there_two c.args.depth c.args.table.now c.args.path.now c.requires.raw c.requires.there c.if-path-eq1.false in
    omega (arith, x)

pub poke_in-requires : goal.poke_in-requires
poke_in-requires g t c κs within =
    let h =
    there_child c.args.depth c.args.table.now c.args.path.now c.in-Some.child c.requires.raw c.requires.there
    c.in-Some.ensures.found in
    let le : 1 ≤ c.args.depth = h.0 in
    let l = there_first c.args.depth c.args.table.now c.args.path.now c.requires.raw c.requires.there in
    let there =
    there_below c.args.table.now c.args.path.now c.in-Some.child
    (there_two c.args.depth c.args.table.now c.args.path.now c.requires.raw c.requires.there
    c.if-path-eq1.false) l c.in-Some.ensures.found c.requires.there in (
      omega (arith, c.decreases),
      (
        within,
        (
          omega (arith, c.requires.depth_in),
          (rw c.deref_mut.ensures.value h.1, rw c.deref_mut.ensures.value there),
        ),
      ),
    )

pub attach-requires-clause-within : goal.attach-requires-clause-within
attach-requires-clause-within g t c =
    there_first c.args.depth c.args.table.now c.args.path.now c.requires.raw c.requires.there

pub attach-requires-clause-wide : goal.attach-requires-clause-wide
attach-requires-clause-wide g t c =
    set_wide c.args.table.now c.detach.new.self (get_or c.args.path.now 0 0) _ c.in-Some.ensures.slots
    (raw_wide c.args.depth c.args.table.now c.requires.raw)

pub attach-requires-clause-holds : goal.attach-requires-clause-holds
attach-requires-clause-holds g t c =
    let l = there_first c.args.depth c.args.table.now c.args.path.now c.requires.raw c.requires.there in (
      0,
      set_here c.args.table.now c.detach.new.self (get_or c.args.path.now 0 0)
          (get_or c.args.path.now 0 0) _ c.in-Some.ensures.slots l
          (raw_wide c.args.depth c.args.table.now c.requires.raw) refl,
    )

pub returns-in-Some : goal.returns-in-Some
returns-in-Some g t c =
    let l = there_first c.args.depth c.args.table.now c.args.path.now c.requires.raw c.requires.there in
    let one : 1 ≤ c.args.depth =
    (there_child c.args.depth c.args.table.now c.args.path.now c.in-Some.child c.requires.raw c.requires.there
    c.in-Some.ensures.found).0 in
    let h = rw c.deref_mut.ensures.value at c.poke_in.ensures in
    poked_below c.args.depth c.args.word c.args.path.now c.args.table.now c.detach.new.self c.attach.new.self
    c.in-Some.child
    (with_value c.in-Some.child c.poke_in.new.table) c.requires.raw
    (there_two c.args.depth c.args.table.now c.args.path.now c.requires.raw c.requires.there
    c.if-path-eq1.false) l one c.in-Some.ensures.found c.in-Some.ensures.slots c.attach.ensures.slots
    c.in-Some.ensures.frame c.attach.ensures.frame h

pub returns-in_default : goal.returns-in_default
returns-in_default g t c =
    let l = there_first c.args.depth c.args.table.now c.args.path.now c.requires.raw c.requires.there in
    absurd
    (there_stops c.args.table.now c.args.path.now
    (there_two c.args.depth c.args.table.now c.args.path.now c.requires.raw c.requires.there
    c.if-path-eq1.false) l c.in_default.ensures.found c.requires.there)
