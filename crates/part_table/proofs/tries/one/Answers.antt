use Rattle.std.proofs.Common.{◌≡◌, ◌≢◌, ℕ, ◌∷◌, [], length, sym, ap, ◌∙◌, refl}
use Rattle.std.specs.Prelude.{Some, None}
use Rattle.part_table.specs.declared.slot.Slot.{Slot}
use Rattle.part_table.specs.Does.{only_at}
use Rattle.part_table.specs.Parts.{log_of}
use Rattle.part_table.specs.Rule.{Seated, held_at}
use Rattle.part_table.proofs.Holding.{one_held, one_gone, only_each, only_like}
use Rattle.part_table.proofs.Making.{made_by, tried_one}
use Rattle.part_table.proofs.Pairs.{at_same, by_front}
use Rattle.part_table.proofs.Telling.{with_taken, with_home, with_stored, home_of, cpu_at, cpu_told, does_for, left_of, away_first, full_first, stored_first, rests, rests_stored}
use Rattle.part_table.proofs.tries.one.Goals.{In-Some, After-put_back, After-commit}
use Rattle.part_table.proofs.tries.one.Goals as goal

-- the seat's view holds the part alone
held : (g : _) (c : In-Some g) (j : ℕ) → only_at c.args.k c.in-Some.part j ≡ held_at c.take.new.seat.me.0.held j
held g c j =
    one_held c.args.seat.now.me.0.held c.args.k c.in-Some.part c.requires.can.rest.idle j
    ∙ ap (λ (m : Seated g.row.A.Denot). held_at m.0.held j) (sym c.in-Some.ensures.taken.is)

-- the seat where the part is home again, unused, and where a call was stored in its log
back : (g : _) (c : After-put_back g)
    → c.put_back.new.seat.me ≡ with_home (with_taken c.args.seat.now.me c.args.k c.in-Some.part) c.args.k
back g c = home_of c.args.k c.in-Some.ensures.taken.is c.put_back.ensures.home

stored : (g : _) (c : After-commit g)
    → c.commit.new.seat.me
    ≡ with_stored (with_taken c.args.seat.now.me c.args.k c.in-Some.part) c.alone-part.new.cpu
    ((c.args.k, Some c.alone-part.result.0) ∷ []) c.args.k
stored g c =
    c.commit.ensures.home
    ∙ ap
    (λ (m : Seated g.row.A.Denot). with_stored m c.alone-part.new.cpu
    ((c.args.k, Some c.alone-part.result.0) ∷ []) c.args.k) c.in-Some.ensures.taken.is

pub returns-clause-tells : goal.returns-clause-tells
returns-clause-tells g c =
    let q = cpu_at c.requires.can in
    let e = stored g (goal.at.returns-clause-tells g c).After-commit in
    stored_first c.args.seat.now.me c.args.k c.in-Some.part c.alone-part.result.0 e q.1 q.2
    (λ e. c.if-room-eq0.false (c.room.ensures ∙ e)) c.in-Some.ensures.taken.begun c.alone-part.ensures.call
    c.alone-part.ensures.does c.commit.ensures.history

pub returns-in_default-clause-tells : goal.returns-in_default-clause-tells
returns-in_default-clause-tells g c = away_first c.args.seat.now.me c.args.k [] c.in_default.ensures.missed

pub returns-then-room-eq0-clause-tells : goal.returns-then-room-eq0-clause-tells
returns-then-room-eq0-clause-tells g c =
    full_first c.args.seat.now.me c.args.k [] c.in-Some.part
    (back g (goal.at.returns-then-room-eq0-clause-tells g c).After-put_back)
    (sym c.room.ensures ∙ c.if-room-eq0.true)

pub take-requires-clause-table : goal.take-requires-clause-table
take-requires-clause-table g c = (c.requires.can.rest.same, c.requires.can.words)

pub take-requires-clause-on : goal.take-requires-clause-on
take-requires-clause-on g c = c.requires.can.rest.on

pub take-requires-clause-part : goal.take-requires-clause-part
take-requires-clause-part g c = c.requires.part

pub commit-requires-clause-table : goal.commit-requires-clause-table
commit-requires-clause-table g c = (c.take.ensures.table ∙ c.requires.can.rest.same, c.requires.can.words)

pub commit-requires-clause-on : goal.commit-requires-clause-on
commit-requires-clause-on g c =
    ap (λ (z : Seated g.row.A.Denot). z.0.on) c.in-Some.ensures.taken.is ∙ c.requires.can.rest.on

pub commit-requires-clause-part : goal.commit-requires-clause-part
commit-requires-clause-part g c = c.requires.part

pub put_back-requires-clause-table : goal.put_back-requires-clause-table
put_back-requires-clause-table g c = (c.take.ensures.table ∙ c.requires.can.rest.same, c.requires.can.words)

pub put_back-requires-clause-on : goal.put_back-requires-clause-on
put_back-requires-clause-on g c =
    ap (λ (z : Seated g.row.A.Denot). z.0.on) c.in-Some.ensures.taken.is ∙ c.requires.can.rest.on

pub put_back-requires-clause-part : goal.put_back-requires-clause-part
put_back-requires-clause-part g c = c.requires.part

pub commit-requires-clause-hand : goal.commit-requires-clause-hand
commit-requires-clause-hand g c =
    ap (λ (z : Seated g.row.A.Denot). z.1) c.in-Some.ensures.taken.is
    ∙ ap (λ l. (c.args.k, None) ∷ l) c.requires.can.rest.empty

pub put_back-requires-clause-hand : goal.put_back-requires-clause-hand
put_back-requires-clause-hand g c = by_front (ap (λ (z : Seated g.row.A.Denot). z.1) c.in-Some.ensures.taken.is)

pub put_back-requires-clause-held : goal.put_back-requires-clause-held
put_back-requires-clause-held g c =
    ap (λ (z : Seated g.row.A.Denot). held_at z.0.held c.args.k) c.in-Some.ensures.taken.is
    ∙ at_same c.args.seat.now.me.0.held c.args.k (Some c.in-Some.part) None

pub returns-clause-made : goal.returns-clause-made
returns-clause-made g c =
    let at = goal.at.returns-clause-made g c in
    let q = cpu_told c.in-Some.ensures.taken.is (cpu_at c.requires.can) c.requires.can.rest.on in
    made_by g.M.Maker.tells (c.args.k ∷ []) c.args.seat.now.me (stored g at.After-commit) refl
    (tried_one c.args.seat.now.me.0.tries (length c.args.seat.now.me.0.own.log.calls) c.args.k c.in-Some.part)
    (cpu_at c.requires.can)
    (left_of c.take.new.seat.me.0 c.in-Some.ensures.taken.left q.0 q.1 q.2 (held g at.In-Some))
    (λ j z h. c.alone-part.ensures.does.only j c.alone-part.result.0
    (only_like c.args.k j c.in-Some.part c.alone-part.result.0 z h)) c.alone-part.ensures.call
    c.alone-part.ensures.does c.alone-part.ensures.told

pub returns-in_default-clause-made : goal.returns-in_default-clause-made
returns-in_default-clause-made g c = refl

pub returns-then-room-eq0-clause-made : goal.returns-then-room-eq0-clause-made
returns-then-room-eq0-clause-made g c = refl

pub alone-part-requires-clause-part : goal.alone-part-requires-clause-part
alone-part-requires-clause-part g c = c.requires.part

pub returns-clause-heard : goal.returns-clause-heard
returns-clause-heard g c = c.taken_one.ensures

pub returns-in_default-clause-heard : goal.returns-in_default-clause-heard
returns-in_default-clause-heard g c = tt

pub returns-then-room-eq0-clause-heard : goal.returns-then-room-eq0-clause-heard
returns-then-room-eq0-clause-heard g c = tt

pub alone-part-requires-clause-can : goal.alone-part-requires-clause-can
alone-part-requires-clause-can g c =
    let q = cpu_told c.in-Some.ensures.taken.is (cpu_at c.requires.can) c.requires.can.rest.on in record {
      known = c.requires.can.known;
      left =
          ∣ left_of c.take.new.seat.me.0 c.in-Some.ensures.taken.left q.0 q.1 q.2
          (held g (goal.at.alone-part-requires-clause-can g c).In-Some) ∣₁;
      uses = c.requires.uses;
      own_room = c.requires.can.room;
      rooms =
          only_each (λ (x : Slot g.row.A.Denot). (log_of x).room ≢ 0) c.args.k c.in-Some.part
          (λ e. c.if-room-eq0.false (c.room.ensures ∙ e));
    }

pub commit-requires-clause-call : goal.commit-requires-clause-call
commit-requires-clause-call g c =
    let q = cpu_told c.in-Some.ensures.taken.is (cpu_at c.requires.can) c.requires.can.rest.on in
    let there = held g (goal.at.commit-requires-clause-call g c).In-Some in
    let y = c.alone-part.result.0 in record {
      by = c.alone-part.ensures.call.by ∙ sym q.1;
      used = λ j z h. c.alone-part.ensures.does.only j y (only_like c.args.k j c.in-Some.part y z (there j ∙ h));
      does = does_for c.take.new.seat.me.0 q.0 q.2 there c.alone-part.ensures.does;
    }

pub returns-in_default-clause-rest : goal.returns-in_default-clause-rest
returns-in_default-clause-rest g c =
    rests c.requires.can _ _ c.in_default.ensures.missed c.take.ensures.table c.requires.can.rest.idle

pub returns-then-room-eq0-clause-rest : goal.returns-then-room-eq0-clause-rest
returns-then-room-eq0-clause-rest g c =
    rests c.requires.can _ _ (back g (goal.at.returns-then-room-eq0-clause-rest g c).After-put_back)
    (c.put_back.ensures.table ∙ c.take.ensures.table)
    (one_gone c.args.seat.now.me.0.held c.args.k (Some c.in-Some.part) c.requires.can.rest.idle)

pub returns-clause-rest : goal.returns-clause-rest
returns-clause-rest g c =
    rests_stored c.requires.can c.alone-part.result.1 _ _ _
    (stored g (goal.at.returns-clause-rest g c).After-commit) refl (c.commit.ensures.table ∙ c.take.ensures.table)
    (one_gone [] c.args.k (Some c.alone-part.result.0) (λ j. refl)) c.commit.ensures.history
