use Rattle.std.proofs.Common.{◌≡◌, ◌≢◌, ℕ, ◌+◌, ◌<◌, ◌∷◌, [], length, sym, ap, ◌∙◌, refl, subst, arith}
use Rattle.std.specs.Prelude.{Some, None}
use Rattle.part_table.specs.declared.slot.Slot.{Slot}
use Rattle.part_table.specs.Parts.{log_of, parts}
use Rattle.part_table.specs.Does.{both_at}
use Rattle.part_table.specs.Rule.{Extends, Seated, held_at, known_of}
use Rattle.part_table.specs.Known.{StartsWith, seen_at}
use Rattle.part_table.proofs.Holding.{one_gone, two_gone, two_held, both_each, both_like, second_held}
use Rattle.part_table.proofs.Making.{made_by, tried_two}
use Rattle.part_table.proofs.Pairs.{at_same, by_front}
use Rattle.part_table.proofs.Telling.{with_taken, with_both, with_missed, with_home, with_stored, home_of, cpu_at, cpu_told, does_for, left_of, away_first, full_first, away_second, full_second, stored_second, rest_home, rests, rests_stored, two_tries}
use Rattle.part_table.proofs.tries.two.Goals.{In-Some-take, After-put_back, After-put_back-in_default-take, After-put_back-then-room-eq0-2, After-put_back-then-room-eq0-2-2, After-release}
use Rattle.part_table.proofs.tries.two.Goals as goal

-- there are more parts than one
low : 1 < parts
low = omega arith

-- the seat with both parts, the guest in front
both : (g : _) (c : In-Some-take g)
    → c.take-2.new.seat.me ≡ with_both c.args.seat.now.me c.in-Some.shared (c.args.v + 2) c.in-Some-take.guest
both g c =
    c.in-Some-take.ensures.taken.is
    ∙ ap (λ (m : Seated g.row.A.Denot). with_taken m (c.args.v + 2) c.in-Some-take.guest) c.in-Some.ensures.taken.is

-- its view holds these two
held : (g : _) (c : In-Some-take g) (j : ℕ)
    → both_at (c.args.v + 2) c.in-Some-take.guest 1 c.in-Some.shared j ≡ held_at c.take-2.new.seat.me.0.held j
held g c j =
    two_held c.args.seat.now.me.0.held (c.args.v + 2) 1 c.in-Some-take.guest c.in-Some.shared c.requires.can.rest.idle j
    ∙ ap (λ (m : Seated g.row.A.Denot). held_at m.0.held j) (sym (both g c))

-- the seat where the Shared part is home again, unused: its log was full, or another pass had the guest
back : (g : _) (c : After-put_back g)
    → c.put_back.new.seat.me ≡ with_home (with_taken c.args.seat.now.me 1 c.in-Some.shared) 1
back g c = home_of 1 c.in-Some.ensures.taken.is c.put_back.ensures.home

back_away : (g : _) (c : After-put_back-in_default-take g)
    → c.put_back-in_default-take.new.seat.me
    ≡ with_home (with_missed (with_taken c.args.seat.now.me 1 c.in-Some.shared) (c.args.v + 2)) 1
back_away g c =
    home_of 1
    (c.in_default-take.ensures.missed
    ∙ ap
    (λ (m : Seated g.row.A.Denot). with_missed m
    (c.args.v + 2)) c.in-Some.ensures.taken.is) c.put_back-in_default-take.ensures.home

-- where the guest is home again, and both are
guest_back : (g : _) (c : After-put_back-then-room-eq0-2 g)
    → c.put_back-then-room-eq0-2.new.seat.me
    ≡ with_home (with_both c.args.seat.now.me c.in-Some.shared (c.args.v + 2) c.in-Some-take.guest) (c.args.v + 2)
guest_back g c =
    home_of (c.args.v + 2)
    (both g (goal.at.After-put_back-then-room-eq0-2 g c).In-Some-take) c.put_back-then-room-eq0-2.ensures.home

both_back : (g : _) (c : After-put_back-then-room-eq0-2-2 g)
    → c.put_back-then-room-eq0-2-2.new.seat.me
    ≡ with_home
    (with_home (with_both c.args.seat.now.me c.in-Some.shared (c.args.v + 2) c.in-Some-take.guest)
    (c.args.v + 2)) 1
both_back g c =
    home_of 1
    (guest_back g
    (goal.at.After-put_back-then-room-eq0-2-2 g
    c).After-put_back-then-room-eq0-2) c.put_back-then-room-eq0-2-2.ensures.home

-- where a call was stored in both logs
stored : (g : _) (c : After-release g) → let k = c.args.v + 2 in
    c.release.new.seat.me
    ≡ with_home
    (with_stored (with_both c.args.seat.now.me c.in-Some.shared k c.in-Some-take.guest) c.both-shared.new.cpu
    ((k, Some c.both-shared.result.1) ∷ (1, Some c.both-shared.result.0) ∷ []) k) 1
stored g c =
    let k = c.args.v + 2 in
    let in_slot = (k, Some c.both-shared.result.1) ∷ (1, Some c.both-shared.result.0) ∷ [] in
    home_of 1
    (c.commit_first.ensures.home
    ∙ ap (λ (m : Seated g.row.A.Denot). with_stored m c.both-shared.new.cpu in_slot k)
    (both g (goal.at.After-release g c).In-Some-take)) c.release.ensures.home

history : (g : _) (c : After-release g) → Extends c.both-shared.result.2 (known_of c.release.new.seat.me.0)
history g c = rest_home c.commit_first.new.seat.me c.release.ensures.home c.commit_first.ensures.history

pub release-requires-clause-held : goal.release-requires-clause-held
release-requires-clause-held g c =
    let home = c.commit_first.ensures.home in (
      c.both-shared.result.0,
      by_front (ap (λ (m : Seated g.row.A.Denot). m.1) home),
      ap (λ (m : Seated g.row.A.Denot). held_at m.0.held 1) home
          ∙ second_held (c.args.v + 2) c.both-shared.result.1 c.both-shared.result.0 [] (λ e. omega arith),
    )

pub returns-then-room-eq0-2-clause-tells : goal.returns-then-room-eq0-2-clause-tells
returns-then-room-eq0-2-clause-tells g c =
    full_second c.args.seat.now.me (c.args.v + 2) c.in-Some.shared c.in-Some-take.guest
    (both_back g (goal.at.returns-then-room-eq0-2-clause-tells g c).After-put_back-then-room-eq0-2-2)
    (λ e. c.if-room-eq0.false (c.room.ensures ∙ e)) (sym c.room-2.ensures ∙ c.if-room-eq0-2.true)

pub returns-clause-tells : goal.returns-clause-tells
returns-clause-tells g c =
    let at = goal.at.returns-clause-tells g c in
    let q = cpu_at c.requires.can in
    let m = c.args.seat.now.me in
    let begun =
    subst
    (λ (n : Seated g.row.A.Denot). StartsWith (log_of c.in-Some-take.guest).calls
    (seen_at n.0.seen (c.args.v + 2))) c.in-Some.ensures.taken.is c.in-Some-take.ensures.taken.begun in
    stored_second m (c.args.v + 2) c.in-Some.shared c.in-Some-take.guest c.both-shared.result.0 c.both-shared.result.1
    (stored g at.After-release) (λ e. omega arith) q.1 q.2
    (λ e. c.if-room-eq0.false (c.room.ensures ∙ e))
    (λ e. c.if-room-eq0-2.false (c.room-2.ensures ∙ e)) c.in-Some.ensures.taken.begun begun
    c.both-shared.ensures.call c.both-shared.ensures.does
    (history g at.After-release)

pub returns-in_default-clause-tells : goal.returns-in_default-clause-tells
returns-in_default-clause-tells g c = away_first c.args.seat.now.me 1 ((c.args.v + 2) ∷ []) c.in_default.ensures.missed

pub returns-then-room-eq0-clause-tells : goal.returns-then-room-eq0-clause-tells
returns-then-room-eq0-clause-tells g c =
    full_first c.args.seat.now.me 1 ((c.args.v + 2) ∷ []) c.in-Some.shared
    (back g (goal.at.returns-then-room-eq0-clause-tells g c).After-put_back)
    (sym c.room.ensures ∙ c.if-room-eq0.true)

pub returns-in_default-take-clause-tells : goal.returns-in_default-take-clause-tells
returns-in_default-take-clause-tells g c =
    away_second c.args.seat.now.me (c.args.v + 2) c.in-Some.shared
    (back_away g (goal.at.returns-in_default-take-clause-tells g c).After-put_back-in_default-take)
    (λ e. c.if-room-eq0.false (c.room.ensures ∙ e))

pub take-requires-clause-table : goal.take-requires-clause-table
take-requires-clause-table g c = (c.requires.can.rest.same, c.requires.can.words)

pub take-requires-clause-on : goal.take-requires-clause-on
take-requires-clause-on g c = c.requires.can.rest.on

pub take-requires-2-clause-table : goal.take-requires-2-clause-table
take-requires-2-clause-table g c = (c.take.ensures.table ∙ c.requires.can.rest.same, c.requires.can.words)

pub take-requires-2-clause-on : goal.take-requires-2-clause-on
take-requires-2-clause-on g c =
    ap (λ (z : Seated g.row.A.Denot). z.0.on) c.in-Some.ensures.taken.is ∙ c.requires.can.rest.on

pub commit_first-requires-clause-table : goal.commit_first-requires-clause-table
commit_first-requires-clause-table g c =
    (c.take-2.ensures.table ∙ (c.take.ensures.table ∙ c.requires.can.rest.same), c.requires.can.words)

pub commit_first-requires-clause-part : goal.commit_first-requires-clause-part
commit_first-requires-clause-part g c = c.requires.part

pub commit_first-requires-clause-hand : goal.commit_first-requires-clause-hand
commit_first-requires-clause-hand g c =
    ap (λ (m : Seated g.row.A.Denot). m.1) (both g (goal.at.commit_first-requires-clause-hand g c).In-Some-take)
    ∙ ap (λ h. (c.args.v + 2, None) ∷ (1, None) ∷ h) c.requires.can.rest.empty

pub put_back-requires-clause-table : goal.put_back-requires-clause-table
put_back-requires-clause-table g c = (c.take.ensures.table ∙ c.requires.can.rest.same, c.requires.can.words)

pub put_back-requires-clause-on : goal.put_back-requires-clause-on
put_back-requires-clause-on g c =
    ap (λ (z : Seated g.row.A.Denot). z.0.on) c.in-Some.ensures.taken.is ∙ c.requires.can.rest.on

pub put_back-requires-clause-hand : goal.put_back-requires-clause-hand
put_back-requires-clause-hand g c = by_front (ap (λ (z : Seated g.row.A.Denot). z.1) c.in-Some.ensures.taken.is)

pub put_back-requires-clause-held : goal.put_back-requires-clause-held
put_back-requires-clause-held g c = ap (λ (z : Seated g.row.A.Denot). held_at z.0.held 1) c.in-Some.ensures.taken.is

pub put_back-requires-in_default-take-clause-table : goal.put_back-requires-in_default-take-clause-table
put_back-requires-in_default-take-clause-table g c =
    (c.take-2.ensures.table ∙ (c.take.ensures.table ∙ c.requires.can.rest.same), c.requires.can.words)

pub put_back-requires-in_default-take-clause-on : goal.put_back-requires-in_default-take-clause-on
put_back-requires-in_default-take-clause-on g c =
    ap (λ (z : Seated g.row.A.Denot). z.0.on) c.in_default-take.ensures.missed
    ∙ (ap (λ (z : Seated g.row.A.Denot). z.0.on) c.in-Some.ensures.taken.is ∙ c.requires.can.rest.on)

pub put_back-requires-in_default-take-clause-hand : goal.put_back-requires-in_default-take-clause-hand
put_back-requires-in_default-take-clause-hand g c =
    by_front
    (ap (λ (z : Seated g.row.A.Denot). z.1) c.in_default-take.ensures.missed
    ∙ ap (λ (z : Seated g.row.A.Denot). z.1) c.in-Some.ensures.taken.is)

pub put_back-requires-in_default-take-clause-held : goal.put_back-requires-in_default-take-clause-held
put_back-requires-in_default-take-clause-held g c =
    ap (λ (z : Seated g.row.A.Denot). held_at z.0.held 1) c.in_default-take.ensures.missed
    ∙ ap (λ (z : Seated g.row.A.Denot). held_at z.0.held 1) c.in-Some.ensures.taken.is

pub release-requires-clause-table : goal.release-requires-clause-table
release-requires-clause-table g c = (
  c.commit_first.ensures.table
      ∙ (c.take-2.ensures.table ∙ (c.take.ensures.table ∙ c.requires.can.rest.same)),
  c.requires.can.words,
)

pub release-requires-clause-on : goal.release-requires-clause-on
release-requires-clause-on g c =
    ap (λ (m : Seated g.row.A.Denot). m.0.on) c.commit_first.ensures.home
    ∙ (ap (λ (m : Seated g.row.A.Denot). m.0.on) (both g (goal.at.release-requires-clause-on g c).In-Some-take)
    ∙ c.requires.can.rest.on)

pub take-requires-2-clause-part : goal.take-requires-2-clause-part
take-requires-2-clause-part g c = c.requires.part

pub commit_first-requires-clause-on : goal.commit_first-requires-clause-on
commit_first-requires-clause-on g c =
    ap (λ (m : Seated g.row.A.Denot). m.0.on) (both g (goal.at.commit_first-requires-clause-on g c).In-Some-take)
    ∙ c.requires.can.rest.on

pub put_back-requires-then-room-eq0-2-clause-table : goal.put_back-requires-then-room-eq0-2-clause-table
put_back-requires-then-room-eq0-2-clause-table g c =
    (c.take-2.ensures.table ∙ (c.take.ensures.table ∙ c.requires.can.rest.same), c.requires.can.words)

pub put_back-requires-then-room-eq0-2-clause-on : goal.put_back-requires-then-room-eq0-2-clause-on
put_back-requires-then-room-eq0-2-clause-on g c =
    ap (λ (m : Seated g.row.A.Denot). m.0.on)
    (both g (goal.at.put_back-requires-then-room-eq0-2-clause-on g c).In-Some-take)
    ∙ c.requires.can.rest.on

pub put_back-requires-then-room-eq0-2-clause-part : goal.put_back-requires-then-room-eq0-2-clause-part
put_back-requires-then-room-eq0-2-clause-part g c = c.requires.part

pub put_back-requires-then-room-eq0-2-clause-hand : goal.put_back-requires-then-room-eq0-2-clause-hand
put_back-requires-then-room-eq0-2-clause-hand g c =
    by_front (ap (λ (z : Seated g.row.A.Denot). z.1) c.in-Some-take.ensures.taken.is)

pub put_back-requires-then-room-eq0-2-2-clause-table : goal.put_back-requires-then-room-eq0-2-2-clause-table
put_back-requires-then-room-eq0-2-2-clause-table g c = (
  c.put_back-then-room-eq0-2.ensures.table
      ∙ (c.take-2.ensures.table ∙ (c.take.ensures.table ∙ c.requires.can.rest.same)),
  c.requires.can.words,
)

pub put_back-requires-then-room-eq0-2-2-clause-on : goal.put_back-requires-then-room-eq0-2-2-clause-on
put_back-requires-then-room-eq0-2-2-clause-on g c =
    ap (λ (m : Seated g.row.A.Denot). m.0.on)
    (guest_back g (goal.at.put_back-requires-then-room-eq0-2-2-clause-on g c).After-put_back-then-room-eq0-2)
    ∙ c.requires.can.rest.on

pub put_back-requires-then-room-eq0-2-clause-held : goal.put_back-requires-then-room-eq0-2-clause-held
put_back-requires-then-room-eq0-2-clause-held g c =
    ap (λ (z : Seated g.row.A.Denot). held_at z.0.held (c.args.v + 2)) c.in-Some-take.ensures.taken.is
    ∙ at_same c.take.new.seat.me.0.held (c.args.v + 2) (Some c.in-Some-take.guest) None

pub put_back-requires-then-room-eq0-2-2-clause-hand : goal.put_back-requires-then-room-eq0-2-2-clause-hand
put_back-requires-then-room-eq0-2-2-clause-hand g c =
    by_front
    (ap (λ (m : Seated g.row.A.Denot). m.1)
    (guest_back g (goal.at.put_back-requires-then-room-eq0-2-2-clause-hand g c).After-put_back-then-room-eq0-2))

pub put_back-requires-then-room-eq0-2-2-clause-held : goal.put_back-requires-then-room-eq0-2-2-clause-held
put_back-requires-then-room-eq0-2-2-clause-held g c =
    ap (λ (m : Seated g.row.A.Denot). held_at m.0.held 1)
    (guest_back g (goal.at.put_back-requires-then-room-eq0-2-2-clause-held g c).After-put_back-then-room-eq0-2)
    ∙ second_held (c.args.v + 2) c.in-Some-take.guest c.in-Some.shared c.args.seat.now.me.0.held (λ e. omega arith)

pub take-requires-clause-part : goal.take-requires-clause-part
take-requires-clause-part g c = low

pub put_back-requires-clause-part : goal.put_back-requires-clause-part
put_back-requires-clause-part g c = low

pub put_back-requires-in_default-take-clause-part : goal.put_back-requires-in_default-take-clause-part
put_back-requires-in_default-take-clause-part g c = low

pub put_back-requires-then-room-eq0-2-2-clause-part : goal.put_back-requires-then-room-eq0-2-2-clause-part
put_back-requires-then-room-eq0-2-2-clause-part g c = low

pub release-requires-clause-part : goal.release-requires-clause-part
release-requires-clause-part g c = low

pub returns-clause-made : goal.returns-clause-made
returns-clause-made g c =
    let at = goal.at.returns-clause-made g c in
    let m = c.args.seat.now.me in
    let k = c.args.v + 2 in
    let q = cpu_told (both g at.In-Some-take) (cpu_at c.requires.can) c.requires.can.rest.on in
    made_by g.M.Maker.tells (1 ∷ k ∷ []) m (stored g at.After-release) refl
    (two_tries m.0 k c.in-Some.shared c.in-Some-take.guest
    ∙ tried_two m.0.tries (length m.0.own.log.calls) k c.in-Some.shared c.in-Some-take.guest (λ e. omega arith))
    (cpu_at c.requires.can)
    (left_of c.take-2.new.seat.me.0 c.in-Some-take.ensures.taken.left q.0 q.1 q.2 (held g at.In-Some-take))
    (λ j z h. let there =
    both_like k 1 j c.in-Some-take.guest c.in-Some.shared c.both-shared.result.1 c.both-shared.result.0 z h in
    c.both-shared.ensures.does.only j there.0 there.1)
    c.both-shared.ensures.call c.both-shared.ensures.does c.both-shared.ensures.told

pub returns-in_default-clause-made : goal.returns-in_default-clause-made
returns-in_default-clause-made g c = refl

pub returns-in_default-take-clause-made : goal.returns-in_default-take-clause-made
returns-in_default-take-clause-made g c = refl

pub returns-then-room-eq0-clause-made : goal.returns-then-room-eq0-clause-made
returns-then-room-eq0-clause-made g c = refl

pub returns-then-room-eq0-2-clause-made : goal.returns-then-room-eq0-2-clause-made
returns-then-room-eq0-2-clause-made g c = refl

pub both-shared-requires-clause-part : goal.both-shared-requires-clause-part
both-shared-requires-clause-part g c = c.requires.part

pub returns-clause-heard : goal.returns-clause-heard
returns-clause-heard g c = c.taken_two.ensures

pub returns-in_default-clause-heard : goal.returns-in_default-clause-heard
returns-in_default-clause-heard g c = tt

pub returns-in_default-take-clause-heard : goal.returns-in_default-take-clause-heard
returns-in_default-take-clause-heard g c = tt

pub returns-then-room-eq0-clause-heard : goal.returns-then-room-eq0-clause-heard
returns-then-room-eq0-clause-heard g c = tt

pub returns-then-room-eq0-2-clause-heard : goal.returns-then-room-eq0-2-clause-heard
returns-then-room-eq0-2-clause-heard g c = tt

pub both-shared-requires-clause-can : goal.both-shared-requires-clause-can
both-shared-requires-clause-can g c =
    let at = goal.at.both-shared-requires-clause-can g c in
    let q = cpu_told (both g at.In-Some-take) (cpu_at c.requires.can) c.requires.can.rest.on in record {
      known = c.requires.can.known;
      left = ∣ left_of c.take-2.new.seat.me.0 c.in-Some-take.ensures.taken.left q.0 q.1 q.2 (held g at.In-Some-take) ∣₁;
      uses = c.requires.uses;
      own_room = c.requires.can.room;
      rooms =
          both_each (λ (x : Slot g.row.A.Denot). (log_of x).room ≢ 0)
          (c.args.v + 2) 1 c.in-Some-take.guest c.in-Some.shared
          (λ e. c.if-room-eq0-2.false (c.room-2.ensures ∙ e)) (λ e. c.if-room-eq0.false (c.room.ensures ∙ e));
    }

pub commit_first-requires-clause-call : goal.commit_first-requires-clause-call
commit_first-requires-clause-call g c =
    let at = goal.at.commit_first-requires-clause-call g c in
    let q = cpu_told (both g at.In-Some-take) (cpu_at c.requires.can) c.requires.can.rest.on in record {
      by = c.both-shared.ensures.call.by ∙ sym q.1;
      used = λ j z h.
          let there =
          both_like
          (c.args.v + 2) 1 j c.in-Some-take.guest c.in-Some.shared c.both-shared.result.1
          c.both-shared.result.0 z
          (held g at.In-Some-take j ∙ h) in
          c.both-shared.ensures.does.only j there.0 there.1;
      does = does_for c.take-2.new.seat.me.0 q.0 q.2 (held g at.In-Some-take) c.both-shared.ensures.does;
    }

pub returns-in_default-clause-rest : goal.returns-in_default-clause-rest
returns-in_default-clause-rest g c =
    rests c.requires.can _ _ c.in_default.ensures.missed c.take.ensures.table c.requires.can.rest.idle

pub returns-then-room-eq0-clause-rest : goal.returns-then-room-eq0-clause-rest
returns-then-room-eq0-clause-rest g c =
    rests c.requires.can _ _ (back g (goal.at.returns-then-room-eq0-clause-rest g c).After-put_back)
    (c.put_back.ensures.table ∙ c.take.ensures.table)
    (one_gone c.args.seat.now.me.0.held 1 (Some c.in-Some.shared) c.requires.can.rest.idle)

pub returns-in_default-take-clause-rest : goal.returns-in_default-take-clause-rest
returns-in_default-take-clause-rest g c =
    rests c.requires.can _ _
    (back_away g (goal.at.returns-in_default-take-clause-rest g c).After-put_back-in_default-take)
    (c.put_back-in_default-take.ensures.table ∙ (c.take-2.ensures.table ∙ c.take.ensures.table))
    (one_gone c.args.seat.now.me.0.held 1 (Some c.in-Some.shared) c.requires.can.rest.idle)

pub returns-then-room-eq0-2-clause-rest : goal.returns-then-room-eq0-2-clause-rest
returns-then-room-eq0-2-clause-rest g c =
    rests c.requires.can _ _
    (both_back g (goal.at.returns-then-room-eq0-2-clause-rest g c).After-put_back-then-room-eq0-2-2)
    (c.put_back-then-room-eq0-2-2.ensures.table
    ∙ (c.put_back-then-room-eq0-2.ensures.table ∙ (c.take-2.ensures.table ∙ c.take.ensures.table)))
    (two_gone c.args.seat.now.me.0.held (c.args.v + 2) 1 (Some c.in-Some-take.guest)
    (Some c.in-Some.shared) c.requires.can.rest.idle)

pub returns-clause-rest : goal.returns-clause-rest
returns-clause-rest g c =
    let at = goal.at.returns-clause-rest g c in
    rests_stored c.requires.can c.both-shared.result.2 _ _ _ (stored g at.After-release) refl
    (c.release.ensures.table ∙ (c.commit_first.ensures.table ∙ (c.take-2.ensures.table ∙ c.take.ensures.table)))
    (two_gone [] (c.args.v + 2) 1 (Some c.both-shared.result.1) (Some c.both-shared.result.0) (λ j. refl))
    (history g at.After-release)
