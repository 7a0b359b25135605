use Rattle.std.proofs.Common.{◌≡◌, ℕ, ◌∷◌, [], Bool, true, false, cond, eqb, sym, refl, ◌∙◌, append-nil}
use Rattle.std.specs.Prelude.{None}
use Rattle.part_table.specs.Rule.{held_at}
use Rattle.part_table.proofs.Making.{made_by}
use Rattle.part_table.proofs.Telling.{cpu_at, does_for, left_idle, rests_stored, told_stored}
use Rattle.part_table.proofs.tries.none.Goals as goal

-- a list in which a part was let go alone holds none
gone : {A : Type 0} (k j : ℕ) → held_at {A = A} ((k, None) ∷ []) j ≡ None
gone {A = A} k j = go (eqb j k)
  where
    go : (b : Bool) → cond b None (held_at {A = A} [] j) ≡ None
    go true = refl
    go false = refl

pub returns-clause-tells : goal.returns-clause-tells
returns-clause-tells g c =
    let q = cpu_at c.requires.can in
    told_stored [] c.args.seat.now.me [] c.enter.ensures.entered
    (refl, refl, refl, refl) q.1 q.2 c.idle-call.ensures.call c.idle-call.ensures.does c.enter.ensures.history
    ([], sym (append-nil c.args.seat.now.me.0.tries), refl)

pub enter-requires-clause-table : goal.enter-requires-clause-table
enter-requires-clause-table g c = (c.requires.can.rest.same, c.requires.can.words)

pub enter-requires-clause-on : goal.enter-requires-clause-on
enter-requires-clause-on g c = c.requires.can.rest.on

pub returns-clause-made : goal.returns-clause-made
returns-clause-made g c =
    let q = cpu_at c.requires.can in
    made_by g.M.Maker.tells [] c.args.seat.now.me c.enter.ensures.entered refl
    (sym (append-nil c.args.seat.now.me.0.tries)) q
    (left_idle c.args.layout.now c.args.cpu.now.id c.args.cpu.now c.args.seat.now.me.0 c.requires.can.rest.left q.0 q.1
    q.2)
    (λ k x e. absurd cc) c.idle-call.ensures.call c.idle-call.ensures.does c.idle-call.ensures.told

pub returns-clause-heard : goal.returns-clause-heard
returns-clause-heard g c = c.taken_none.ensures

pub idle-call-requires-clause-can : goal.idle-call-requires-clause-can
idle-call-requires-clause-can g c = let q = cpu_at c.requires.can in record {
  known = c.requires.can.known;
  left =
      ∣ left_idle c.args.layout.now c.args.cpu.now.id c.args.cpu.now c.args.seat.now.me.0 c.requires.can.rest.left q.0
      q.1 q.2 ∣₁;
  uses = c.requires.uses;
  own_room = c.requires.can.room;
  rooms = λ k x e. absurd cc;
}

pub enter-requires-clause-call : goal.enter-requires-clause-call
enter-requires-clause-call g c = let q = cpu_at c.requires.can in record {
  by = c.idle-call.ensures.call.by ∙ sym q.1;
  used = λ j x h. c.idle-call.ensures.does.only j x (sym (c.requires.can.rest.idle j) ∙ h);
  does = does_for c.args.seat.now.me.0 q.0 q.2 (λ j. sym (c.requires.can.rest.idle j)) c.idle-call.ensures.does;
}

pub returns-clause-rest : goal.returns-clause-rest
returns-clause-rest g c =
    rests_stored c.requires.can c.idle-call.result _ _ _ c.enter.ensures.entered c.requires.can.rest.empty
    c.enter.ensures.table
    (λ j. gone 0 j) c.enter.ensures.history
