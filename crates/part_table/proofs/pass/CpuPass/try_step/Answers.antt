use Rattle.std.proofs.Common.{rules, ◌≡◌, ◌≢◌, ℕ, ◌<◌, ◌+◌, length, sym, ap, ◌∙◌, refl, subst, inl}
use Rattle.page_state.specs.declared.layout.Layout.{Layout as TheLayout}
use Rattle.part_types.specs.declared.parts.CpuState.{CpuState}
use Rattle.part_table.specs.declared.rule.View.{View}
use Rattle.part_table.specs.declared.tries.Tried.TheVariants.{LogFull}
use Rattle.part_table.specs.Passes.{Pass}
use Rattle.part_table.specs.Rule.{known_of}
use Rattle.part_table.specs.Known.{Known}
use Rattle.part_table.proofs.Left.{own_left}
use Rattle.part_table.proofs.Making.{makes_for}
use Rattle.part_table.proofs.Rests.{none_held}
use Rattle.part_table.proofs.Telling.{answers_of, replies_of, where_stored}
use Rattle.part_table.proofs.pass.CpuPass.try_step.Goals as goal

pub returns-then-room-eq0-clause-rest : goal.returns-then-room-eq0-clause-rest
returns-then-room-eq0-clause-rest g c =
    ap (λ (p : Pass). p.holds) (sym c.self.view_is) ∙ none_held c.self.inside.seat.me.0.held c.self.invariant.1

pub returns-then-room-eq0-clause-answers : goal.returns-then-room-eq0-clause-answers
returns-then-room-eq0-clause-answers g c =
    let full : c.args.self.now.knows.own.log.room ≡ 0 =
    ap (λ (p : Pass). p.knows.own.log.room) (sym c.self.view_is)
    ∙ (ap (λ (k : CpuState). k.log.room) c.self.invariant.4 ∙ (sym c.room.ensures ∙ c.if-room-eq0.true)) in
    answers_of c.args.step _ c.args.self.now.knows c.args.self.now.knows
    (LogFull, refl, inl (full, refl, refl))

pub invariant_of-self : goal.invariant_of-self
invariant_of-self g c =
    let i = c.self.invariant in
    let a = c.any.ensures.rest in
    let old : View g.row.A.Denot = c.self.inside.seat.me.0 in
    let same : old.layout ≡ c.args.layout.now = ap (λ (p : Pass). p.knows.layout) c.self.view_is ∙ c.requires.layout in
    let few : c.any.new.seat.me.0.cpu < c.any.new.seat.me.0.layout.config.cpus =
    subst (λ (z : ℕ × TheLayout). z.0 < z.1.config.cpus)
    (λ j. ((i.3 ∙ sym a.cpu_is) j, (same ∙ sym a.layout) j)) i.5 in (
      a.empty,
      a.idle,
      a.on,
      sym (own_left c.any.new.seat.me.0.cpu c.any.new.seat.me.0.own a.left).id
          ∙ ap (λ (k : CpuState). k.id) a.own_is,
      a.own_is,
      few,
      a.left,
    )

pub returns-clause-table : goal.returns-clause-table
returns-clause-table g c = c.any.ensures.rest.same ∙ sym c.requires.table.0

pub returns-clause-stays : goal.returns-clause-stays
returns-clause-stays g c =
    let a = c.any.ensures.rest in (
      a.layout ∙ sym c.requires.layout,
      a.cpu_is
          ∙ (sym c.self.invariant.3 ∙ ap (λ (p : Pass). p.knows.cpu) c.self.view_is),
    )

pub returns-clause-rest : goal.returns-clause-rest
returns-clause-rest g c = none_held c.any.new.seat.me.0.held c.any.ensures.rest.idle

pub returns-clause-answers : goal.returns-clause-answers
returns-clause-answers g c =
    let room : c.self.inside.own.log.room ≢ 0 = search rules in
    answers_of c.args.step c.reply.result c.args.self.now.knows (known_of c.any.new.seat.me.0)
    (replies_of c.args.step c.any.result c.reply.result c.args.self.now.knows (known_of c.self.inside.seat.me.0)
    (known_of c.any.new.seat.me.0) c.self.inside.own
    (ap (λ (p : Pass). p.knows) (sym c.self.view_is)) c.self.invariant.4 c.reply.ensures room c.any.ensures.tells)

pub returns-then-room-eq0-clause-made : goal.returns-then-room-eq0-clause-made
returns-then-room-eq0-clause-made g c = (LogFull, refl, refl)

pub returns-clause-made : goal.returns-clause-made
returns-clause-made g c =
    makes_for {A = g.row.A.Denot} g.M.Maker.tells c.args.step c.any.result c.reply.result c.args.self.now.knows
    (known_of c.self.inside.seat.me.0)
    (known_of c.any.new.seat.me.0) c.self.inside.own c.args.told.now c.any.new.told
    (ap (λ (p : Pass). p.knows) (sym c.self.view_is)) c.self.invariant.4 c.reply.ensures c.any.ensures.made

pub returns-clause-heard : goal.returns-clause-heard
returns-clause-heard g c s =
    let v = ap (λ (p : Pass). p.knows) c.self.view_is in
    subst (λ (z : ℕ × CpuState). g.G.Gate.heard_taken c.args.gate.now z.0 (length z.1.log.calls + 1))
    (λ i. (
      (sym c.self.invariant.3 ∙ ap (λ (k : Known). k.cpu) v) i,
      (sym c.self.invariant.4 ∙ ap (λ (k : Known). k.own) v) i,
    ))
    (subst
    (λ x. g.G.Gate.heard_taken x c.self.inside.own.id (length c.self.inside.own.log.calls + 1)) c.of-gate.ensures
    (where_stored c.any.result c.reply.result c.reply.ensures c.any.ensures.heard s))

pub any-requires : goal.any-requires
any-requires g c =
    let i = c.self.invariant in record {
      can = record {
        rest = record {
          same = ap (λ (p : Pass). p.table) c.self.view_is ∙ c.requires.table.0;
          on = i.2;
          layout = ap (λ (p : Pass). p.knows.layout) c.self.view_is ∙ c.requires.layout;
          cpu_is = i.3;
          own_is = i.4;
          empty = i.0;
          idle = i.1;
          left = i.6;
        };
        known =
            subst (λ (z : ℕ × TheLayout). z.0 < z.1.config.cpus)
            (λ j. (i.3 j, (ap (λ (p : Pass). p.knows.layout) c.self.view_is ∙ c.requires.layout) j)) i.5;
        room = let room : c.self.inside.own.log.room ≢ 0 = search rules in room;
        words = c.requires.table.1;
      };
    }
