-- The laws of a judge with own tables.
use Rattle.std.proofs.Common.{◌≡◌, ℕ, zero, suc, ◌+◌, ◌-◌, ◌<◌, ◌≤◌, refl, ap, sym, ◌∙◌, subst, arith, inl, inr, length}
use Rattle.std.specs.Prelude.{Bool, true, false, not, is_some, ◌||◌, ◌⊎◌, nat_lt, Option, Some, None, if◌then◌else◌}
use Rattle.std.proofs.lemmas.Bool.Decides.{nat_tests}
use Rattle.call_table.specs.declared.reply.Refusal.{Refusal}
use Rattle.call_table.specs.declared.reply.Refusal.TheVariants.{NoPool}
use Rattle.call_table.specs.declared.reply.Reply.{Reply}
use Rattle.call_table.specs.declared.reply.Reply.TheVariants.{Done, Refused}
use Rattle.call_table.specs.declared.step.Step.{Step}
use Rattle.call_table.specs.declared.step.Step.TheVariants.{HostTranslate, HypTranslate, OwnerOf, GuestTranslate, MarkDying, VmReserve, VmOpen, VcpuLoad, VcpuPut, Teardown, VmRelease}
use Rattle.page_state.specs.Layouts.{Layout}
use Rattle.page_state.specs.Tables.{needs}
use Rattle.reference_model.specs.help.Conditions.{Legal}
use Rattle.reference_model.specs.model.Parts.{lacks_slot}
use Rattle.reference_model.specs.model.Rule.{Rule}
use Rattle.reference_model.specs.model.Rules.{rule, names, guest_slot, may_grow}
use Rattle.reference_model.specs.claims.Sound.{tree_at}
use Rattle.reference_model.specs.model.State.{Contents, Reference}
use Rattle.reference_model.specs.model.Step.{first_test, or_else, refusal, fails, is_short, rule_of, made, Answered, used_by}
use Rattle.reference_model.specs.model.Used.{Used, used_of, put_back}
use Rattle.freedoms.specs.Ample.{asks_pool, rule_fails, AnswersAmply, StepsAmply}
use Rattle.freedoms.specs.AnyTrees.{LegalInAnyTrees, HasRootAlone, IsInside}
use Rattle.coarse_trees.specs.Coarsest.{IsCoarsest}
use Rattle.page_state.proofs.BlockTests.{block-same}
use Rattle.page_state.proofs.Blocks.{empty_means}
use Rattle.page_state.proofs.Cases.{by_lt}
use Rattle.page_state.specs.Blocks.{first_page}
use Rattle.page_state.specs.Geometries.{block_pages}
use Rattle.page_state.specs.Trees.{Tree}
use Rattle.reference_model.proofs.conditions.Conserved.{empty-one_word}
use Rattle.freedoms.specs.Laws.{AmpleSteps, BareSteps, JudgedByMaps, StepsJudged, StepsAlike}
use Rattle.freedoms.specs.OwnTables.{OwnTables, bare_used, without_tables}
use Rattle.freedoms.proofs.Bare.{rule-bare, put-bare, used-bare}
use Rattle.freedoms.proofs.OwnRows.{made-bare}

-- a step with and without tables

module _ (l : Layout) (s : Contents) (cpu : ℕ) (step : Step) (reply : Reply) (legal : LegalInAnyTrees l s)
    (asks : asks_pool step ≡ false) where
  abbrev at_slot : Option ℕ
  at_slot = guest_slot (s.cpu cpu) step

  abbrev x : Used
  x = used_of (names step) at_slot cpu s

  rule-same : rule_of l cpu at_slot step (bare_used x) ≡ rule_of l cpu at_slot step x
  rule-same = rule-bare l cpu at_slot step x asks

  fails-same : rule_fails l cpu at_slot step (bare_used x) ≡ rule_fails l cpu at_slot step x
  fails-same = ap (λ (r : Rule). first_test r (lacks_slot (names step) at_slot)) rule-same

  value-same : Done (rule_of l cpu at_slot step (bare_used x)).changes.value
      ≡ Done (rule_of l cpu at_slot step x).changes.value
  value-same = ap (λ (r : Rule). Done r.changes.value) rule-same

  -- what comes of it, without tables
  Comes : Used → Used → Type 0
  Comes y z = bare_used y ≡ bare_used z

  down-answer : (y : Used)
      → AnswersAmply l cpu at_slot step x reply y
      → (z : Used) × AnswersAmply l cpu at_slot step (bare_used x) reply z × Comes y z
  unfolding Comes
  down-answer y (inl p) = (
    made l cpu at_slot step (bare_used x),
    inl (record { passes = fails-same ∙ p.passes; reply_is = p.reply_is ∙ sym value-same; next = refl }),
    ap bare_used p.next
        ∙ made-bare l s legal cpu at_slot step asks p.passes,
  )
  down-answer y (inr (inl p)) = (
    bare_used x,
    inr (inl (record { why = p.why; fail = fails-same ∙ p.fail; reply_is = p.reply_is; next = refl })),
    ap bare_used p.next,
  )
  down-answer y (inr (inr p)) = (
    bare_used x,
    inr (inr (record { passes = fails-same ∙ p.passes; grows = p.grows; reply_is = p.reply_is; next = refl })),
    ap bare_used p.next,
  )

  up-answer : (z : Used)
      → AnswersAmply l cpu at_slot step (bare_used x) reply z
      → (y : Used) × AnswersAmply l cpu at_slot step x reply y × Comes y z
  unfolding Comes
  up-answer z (inl p) = let passes = sym fails-same ∙ p.passes in (
    made l cpu at_slot step x,
    inl (record { passes = passes; reply_is = p.reply_is ∙ value-same; next = refl }),
    made-bare l s legal cpu at_slot step asks passes
        ∙ ap bare_used (sym p.next),
  )
  up-answer z (inr (inl p)) = (
    x,
    inr (inl (record { why = p.why; fail = sym fails-same ∙ p.fail; reply_is = p.reply_is; next = refl })),
    ap bare_used (sym p.next),
  )
  up-answer z (inr (inr p)) = (
    x,
    inr
        (inr
        (record { passes = sym fails-same ∙ p.passes; grows = p.grows; reply_is = p.reply_is; next = refl })),
    ap bare_used (sym p.next),
  )

  put-same : (y z : Used)
      → Comes y z
      → OwnTables (put_back (names step) at_slot cpu s y) (put_back (names step) at_slot cpu (without_tables s) z)
  unfolding Comes
  put-same y z e =
      put-bare (names step) at_slot cpu s y ∙ ap (put_back (names step) at_slot cpu (without_tables s)) e
      ∙ sym (put-bare (names step) at_slot cpu (without_tables s) z)

  pub alike : StepsAlike l s cpu step reply
  alike = record {
    down = λ t p.
        let a = down-answer p.after p.answers in
        let at =
        subst (λ w. AnswersAmply l cpu at_slot step w reply a.0) (sym (used-bare (names step) at_slot cpu s)) a.1 in (
          put_back (names step) at_slot cpu (without_tables s) a.0,
          record { after = a.0; answers = at; next = refl },
          ap without_tables p.next
              ∙ put-same p.after a.0 a.2,
        );
    up = λ u p.
        let at =
        subst (λ w. AnswersAmply l cpu at_slot step w reply p.after)
        (used-bare (names step) at_slot cpu s) p.answers in
        let a = up-answer p.after at in (
          put_back (names step) at_slot cpu s a.0,
          record { after = a.0; answers = a.1; next = refl },
          put-same a.0 p.after a.2
              ∙ ap without_tables (sym p.next),
        );
  }

pub bare_steps : BareSteps
bare_steps l s cpu step reply legal asks = alike l s cpu step reply legal asks

pub judged_by_maps : JudgedByMaps
judged_by_maps l before legal cpu step reply after begins is asks = (
  λ j.
      let d = (alike l j.state cpu step reply j.legal asks).down j.next j.steps in
      record {
        next = d.0;
        steps = subst (λ s. StepsAmply l s cpu step reply d.0) (sym j.begins) d.1;
        ends = sym d.2
            ∙ j.ends;
      },
  λ j.
      let u =
      (alike l legal cpu step reply is asks).up j.next
      (subst (λ s. StepsAmply l s cpu step reply j.next) begins j.steps) in
      record { state = legal; next = u.0; begins = begins; legal = is; steps = u.1; ends = u.2 ∙ j.ends },
)

-- a step of the model is an ample one

or-cases : (o next : Option Refusal) (why : Refusal)
    → or_else o next ≡ Some why
    → (o ≡ Some why) ⊎ ((o ≡ None) × (next ≡ Some why))
or-cases (Some other) next why h = inl h
or-cases None next why h = inr (refl, h)

or-none : (o next : Option Refusal) → or_else o next ≡ None → o ≡ None
or-none (Some other) next h = h
or-none None next h = refl

short-why : (b : Bool) (why : Refusal) → (if b then Some NoPool else None) ≡ Some why → (b ≡ true) × (why ≡ NoPool)
short-why true why h = (refl, cc)
short-why false why h = cc

none-less : (m n : ℕ) → (nat_lt m 0 || nat_lt n 0) ≡ true → ⊥
none-less m n h = grind (arith, nat_tests)

-- a step that can't take memory needs no table
short-grows : (l : Layout) (cpu : ℕ) (slot : Option ℕ) (step : Step) (x : Used)
    → is_short l.depth (rule_of l cpu slot step x).changes x ≡ true
    → may_grow step ≡ true
unfolding is_short rule needs
short-grows l cpu slot (HostTranslate p) x h = absurd (none-less (length x.shared.free) (length x.guest.free) h)
short-grows l cpu slot (HypTranslate p) x h = absurd (none-less (length x.shared.free) (length x.guest.free) h)
short-grows l cpu slot (OwnerOf f) x h = absurd (none-less (length x.shared.free) (length x.guest.free) h)
short-grows l cpu slot (GuestTranslate vm g) x h = absurd (none-less (length x.shared.free) (length x.guest.free) h)
short-grows l cpu slot MarkDying x h = absurd (none-less (length x.shared.free) (length x.guest.free) h)
short-grows l cpu slot (VmReserve kind vcpus) x h = absurd (none-less (length x.shared.free) (length x.guest.free) h)
short-grows l cpu slot VmOpen x h = absurd (none-less (length x.shared.free) (length x.guest.free) h)
short-grows l cpu slot (VcpuLoad vm i) x h = absurd (none-less (length x.shared.free) (length x.guest.free) h)
short-grows l cpu slot VcpuPut x h = absurd (none-less (length x.shared.free) (length x.guest.free) h)
short-grows l cpu slot (Teardown vm) x h = absurd (none-less (length x.shared.free) (length x.guest.free) h)
short-grows l cpu slot VmRelease x h = absurd (none-less (length x.shared.free) (length x.guest.free) h)
short-grows l cpu slot step x h = refl

ample : (l : Layout) (cpu : ℕ) (slot : Option ℕ) (step : Step) (w : Bool) (x : Used) (reply : Reply) (y : Used)
    → Answered l cpu slot step w x reply y
    → AnswersAmply l cpu slot step x reply y
unfolding fails refusal
ample l cpu slot step w x reply y (inl p) =
    inl (record { passes = or-none (rule_fails l cpu slot step x) _ p.passes; reply_is = p.reply_is; next = p.next })
ample l cpu slot step w x reply y (inr (inl p)) =
    elim
    (or-cases (rule_fails l cpu slot step x)
    (if is_short l.depth (rule_of l cpu slot step x).changes x then Some NoPool else None) p.why p.fail) [
      | inl e ↦ inr (inl (record { why = p.why; fail = e; reply_is = p.reply_is; next = p.next }))
      | inr e ↦
          let short = short-why (is_short l.depth (rule_of l cpu slot step x).changes x) p.why e.1 in
          inr
          (inr
          (record {
            passes = e.0;
            grows = short-grows l cpu slot step x short.0;
            reply_is = inr (p.reply_is ∙ ap Refused short.1);
            next = p.next;
          }))
    ]
ample l cpu slot step w x reply y (inr (inr p)) =
    inr
    (inr
    (record {
      passes = or-none (rule_fails l cpu slot step x) _ p.passes;
      grows = p.grows;
      reply_is = inl p.reply_is;
      next = p.next;
    }))

-- by the slot that the call tells
abbrev pub Made : (l : Layout) (s : Contents) (cpu : ℕ) (step : Step) (reply : Reply) (t : Contents) → Option ℕ → Type 0
Made l s cpu step reply t slot =
    (y : Used)
    × AnswersAmply l cpu slot step (used_of (names step) slot cpu s) reply y
    × (t ≡ put_back (names step) slot cpu s y)

pub ample_steps : AmpleSteps
unfolding used_of
ample_steps l s t c steps stored = elim (steps.on.answers) [
  | inl p ↦ absurd (stored p.reply)
  | inr p ↦
      let here : Made l s.contents c.cpu c.step c.reply t.contents c.slot = (
        steps.after,
        ample l c.cpu c.slot c.step true (used_by c s) c.reply steps.after p.answered,
        ap (λ (u : Reference). u.contents) steps.next,
      ) in
      let at = subst (Made l s.contents c.cpu c.step c.reply t.contents) steps.on.slot here in
      record { after = at.0; answers = at.1; next = at.2 }
]

-- a coarsest tree of nothing has its root alone
root-alone : (depth : ℕ) (t : Tree) → IsCoarsest depth t → HasRootAlone depth t
root-alone depth t coarse empty b f e = by_lt depth b.0
    (λ above.
    let at = coarse.inside b f e in
    let top : b.0 ≤ depth + 1 = at.top in
    let some : 1 ≤ b.0 = at.some in
    let here : b.0 ≡ depth + 1 = omega arith in
    let none : depth + 1 - b.0 ≡ 0 = omega arith in
    let low : b.1 < block_pages 0 = subst (λ n. b.1 < block_pages n) none at.index in
    let first : b.1 ≡ 0 = omega arith in
    block-same here first)
    (λ below.
    let one = empty-one_word t.map b ((empty_means t.map b).1 (λ i less. empty (first_page b + i))) in
    let wanted = coarse.below b (coarse.inside b f e) below in
    let bad : true ≡ false = sym (ap is_some e) ∙ wanted ∙ ap not one in
    cc)

-- the tables of each tree of a legal state are at its blocks
inside-of : (l : Layout) (s : Contents) → Legal l s → (t : ℕ) → IsInside l.depth (tree_at s t)
inside-of l s k zero = k.trees.host.inside
inside-of l s k (suc zero) = k.trees.hyp.inside
inside-of l s k (suc (suc v)) = (k.trees.guest v).inside

-- a legal state is so in any trees, and a guest's of nothing has its root alone
pub any-trees : (l : Layout) (s : Contents) → Legal l s → LegalInAnyTrees l s
any-trees l s k = record {
  state = record {
    frames = record { condition = k.condition; of_layout = k.of_layout; maps = k.maps; held = k.held; rows = k.rows };
    inside = inside-of l s k;
    guest_parts = k.guest_parts;
    slots = k.slots;
  };
  emptied = λ v. root-alone l.depth (s.guest v).tree (k.trees.guest v);
}

pub steps_judged : StepsJudged
steps_judged l s t c before after legal steps stored begins ends =
    record {
      state = s.contents;
      next = t.contents;
      begins = begins;
      legal = any-trees l s.contents legal;
      steps = ample_steps l s t c steps stored;
      ends = ends;
    }
