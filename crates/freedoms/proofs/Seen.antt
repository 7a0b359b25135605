-- The judgement with freedoms, by one step of the model.
use Rattle.std.proofs.Common.{◌≡◌, ℕ, refl, ap, sym, ◌∙◌, subst, inl, inr}
use Rattle.std.specs.Prelude.{Bool, true, false, Option, Some, None}
use mathlib.Core.Path.{fun_ext}
use Rattle.call_table.specs.declared.reply.Refusal.{Refusal}
use Rattle.call_table.specs.declared.reply.Reply.{Reply}
use Rattle.call_table.specs.declared.reply.Reply.TheVariants.{Done, Refused}
use Rattle.call_table.specs.declared.step.Step.{Step}
use Rattle.call_table.specs.declared.step.Step.TheVariants.{HostTranslate, HypTranslate, OwnerOf, GuestTranslate}
use Rattle.page_state.specs.Layouts.{Layout}
use Rattle.page_state.specs.Map.{Map}
use Rattle.page_state.specs.Trees.{no_tree}
use Rattle.reference_model.proofs.Steps.{used-self}
use Rattle.reference_model.specs.model.Rules.{names, guest_slot}
use Rattle.reference_model.specs.model.State.{Contents, all_rooms}
use Rattle.reference_model.specs.model.Step.{rule_of, made}
use Rattle.reference_model.specs.model.Used.{Used, used_of, put_back}
use Rattle.freedoms.specs.declared.Freedoms.{Freedoms}
use Rattle.freedoms.specs.Ample.{asks_pool, is_done, IsWant, rule_fails, answer_amply, predict_step_amply, StepsAmply}
use Rattle.freedoms.specs.Freedoms.{Alike, CountsAs, Touches, is_read, is_test, view}
use Rattle.freedoms.specs.OwnTables.{bare_shared, without_tables}
use Rattle.freedoms.specs.Seen.{AgreesSeen, SeenByPredicted, ReadsSeen}
use Rattle.freedoms.proofs.Judged.{alike}
use Rattle.freedoms.proofs.More.{viewed}
use Rattle.freedoms.proofs.Views.{view-twice}

refused-done : {P : Type 0} (why : Refusal) → is_done (Refused why) ≡ true → P
refused-done why h = cc

-- want of memory is no test of a rule
by_test : Reply → Bool
by_test (Refused why) = is_test why
by_test other = false

want-no-test : (told : Reply) → IsWant told → by_test told ≡ false
unfolding by_test
want-no-test told (inl e) = ap by_test e
want-no-test told (inr e) = ap by_test e

said-want : (w : Freedoms) (told said : Reply) → IsWant told → CountsAs w told said → IsWant said
unfolding by_test
said-want w told said want (inl e) = subst IsWant (sym e) want
said-want w told said want (inr h) =
    let k = h.1 in
    let bad : false ≡ true = sym (want-no-test told want) ∙ ap by_test k.1 ∙ k.2 in
    cc

-- a step of a state of which the freedoms leave the same as of the one before
module _ (w : Freedoms) (l : Layout) (before s : Contents) (cpu : ℕ) (step : Step) (reply : Reply) (after : Contents)
    (same : Alike w l before s) where
  abbrev slot_at : Option ℕ
  slot_at = guest_slot (s.cpu cpu) step

  abbrev x : Used
  x = used_of (names step) slot_at cpu s

  abbrev put : Used → Contents
  put y = put_back (names step) slot_at cpu s y

  abbrev told_for : Option Refusal → Reply × Used
  told_for o =
      elim o [
        | Some why ↦ (Refused why, x)
        | None ↦ (Done (rule_of l cpu slot_at step x).changes.value, made l cpu slot_at step x)
      ]

  abbrev back : Reply × Used → Reply × Contents
  back p = (p.0, put p.1)

  told-is : (o : Option Refusal)
      → rule_fails l cpu slot_at step x ≡ o
      → predict_step_amply l s cpu step ≡ back (told_for o)
  unfolding predict_step_amply answer_amply
  told-is o e = ap (λ (q : Option Refusal). back (told_for q)) e

  own : put x ≡ s
  own =
      used-self (record { cpu = cpu; number = 0; step = step; reply = reply; slot = slot_at })
      (record { contents = s; rooms = all_rooms 0 })

  unfoldable pub Agrees : Reply × Contents → Type 0
  Agrees told = AgreesSeen w l before step reply after told

  says-so : (a b : Reply) → a ≡ b → CountsAs w a reply → CountsAs w b reply
  says-so a b e h = subst (λ (r : Reply). CountsAs w r reply) e h

  pub down : (next : Contents) (told : Reply)
      → StepsAmply l s cpu step told next
      → CountsAs w told reply
      → Alike w l next after
      → Agrees (predict_step_amply l s cpu step)
  unfolding Agrees
  down next told steps says ends = elim (steps.answers) [
    | inl p ↦ subst Agrees (sym (told-is None p.passes))
        (inl
        (record {
          says = says-so told (Done (rule_of l cpu slot_at step x).changes.value) p.reply_is says;
          contents_are = ap (view w l) (ap put (sym p.next) ∙ sym steps.next)
              ∙ ends;
        }))
    | inr (inl p) ↦ subst Agrees (sym (told-is (Some p.why) p.fail))
        (inl
        (record {
          says = says-so told (Refused p.why) p.reply_is says;
          contents_are = ap (view w l) (ap put (sym p.next) ∙ sym steps.next)
              ∙ ends;
        }))
    | inr (inr p) ↦ subst Agrees (sym (told-is None p.passes))
        (inr
        (record {
          wants = record {
            reply_is = said-want w told reply p.reply_is says;
            grows = p.grows;
            made = refl;
          };
          contents_are = same
              ∙ ap (view w l) (sym own ∙ ap put (sym p.next) ∙ sym steps.next) ∙ ends;
        }))
  ]

  pub record IsStep : Type 0 where
    pub next : Contents
    pub told : Reply
    pub steps : StepsAmply l s cpu step told next
    pub says : CountsAs w told reply
    pub ends : Alike w l next after

  up-by : (o : Option Refusal) → rule_fails l cpu slot_at step x ≡ o → Agrees (back (told_for o)) → IsStep
  unfolding Agrees
  up-by (Some why) e (inl a) =
      record {
        next = put x;
        told = Refused why;
        steps =
            record {
              after = x;
              answers = inr (inl (record { why = why; fail = e; reply_is = refl; next = refl }));
              next = refl;
            };
        says = a.says;
        ends = a.contents_are;
      }
  up-by None e (inl a) =
      record {
        next = put (made l cpu slot_at step x);
        told = Done (rule_of l cpu slot_at step x).changes.value;
        steps =
            record {
              after = made l cpu slot_at step x;
              answers = inl (record { passes = e; reply_is = refl; next = refl });
              next = refl;
            };
        says = a.says;
        ends = a.contents_are;
      }
  up-by (Some why) e (inr a) = refused-done why a.wants.made
  up-by None e (inr a) =
      record {
        next = put x;
        told = reply;
        steps =
            record {
              after = x;
              answers =
                  inr
                  (inr
                  (record { passes = e; grows = a.wants.grows; reply_is = a.wants.reply_is; next = refl }));
              next = refl;
            };
        says = inl refl;
        ends = ap (view w l) own
            ∙ sym same ∙ a.contents_are;
      }

  pub up : Agrees (predict_step_amply l s cpu step) → IsStep
  up a = up-by (rule_fails l cpu slot_at step x) refl (subst Agrees (told-is (rule_fails l cpu slot_at step x) refl) a)

-- what the freedoms leave of a state, seen again
seen-twice : (w : Freedoms) (l : Layout) (s : Contents) → Alike w l s (view w l s)
seen-twice w l s =
    ap
    (λ (m : Map). record (view w l s)
    { shared = record (bare_shared s.shared) { host = record { map = m; table = no_tree.table } } })
    (fun_ext (λ p. sym (view-twice w l p (s.shared.host.map p))))

pub seen_by_predicted : SeenByPredicted
unfolding Agrees
seen_by_predicted w l before cpu step reply after =
    let same = seen-twice w l before in (
      λ j. down w l before (view w l before) cpu step reply after same j.next j.told j.steps j.says j.ends,
      λ a. let k = up w l before (view w l before) cpu step reply after same a in
          record { next = k.next; told = k.told; steps = k.steps; says = k.says; ends = k.ends },
    )

reads-pool : (step : Step) → is_read step ≡ true → asks_pool step ≡ false
reads-pool (HostTranslate p) h = refl
reads-pool (HypTranslate p) h = refl
reads-pool (OwnerOf f) h = refl
reads-pool (GuestTranslate vm g) h = refl
reads-pool step h = cc

reads-touch : (step : Step) (reply : Reply) (after : Contents) → is_read step ≡ true → Touches step reply after
reads-touch step reply after reads p e done = let bad : true ≡ false = sym reads ∙ ap is_read e in cc

pub reads_seen : ReadsSeen
unfolding Agrees
reads_seen w l before legal cpu step reply after begins is reads =
    let asks = reads-pool step reads in
    let bare : Alike w l before (without_tables before) = refl in (
      λ j.
          let u = (alike l j.state cpu step j.told j.legal asks).down j.next j.steps in
          down w l before (without_tables before) cpu step reply after bare u.0 j.told
          (subst (λ (s : Contents). StepsAmply l s cpu step j.told u.0) (sym (j.itself reads)) u.1) j.says
          (sym (viewed w l j.next u.0 u.2) ∙ j.ends),
      λ a.
          let k = up w l before (without_tables before) cpu step reply after bare a in
          let u =
          (alike l legal cpu step k.told is asks).up k.next
          (subst (λ (s : Contents). StepsAmply l s cpu step k.told k.next) begins k.steps) in
          record {
            state = legal;
            next = u.0;
            told = k.told;
            begins = viewed w l before legal begins;
            itself = λ r. begins;
            legal = is;
            steps = u.1;
            says = k.says;
            ends = viewed w l u.0 k.next u.2
                ∙ k.ends;
            mapped = λ lazy. reads-touch step reply after reads;
          },
    )
