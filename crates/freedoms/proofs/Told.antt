-- The judgement by maps, by one step of the model.
use Rattle.std.proofs.Common.{◌≡◌, ℕ, refl, ap, sym, ◌∙◌, subst, inl, inr}
use Rattle.std.specs.Prelude.{true, Option, Some, None}
use Rattle.call_table.specs.declared.reply.Refusal.{Refusal}
use Rattle.call_table.specs.declared.reply.Reply.{Reply}
use Rattle.call_table.specs.declared.reply.Reply.TheVariants.{Done, Refused}
use Rattle.call_table.specs.declared.step.Step.{Step}
use Rattle.page_state.specs.Layouts.{Layout}
use Rattle.reference_model.proofs.Steps.{used-self}
use Rattle.reference_model.specs.model.Rules.{names, guest_slot}
use Rattle.reference_model.specs.model.State.{Contents, all_rooms}
use Rattle.reference_model.specs.model.Step.{rule_of, made}
use Rattle.reference_model.specs.model.Used.{Used, used_of, put_back}
use Rattle.freedoms.specs.Ample.{is_done, rule_fails, answer_amply, predict_step_amply, IsJudgedByMaps, predicted_bare, AgreesBare}
use Rattle.freedoms.specs.Laws.{JudgedByPredicted}
use Rattle.freedoms.specs.OwnTables.{without_tables}

refused-done : {P : Type 0} (why : Refusal) → is_done (Refused why) ≡ true → P
refused-done why h = cc

module _ (l : Layout) (before : Contents) (cpu : ℕ) (step : Step) (reply : Reply) (after : Contents) where
  abbrev s : Contents
  s = without_tables before

  abbrev slot_at : Option ℕ
  slot_at = guest_slot (before.cpu cpu) step

  abbrev x : Used
  x = used_of (names step) slot_at cpu s

  abbrev put : Used → Contents
  put y = put_back (names step) slot_at cpu s y

  abbrev told_for : Option Refusal → Reply × Used
  told_for o =
      elim o [
        | Some why ↦ (Refused why, x)
        | None ↦ (Done (rule_of l cpu slot_at step x).changes.value, made l cpu slot_at step x)
      ]

  abbrev back : Reply × Used → Reply × Contents
  back p = (p.0, put p.1)

  told-is : (o : Option Refusal)
      → rule_fails l cpu slot_at step x ≡ o
      → predicted_bare l before cpu step ≡ back (told_for o)
  unfolding predict_step_amply answer_amply
  told-is o e = ap (λ (q : Option Refusal). back (told_for q)) e

  own : put x ≡ s
  own =
      used-self (record { cpu = cpu; number = 0; step = step; reply = reply; slot = slot_at })
      (record { contents = s; rooms = all_rooms 0 })

  Agrees : Reply × Contents → Type 0
  Agrees told = AgreesBare before step reply after told

  down : IsJudgedByMaps l before cpu step reply after → Agrees (predicted_bare l before cpu step)
  unfolding Agrees
  down j = elim (j.steps.answers) [
    | inl p ↦ subst Agrees (sym (told-is None p.passes))
        (inl
        (record {
          reply_is = p.reply_is;
          contents_are = ap without_tables (ap put (sym p.next) ∙ sym j.steps.next)
              ∙ j.ends;
        }))
    | inr (inl p) ↦ subst Agrees (sym (told-is (Some p.why) p.fail))
        (inl
        (record {
          reply_is = p.reply_is;
          contents_are = ap without_tables (ap put (sym p.next) ∙ sym j.steps.next)
              ∙ j.ends;
        }))
    | inr (inr p) ↦ subst Agrees (sym (told-is None p.passes))
        (inr
        (record {
          wants = record { reply_is = p.reply_is; grows = p.grows; made = refl };
          contents_are = ap without_tables (sym own ∙ ap put (sym p.next) ∙ sym j.steps.next)
              ∙ j.ends;
        }))
  ]

  up-by : (o : Option Refusal)
      → rule_fails l cpu slot_at step x ≡ o
      → Agrees (back (told_for o))
      → IsJudgedByMaps l before cpu step reply after
  unfolding Agrees
  up-by (Some why) e (inl a) =
      record {
        next = put x;
        steps =
            record {
              after = x;
              answers =
                  inr (inl (record { why = why; fail = e; reply_is = a.reply_is; next = refl }));
              next = refl;
            };
        ends = a.contents_are;
      }
  up-by None e (inl a) =
      record {
        next = put (made l cpu slot_at step x);
        steps =
            record {
              after = made l cpu slot_at step x;
              answers = inl (record { passes = e; reply_is = a.reply_is; next = refl });
              next = refl;
            };
        ends = a.contents_are;
      }
  up-by (Some why) e (inr a) = refused-done why a.wants.made
  up-by None e (inr a) =
      record {
        next = put x;
        steps =
            record {
              after = x;
              answers =
                  inr
                  (inr
                  (record { passes = e; grows = a.wants.grows; reply_is = a.wants.reply_is; next = refl }));
              next = refl;
            };
        ends = ap without_tables own
            ∙ a.contents_are;
      }

  up : Agrees (predicted_bare l before cpu step) → IsJudgedByMaps l before cpu step reply after
  up a = up-by (rule_fails l cpu slot_at step x) refl (subst Agrees (told-is (rule_fails l cpu slot_at step x) refl) a)

pub judged_by_told : JudgedByPredicted
unfolding Agrees
judged_by_told l before cpu step reply after = (down l before cpu step reply after, up l before cpu step reply after)
