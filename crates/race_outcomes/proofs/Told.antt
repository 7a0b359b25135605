-- What a step is told, and the call of the model that tells it so.
use Rattle.std.proofs.Common.{◌≡◌, Bool, true, false, refl, sym, ap, subst, ◌∙◌, inl, inr}
use Rattle.std.specs.Prelude.{◌&&◌, Option, Some, None}
use Rattle.page_state.proofs.Common.{and-both, both, if-false, if-true}
use Rattle.page_state.specs.Layouts.{Layout}
use Rattle.call_table.specs.declared.reply.Call.{Call}
use Rattle.call_table.specs.declared.reply.Refusal.{Refusal}
use Rattle.call_table.specs.declared.reply.Refusal.TheVariants.{LogFull, NoMemory}
use Rattle.call_table.specs.declared.reply.Reply.{Reply}
use Rattle.call_table.specs.declared.reply.Reply.TheVariants.{Done, Refused}
use Rattle.reference_model.proofs.Steps.{log_full_keeps, refusal_keeps, step_exists}
use Rattle.reference_model.specs.model.Rules.{guest_slot, may_grow, names}
use Rattle.reference_model.specs.model.State.{Contents, Reference, Rooms}
use Rattle.reference_model.specs.model.Step.{Answered, FindsFull, IsStoredAnswer, Steps, answer, fails, predict_step, is_full, made, rooms_by, rule_of, stored, used_by, with_used}
use Rattle.reference_model.specs.model.Used.{Used, UsedRooms, put_rooms, used_of}
use Rattle.ghost_judge.specs.Judgements.{is_done}
use Rattle.ghost_spec.proofs.Predictions.{predicted-answer, predicted-full}
use Rattle.race_outcomes.specs.declared.node.Turn.{Turn}
use Rattle.race_outcomes.specs.Laws.{is_want}
use Rattle.race_outcomes.specs.Orders.{is_wanting, model_reply, wanting}

pub told_plain : (l : Layout) (s : Reference) (turn : Turn)
    → is_wanting turn (predict_step l s turn.cpu turn.step).0 ≡ false
    → model_reply l s turn ≡ predict_step l s turn.cpu turn.step
unfolding model_reply
told_plain l s turn e = let r = predict_step l s turn.cpu turn.step in if-false (is_wanting turn r.0) (wanting s r) r e

pub told_want : (l : Layout) (s : Reference) (turn : Turn)
    → is_wanting turn (predict_step l s turn.cpu turn.step).0 ≡ true
    → model_reply l s turn ≡ wanting s (predict_step l s turn.cpu turn.step)
unfolding model_reply
told_want l s turn e = let r = predict_step l s turn.cpu turn.step in if-true (is_wanting turn r.0) (wanting s r) r e

abbrev pair : Reply → Reference → Reply × Reference
pair r s = (r, s)

abbrev state_with : Contents → Rooms → Reference
state_with c r = record { contents = c; rooms = r }

same_pair : (a b : Reply) (u v : Reference) → a ≡ b → u ≡ v → pair a u ≡ pair b v
same_pair a b u v e f = cc

same_state : (a b : Contents) (u v : Rooms) → a ≡ b → u ≡ v → state_with a u ≡ state_with b v
same_state a b u v e f = cc

no_and : (a b : Bool) → (a && b && false) ≡ false
no_and true true = refl
no_and true false = refl
no_and false b = refl

no_want : (b c : Bool) → (false && b && c) ≡ false
no_want b c = refl

-- as code tells it
module _ (l : Layout) (s : Reference) (turn : Turn) (reply : Reply) (after : Reference) where
  pub told_made : pair reply after ≡ predict_step l s turn.cpu turn.step
      → is_wanting turn reply ≡ false
      → pair reply after ≡ model_reply l s turn
  told_made f e = f ∙ sym (told_plain l s turn (ap (λ (p : Reply × Reference). is_wanting turn p.0) (sym f) ∙ e))

  pub told_wanting : (left : Reference)
      → pair reply after ≡ predict_step l s turn.cpu turn.step
      → is_wanting turn reply ≡ true
      → left.contents ≡ s.contents
      → left.rooms ≡ after.rooms
      → pair (Refused NoMemory) left ≡ model_reply l s turn
  told_wanting left f e contents rooms =
      same_pair (Refused NoMemory) (Refused NoMemory) left (state_with s.contents after.rooms) refl
      (same_state left.contents s.contents left.rooms after.rooms contents rooms)
      ∙ ap (λ (p : Reply × Reference). wanting s p) f
      ∙ sym (told_want l s turn (ap (λ (p : Reply × Reference). is_wanting turn p.0) (sym f) ∙ e))

-- a call of the model is told what its step is told, where the step finds no memory just if the call was told so
module _ (l : Layout) (s t : Reference) (c : Call) (wants : Bool) (h : Steps l s c t) where
  abbrev x : Used
  x = used_by c s

  abbrev turn : Turn
  turn = record { cpu = c.cpu; step = c.step; wants = wants }

  abbrev answer_by : Option Refusal → Reply × Used
  answer_by o =
      elim o [
        | Some why ↦ (Refused why, x)
        | None ↦ (Done (rule_of l c.cpu c.slot c.step x).changes.value, made l c.cpu c.slot c.step x)
      ]

  answer_is : (o : Option Refusal)
      → fails l c.cpu c.slot c.step x ≡ o
      → ◌≡◌ {A = Reply × Used} (answer l c.cpu c.slot c.step x) (answer_by o)
  unfolding answer
  answer_is o e = ap answer_by e

  slot_is : c.slot ≡ guest_slot (s.contents.cpu c.cpu) c.step
  unfolding used_of
  slot_is = h.on.slot

  predicted : is_full (names c.step) c.slot (rooms_by c s) ≡ false
      → (o : Option Refusal)
      → fails l c.cpu c.slot c.step x ≡ o
      → ◌≡◌ {A = Reply × Reference} (predict_step l s c.cpu c.step)
      (pair (answer_by o).0 (with_used c s (answer_by o).1 (stored (rooms_by c s))))
  predicted room o e = let a = answer_by o in
      predicted-answer l s c.cpu c.step c.slot slot_is a.0 a.1 room (answer_is o e)

  -- where memory isn't wanted
  answered : is_full (names c.step) c.slot (rooms_by c s) ≡ false
      → (o : Option Refusal)
      → fails l c.cpu c.slot c.step x ≡ o
      → h.left ≡ stored (rooms_by c s)
      → c.reply ≡ (answer_by o).0
      → h.after ≡ (answer_by o).1
      → is_wanting turn (answer_by o).0 ≡ false → model_reply l s turn ≡ pair c.reply t
  answered room o e rooms r n plain =
      let a = answer_by o in
      let f = predicted room o e in
      told_plain l s turn (ap (λ (p : Reply × Reference). is_wanting turn p.0) f ∙ plain)
      ∙ f
      ∙ sym
      (same_pair c.reply a.0 t (with_used c s a.1 (stored (rooms_by c s))) r
      (h.next ∙ ap (λ (y : Used). with_used c s y h.left) n
      ∙ ap (λ (q : UsedRooms). with_used c s a.1 q) rooms))

  -- where it is
  wanted : is_full (names c.step) c.slot (rooms_by c s) ≡ false
      → fails l c.cpu c.slot c.step x ≡ None
      → h.left ≡ stored (rooms_by c s)
      → c.reply ≡ Refused NoMemory
      → may_grow c.step ≡ true
      → wants ≡ true
      → model_reply l s turn ≡ pair c.reply t
  wanted room e rooms r grows w =
      let f = predicted room None e in
      let so : is_wanting turn (predict_step l s c.cpu c.step).0 ≡ true =
      ap (λ (p : Reply × Reference). is_wanting turn p.0) f ∙ rw (w, grows) refl in
      let keeps : t.contents ≡ s.contents = refusal_keeps l s t c NoMemory h r in
      let left : t.rooms ≡ put_rooms (names c.step) c.slot c.cpu s.rooms (stored (rooms_by c s)) =
      ap (λ (u : Reference). u.rooms) h.next ∙ ap (put_rooms (names c.step) c.slot c.cpu s.rooms) rooms in
      told_want l s turn so
      ∙ ap (λ (p : Reply × Reference). wanting s p) f
      ∙ sym
      (same_pair c.reply (Refused NoMemory) t
      (state_with s.contents (put_rooms (names c.step) c.slot c.cpu s.rooms (stored (rooms_by c s)))) r
      (same_state t.contents s.contents t.rooms
      (put_rooms (names c.step) c.slot c.cpu s.rooms (stored (rooms_by c s))) keeps left))

  -- where a log is full
  full : wants ≡ is_want c.reply → FindsFull c x (rooms_by c s) h.after h.left → model_reply l s turn ≡ pair c.reply t
  full theirs f =
      let none : wants ≡ false = theirs ∙ ap is_want f.reply in
      let v = (predict_step l s c.cpu c.step).0 in
      told_plain l s turn
      (ap (λ (b : Bool). b && may_grow c.step && is_done v) none ∙ no_want (may_grow c.step) (is_done v))
      ∙ predicted-full l s c.cpu c.step c.slot slot_is f.full
      ∙ same_pair (Refused LogFull) c.reply s t (sym f.reply) (sym (log_full_keeps l s t c h f.reply))

  pub call_told : wants ≡ is_want c.reply → model_reply l s turn ≡ pair c.reply t
  call_told theirs = elim h.on.answers [ inl p ↦ full theirs p | inr p ↦ by_answer p p.answered ]
    where
      by_answer : IsStoredAnswer l c x (rooms_by c s) h.after h.left
          → Answered l c.cpu c.slot c.step true x c.reply h.after
          → model_reply l s turn ≡ pair c.reply t
      by_answer p (inl m) =
          let v = Done (rule_of l c.cpu c.slot c.step x).changes.value in
          let plain : wants ≡ false = theirs ∙ ap is_want m.reply_is in
          answered p.room None m.passes p.rooms m.reply_is m.next
          (ap (λ (b : Bool). b && may_grow c.step && is_done v) plain ∙ no_want (may_grow c.step) (is_done v))
      by_answer p (inr (inl m)) =
          answered p.room (Some m.why) m.fail p.rooms m.reply_is m.next (no_and wants (may_grow c.step))
      by_answer p (inr (inr m)) = wanted p.room m.passes p.rooms m.reply_is m.grows (theirs ∙ ap is_want m.reply_is)

-- and what a step is told, some call of the model is told

pub record IsTold (l : Layout) (s : Reference) (turn : Turn) : Type 0 where
  pub call : Call
  pub cpu : call.cpu ≡ turn.cpu
  pub step : call.step ≡ turn.step
  pub reply : call.reply ≡ (model_reply l s turn).0
  pub steps : Steps l s call (model_reply l s turn).1

module _ (l : Layout) (s : Reference) (turn : Turn) where
  abbrev r : Reply × Reference
  r = predict_step l s turn.cpu turn.step

  as_foretold : model_reply l s turn ≡ r → IsTold l s turn
  as_foretold e =
      let one = step_exists l s turn.cpu turn.step in
      record {
        call = one.0;
        cpu = one.1;
        step = one.2;
        reply = one.3
            ∙ ap (λ (p : Reply × Reference). p.0) (sym e);
        steps =
            subst (λ (p : Reply × Reference). Steps l s one.0 p.1) (sym e) one.4;
      }

  done_not_refused : (v : Reply) (why : Refusal) → is_done v ≡ true → v ≡ Refused why → ⊥
  done_not_refused v why d e = let no : is_done (Refused why) ≡ true = subst (λ (x : Reply). is_done x ≡ true) e d in cc

  -- the call that wants memory, in place of the one that is made
  wanting_call : (c : Call) (t : Reference)
      → Steps l s c t
      → is_done c.reply ≡ true
      → may_grow c.step ≡ true
      → Steps l s (record c { reply = Refused NoMemory }) (state_with s.contents t.rooms)
  wanting_call c t h done grows = elim h.on.answers [
    | inl p ↦ absurd (let e = p.reply in done_not_refused c.reply _ done e)
    | inr p ↦ by_answer p p.answered
  ]
    where
      d : Call
      d = record c { reply = Refused NoMemory }

      by_answer : IsStoredAnswer l c (used_by c s) (rooms_by c s) h.after h.left
          → Answered l c.cpu c.slot c.step true (used_by c s) c.reply h.after
          → Steps l s d (state_with s.contents t.rooms)
      by_answer p (inr (inl m)) = absurd (done_not_refused c.reply m.why done m.reply_is)
      by_answer p (inr (inr m)) = absurd (done_not_refused c.reply NoMemory done m.reply_is)
      by_answer p (inl m) =
          let q = stored (rooms_by c s) in
          let u = with_used c s (used_by c s) q in
          let steps : Steps l s d u = record {
            after = used_by c s;
            left = q;
            on =
                record {
                  slot = h.on.slot;
                  number = h.on.number;
                  answers =
                      inr
                      (record {
                        room = p.room;
                        answered =
                            inr
                            (inr
                            (record {
                              passes = m.passes;
                              grows = grows;
                              wanted = refl;
                              reply_is = refl;
                              next = refl;
                            }));
                        rooms = refl;
                      });
                };
            next = refl;
          } in
          let keeps : u.contents ≡ s.contents = refusal_keeps l s u d NoMemory steps refl in
          let left : t.rooms ≡ u.rooms =
          ap (λ (v : Reference). v.rooms) h.next ∙ ap (put_rooms (names c.step) c.slot c.cpu s.rooms) p.rooms in
          subst (Steps l s d) (same_state u.contents s.contents u.rooms t.rooms keeps (sym left)) steps

  as_wanting : is_wanting turn r.0 ≡ true → IsTold l s turn
  as_wanting so =
      let one = step_exists l s turn.cpu turn.step in
      let tests = and-both (turn.wants && may_grow turn.step) (is_done r.0) so in
      let grows = (and-both turn.wants (may_grow turn.step) tests.0).1 in
      let e = told_want l s turn so in
      let steps = wanting_call one.0 r.1 one.4 (ap is_done one.3 ∙ tests.1) (ap may_grow one.2 ∙ grows) in
      record {
        call = record one.0 { reply = Refused NoMemory };
        cpu = one.1;
        step = one.2;
        reply = sym (ap (λ (p : Reply × Reference). p.0) e);
        steps =
            subst (λ (p : Reply × Reference). Steps l s (record one.0 { reply = Refused NoMemory }) p.1) (sym e) steps;
      }

  pub turn_exists : IsTold l s turn
  turn_exists = elim (both (is_wanting turn r.0)) [
    | inl so ↦ as_wanting so
    | inr not ↦ as_foretold (told_plain l s turn not)
  ]
