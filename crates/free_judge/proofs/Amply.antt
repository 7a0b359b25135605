-- The reference step of a state with enough free frames that no memory has is the one where pools may hold any number
-- of frames.
use Rattle.std.proofs.Common.{◌≡◌, ◌≢◌, ℕ, ◌+◌, ◌<◌, List, [], length, refl, ap, sym, ◌∙◌, subst, arith, inl, inr}
use Rattle.std.specs.Prelude.{◌⊎◌, Bool, true, false, not, ◌||◌, ◌&&◌, nat_lt, Option, Some, None, Ok, Err, if◌then◌else◌}
use Rattle.std.proofs.lemmas.Bool.Decides.{nat_tests}
use mathlib.Core.Path.{fun_ext}
use Rattle.call_table.specs.declared.reply.Refusal.{Refusal}
use Rattle.call_table.specs.declared.reply.Refusal.TheVariants.{Busy, Invalid, NoPool, NoVm, Perm}
use Rattle.call_table.specs.declared.reply.Reply.{Reply}
use Rattle.call_table.specs.declared.reply.Reply.TheVariants.{Done, Refused}
use Rattle.call_table.specs.declared.step.Step.{Step}
use Rattle.call_table.specs.declared.step.Step.TheVariants.{Topup, ReclaimPool, FinishGuest}
use Rattle.page_state.proofs.Common.{and-both, same2}
use Rattle.page_state.specs.Layouts.{Layout, is_memory}
use Rattle.page_state.specs.Tables.{need, needs}
use Rattle.page_state.specs.Trees.{Tree}
use Rattle.page_state.specs.declared.row.Row.{Row}
use Rattle.reference_model.proofs.ChangesUsed.{changes_used}
use Rattle.reference_model.specs.declared.changes.Changes.{Changes}
use Rattle.reference_model.specs.declared.changes.MapChange.{MapChange}
use Rattle.reference_model.specs.help.ChangeLaws.{OnlyUses}
use Rattle.reference_model.specs.model.Changes.{edit_of}
use Rattle.reference_model.specs.model.Decides.{decides}
use Rattle.reference_model.specs.model.Owner.{is_free}
use Rattle.reference_model.specs.model.Parts.{lacks_slot, uses_shared}
use Rattle.reference_model.specs.model.Rule.{Rule}
use Rattle.reference_model.specs.model.Rules.{rule, names, guest_slot}
use Rattle.reference_model.specs.model.State.{Contents, Reference, Rooms, no_shared, no_guest}
use Rattle.reference_model.specs.model.Step.{answer, changed, fails, first_test, predict_step, guest_after, guest_need, is_full, is_short, is_touched, made, or_else, own_row, refusal, rule_of, shared_after, shared_need, stored, with_rows}
use Rattle.reference_model.specs.model.Used.{Used, used_of, put_back, put_rooms, rooms_of, guest_at}
use Rattle.freedoms.specs.Ample.{answer_amply, asks_pool, predict_step_amply, rule_fails}
use Rattle.freedoms.specs.OwnTables.{bare_used, without_tables}
use Rattle.freedoms.proofs.Bare.{changed-bare, put-bare, rule-bare}
use Rattle.freedoms.proofs.Gone.{IsApart, after-brings, guest_holds, still-apart}
use Rattle.freedoms.proofs.OwnRows.{bare-apart, bare-clear, choose, own-alike, used-apart, with_row}
use Rattle.freedoms.proofs.Twins.{used-alike}
use Rattle.ghost_spec.specs.Kept.{IsLowSlot}
use Rattle.ghost_spec.proofs.Predictions.{predicted-answer}
use Rattle.free_judge.specs.Asked.{asked_by, asked_guest, asked_of, filled_by, filled_guest, filled_shared, most_needed, IsPredictedAmply}
use Rattle.free_judge.proofs.Fills.{filled-alike}

choose-same : (b : Bool) (x y z w : Row) → z ≡ w → (b ≡ true → x ≡ y) → choose b x z ≡ choose b y w
choose-same true x y z w e h = h refl
choose-same false x y z w e h = e

-- no test of a rule is of pools

no-pool : (r : Rule) (lacks : Bool) → first_test r lacks ≢ Some NoPool
no-pool r lacks e = go (not r.valid.passes) (lacks || not r.has_vm.passes) (not r.ready.passes) (not r.allowed.passes) e
  where
    go : (a b c d : Bool)
        → ◌≡◌ {A = Option Refusal}
        (if a then Some Invalid
        else if b then Some NoVm
        else if c then Some Busy
        else if d then Some Perm
        else None)
        (Some NoPool)
        → ⊥
    go true b c d e = cc
    go false true c d e = cc
    go false false true d e = cc
    go false false false true e = cc
    go false false false false e = cc

less-true : (m n : ℕ) → nat_lt m n ≡ true → m < n
less-true m n h = grind (arith, nat_tests)

none-less : (m : ℕ) {P : Type 0} → nat_lt m 0 ≡ true → P
none-less m h = absurd (grind (arith, nat_tests))

or-cases : (a b : Bool) → (a || b) ≡ true → (a ≡ true) ⊎ (b ≡ true)
or-cases true b h = inl refl
or-cases false b h = inr h

no-need : (d : ℕ) (t : Tree) (e : Option MapChange) → e ≡ None → need d t (edit_of e) ≡ 0
unfolding needs
no-need d t e h = ap (λ (o : Option MapChange). need d t (edit_of o)) h

module _ (l : Layout) (fs : List ℕ) (outside : (f : ℕ) → is_memory l f ≡ true → is_free fs f ≡ false) (s : Contents)
    (cpu : ℕ) (slot : Option ℕ) (low : IsLowSlot slot) where
  -- what is used of a filled state, and of one that is asked
  abbrev x : Step → Used
  x step = used_of (names step) slot cpu (filled_by (asks_pool step) fs s)

  abbrev z : Step → Used
  z step = used_of (names step) slot cpu (asked_of step s)

  bare : (step : Step) → bare_used (x step) ≡ bare_used (z step)
  bare step =
      used-alike (names step) slot cpu (filled_by (asks_pool step) fs s) (asked_of step s)
      (filled-alike (asks_pool step) fs s)

  by-bare : (step : Step) → asks_pool step ≡ false → rule_of l cpu slot step (x step) ≡ rule_of l cpu slot step (z step)
  by-bare step h =
      sym (rule-bare l cpu slot step (x step) h) ∙ ap (rule_of l cpu slot step) (bare step)
      ∙ rule-bare l cpu slot step (z step) h

  rule-same : (step : Step) → rule_of l cpu slot step (x step) ≡ rule_of l cpu slot step (z step)
  unfolding rule used_of
  rule-same (Topup vm) = refl
  rule-same (ReclaimPool vm) = refl
  rule-same FinishGuest = refl
  rule-same step = by-bare step refl

  fails-same : (step : Step) → rule_fails l cpu slot step (x step) ≡ rule_fails l cpu slot step (z step)
  fails-same step = ap (λ (r : Rule). first_test r (lacks_slot (names step) slot)) (rule-same step)

  -- the tables that a change needs don't depend on free frames

  shared-by : (d : ℕ) (h : Changes) (c : Bool)
      → shared_need d h (if c then filled_shared fs s.shared else no_shared)
      ≡ shared_need d h (if c then (asked_by true s).shared else no_shared)
  shared-by d h true = refl
  shared-by d h false = refl

  guest-by : (d : ℕ) (h : Changes) (b : Bool) (slot : Option ℕ)
      → guest_need d h (guest_at (filled_by b fs s).guest slot) ≡ guest_need d h (guest_at (asked_by b s).guest slot)
  guest-by d h b None = refl
  guest-by d h true (Some v) = refl
  guest-by d h false (Some v) = refl

  -- what is short of frames

  shared-short : (d : ℕ) (h : Changes) (c : Bool)
      → (c ≡ false → h.host ≡ None)
      → (c ≡ false → h.hyp ≡ None)
      → (let y = if c then filled_shared fs s.shared else no_shared in
      nat_lt (length y.free) (shared_need d h y) ≡ true)
      → length fs < shared_need d h (if c then filled_shared fs s.shared else no_shared)
  shared-short d h true p q k = less-true (length fs) (shared_need d h (filled_shared fs s.shared)) k
  shared-short d h false p q k =
      let a : need d no_shared.host (edit_of h.host) ≡ 0 = no-need d no_shared.host h.host (p refl) in
      let b : need d no_shared.hyp (edit_of h.hyp) ≡ 0 = no-need d no_shared.hyp h.hyp (q refl) in
      none-less 0 (subst (λ (n : ℕ). nat_lt 0 n ≡ true) (same2 ◌+◌ a b) k)

  if-low : (v : ℕ) → v < 64 → ◌≡◌ {A = List ℕ} (if nat_lt v 64 then fs else []) fs
  if-low v h = let t : nat_lt v 64 ≡ true = grind (arith, nat_tests) in rw t refl

  guest-short : (d : ℕ) (h : Changes) (b : Bool) (slot : Option ℕ)
      → IsLowSlot slot
      → (slot ≡ None → h.guest ≡ None)
      → (b ≡ true → h.guest ≡ None)
      → (let g = guest_at (filled_by b fs s).guest slot in nat_lt (length g.free) (guest_need d h g) ≡ true)
      → length fs < guest_need d h (guest_at (filled_by b fs s).guest slot)
  guest-short d h b None less p q k =
      none-less 0 (subst (λ (n : ℕ). nat_lt 0 n ≡ true) (no-need d no_guest.tree h.guest (p refl)) k)
  guest-short d h true (Some v) less p q k =
      none-less (length (s.guest v).free)
      (subst (λ (n : ℕ). nat_lt (length (s.guest v).free) n ≡ true) (no-need d (s.guest v).tree h.guest (q refl)) k)
  guest-short d h false (Some v) less p q k =
      less-true (length fs) (guest_need d h (filled_guest false fs v (s.guest v)))
      (subst
      (λ (free : List ℕ). nat_lt (length free) (guest_need d h (filled_guest false fs v (s.guest v))) ≡ true)
      (if-low v less) k)

  no-guest : (step : Step) (y : Used) → asks_pool step ≡ true → (rule_of l cpu slot step y).changes.guest ≡ None
  unfolding rule
  no-guest (Topup vm) y h = refl
  no-guest (ReclaimPool vm) y h = refl
  no-guest FinishGuest y h = refl
  no-guest step y h = cc

  short : (step : Step)
      → OnlyUses (names step) slot (rule_of l cpu slot step (x step)).changes
      → is_short l.depth (rule_of l cpu slot step (x step)).changes (x step) ≡ true
      → length fs < shared_need l.depth (rule_of l cpu slot step (x step)).changes (x step).shared + guest_need l.depth
      (rule_of l cpu slot step (x step)).changes (x step).guest
  unfolding is_short used_of
  short step uses h =
      let c = (rule_of l cpu slot step (x step)).changes in
      elim (or-cases _ _ h) [
        | inl k ↦ let a = shared-short l.depth c (uses_shared (names step) slot) uses.host uses.hyp k in omega arith
        | inr k ↦ let a = guest-short l.depth c (asks_pool step) slot low uses.guest (no-guest step (x step)) k in
            omega arith
      ]

  needed-same : (step : Step) (h : Changes)
      → shared_need l.depth h (x step).shared + guest_need l.depth h (x step).guest
      ≡ shared_need l.depth h (z step).shared + guest_need l.depth h (z step).guest
  unfolding used_of
  needed-same step h =
      same2 ◌+◌ (shared-by l.depth h (uses_shared (names step) slot)) (guest-by l.depth h (asks_pool step) slot)

  abbrev needed : Step → ℕ
  needed step =
      shared_need l.depth (rule_of l cpu slot step (z step)).changes (z step).shared + guest_need l.depth
      (rule_of l cpu slot step (z step)).changes (z step).guest

  pub too-few : (step : Step)
      → rule_fails l cpu slot step (x step) ≡ None
      → is_short l.depth (rule_of l cpu slot step (x step)).changes (x step) ≡ true
      → length fs < needed step
  too-few step passes h =
      let uses =
      changes_used l cpu slot step (x step) (rule_of l cpu slot step (x step)).changes (decided-is step passes) in
      subst (λ (n : ℕ). length fs < n)
      (needed-same step (rule_of l cpu slot step (x step)).changes
      ∙ ap
      (λ (r : Rule). shared_need l.depth r.changes (z step).shared + guest_need l.depth r.changes
      (z step).guest)
      (rule-same step))
      (short step uses h)
    where
      decided-is : (step : Step)
          → rule_fails l cpu slot step (x step) ≡ None
          → decides l cpu slot step (x step) ≡ Ok (rule_of l cpu slot step (x step)).changes
      decided-is step e =
          ap
          (λ (o : Option Refusal). elim o
          [ Some why ↦ Err why | None ↦ Ok (rule_of l cpu slot step (x step)).changes ]) e

  -- the rows that are found again

  shared-apart : (f : ℕ) → is_memory l f ≡ true → IsApart (filled_shared fs s.shared) f
  shared-apart f m = record { free = outside f m; host = λ b e. cc; hyp = λ b e. cc }

  free-clear : (f v : ℕ) (b : Bool) → is_free fs f ≡ false → is_free (if b then fs else []) f ≡ false
  free-clear f v true h = h
  free-clear f v false h = refl

  guest-holds : (h : Changes) (f : ℕ) (b : Bool) (slot : Option ℕ)
      → is_memory l f ≡ true
      → guest_holds l (guest_after l.depth h (guest_at (filled_by b fs s).guest slot)) f
      ≡ guest_holds l (guest_after l.depth h (guest_at (asked_by b s).guest slot)) f
  guest-holds h f b None m = refl
  guest-holds h f true (Some v) m = refl
  guest-holds h f false (Some v) m =
      after-brings l h (filled_guest false fs v (s.guest v)) f
      (record { free = free-clear f v (nat_lt v 64) (outside f m); tree = λ b e. cc })
      ∙ sym (after-brings l h (asked_guest false (s.guest v)) f (bare-clear (s.guest v) f))

  own-same : (step : Step) (h : Changes) (f : ℕ)
      → is_memory l f ≡ true
      → own_row l cpu slot step (changed l.depth h (x step)) f ≡ own_row l cpu slot step (changed l.depth h (z step)) f
  unfolding changed used_of
  own-same step h f m =
      own-alike l cpu slot step (changed l.depth h (x step)) (changed l.depth h (z step)) f (changed-same step h)
      (still-apart l l.depth h (x step).shared f
      (used-apart f (uses_shared (names step) slot) (filled_shared fs s.shared) (shared-apart f m)))
      (still-apart l l.depth h (z step).shared f
      (used-apart f (uses_shared (names step) slot) (asked_of step s).shared (bare-apart s.shared f)))
      (guest-holds h f (asks_pool step) slot m)
    where
      changed-same : (step : Step) (h : Changes)
          → bare_used (changed l.depth h (x step)) ≡ bare_used (changed l.depth h (z step))
      changed-same step h =
          changed-bare l.depth h (x step) ∙ ap (λ (u : Used). bare_used (changed l.depth h u)) (bare step)
          ∙ sym (changed-bare l.depth h (z step))

  rows-same : (step : Step) (h : Changes)
      → bare_used (with_rows l cpu slot step h (changed l.depth h (x step)))
      ≡ bare_used (with_rows l cpu slot step h (changed l.depth h (z step)))
  unfolding with_rows changed shared_after
  rows-same step h =
      same2 with_row
      (changed-bare l.depth h (x step) ∙ ap (λ (u : Used). bare_used (changed l.depth h u)) (bare step)
      ∙ sym (changed-bare l.depth h (z step)))
      (fun_ext
      (λ f. choose-same (is_memory l f && is_touched h f) (own_row l cpu slot step (changed l.depth h (x step)) f)
      (own_row l cpu slot step (changed l.depth h (z step)) f) ((x step).shared.row f) ((z step).shared.row f)
      (ap (λ (u : Used). u.shared.row f) (bare step))
      (λ e. own-same step h f (and-both (is_memory l f) (is_touched h f) e).0)))

  made-same : (step : Step) → bare_used (made l cpu slot step (x step)) ≡ bare_used (made l cpu slot step (z step))
  unfolding made
  made-same step =
      rows-same step (rule_of l cpu slot step (x step)).changes
      ∙ ap (λ (r : Rule). bare_used (with_rows l cpu slot step r.changes (changed l.depth r.changes (z step))))
      (rule-same step)

  -- the answer

  pub record IsAnswer (step : Step) (reply : Reply) (y : Used) : Type 0 where
    pub reply_is : reply ≡ (answer_amply l cpu slot step (z step)).0
    pub next : bare_used y ≡ bare_used (answer_amply l cpu slot step (z step)).1

  abbrev told-for : Step → Option Refusal → Reply × Used
  told-for step o =
      elim o [
        | Some why ↦ (Refused why, z step)
        | None ↦ (Done (rule_of l cpu slot step (z step)).changes.value, made l cpu slot step (z step))
      ]

  amply-by : (step : Step) (o : Option Refusal)
      → rule_fails l cpu slot step (z step) ≡ o
      → answer_amply l cpu slot step (z step) ≡ told-for step o
  unfolding answer_amply
  amply-by step o e = ap (told-for step) e

  abbrev given-for : Step → Option Refusal → Reply × Used
  given-for step o =
      elim o [
        | Some why ↦ (Refused why, x step)
        | None ↦ (Done (rule_of l cpu slot step (x step)).changes.value, made l cpu slot step (x step))
      ]

  abbrev fails-for : Step → Option Refusal → Bool → Option Refusal
  fails-for step o b = or_else o (if b then Some NoPool else None)

  given-by : (step : Step) (o : Option Refusal) (b : Bool)
      → rule_fails l cpu slot step (x step) ≡ o
      → is_short l.depth (rule_of l cpu slot step (x step)).changes (x step) ≡ b
      → answer l cpu slot step (x step) ≡ given-for step (fails-for step o b)
  unfolding answer fails refusal
  given-by step o b p q = ap (given-for step) (same2 (fails-for step) p q)

  first-is : (a b : Reply × Used) → a ≡ b → a.0 ≡ b.0
  first-is a b e = ap (λ (p : Reply × Used). p.0) e

  second-is : (a b : Reply × Used) → a ≡ b → a.1 ≡ b.1
  second-is a b e = ap (λ (p : Reply × Used). p.1) e

  answered-by : (step : Step) (o : Option Refusal) (b : Bool)
      → rule_fails l cpu slot step (x step) ≡ o
      → is_short l.depth (rule_of l cpu slot step (x step)).changes (x step) ≡ b
      → (answer l cpu slot step (x step)).0 ≢ Refused NoPool
      → IsAnswer step (answer l cpu slot step (x step)).0 (answer l cpu slot step (x step)).1
  answered-by step (Some why) b p q h =
      let e = given-by step (Some why) b p q in
      let t = amply-by step (Some why) (sym (fails-same step) ∙ p) in
      record {
        reply_is =
            first-is (answer l cpu slot step (x step)) (Refused why, x step) e
            ∙ sym (first-is (answer_amply l cpu slot step (z step)) (Refused why, z step) t);
        next =
            ap bare_used (second-is (answer l cpu slot step (x step)) (Refused why, x step) e) ∙ bare step
            ∙ sym (ap bare_used (second-is (answer_amply l cpu slot step (z step)) (Refused why, z step) t));
      }
  answered-by step None true p q h =
      absurd (h (first-is (answer l cpu slot step (x step)) (Refused NoPool, x step) (given-by step None true p q)))
  answered-by step None false p q h =
      let e = given-by step None false p q in
      let t = amply-by step None (sym (fails-same step) ∙ p) in
      let v = ap (λ (r : Rule). Done r.changes.value) (rule-same step) in
      record {
        reply_is =
            first-is (answer l cpu slot step (x step)) (given-for step None) e ∙ v
            ∙ sym (first-is (answer_amply l cpu slot step (z step)) (told-for step None) t);
        next =
            ap bare_used (second-is (answer l cpu slot step (x step)) (given-for step None) e) ∙ made-same step
            ∙ sym (ap bare_used (second-is (answer_amply l cpu slot step (z step)) (told-for step None) t));
      }

  pub answered : (step : Step)
      → (answer l cpu slot step (x step)).0 ≢ Refused NoPool
      → IsAnswer step (answer l cpu slot step (x step)).0 (answer l cpu slot step (x step)).1
  answered step h =
      answered-by step (rule_fails l cpu slot step (x step))
      (is_short l.depth (rule_of l cpu slot step (x step)).changes (x step)) refl refl h

  refused-by : (step : Step) (o : Option Refusal) (b : Bool)
      → rule_fails l cpu slot step (x step) ≡ o
      → is_short l.depth (rule_of l cpu slot step (x step)).changes (x step) ≡ b
      → (answer l cpu slot step (x step)).0 ≡ Refused NoPool → length fs < needed step
  refused-by step (Some why) b p q h =
      let e : Refused why ≡ Refused NoPool =
      sym (first-is (answer l cpu slot step (x step)) (Refused why, x step) (given-by step (Some why) b p q)) ∙ h in
      let w : why ≡ NoPool = cc in
      absurd (no-pool (rule_of l cpu slot step (x step)) (lacks_slot (names step) slot) (p ∙ ap Some w))
  refused-by step None true p q h = too-few step p q
  refused-by step None false p q h =
      let bad : Done (rule_of l cpu slot step (x step)).changes.value ≡ Refused NoPool =
      sym (first-is (answer l cpu slot step (x step)) (given-for step None) (given-by step None false p q)) ∙ h in
      cc

  pub refused-few : (step : Step) → (answer l cpu slot step (x step)).0 ≡ Refused NoPool → length fs < needed step
  refused-few step h =
      refused-by step (rule_fails l cpu slot step (x step))
      (is_short l.depth (rule_of l cpu slot step (x step)).changes (x step)) refl refl h

-- states

module _ (l : Layout) (fs : List ℕ) (outside : (f : ℕ) → is_memory l f ≡ true → is_free fs f ≡ false) (s : Contents)
    (rooms : Rooms) (cpu : ℕ) (step : Step) (low : IsLowSlot (guest_slot (s.cpu cpu) step)) where
  abbrev slot_at : Option ℕ
  slot_at = guest_slot (s.cpu cpu) step

  abbrev start : Reference
  start = record { contents = filled_by (asks_pool step) fs s; rooms = rooms }

  abbrev given : Reply × Used
  given = answer l cpu slot_at step (used_of (names step) slot_at cpu start.contents)

  module _ (room : is_full (names step) slot_at (rooms_of (names step) slot_at cpu rooms) ≡ false) where
    predicted-is : predict_step l start cpu step
        ≡ (
          given.0,
          record {
            contents = put_back (names step) slot_at cpu start.contents given.1;
            rooms = put_rooms (names step) slot_at cpu rooms (stored (rooms_of (names step) slot_at cpu rooms));
          },
        )
    predicted-is = predicted-answer l start cpu step slot_at refl given.0 given.1 room refl

    module _ (reply : Reply) (after : Reference)
        (is : ◌≡◌ {A = Reply × Reference} (reply, after) (predict_step l start cpu step)) where
      reply-given : reply ≡ given.0
      reply-given = ap (λ (p : Reply × Reference). p.0) (is ∙ predicted-is)

      after-given : after.contents ≡ put_back (names step) slot_at cpu start.contents given.1
      after-given = ap (λ (p : Reply × Reference). p.1.contents) (is ∙ predicted-is)

      pub told-amply : reply ≢ Refused NoPool → IsPredictedAmply l s cpu step reply after.contents
      unfolding predict_step_amply
      told-amply h =
          let a = answered l fs outside s cpu slot_at low step (λ e. h (reply-given ∙ e)) in
          let n = names step in
          record {
            reply_is = reply-given ∙ a.reply_is;
            contents_are =
                ap without_tables after-given ∙ put-bare n slot_at cpu start.contents given.1
                ∙ same2 (put_back n slot_at cpu) (filled-alike (asks_pool step) fs s) a.next
                ∙ sym
                (put-bare n slot_at cpu (asked_of step s)
                (answer_amply l cpu slot_at step (used_of n slot_at cpu (asked_of step s))).1);
          }

      pub told-few : reply ≡ Refused NoPool → length fs < most_needed l s cpu step
      told-few h = refused-few l fs outside s cpu slot_at low step (sym reply-given ∙ h)

-- as the program has it

module _ (l m : Layout) (fs : List ℕ) (outside : (f : ℕ) → is_memory l f ≡ true → is_free fs f ≡ false) (s : Contents)
    (cpu : ℕ) (step : Step) (low : IsLowSlot (guest_slot (s.cpu cpu) step)) (b : Reference) (layout : m ≡ l)
    (contents : b.contents ≡ filled_by (asks_pool step) fs s)
    (room : is_full (names step) (guest_slot (s.cpu cpu) step)
    (rooms_of (names step) (guest_slot (s.cpu cpu) step) cpu b.rooms)
    ≡ false)
    (reply : Reply) (after : Reference)
    (is : ◌≡◌ {A = Reply × Reference} (reply, after) (predict_step m b cpu step)) where
  abbrev begun : Contents → Reference
  begun c = record { contents = c; rooms = b.rooms }

  is-start : ◌≡◌ {A = Reply × Reference} (reply, after)
      (predict_step l (begun (filled_by (asks_pool step) fs s)) cpu step)
  is-start =
      is ∙ ap (λ (k : Layout). predict_step k b cpu step) layout
      ∙ ap (λ (c : Contents). predict_step l (begun c) cpu step) contents

  pub told-at : reply ≢ Refused NoPool → IsPredictedAmply l s cpu step reply after.contents
  told-at h = told-amply l fs outside s b.rooms cpu step low room reply after is-start h

  pub few-at : reply ≡ Refused NoPool → length fs < most_needed l s cpu step
  few-at h = told-few l fs outside s b.rooms cpu step low room reply after is-start h
