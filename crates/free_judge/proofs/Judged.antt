-- What a judgement up to the freedoms says, by what is seen; and of legal states and of steps of the model.
use Rattle.std.proofs.Common.{◌≡◌, ℕ, refl, ap, sym, ◌∙◌, subst, inl, inr}
use Rattle.std.specs.Prelude.{◌↔◌, Bool, true, false, Option, None, IfSome}
use Rattle.call_table.specs.declared.reply.Reply.{Reply}
use Rattle.call_table.specs.declared.step.Step.{Step}
use Rattle.call_table.specs.declared.step.Step.TheVariants.{HostAbort, HostTranslate, HypTranslate, OwnerOf, GuestTranslate}
use Rattle.page_state.specs.EntryTests.{is_unmapped}
use Rattle.page_state.specs.Layouts.{Layout}
use Rattle.reference_model.specs.help.Conditions.{IsUsable}
use Rattle.reference_model.specs.model.State.{Contents}
use Rattle.freedoms.specs.declared.Freedoms.{Freedoms}
use Rattle.freedoms.specs.Ample.{asks_pool, predict_step_amply}
use Rattle.freedoms.specs.AnyTrees.{LegalInAnyTrees}
use Rattle.freedoms.specs.Freedoms.{Alike, JudgedWith, Touches, is_read, reads_host, view}
use Rattle.freedoms.specs.OwnTables.{OwnTables, without_tables}
use Rattle.freedoms.proofs.Aborts.{abort_in_view}
use Rattle.freedoms.proofs.Judged.{ample_steps, any-trees, steps_judged}
use Rattle.freedoms.proofs.More.{judged_in_view, more_lets_through, viewed}
use Rattle.freedoms.proofs.OtherAborts.{abort_of_any_kind}
use Rattle.freedoms.proofs.Seen.{reads_seen, seen_by_predicted}
use Rattle.ghost_judge.specs.declared.disagreement.Disagreement.{Disagreement}
use Rattle.free_judge.specs.Freely.{stepped_from, AgreesBy, AgreesFreely, IsFirstBy, IsJudgedFreely}
use Rattle.free_judge.specs.Laws.{FoundWhere, HasLowMemory, NoFalseAlarm}
use Rattle.free_judge.proofs.Aborted.{steps-touch}
use Rattle.free_judge.proofs.PoolReclaims.{pools_judged}
use Rattle.free_judge.proofs.Ready.{from-seen}

-- by what is seen

module _ (w : Freedoms) (l : Layout) (before : Contents) (step : Step) (reply : Reply) (after : Contents)
    (told : Reply) (made b a v : Contents) (t : Reply × Contents) (is : told ≡ t.0) (same : OwnTables made t.1)
    (eb : b ≡ view w l before) (ea : a ≡ view w l after) (ev : v ≡ view w l made) where
  wanted-is : v ≡ view w l t.1
  wanted-is = ev ∙ viewed w l made t.1 same

  Seen : Reply → Contents → Contents → Contents → Type 0
  Seen r x y z = AgreesBy w step reply r x y z after

  at-views : Seen told b a v → Seen t.0 (view w l before) (view w l after) (view w l t.1)
  unfolding Seen
  at-views h =
      subst (λ r. Seen r (view w l before) (view w l after) (view w l t.1)) is
      (subst (λ x. Seen told x (view w l after) (view w l t.1)) eb
      (subst (λ y. Seen told b y (view w l t.1)) ea (subst (λ z. Seen told b a z) wanted-is h)))

  from-views : Seen t.0 (view w l before) (view w l after) (view w l t.1) → Seen told b a v
  unfolding Seen
  from-views h =
      subst (λ z. Seen told b a z) (sym wanted-is)
      (subst (λ y. Seen told b y (view w l t.1)) (sym ea)
      (subst (λ x. Seen told x (view w l after) (view w l t.1)) (sym eb)
      (subst (λ r. Seen r (view w l before) (view w l after) (view w l t.1)) (sym is) h)))

  to : Seen t.0 (view w l before) (view w l after) (view w l t.1) → AgreesFreely w l before step reply after t
  unfolding Seen
  to h = record {
    agrees = elim (h.agrees) [
      | inl p ↦ inl (record { says = p.0; contents_are = sym p.1 })
      | inr p ↦ inr (record { wants = p.0; contents_are = sym p.1 })
    ];
    mapped = h.mapped;
  }

  from : AgreesFreely w l before step reply after t → Seen t.0 (view w l before) (view w l after) (view w l t.1)
  unfolding Seen
  from h = record {
    agrees = elim (h.agrees) [
      | inl p ↦ inl (p.says, sym p.contents_are)
      | inr p ↦ inr (p.wants, sym p.contents_are)
    ];
    mapped = h.mapped;
  }

  pub agrees-by : AgreesBy w step reply told b a v after ↔ AgreesFreely w l before step reply after t
  unfolding Seen
  agrees-by = (λ h. to (at-views h), λ h. from-views (from h))

  pub first-by : (found : Option Disagreement)
      → IfSome found (IsFirstBy w step reply told b a v after)
      → IfSome found (IsFirstBy w step reply t.0 (view w l before) (view w l after) (view w l t.1) after)
  first-by found h =
      subst (λ r. IfSome found (IsFirstBy w step reply r (view w l before) (view w l after) (view w l t.1) after)) is
      (subst (λ x. IfSome found (IsFirstBy w step reply told x (view w l after) (view w l t.1) after)) eb
      (subst (λ y. IfSome found (IsFirstBy w step reply told b y (view w l t.1) after)) ea
      (subst (λ z. IfSome found (IsFirstBy w step reply told b a z after)) wanted-is h)))

-- by laws

pub both-ways : {A B C : Type 0} → A ↔ B → B ↔ C → A ↔ C
both-ways p q = (λ a. q.0 (p.0 a), λ c. p.1 (q.1 c))

module _ (w : Freedoms) (l : Layout) (before legal : Contents) (cpu : ℕ) (reply : Reply) (after : Contents)
    (usable : IsUsable l) (begins : Alike w l before legal) (is : LegalInAnyTrees l legal) where
  no-abort : (step : Step) → reads_host step ≡ false → Touches step reply after
  no-abort step reads p e done = let bad : false ≡ true = sym reads ∙ ap reads_host e in cc

  no-touch : (step : Step) → is_read step ≡ true → Touches step reply after
  no-touch step reads p e done = let bad : true ≡ false = sym reads ∙ ap is_read e in cc

  by-read : (step : Step)
      → is_read step ≡ true
      → OwnTables before legal
      → AgreesFreely w l before step reply after (predict_step_amply l (without_tables before) cpu step)
      ↔ JudgedWith w l before cpu step reply after
  by-read step read own =
      let law = reads_seen w l before legal cpu step reply after own is read in
      (λ h. law.1 h.agrees, λ j. record { agrees = law.0 j; mapped = λ lazy. no-touch step read })

  by-view : (step : Step)
      → asks_pool step ≡ false
      → reads_host step ≡ false
      → is_read step ≡ false
      → AgreesFreely w l before step reply after (predict_step_amply l (view w l before) cpu step)
      ↔ JudgedWith w l before cpu step reply after
  by-view step asks reads read =
      let law = judged_in_view w l before legal cpu step reply after begins is asks reads read in
      let told = seen_by_predicted w l before cpu step reply after in
      (λ h. law.1 (told.1 h.agrees), λ j. record { agrees = told.0 (law.0 j); mapped = λ lazy. no-abort step reads })

  by-abort : (p : ℕ) (b : Bool)
      → w.lazy_host ≡ b
      → AgreesFreely w l before (HostAbort p) reply after (predict_step_amply l (view w l before) cpu (HostAbort p))
      ↔ JudgedWith w l before cpu (HostAbort p) reply after
  by-abort p true lazy =
      let law = abort_in_view w l before legal cpu p reply after lazy usable begins is in
      let told = seen_by_predicted w l before cpu (HostAbort p) reply after in (
        λ h. law.1 (told.1 h.agrees, h.mapped lazy),
        λ j. let k = law.0 j in
            record { agrees = told.0 k.0; mapped = λ z. k.1 },
      )
  by-abort p false lazy =
      let law = abort_of_any_kind w l before legal cpu p reply after lazy begins is in
      let told = seen_by_predicted w l before cpu (HostAbort p) reply after in (
        λ h. law.1 (told.1 h.agrees),
        λ j. record { agrees = told.0 (law.0 j); mapped = λ z. let bad : false ≡ true = sym lazy ∙ z in cc },
      )

  each : (step : Step)
      → (is_read step ≡ true → OwnTables before legal)
      → asks_pool step ≡ false
      → AgreesFreely w l before step reply after (predict_step_amply l (stepped_from w l before step) cpu step)
      ↔ JudgedWith w l before cpu step reply after
  each (HostTranslate p) own asks = by-read (HostTranslate p) refl (own refl)
  each (HypTranslate p) own asks = by-read (HypTranslate p) refl (own refl)
  each (OwnerOf f) own asks = by-read (OwnerOf f) refl (own refl)
  each (GuestTranslate vm g) own asks = by-read (GuestTranslate vm g) refl (own refl)
  each (HostAbort p) own asks = by-abort p w.lazy_host refl
  each step own asks = by-view step asks refl refl

module _ (w : Freedoms) (l : Layout) (before legal : Contents) (cpu : ℕ) (step : Step) (reply : Reply)
    (after : Contents)
    (found : Option Disagreement) (usable : IsUsable l) (low : asks_pool step ≡ true → HasLowMemory l)
    (begins : Alike w l before legal) (own : is_read step ≡ true → OwnTables before legal)
    (is : LegalInAnyTrees l legal) (j : IsJudgedFreely w l before cpu step reply after found) where
  by-asked : (b : Bool) → asks_pool step ≡ b → (found ≡ None) ↔ JudgedWith w l before cpu step reply after
  by-asked true asks =
      both-ways j.none
      (pools_judged w l before legal cpu reply after j.ready usable (low asks) begins is step asks j.from)
  by-asked false asks =
      let ready : j.ready ≡ stepped_from w l before step =
      subst (λ (X : Type 0). X)
      (from-seen w l (stepped_from w l before step) (before.cpu cpu) step reply j.ready asks) j.from in
      both-ways
      (subst
      (λ (s : Contents). (found ≡ None)
      ↔ AgreesFreely w l before step reply after (predict_step_amply l s cpu step)) ready j.none)
      (each w l before legal cpu reply after usable begins is step own asks)

pub found_where : FoundWhere
found_where w l before legal cpu step reply after found usable low begins own is j =
    by-asked w l before legal cpu step reply after found usable low begins own is j (asks_pool step) refl

pub no_false_alarm : NoFalseAlarm
no_false_alarm w l s t c before after found usable low legal steps stored begins ends j =
    let own = steps_judged l s t c before after legal steps stored begins ends in
    let amply = ample_steps l s t c steps stored in
    let touch = steps-touch l s.contents t.contents c.cpu c.step c.reply amply in
    let here : Touches c.step c.reply after =
    λ p e done. ap (λ (u : Contents). is_unmapped (u.shared.host.map p)) (sym ends) ∙ touch p e done in
    (found_where w l before s.contents c.cpu c.step c.reply after found usable low (viewed w l before s.contents begins)
    (λ r. begins) (any-trees l s.contents legal) j).1
    (more_lets_through w l before c.cpu c.step c.reply after here own)
