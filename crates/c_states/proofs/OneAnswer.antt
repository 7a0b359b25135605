-- A judgement, a prediction and the fault of a state's lists have one answer.
use Rattle.std.proofs.Common.{◌≡◌, ℕ, Bool, List, Option, Some, None, inl, inr, refl, sym, ap, subst, ◌∙◌, arith}
use Rattle.page_state.proofs.Cases.{by_lt}
use Rattle.page_state.proofs.Common.{same2}
use Rattle.page_state.specs.declared.row.Row.{Row}
use Rattle.run_list.specs.declared.run.Run.{Run as RowRun}
use Rattle.call_table.specs.declared.reply.Reply.{Reply}
use Rattle.call_table.specs.declared.step.Step.{Step}
use Rattle.ghost_spec.specs.declared.filled.GhostFault.{GhostFault}
use Rattle.ghost_spec.specs.declared.filled.GhostFault.TheVariants.{WrongCount, TooLarge, Overlap, TableTwice, FrameTwice, NoMemory as NoGhostMemory}
use Rattle.ghost_spec.specs.Filled.{AreLowRows, AreRowsApart, IsFirstRowFault}
use Rattle.ghost_judge.specs.declared.disagreement.Disagreement.{Disagreement}
use Rattle.ghost_judge.specs.Judgements.{JudgeAgrees, IsFirstJudged}
use Rattle.ghost_judge.proofs.OneAnswer.{judged_else, judged_once as difference_once}
use Rattle.c_words.specs.Said.{reply_from_c}
use Rattle.c_words.specs.Written.{reply_written}
use Rattle.c_states.specs.declared.judge.PlainCall.{PlainCall}
use Rattle.c_states.specs.declared.layout.PlainLayout.{PlainLayout}
use Rattle.c_states.specs.declared.layout.PlainRegion.{PlainRegion}
use Rattle.c_states.specs.declared.state.PlainFault.TheVariants as faults
use Rattle.c_states.specs.declared.state.PlainList.{PlainList}
use Rattle.c_states.specs.declared.state.PlainList.TheVariants as lists
use Rattle.c_states.specs.Clashes.{do_frames_clash, do_runs_clash, do_tables_clash, have_one_cpu, have_one_guest, have_one_slot, IsFirstClash}
use Rattle.c_states.specs.Faults.{first_unknown_of, IsCulprit, IsFirstOfLists, IsTwice}
use Rattle.c_states.specs.Judged.{prediction_from_c, IsJudged}
use Rattle.c_states.specs.Laws.{PredictedOnce, PredictedStateOnce, JudgedOnce, PlainFaultOnce}
use Rattle.c_states.specs.States.{Lists, contents_from_c}
use Rattle.c_states.specs.Told.{in_pool_order}
use Rattle.c_states.proofs.NoRefusal.{one_step, twice_else, unknown_else}

-- predictions

pub foretold_once : PredictedOnce
foretold_once l regions before cpu step r s f g =
    f.reply_is
    ∙ (ap (λ x. reply_written (prediction_from_c l regions before cpu x).0)
    (one_step step f.step g.step f.can.step_is g.can.step_is)
    ∙ sym g.reply_is)

pub state_once : PredictedStateOnce
state_once l regions before cpu step r s a b f g =
    let same = one_step step f.step g.step f.can.step_is g.can.step_is in (
      f.reply_is ∙ (ap (λ x. reply_written (prediction_from_c l regions before cpu x).0) same ∙ sym g.reply_is),
      f.after_is
          ∙ (ap (λ x. in_pool_order (prediction_from_c l regions before cpu x).1.contents) same ∙ sym g.after_is),
    )

-- judgements

one_reply : (o : Option Reply) (a b : Reply) → o ≡ Some a → o ≡ Some b → a ≡ b
one_reply o a b h k = let same = sym h ∙ k in cc

abbrev AgreesOf : PlainLayout → List PlainRegion → Lists → PlainCall → Lists → Step → Reply → Type 0
AgreesOf l regions before call after step reply =
    JudgeAgrees (contents_from_c before) step reply (contents_from_c after)
    (prediction_from_c l regions before call.cpu step)

abbrev IsFirstOf : PlainLayout → List PlainRegion → Lists → PlainCall → Lists → Step → Reply → Disagreement → Type 0
IsFirstOf l regions before call after step reply d =
    IsFirstJudged (contents_from_c before) step reply (contents_from_c after)
    (prediction_from_c l regions before call.cpu step) d

same_call : (l : PlainLayout) (regions : List PlainRegion) (before : Lists) (call : PlainCall) (after : Lists)
    (f g : Option Disagreement) (x : IsJudged l regions before call after f)
    (y : IsJudged l regions before call after g)
    → (x.step ≡ y.step) × (x.reply ≡ y.reply)
same_call l regions before call after f g x y = (
  one_step call.step x.step y.step x.can.step_is y.can.step_is,
  one_reply (reply_from_c call.reply) x.reply y.reply x.reply_is y.reply_is,
)

pub judged_once : JudgedOnce
judged_once l regions before call after None None x y = refl
judged_once l regions before call after None (Some e) x y =
    let same = same_call l regions before call after None (Some e) x y in
    absurd
    (judged_else (contents_from_c before) y.step y.reply (contents_from_c after)
    (prediction_from_c l regions before call.cpu y.step) e
    (subst (λ r. AgreesOf l regions before call after y.step r) same.1
    (subst (λ s. AgreesOf l regions before call after s x.reply) same.0 (x.none.0 refl))) y.first)
judged_once l regions before call after (Some d) None x y =
    let same = same_call l regions before call after (Some d) None x y in
    absurd
    (judged_else (contents_from_c before) x.step x.reply (contents_from_c after)
    (prediction_from_c l regions before call.cpu x.step) d
    (subst (λ r. AgreesOf l regions before call after x.step r) (sym same.1)
    (subst (λ s. AgreesOf l regions before call after s y.reply) (sym same.0) (y.none.0 refl))) x.first)
judged_once l regions before call after (Some d) (Some e) x y =
    let same = same_call l regions before call after (Some d) (Some e) x y in
    ap Some
    (difference_once (contents_from_c before) y.step y.reply (contents_from_c after)
    (prediction_from_c l regions before call.cpu y.step) d e
    (subst (λ r. IsFirstOf l regions before call after y.step r d) same.1
    (subst (λ s. IsFirstOf l regions before call after s x.reply d) same.0 x.first)) y.first)

-- faults of lists

clash_once : {X : Type 0} (clash : X → X → Bool) (xs : List X) (i j : ℕ)
    → IsFirstClash clash xs i
    → IsFirstClash clash xs j
    → i ≡ j
clash_once clash xs i j a b =
    by_lt i j (λ l. absurd (b.before i l a.clashes))
    (λ l. by_lt j i (λ k. absurd (a.before j k b.clashes)) (λ k. omega (arith, l, k)))

twice_once : (p : Lists) (list other : PlainList) (i j : ℕ)
    → IsTwice p list i
    → IsTwice p other j
    → faults.Twice list i ≡ faults.Twice other j
twice_once p lists.Slots lists.Slots i j h k = ap (faults.Twice lists.Slots) (clash_once have_one_slot p.slots i j h k)
twice_once p lists.Slots lists.Guests i j h k = absurd (k.0 i h.clashes)
twice_once p lists.Slots lists.Cpus i j h k = absurd (k.0 i h.clashes)
twice_once p lists.Slots other i j h k = absurd k
twice_once p lists.Guests lists.Slots i j h k = absurd (h.0 j k.clashes)
twice_once p lists.Guests lists.Guests i j h k =
    ap (faults.Twice lists.Guests) (clash_once have_one_guest p.guests i j h.1 k.1)
twice_once p lists.Guests lists.Cpus i j h k = absurd (k.1 i h.1.clashes)
twice_once p lists.Guests other i j h k = absurd k
twice_once p lists.Cpus lists.Slots i j h k = absurd (h.0 j k.clashes)
twice_once p lists.Cpus lists.Guests i j h k = absurd (h.1 j k.1.clashes)
twice_once p lists.Cpus lists.Cpus i j h k = ap (faults.Twice lists.Cpus) (clash_once have_one_cpu p.cpus i j h.2 k.2)
twice_once p lists.Cpus other i j h k = absurd k
twice_once p list other i j h k = absurd h

row_once : (rows : List (RowRun Row)) (f g : GhostFault) → IsFirstRowFault f rows → IsFirstRowFault g rows → f ≡ g
row_once rows TooLarge TooLarge h k = refl
row_once rows TooLarge Overlap h k = absurd (h k.0)
row_once rows TooLarge g h k = absurd k
row_once rows Overlap TooLarge h k = absurd (k h.0)
row_once rows Overlap Overlap h k = refl
row_once rows Overlap g h k = absurd k
row_once rows f g h k = absurd h

row_else : (p : Lists) (rows : List (RowRun Row)) (f : GhostFault)
    → AreLowRows rows × AreRowsApart rows
    → IsFirstRowFault f rows
    → ⊥
row_else p rows TooLarge t h = h t.0
row_else p rows Overlap t h = h.1 t.1
row_else p rows f t h = h

lists_once : (cpus : ℕ) (p : Lists) (f g : GhostFault) → IsFirstOfLists cpus p f → IsFirstOfLists cpus p g → f ≡ g
lists_once cpus p TooLarge TooLarge h k = refl
lists_once cpus p TooLarge Overlap h k = absurd (h k.0)
lists_once cpus p TooLarge TableTwice h k = absurd (h k.0)
lists_once cpus p TooLarge FrameTwice h k = absurd (h k.0)
lists_once cpus p TooLarge g h k = absurd k
lists_once cpus p Overlap TooLarge h k = absurd (k h.0)
lists_once cpus p Overlap Overlap h k = refl
lists_once cpus p Overlap TableTwice h k = absurd (h.1 k.1)
lists_once cpus p Overlap FrameTwice h k = absurd (h.1 k.1)
lists_once cpus p Overlap g h k = absurd k
lists_once cpus p TableTwice TooLarge h k = absurd (k h.0)
lists_once cpus p TableTwice Overlap h k = absurd (k.1 h.1)
lists_once cpus p TableTwice TableTwice h k = refl
lists_once cpus p TableTwice FrameTwice h k = absurd (h.2 k.2)
lists_once cpus p TableTwice g h k = absurd k
lists_once cpus p FrameTwice TooLarge h k = absurd (k h.0)
lists_once cpus p FrameTwice Overlap h k = absurd (k.1 h.1)
lists_once cpus p FrameTwice TableTwice h k = absurd (k.2 h.2)
lists_once cpus p FrameTwice FrameTwice h k = refl
lists_once cpus p FrameTwice g h k = absurd k
lists_once cpus p f g h k = absurd h

-- the member that is told is one
member_once : {X : Type 0} (clash : X → X → Bool) (xs : List X) (list : PlainList) (a b : PlainList × ℕ)
    → (a.0 ≡ list) × IsFirstClash clash xs a.1
    → (b.0 ≡ list) × IsFirstClash clash xs b.1
    → Some a ≡ Some b
member_once clash xs list a b h k =
    ap Some (same2 (λ (l : PlainList) (n : ℕ). (l, n)) (h.0 ∙ sym k.0) (clash_once clash xs a.1 b.1 h.1 k.1))

culprit_once : (p : Lists) (f : GhostFault) (c d : Option (PlainList × ℕ)) → IsCulprit p f c → IsCulprit p f d → c ≡ d
culprit_once p TooLarge None None h k = refl
culprit_once p TooLarge None (Some b) h k = absurd k
culprit_once p TooLarge (Some a) d h k = absurd h
culprit_once p Overlap (Some a) (Some b) h k = member_once do_runs_clash p.runs lists.Runs a b h k
culprit_once p Overlap (Some a) None h k = absurd k
culprit_once p Overlap None d h k = absurd h
culprit_once p TableTwice (Some a) (Some b) h k = member_once do_tables_clash p.tables lists.Tables a b h k
culprit_once p TableTwice (Some a) None h k = absurd k
culprit_once p TableTwice None d h k = absurd h
culprit_once p FrameTwice (Some a) (Some b) h k = member_once do_frames_clash p.frames lists.Frames a b h k
culprit_once p FrameTwice (Some a) None h k = absurd k
culprit_once p FrameTwice None d h k = absurd h
culprit_once p WrongCount None d h k = absurd h
culprit_once p WrongCount (Some a) d h k = absurd h
culprit_once p NoGhostMemory None d h k = absurd h
culprit_once p NoGhostMemory (Some a) d h k = absurd h

one_unknown : (o : Option (PlainList × ℕ)) (a b : PlainList × ℕ) → o ≡ Some a → o ≡ Some b → a ≡ b
one_unknown o a b h k = let same = sym h ∙ k in cc

pub fault_once : PlainFaultOnce
fault_once cpus p faults.NoMemory g h k = inl refl
fault_once cpus p (faults.Unknown list i) faults.NoMemory h k = inr (inl refl)
fault_once cpus p (faults.Unknown list i) (faults.Unknown other j) h k =
    let same = one_unknown (first_unknown_of cpus p) (list, i) (other, j) h k in
    inr (inr (ap (λ (t : PlainList × ℕ). faults.Unknown t.0 t.1) same))
fault_once cpus p (faults.Unknown list i) (faults.Rows g) h k =
    absurd (unknown_else (first_unknown_of cpus p) (list, i) k.0 h)
fault_once cpus p (faults.Unknown list i) (faults.Twice other j) h k =
    absurd (unknown_else (first_unknown_of cpus p) (list, i) k.0 h)
fault_once cpus p (faults.Unknown list i) (faults.Lists g d) h k =
    absurd (unknown_else (first_unknown_of cpus p) (list, i) k.0.known h)
fault_once cpus p (faults.Rows f) faults.NoMemory h k = inr (inl refl)
fault_once cpus p (faults.Rows f) (faults.Unknown other j) h k =
    absurd (unknown_else (first_unknown_of cpus p) (other, j) h.0 k)
fault_once cpus p (faults.Rows f) (faults.Rows g) h k = inr (inr (ap faults.Rows (row_once _ f g h.1 k.1)))
fault_once cpus p (faults.Rows f) (faults.Twice other j) h k = absurd (row_else p _ f k.1 h.1)
fault_once cpus p (faults.Rows f) (faults.Lists g d) h k = absurd (row_else p _ f k.0.rows h.1)
fault_once cpus p (faults.Twice list i) faults.NoMemory h k = inr (inl refl)
fault_once cpus p (faults.Twice list i) (faults.Unknown other j) h k =
    absurd (unknown_else (first_unknown_of cpus p) (other, j) h.0 k)
fault_once cpus p (faults.Twice list i) (faults.Rows g) h k = absurd (row_else p _ g h.1 k.1)
fault_once cpus p (faults.Twice list i) (faults.Twice other j) h k = inr (inr (twice_once p list other i j h.2 k.2))
fault_once cpus p (faults.Twice list i) (faults.Lists g d) h k = absurd (twice_else p list i k.0.once h.2)
fault_once cpus p (faults.Lists f c) faults.NoMemory h k = inr (inl refl)
fault_once cpus p (faults.Lists f c) (faults.Unknown other j) h k =
    absurd (unknown_else (first_unknown_of cpus p) (other, j) h.0.known k)
fault_once cpus p (faults.Lists f c) (faults.Rows g) h k = absurd (row_else p _ g h.0.rows k.1)
fault_once cpus p (faults.Lists f c) (faults.Twice other j) h k = absurd (twice_else p other j h.0.once k.2)
fault_once cpus p (faults.Lists f c) (faults.Lists g d) h k =
    let same = lists_once cpus p f g h.1 k.1 in
    inr
    (inr
    (same2 (λ (x : GhostFault) (y : Option (PlainList × ℕ)). faults.Lists x y) same
    (culprit_once p g c d (subst (λ x. IsCulprit p x c) same h.2) k.2)))
