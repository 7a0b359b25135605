-- The model's state goes along the calls of a history.
use Rattle.std.proofs.Common.{◌≡◌, ◌≢◌, ℕ, zero, suc, filter, ◌+◌, ◌-◌, ◌≤◌, refl, sym, ap, subst, ◌∙◌, arith, inl, inr, ◌<◌, List, [], ◌∷◌, ◌++◌, All, drop, get_or, length}
use Rattle.std.proofs.lemmas.List.{append_assoc, append-nil, drop_all, drop_more}
use Rattle.std.proofs.lemmas.List.Elements.{All-head, All-tail}
use Rattle.std.proofs.Math.Logic.{∥∥₁_elim}
use Rattle.std.proofs.Props.{props}
use Rattle.std.proofs.lemmas.Bool.{cases_lt}
use Rattle.std.specs.Prelude.{Vec, Bool, true, false, ◌&&◌, ◌||◌, ◌==◌, ◌⊎◌, is_some, Option, Some, None, if◌then◌else◌}
use Rattle.page_state.specs.Layouts.{Layout}
use Rattle.call_table.specs.declared.reply.Call.{Call}
use Rattle.call_table.specs.declared.reply.Refusal.TheVariants.{LogFull, NoMemory}
use Rattle.call_table.specs.declared.reply.Reply.{Reply}
use Rattle.call_table.specs.declared.reply.Reply.TheVariants.{Done, Refused}
use Rattle.call_table.specs.declared.step.Step.{Step}
use Rattle.reference_model.specs.model.History.{IsStored}
use Rattle.reference_model.specs.model.Boot.{boot}
use Rattle.reference_model.specs.model.Run.{Runs}
use Rattle.reference_model.specs.model.Parts.{Names, uses_shared, uses_vms}
use Rattle.reference_model.specs.model.Used.{Used, put_back, put_room, put_rooms, room_at, rooms_of, used_of}
use Rattle.reference_model.specs.model.State.{Contents, Reference, Rooms, put_at}
use Rattle.reference_model.specs.model.Step.{Steps, answer, predict_step, is_full, predict, stored, rooms_by}
use Rattle.reference_model.proofs.Steps.{refusal_keeps}
use Rattle.ghost_judge.specs.Judgements.{JudgeAgrees, is_done}
use Rattle.reference_model.specs.model.Rules.{may_grow, names, guest_slot}
use Rattle.call_table.specs.declared.reply.Refusal.TheVariants as refusals
use Rattle.ghost_judge.proofs.JudgedSteps.{step_agrees}
use Rattle.ghost_judge.specs.declared.disagreement.Disagreement.{Disagreement}
use Rattle.page_state.proofs.Common.{eq-same}
use Rattle.hypercalls.specs.declared.parts.Parts.{Parts}
use Rattle.hypercalls.specs.Stands.{HasHistory, kept_of, parts_layout}
use Rattle.world.specs.declared.merge.Histories.{Histories}
use Rattle.world.specs.Merges.{AreLogsOf, IsMerged, IsOfHistory, ReportsMerged, log_at}
use Rattle.world.proofs.MergedLists.{merged_history}
use Rattle.trace_race.specs.Judged.{ComparesAll, IsLegalReport, Judges, JudgesAll, told_of, with_found}

-- no log has less room
pub record HaveRoom (rooms more : Rooms) : Type 0 where
  pub vms : rooms.vms ≤ more.vms
  pub shared : rooms.shared ≤ more.shared
  pub guest : (v : ℕ) → rooms.guest v ≤ more.guest v
  pub cpu : (c : ℕ) → rooms.cpu c ≤ more.cpu c

-- the state has the contents of that after a history, and as much room in its logs: a call that wanted memory isn't
-- stored in it
pub record IsLikeAfter (s g : Reference) : Type 0 where
  pub contents : g.contents ≡ s.contents
  pub rooms : HaveRoom s.rooms g.rooms

-- at a stored call of a history no reply differs, and the state goes on to that after the call
abbrev GoesWith : Layout → Reference → ℕ → Step → Reply → Option Disagreement → Reference → Type 0
GoesWith l g cpu step reply found h =
    (s t : Reference) (c : Call)
    → Steps l s c t
    → IsStored c.reply
    → c.cpu ≡ cpu
    → c.step ≡ step
    → c.reply ≡ reply
    → IsLikeAfter s g
    → (found ≡ None) × IsLikeAfter t h

-- a stored call found room in all its logs
not_full : (l : Layout) (s t : Reference) (c : Call)
    → Steps l s c t
    → IsStored c.reply
    → (is_full (names c.step) c.slot (rooms_by c s) ≡ false)
    × (t.rooms ≡ put_rooms (names c.step) c.slot c.cpu s.rooms (stored (rooms_by c s)))
not_full l s t c h kept = elim h.on.answers [
  | inl p ↦ absurd (let bad : ⊥ = subst IsStored p.reply kept in bad)
  | inr p ↦
      (p.room, ap (λ (u : Reference). u.rooms) h.next ∙ ap (put_rooms (names c.step) c.slot c.cpu s.rooms) p.rooms)
]

-- a number that isn't 0 where a smaller one isn't
bigger : (m n : ℕ) → m ≤ n → (m == 0) ≡ false → (n == 0) ≡ false
bigger m n less h = grind (arith)

both_false : (a b : Bool) → (a || b) ≡ false → (a ≡ false) × (b ≡ false)
both_false false false h = (refl, refl)
both_false true b h = absurd (let no = h in cc)
both_false false true h = absurd (let no = h in cc)

where_used : (b : Bool) (m n : ℕ)
    → m ≤ n
    → (b && (if b then m else 0) == 0) ≡ false
    → (b && (if b then n else 0) == 0) ≡ false
where_used true m n less h = bigger m n less h
where_used false m n less h = refl

of_slot : (slot : Option ℕ) (r q : ℕ → ℕ)
    → ((v : ℕ) → r v ≤ q v)
    → (is_some slot && room_at r slot == 0) ≡ false
    → (is_some slot && room_at q slot == 0) ≡ false
of_slot None r q less h = refl
of_slot (Some v) r q less h = bigger (r v) (q v) (less v) h

all_false : (a b c d : Bool) → a ≡ false → b ≡ false → c ≡ false → d ≡ false → (a || b || c || d) ≡ false
all_false a b c d ha hb hc hd = rw (ha, hb, hc, hd) refl

-- more room is no less
still_room : (n : Names) (slot : Option ℕ) (cpu : ℕ) (r q : Rooms)
    → HaveRoom r q
    → is_full n slot (rooms_of n slot cpu r) ≡ false
    → is_full n slot (rooms_of n slot cpu q) ≡ false
unfolding is_full rooms_of
still_room n slot cpu r q more h =
    let vm = uses_vms n && (if uses_vms n then r.vms else 0) == 0 in
    let sh = uses_shared n slot && (if uses_shared n slot then r.shared else 0) == 0 in
    let gu = is_some slot && room_at r.guest slot == 0 in
    let a = both_false (r.cpu cpu == 0 || vm || sh) gu h in
    let b = both_false (r.cpu cpu == 0 || vm) sh a.0 in
    let d = both_false (r.cpu cpu == 0) vm b.0 in
    all_false _ _ _ _ (bigger (r.cpu cpu) (q.cpu cpu) (more.cpu cpu) d.0)
    (where_used (uses_vms n) r.vms q.vms more.vms d.1)
    (where_used (uses_shared n slot) r.shared q.shared more.shared b.1)
    (of_slot slot r.guest q.guest more.guest a.1)

-- and both are one less once a call is stored
less_where : (b : Bool) (m n : ℕ)
    → m ≤ n
    → (if b then (if b then m else 0) - 1 else m) ≤ (if b then (if b then n else 0) - 1 else n)
less_where true m n less = omega (arith, less)
less_where false m n less = less

less_at : (r q : ℕ → ℕ) (at v m n : ℕ) → ((v : ℕ) → r v ≤ q v) → m ≤ n → put_at r at m v ≤ put_at q at n v
less_at r q at v m n less here = by_place (v == at)
  where
    by_place : (b : Bool) → (if b then m else r v) ≤ (if b then n else q v)
    by_place true = here
    by_place false = less v

less_in_slot : (slot : Option ℕ) (r q : ℕ → ℕ) (v : ℕ)
    → ((v : ℕ) → r v ≤ q v)
    → put_room r slot (room_at r slot - 1) v ≤ put_room q slot (room_at q slot - 1) v
less_in_slot None r q v less = less v
less_in_slot (Some u) r q v less = less_at r q u v (r u - 1) (q u - 1) less (omega (arith, less u))

stored_room : (n : Names) (slot : Option ℕ) (cpu : ℕ) (r q : Rooms)
    → HaveRoom r q
    → HaveRoom (put_rooms n slot cpu r (stored (rooms_of n slot cpu r)))
    (put_rooms n slot cpu q (stored (rooms_of n slot cpu q)))
unfolding stored rooms_of put_rooms
stored_room n slot cpu r q more = record {
  vms = less_where (uses_vms n) r.vms q.vms more.vms;
  shared = less_where (uses_shared n slot) r.shared q.shared more.shared;
  guest = λ v. less_in_slot slot r.guest q.guest v more.guest;
  cpu = λ c. less_at r.cpu q.cpu cpu c (r.cpu cpu - 1) (q.cpu cpu - 1) more.cpu (omega (arith, more.cpu cpu));
}

-- a log that stores a call has no more room than before
kept_where : (b : Bool) (m n : ℕ) → m ≤ n → (if b then (if b then m else 0) - 1 else m) ≤ n
kept_where true m n less = omega (arith, less)
kept_where false m n less = less

kept_at : (r q : ℕ → ℕ) (at v m : ℕ)
    → ((v : ℕ) → r v ≤ q v)
    → m ≤ q at
    → (v == at ≡ true → v ≡ at)
    → put_at r at m v ≤ q v
kept_at r q at v m less here same = by_place (v == at) refl
  where
    by_place : (b : Bool) → (v == at) ≡ b → (if b then m else r v) ≤ q v
    by_place true e = subst (λ (u : ℕ). m ≤ q u) (sym (same e)) here
    by_place false e = less v

less_slot : (slot : Option ℕ) (r q : ℕ → ℕ) (v : ℕ)
    → ((v : ℕ) → r v ≤ q v)
    → put_room r slot (room_at r slot - 1) v ≤ q v
less_slot None r q v less = less v
less_slot (Some u) r q v less = kept_at r q u v (r u - 1) less (omega (arith, less u)) (eq-same v u)

kept_room : (n : Names) (slot : Option ℕ) (cpu : ℕ) (r q : Rooms)
    → HaveRoom r q
    → HaveRoom (put_rooms n slot cpu r (stored (rooms_of n slot cpu r))) q
unfolding stored rooms_of put_rooms
kept_room n slot cpu r q more = record {
  vms = kept_where (uses_vms n) r.vms q.vms more.vms;
  shared = kept_where (uses_shared n slot) r.shared q.shared more.shared;
  guest = λ v. less_slot slot r.guest q.guest v more.guest;
  cpu = λ c. kept_at r.cpu q.cpu cpu c (r.cpu cpu - 1) more.cpu (omega (arith, more.cpu cpu)) (eq-same c cpu);
}

-- what a step is answered, and the contents after it, where its logs have room
abbrev slot_in : ℕ → Step → Contents → Option ℕ
slot_in cpu step x = guest_slot (x.cpu cpu) step

abbrev answered : Layout → ℕ → Step → Contents → Reply × Used
answered l cpu step x = answer l cpu (slot_in cpu step x) step (used_of (names step) (slot_in cpu step x) cpu x)

abbrev contents_after : Layout → ℕ → Step → Contents → Contents
contents_after l cpu step x = put_back (names step) (slot_in cpu step x) cpu x (answered l cpu step x).1

abbrev rooms_after : ℕ → Step → Reference → Rooms
rooms_after cpu step s =
    put_rooms (names step) (slot_in cpu step s.contents) cpu s.rooms
    (stored (rooms_of (names step) (slot_in cpu step s.contents) cpu s.rooms))

predicted : (l : Layout) (s : Reference) (cpu : ℕ) (step : Step)
    → is_full (names step) (slot_in cpu step s.contents)
    (rooms_of (names step) (slot_in cpu step s.contents) cpu s.rooms)
    ≡ false
    → predict_step l s cpu step
    ≡ (
      (answered l cpu step s.contents).0,
      record { contents = contents_after l cpu step s.contents; rooms = rooms_after cpu step s },
    )
unfolding predict predict_step
predicted l s cpu step h = rw h refl

own_cpu : (l : Layout) (s t : Reference) (c : Call) → Steps l s c t → c.slot ≡ slot_in c.cpu c.step s.contents
unfolding used_of
own_cpu l s t c h = h.on.slot

-- all that a stored call tells of a state like the one before it
record Like (l : Layout) (s t g : Reference) (c : Call) : Type 0 where
  reply_is : (predict_step l g c.cpu c.step).0 ≡ (predict_step l s c.cpu c.step).0
  contents_are : (predict_step l g c.cpu c.step).1.contents ≡ (predict_step l s c.cpu c.step).1.contents
  stored_rooms : HaveRoom t.rooms (predict_step l g c.cpu c.step).1.rooms
  kept_rooms : HaveRoom t.rooms g.rooms

all_like : (l : Layout) (s t g : Reference) (c : Call)
    → Steps l s c t
    → IsStored c.reply
    → IsLikeAfter s g
    → Like l s t g c
all_like l s t g c h kept same =
    let n = names c.step in
    let here = not_full l s t c h kept in
    let slot = own_cpu l s t c h in
    let also : slot_in c.cpu c.step g.contents ≡ slot_in c.cpu c.step s.contents =
    ap (slot_in c.cpu c.step) same.contents in
    let room_s : is_full n (slot_in c.cpu c.step s.contents) (rooms_of n (slot_in c.cpu c.step s.contents) c.cpu s.rooms) ≡ false =
    subst (λ o. is_full n o (rooms_of n o c.cpu s.rooms) ≡ false) slot here.0 in
    let room_g : is_full n (slot_in c.cpu c.step g.contents) (rooms_of n (slot_in c.cpu c.step g.contents) c.cpu g.rooms) ≡ false =
    subst (λ o. is_full n o (rooms_of n o c.cpu g.rooms) ≡ false) (sym also)
    (still_room n (slot_in c.cpu c.step s.contents) c.cpu s.rooms g.rooms same.rooms room_s) in
    let at_s = predicted l s c.cpu c.step room_s in
    let at_g = predicted l g c.cpu c.step room_g in
    record {
      reply_is =
          ap (λ r. r.0) at_g ∙ (ap (λ x. (answered l c.cpu c.step x).0) same.contents ∙ sym (ap (λ r. r.0) at_s));
      contents_are =
          ap (λ r. r.1.contents) at_g
          ∙ (ap (contents_after l c.cpu c.step) same.contents ∙ sym (ap (λ r. r.1.contents) at_s));
      stored_rooms =
          subst (λ q. HaveRoom t.rooms q) (sym (ap (λ r. r.1.rooms) at_g))
          (subst (λ r. HaveRoom r (rooms_after c.cpu c.step g)) (sym here.1)
          (subst
          (λ o. HaveRoom (put_rooms n c.slot c.cpu s.rooms (stored (rooms_by c s)))
          (put_rooms n o c.cpu g.rooms (stored (rooms_of n o c.cpu g.rooms))))
          (slot ∙ sym also)
          (stored_room n c.slot c.cpu s.rooms g.rooms same.rooms)));
      kept_rooms = subst (λ r. HaveRoom r g.rooms) (sym here.1) (kept_room n c.slot c.cpu s.rooms g.rooms same.rooms);
    }

-- a reply tells want of memory or not
pub want_cases : (reply : Reply) → (reply ≡ Refused NoMemory) ⊎ (reply ≢ Refused NoMemory)
want_cases (Done value) = inr (λ e. cc)
want_cases (Refused refusals.Perm) = inr (λ e. cc)
want_cases (Refused refusals.NoVm) = inr (λ e. cc)
want_cases (Refused refusals.NoMemory) = inl refl
want_cases (Refused refusals.Busy) = inr (λ e. cc)
want_cases (Refused refusals.Invalid) = inr (λ e. cc)
want_cases (Refused refusals.NoPool) = inr (λ e. cc)
want_cases (Refused refusals.LogFull) = inr (λ e. cc)
want_cases (Refused refusals.Contended) = inr (λ e. cc)

-- a stored call of a history is judged well
goes_with : (l : Layout) (g h : Reference) (cpu : ℕ) (step : Step) (said : Reply) (found : Option Disagreement)
    → Judges l g cpu step said found h
    → GoesWith l g cpu step said found h
goes_with l g h cpu step said found judges s t c goes kept cpu_is step_is reply_is same =
    elim (want_cases said) [
      | inl want ↦
          let wants = judges.wants want in
          let unchanged : t.contents ≡ s.contents = refusal_keeps l s t c NoMemory goes (reply_is ∙ want) in (
            wants.1.none.1 (agrees want unchanged (step_agrees l s t c goes)),
            subst (IsLikeAfter t) (sym wants.0)
                (record { contents = same.contents ∙ sym unchanged; rooms = like.kept_rooms }),
          )
      | inr other ↦
          let others = judges.other other in
          elim (step_agrees l s t c goes) [
            | inl p ↦ (
              others.1.same (sym reply_is ∙ (p.reply_is ∙ (sym like.reply_is ∙ ap (λ r. r.0) told))),
              subst (IsLikeAfter t) (sym others.0)
                  (subst (λ (r : Reply × Reference). IsLikeAfter t r.1) told
                  (record { contents = like.contents_are ∙ sym p.contents_are; rooms = like.stored_rooms })),
            )
            | inr p ↦ absurd (other (sym reply_is ∙ p.wants.reply_is))
          ]
    ]
  where
    like : Like l s t g c
    like = all_like l s t g c goes kept same

    told : predict_step l g c.cpu c.step ≡ predict_step l g cpu step
    told = ap (λ k. predict_step l g k c.step) cpu_is ∙ ap (predict_step l g cpu) step_is

    agrees : said ≡ Refused NoMemory
        → t.contents ≡ s.contents
        → JudgeAgrees s.contents c.step c.reply t.contents (predict_step l s c.cpu c.step)
        → JudgeAgrees g.contents step said g.contents (predict_step l g cpu step)
    agrees want unchanged (inl p) = inl record {
      reply_is = sym reply_is ∙ (p.reply_is ∙ (sym like.reply_is ∙ ap (λ r. r.0) told));
      contents_are =
          same.contents ∙ (sym unchanged ∙ (p.contents_are ∙ (sym like.contents_are ∙ ap (λ r. r.1.contents) told)));
    }
    agrees want unchanged (inr p) = inr record {
      wants = record {
        reply_is = want;
        grows = ap may_grow (sym step_is) ∙ p.wants.grows;
        made = ap (λ r. is_done r.0) (sym told) ∙ (ap is_done like.reply_is ∙ p.wants.made);
      };
      contents_are = refl;
    }

-- what is left of the calls leads on from a state like this one
pub record GoesOn (l : Layout) (g : Reference) (told : List (ℕ × Step × Reply)) : Type 0 where
  pub before : Reference
  pub end : Reference
  pub log : List Call
  pub like : IsLikeAfter before g
  pub leads : Runs (Steps l) before log end
  pub stored : All (λ c. IsStored c.reply) log
  pub told_is : told_of log ≡ told

-- no log has less room than itself
same_rooms : (r : Rooms) → HaveRoom r r
same_rooms r = record { vms = omega arith; shared = omega arith; guest = λ v. omega arith; cpu = λ c. omega arith }

-- at the start
pub goes_first : (l : Layout) (g : Reference) (told : List (ℕ × Step × Reply))
    → g ≡ boot l
    → IsLegalReport l told
    → GoesOn l g told
goes_first l g told is of = record {
  before = boot l;
  end = of.end;
  log = of.log;
  like =
      record {
        contents = ap (λ (s : Reference). s.contents) is;
        rooms = subst (λ (s : Reference). HaveRoom s.rooms g.rooms) is (same_rooms g.rooms);
      };
  leads = of.run.leads;
  stored = of.stored;
  told_is = of.told_is;
}

cons-head : {X : Type 0} {x y : X} {xs ys : List X} → x ∷ xs ≡ y ∷ ys → x ≡ y
cons-head e = let same = e in cc

cons-tail : {X : Type 0} {x y : X} {xs ys : List X} → x ∷ xs ≡ y ∷ ys → xs ≡ ys
cons-tail e = let same = e in cc

-- so nothing is found
pub none_found : (l : Layout) (g : Reference) (told : List (ℕ × Step × Reply)) (found : List Disagreement)
    → JudgesAll l g told found
    → GoesOn l g told
    → found ≡ []
none_found l g [] found judged on = judged
none_found l g (call ∷ more) found judged on =
    by_log (none_found l judged.1 more judged.2 judged.4) on.log on.leads on.stored on.told_is
  where
    by_log : (GoesOn l judged.1 more → judged.2 ≡ [])
        → (log : List Call)
        → Runs (Steps l) on.before log on.end
        → All (λ c. IsStored c.reply) log
        → told_of log ≡ call ∷ more
        → found ≡ []
    by_log onward [] leads kept told = absurd (let no = told in cc)
    by_log onward (c ∷ log) leads kept told =
        let first : ◌≡◌ {A = ℕ × Step × Reply} (c.cpu, c.step, c.reply) call = cons-head told in
        let rest : told_of log ≡ more = cons-tail told in
        let next =
        goes_with l g judged.1 call.0 call.1 call.2 judged.0 judged.3 on.before leads.0 c leads.1
        (All-head (λ (c : Call). IsStored c.reply) c log kept) (ap (λ (x : ℕ × Step × Reply). x.0) first)
        (ap (λ (x : ℕ × Step × Reply). x.1) first) (ap (λ (x : ℕ × Step × Reply). x.2) first) on.like in
        let more_none =
        onward
        record {
          before = leads.0;
          end = on.end;
          log = log;
          like = next.1;
          leads = leads.2;
          stored = All-tail (λ (c : Call). IsStored c.reply) c log kept;
          told_is = rest;
        } in
        judged.5 ∙ (ap (λ o. with_found o judged.2) next.0 ∙ more_none)

-- ---- one call after another

-- whatever is found at the calls that are left, it is found after what was found
abbrev pub LeadsOn : Layout → Reference → List (ℕ × Step × Reply) → List Disagreement → Reference
    → List (ℕ × Step × Reply) → Type 0
LeadsOn l g calls found h left =
    (rest : List Disagreement) → JudgesAll l h left rest → JudgesAll l g calls (found ++ rest)

pub leads_on : (k l : Layout) (g h n : Reference) (calls : List (ℕ × Step × Reply)) (found next : List Disagreement)
    (i : ℕ) (d : ℕ × Step × Reply) (one : Option Disagreement)
    → k ≡ l
    → i < length calls
    → next ≡ found ++ with_found one []
    → Judges k h (get_or calls i d).0 (get_or calls i d).1 (get_or calls i d).2 one n
    → LeadsOn l g calls found h (drop i calls)
    → LeadsOn l g calls next n (drop (i + 1) calls)
leads_on k l g h n calls found next i d one same less is judges leads rest judged =
    let here : Judges l h (get_or calls i d).0 (get_or calls i d).1 (get_or calls i d).2 one n =
    subst
    (λ (x : Layout). Judges x h (get_or calls i d).0 (get_or calls i d).1 (get_or calls i d).2 one n) same
    judges in
    let all =
    leads (with_found one rest)
    (subst (λ cs. JudgesAll l h cs (with_found one rest)) (sym (drop_more calls i d less))
    (one, n, rest, here, judged, refl)) in
    subst (JudgesAll l g calls)
    (sym (ap (λ ds. ds ++ rest) is ∙ ((rw append_assoc refl) ∙ ap (λ ds. found ++ ds) (joined one)))) all
  where
    joined : (one : Option Disagreement) → with_found one [] ++ rest ≡ with_found one rest
    joined None = refl
    joined (Some d) = refl

pub leads_last : (l : Layout) (g h : Reference) (calls : List (ℕ × Step × Reply)) (found : List Disagreement) (i : ℕ)
    → length calls ≤ i
    → LeadsOn l g calls found h (drop i calls)
    → JudgesAll l g calls found
leads_last l g h calls found i past leads =
    let all = leads [] (subst (λ cs. JudgesAll l h cs []) (sym (drop_all i calls past)) refl) in
    subst (JudgesAll l g calls) (append-nil found) all

-- ---- the logs of a world

-- no call is picked where none is left
picked_first : (f : Call → Bool) (c : Call) (calls : List Call) (b : Bool)
    → f c ≡ b
    → filter f (c ∷ calls) ≡ []
    → (f c ≡ false) × (filter f calls ≡ [])
picked_first f c calls true e none =
    absurd (let first : filter f (c ∷ calls) ≡ c ∷ filter f calls = rw e refl in let no = sym first ∙ none in cc)
picked_first f c calls false e none = let rest : filter f (c ∷ calls) ≡ filter f calls = rw e refl in
    (e, sym rest ∙ none)

none_picked : (f : Call → Bool) (calls : List Call) (k : ℕ) (d : Call)
    → filter f calls ≡ []
    → k < length calls
    → f (get_or calls k d) ≡ false
none_picked f [] k d none less = absurd (omega (arith, less))
none_picked f (c ∷ calls) zero d none less = (picked_first f c calls (f c) refl none).0
none_picked f (c ∷ calls) (suc k) d none less =
    none_picked f calls k d (picked_first f c calls (f c) refl none).1 (omega (arith, less))

same_number : (n : ℕ) → (n == n) ≡ true
same_number n = grind (arith)

past_end : {Z : Type 0} (logs : List (Vec Call Z)) (i : ℕ) → length logs ≤ i → log_at logs i ≡ []
past_end [] i past = refl
past_end (v ∷ logs) zero past = absurd (omega (arith, past))
past_end (v ∷ logs) (suc i) past = past_end logs i (omega (arith, past))

told_count : (calls : List Call) → length (told_of calls) ≡ length calls
told_count [] = refl
told_count (c ∷ calls) = ap suc (told_count calls)

told_at : (calls : List Call) (k : ℕ) (d : ℕ × Step × Reply) (e : Call)
    → k < length calls
    → get_or (told_of calls) k d ≡ ((get_or calls k e).cpu, (get_or calls k e).step, (get_or calls k e).reply)
told_at [] k d e less = absurd (omega (arith, less))
told_at (c ∷ calls) zero d e less = refl
told_at (c ∷ calls) (suc k) d e less = told_at calls k d e (omega (arith, less))

-- a merged list has calls of CPUs with a list alone
below_at : (logs : Histories) (n : ℕ) (all : List Call) (k : ℕ) (d : Call)
    → length logs.cpus.items ≤ n
    → IsMerged logs all
    → k < length all
    → (get_or all k d).cpu < n
below_at logs n all k d few merged less = elim (cases_lt (get_or all k d).cpu (length logs.cpus.items)) [
  | inl inside ↦ omega (arith, inside, few)
  | inr past ↦
      let none = merged.by (get_or all k d).cpu ∙ past_end logs.cpus.items (get_or all k d).cpu past in
      let no = none_picked (λ c. c.cpu == (get_or all k d).cpu) all k d none less in
      absurd (let both = sym (same_number (get_or all k d).cpu) ∙ no in cc)
]

pub told_below : (logs : Histories) (n : ℕ) (told : List (ℕ × Step × Reply))
    → length logs.cpus.items ≤ n
    → ReportsMerged logs told
    → All (λ c. c.0 < n) told
told_below logs n told few t = subst (All (λ (c : ℕ × Step × Reply). c.0 < n)) t.tells each
  where
    blank : ℕ × Step × Reply → Call
    blank d = record { cpu = d.0; number = 0; step = d.1; reply = d.2; slot = None }

    each : All (λ (c : ℕ × Step × Reply). c.0 < n) (told_of t.all)
    each k d less =
        let inside : k < length t.all = let long = told_count t.all in omega (arith, less, long) in
        subst (λ (c : ℕ × Step × Reply). c.0 < n) (sym (told_at t.all k d (blank d) inside))
        (below_at logs n t.all k (blank d) few t.merged inside)

-- along the logs of a legal history nothing is found
none_in_history : {A : Type 0} (p : Parts A) (logs : Histories) (g : Reference) (found : List Disagreement)
    → HasHistory p
    → AreLogsOf logs (parts_layout p) (kept_of p)
    → g ≡ boot (parts_layout p)
    → ComparesAll (parts_layout p) g logs found
    → found ≡ []
none_in_history p logs g found has are is compares =
    let of : IsOfHistory logs =
    record {
      layout = parts_layout p;
      ready = has.ready;
      kept = kept_of p;
      log = has.log;
      history = has.history;
      logs = are;
    } in
    let all = merged_history logs of compares.1.all compares.1.merged in
    none_found (parts_layout p) g compares.0 found compares.2
    (goes_first
    (parts_layout p) g compares.0 is
    record {
      log = compares.1.all;
      end = all.end;
      run = all.run;
      stored = all.stored;
      told_is = compares.1.tells;
    })

found_prop : (a b : List Disagreement) → IsProp (a ≡ b)
found_prop a b = hlevel props

pub none_after : {A : Type 0} (p : Parts A) (logs : Histories) (g : Reference) (found : List Disagreement)
    → ∥ HasHistory p ∥₁
    → AreLogsOf logs (parts_layout p) (kept_of p)
    → g ≡ boot (parts_layout p)
    → ComparesAll (parts_layout p) g logs found
    → found ≡ []
none_after p logs g found past are is compares =
    ∥∥₁_elim past (found_prop _ _) (λ has. none_in_history p logs g found has are is compares)
