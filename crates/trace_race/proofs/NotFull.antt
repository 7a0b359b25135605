-- A log that has no call isn't full.
use Rattle.std.proofs.Common.{◌≡◌, ◌≢◌, ℕ, zero, suc, ◌<◌, refl, sym, ap, subst, ◌∙◌, ⊎_elim, inl, inr, Bool, true, false, ◌==◌, List, [], ◌∷◌, ◌++◌, All, filter, get_or, length, map, take, Option, Some, None}
use Rattle.std.specs.Prelude.{◌&&◌, ◌||◌, Contains, is_some}
use Rattle.std.proofs.lemmas.List.Elements.{All-head}
use Rattle.page_state.specs.declared.layout.Layout.{Layout as TheLayout}
use Rattle.page_state.specs.LayoutView.{layout_of}
use Rattle.page_state.specs.Layouts.{Layout}
use Rattle.page_state.proofs.Common.{eq-same}
use Rattle.call_table.specs.declared.reply.Call.{Call}
use Rattle.call_table.specs.declared.reply.Refusal.TheVariants.{LogFull}
use Rattle.call_table.specs.declared.reply.Reply.{Reply}
use Rattle.call_table.specs.declared.reply.Reply.TheVariants.{Refused}
use Rattle.call_table.specs.declared.step.Step.{Step}
use Rattle.reference_model.specs.model.Boot.{boot}
use Rattle.reference_model.specs.model.History.{calls_by, calls_on}
use Rattle.reference_model.specs.model.Parts.{Names, uses_shared, uses_vms}
use Rattle.reference_model.specs.model.Rules.{names}
use Rattle.reference_model.specs.model.Run.{Runs}
use Rattle.reference_model.specs.model.State.{Reference, all_rooms}
use Rattle.reference_model.specs.model.Step.{Steps, is_full}
use Rattle.reference_model.specs.model.Used.{room_at, rooms_of}
use Rattle.reference_model.proofs.Steps.{answered-room}
use Rattle.ghost_spec.proofs.Rooms.{full-is}
use Rattle.part_table.specs.Answered.{used_by}
use Rattle.part_table.specs.Before.{before_own}
use Rattle.part_table.specs.Known.{Known}
use Rattle.part_table.specs.Parts.{part_of}
use Rattle.trace_race.specs.declared.course.Asked.{Asked}
use Rattle.trace_race.specs.Judged.{told_of}
use Rattle.trace_race.specs.Made.{CallsIn, MakeAll, OneHistory, answers_of, asked_with, is_stored, known_with, stored_in}
use Rattle.trace_race.specs.Laws.{FirstNotFull}
use Rattle.trace_race.proofs.Made.{cases, own_answer, others_answer, same-number}
use Rattle.trace_race.proofs.Past.{behind_all}

abbrev kept : List (Step × Reply) → List (Step × Reply)
kept answers = filter (λ a. is_stored a.1) answers

-- whoever's the step is, nothing is stored
none_kept : (a : Asked) (cpu : ℕ) → kept (answers_of cpu (a ∷ []) (Refused LogFull ∷ [])) ≡ []
none_kept a cpu = ⊎_elim
    (λ (own : (a.cpu == cpu) ≡ true). ap kept (own_answer cpu a [] (Refused LogFull) [] own))
    (λ (other : (a.cpu == cpu) ≡ false). ap kept (others_answer cpu a [] (Refused LogFull) [] other))
    (cases (a.cpu == cpu))

abbrev told : Call → Step × Reply
told c = (c.step, c.reply)

no_calls : (cs : List Call) → map told cs ≡ [] → cs ≡ []
no_calls [] e = refl
no_calls (c ∷ cs) e = absurd (let no = e in cc)

no_told : (cs : List Call) → told_of cs ≡ [] → cs ≡ []
no_told [] e = refl
no_told (c ∷ cs) e = absurd (let no = e in cc)

-- so there is no call at all
pub no_log : (n : ℕ) (log : List Call)
    → All (λ d. d.cpu < n) log
    → ((cpu : ℕ) → cpu < n → calls_by cpu log ≡ [])
    → log ≡ []
no_log n [] all none = refl
no_log n (c ∷ cs) all none = absurd (never (none c.cpu (All-head (λ (d : Call). d.cpu < n) c cs all)))
  where
    here : calls_by c.cpu (c ∷ cs) ≡ c ∷ calls_by c.cpu cs
    here = rw (same-number c.cpu) refl

    never : calls_by c.cpu (c ∷ cs) ≡ [] → ⊥
    never e = let no : c ∷ calls_by c.cpu cs ≡ [] = sym here ∙ e in absurd cc

-- no log is full at boot
and_false : (b : Bool) → (b && false) ≡ false
and_false true = refl
and_false false = refl

room_left : (n : ℕ) → n ≢ 0 → (n == 0) ≡ false
room_left n some =
    ⊎_elim (λ (e : (n == 0) ≡ true). absurd (some (eq-same n 0 e))) (λ (e : (n == 0) ≡ false). e) (cases (n == 0))

slot_left : (slot : Option ℕ) (n : ℕ) → (n == 0) ≡ false → (is_some slot && room_at (λ v. n) slot == 0) ≡ false
slot_left None n left = refl
slot_left (Some v) n left = left

none_full : (n : Names) (slot : Option ℕ) (cpu log : ℕ)
    → log ≢ 0
    → is_full n slot (rooms_of n slot cpu (all_rooms log)) ≡ false
none_full n slot cpu log some =
    let left = room_left log some in
    full-is n slot cpu (all_rooms log)
    ∙ (λ i. left i || (uses_vms n && left i) || (uses_shared n slot && left i) || slot_left slot log left i)
    ∙ (λ i. false || and_false (uses_vms n) i || and_false (uses_shared n slot) i || false)

-- so the first step of a run isn't answered LogFull
first_run : (l : Layout) (c : Call) (t : Reference)
    → l.config.log ≢ 0
    → c.reply ≡ Refused LogFull
    → Runs (Steps l) (boot l) (c ∷ []) t
    → ⊥
first_run l c t some reply run = elim run.1.on.answers [
  | inl f ↦ let both : true ≡ false = sym f.full ∙ none_full (names c.step) c.slot c.cpu l.config.log some in absurd cc
  | inr a ↦ answered-room l c.cpu c.slot c.step true _ c.reply _ a.answered reply
]

behind_start : (key : TheLayout) (a : Asked)
    → key.config.log ≢ 0
    → a.cpu < key.config.cpus
    → OneHistory (layout_of key) 0 (a ∷ []) (Refused LogFull ∷ [])
    → ⊥
behind_start key a some inside h =
    let is = h.each a.cpu inside in
    let first : h.first ≡ [] = no_told h.first h.asked in
    let none : (cpu : ℕ) → cpu < key.config.cpus → calls_by cpu h.log ≡ [] =
    λ cpu less. no_calls (calls_by cpu h.log) ((h.each cpu less).calls ∙ none_kept a cpu) in
    let log : h.log ≡ [] =
    no_log key.config.cpus h.log
    (behind_all (λ (c : Call). c.cpu < key.config.cpus) (stored_in h.first) h.log h.run.cpus) none in
    let whole : stored_in h.first ++ h.log ≡ [] = (λ i. stored_in (first i) ++ log i) in
    let mine : Known = known_with h.key a.cpu is.first in
    let n : ℕ = length is.first.log.calls in
    let made =
    subst
    (λ (xs : List (Step × Reply)). MakeAll
    (CallsIn (layout_of h.key) (stored_in h.first ++ h.log)) mine xs is.last)
    (own_answer a.cpu a [] (Refused LogFull) [] (same-number a.cpu)) is.makes in
    let same : h.key.config.log ≡ key.config.log = ap (λ (l : Layout). l.config.log) h.key_is in
    let from : (cs : List Call) → cs ≡ [] → length cs ≡ h.key.config.log → ⊥ =
    λ cs e n. some (sym same ∙ sym n ∙ ap length e) in
    ⊎_elim
    (λ (e : length (calls_by a.cpu (before_own a.cpu n (stored_in h.first ++ h.log))) ≡ h.key.config.log). from _
    (ap (λ (cs : List Call). calls_by a.cpu (before_own a.cpu n cs)) whole) e)
    (λ
    (e : (k : ℕ)
    × Contains (used_by a.step mine) k
    × (length (calls_on (part_of k) (before_own a.cpu n (stored_in h.first ++ h.log)))
    ≡ h.key.config.log)). from _
    (ap (λ (cs : List Call). calls_on (part_of e.0) (before_own a.cpu n cs)) whole) e.2)
    (made.1.full refl).1

none_asked : (n : ℕ) → asked_with (take n []) (take n []) ≡ []
none_asked zero = refl
none_asked (suc n) = refl

before_start : (key : TheLayout) (n : ℕ) (a : Asked)
    → key.config.log ≢ 0
    → OneHistory (layout_of key) (suc n) (a ∷ []) (Refused LogFull ∷ [])
    → ⊥
before_start key n a some h =
    one h.first
    (h.asked
    ∙ ap (λ (l : List (ℕ × Step × Reply)). (a.cpu, a.step, Refused LogFull) ∷ l) (none_asked n)) h.begins.leads
  where
    one : (cs : List Call)
        → told_of cs ≡ (a.cpu, a.step, Refused LogFull) ∷ []
        → Runs (Steps (layout_of key)) (boot (layout_of key)) cs h.at
        → ⊥
    one [] e run = absurd cc
    one (c ∷ []) e run =
        first_run (layout_of key) c h.at some
        (ap (λ (l : List (ℕ × Step × Reply)). (get_or l 0 (c.cpu, c.step, c.reply)).2) e) run
    one (c ∷ (d ∷ cs)) e run = absurd cc

pub first_not_full : FirstNotFull
first_not_full key zero a some inside h = behind_start key a some inside h
first_not_full key (suc n) a some inside h = before_start key n a some h
