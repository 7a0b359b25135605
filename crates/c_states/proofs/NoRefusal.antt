-- What is taken, judged or predicted is refused for want of memory alone.
use Rattle.std.proofs.Common.{◌≡◌, ℕ, suc, ◌+◌, ◌<◌, Bool, true, false, cond, not, List, [], ◌∷◌, Option, Some, None, get_or, refl, sym, ap, subst, ◌∙◌, arith}
use Rattle.std.specs.Prelude.{◌==◌, ◌&&◌, ◌||◌, nat_lt, is_some, position}
use Rattle.std.specs.List.{position_from}
use Rattle.std.proofs.lemmas.Bool.Decides.{nat_tests}
use Rattle.std.proofs.lemmas.Iterator.Adapters.{position_from-zero}
use Rattle.page_state.specs.declared.layout.LayoutFault.TheVariants.{TooMany, Empty, PastLimit, Overlap as RegionsOverlap, CarveOutside, NoMemory as NoLayoutMemory}
use Rattle.page_state.specs.Geometries.{geometry_of}
use Rattle.call_table.specs.declared.step.Step.{Step}
use Rattle.ghost_spec.specs.declared.filled.GhostFault.TheVariants.{TooLarge, Overlap, TableTwice, FrameTwice}
use Rattle.ghost_spec.specs.Kept.{HasNextGeneration}
use Rattle.c_words.specs.declared.step.PlainStep.{PlainStep}
use Rattle.c_words.specs.Steps.{step_from_c}
use Rattle.c_states.specs.declared.judge.Unjudged.{Unjudged}
use Rattle.c_states.specs.declared.judge.Unjudged.TheVariants as unjudged
use Rattle.c_states.specs.declared.judge.Unmade.TheVariants as unmade
use Rattle.c_states.specs.declared.layout.PlainLayout.{PlainLayout}
use Rattle.c_states.specs.declared.layout.PlainLayoutFault.{PlainLayoutFault}
use Rattle.c_states.specs.declared.layout.PlainLayoutFault.TheVariants as layouts
use Rattle.c_states.specs.declared.layout.PlainRegion.{PlainRegion}
use Rattle.c_states.specs.declared.state.PlainFault.{PlainFault}
use Rattle.c_states.specs.declared.state.PlainFault.TheVariants as faults
use Rattle.c_states.specs.declared.state.PlainList.{PlainList}
use Rattle.c_states.specs.declared.state.PlainList.TheVariants as lists
use Rattle.c_states.specs.Faults.{first_unknown_of, unknown_in, AreTaken, AreOnce, IsPlainFault, IsTwice}
use Rattle.c_states.specs.Judged.{CanCall, IsUnpredicted}
use Rattle.c_states.specs.Known.{has_known_ticket, is_cpu, is_frame, is_guest, is_load, is_row, is_run, is_slot, is_table}
use Rattle.c_states.specs.Laws.{PredictedElse, PredictedKnown, PredictedStateElse, JudgedElse, LacksMemory, MadeElse}
use Rattle.c_states.specs.Layouts.{IsLayoutFault, IsTakenLayout}
use Rattle.c_states.specs.States.{Lists}
use Rattle.c_states.specs.Told.{AreKnown}

-- nothing is there twice
pub twice_else : (p : Lists) (list : PlainList) (at : ℕ) → AreOnce p → IsTwice p list at → ⊥
twice_else p lists.Slots at once h = once.slots at h.clashes
twice_else p lists.Guests at once h = once.guests at h.1.clashes
twice_else p lists.Cpus at once h = once.cpus at h.2.clashes
twice_else p other at once h = h

pub none_some : {X : Type 0} (o : Option X) → o ≡ None → is_some o ≡ true → ⊥
none_some None e h = let bad = h in cc
none_some (Some x) e h = let bad = e in cc

pub unknown_else : {X : Type 0} (o : Option X) (x : X) → o ≡ None → o ≡ Some x → ⊥
unknown_else o x h k = let bad = sym h ∙ k in cc

plain_else : (cpus : ℕ) (p : Lists) (f : PlainFault) → AreTaken cpus p → IsPlainFault cpus p f → f ≡ faults.NoMemory
plain_else cpus p (faults.Unknown list at) t h =
    absurd (unknown_else (first_unknown_of cpus p) (list, at) t.read.known h)
plain_else cpus p (faults.Rows TooLarge) t h = absurd (h.1 t.read.rows.0)
plain_else cpus p (faults.Rows Overlap) t h = absurd (h.1.1 t.read.rows.1)
plain_else cpus p (faults.Rows other) t h = absurd h.1
plain_else cpus p (faults.Twice list at) t h = absurd (twice_else p list at t.read.once h.2)
plain_else cpus p (faults.Lists TooLarge culprit) t h = absurd (h.1 t.numbers)
plain_else cpus p (faults.Lists Overlap culprit) t h = absurd (h.1.1 t.runs)
plain_else cpus p (faults.Lists TableTwice culprit) t h = absurd (h.1.2 t.tables)
plain_else cpus p (faults.Lists FrameTwice culprit) t h = absurd (h.1.3 t.frames)
plain_else cpus p (faults.Lists other culprit) t h = absurd h.1
plain_else cpus p faults.NoMemory t h = refl

pub layout_else : (l : PlainLayout) (regions : List PlainRegion) (f : PlainLayoutFault)
    → IsTakenLayout l regions
    → IsLayoutFault l regions f
    → f ≡ layouts.NoMemory
layout_else l regions layouts.Geometry t h = absurd (none_some (geometry_of l.address_bits) h t.geometry)
layout_else l regions (layouts.Memory TooMany) t h = absurd (h.1 t.memory.few)
layout_else l regions (layouts.Memory Empty) t h = absurd (h.1.1 t.memory.pages)
layout_else l regions (layouts.Memory PastLimit) t h = absurd (h.1.2 t.memory.limits)
layout_else l regions (layouts.Memory RegionsOverlap) t h = absurd (h.1.3 t.memory.disjoint)
layout_else l regions (layouts.Memory CarveOutside) t h = absurd (h.1.4 t.memory.carve)
layout_else l regions (layouts.Memory NoLayoutMemory) t h = absurd h.1
layout_else l regions layouts.NoMemory t h = refl

pub made_else : MadeElse
made_else l regions p (unmade.Layout layouts.Geometry) ready taken h =
    absurd (let bad = layout_else l regions layouts.Geometry ready h in cc)
made_else l regions p (unmade.Layout (layouts.Memory fault)) ready taken h =
    absurd (let bad = layout_else l regions (layouts.Memory fault) ready h in cc)
made_else l regions p (unmade.Layout layouts.NoMemory) ready taken h = tt
made_else l regions p (unmade.State (faults.Unknown list at)) ready taken h =
    absurd (let bad = plain_else l.cpus p (faults.Unknown list at) taken h.1 in cc)
made_else l regions p (unmade.State (faults.Rows fault)) ready taken h =
    absurd (let bad = plain_else l.cpus p (faults.Rows fault) taken h.1 in cc)
made_else l regions p (unmade.State (faults.Twice list at)) ready taken h =
    absurd (let bad = plain_else l.cpus p (faults.Twice list at) taken h.1 in cc)
made_else l regions p (unmade.State (faults.Lists fault culprit)) ready taken h =
    absurd (let bad = plain_else l.cpus p (faults.Lists fault culprit) taken h.1 in cc)
made_else l regions p (unmade.State faults.NoMemory) ready taken h = tt

pub one_step : (plain : PlainStep) (a b : Step) → step_from_c plain ≡ Some a → step_from_c plain ≡ Some b → a ≡ b
one_step plain a b h k = let same = sym h ∙ k in cc

pub can_else : (l : PlainLayout) (regions : List PlainRegion) (before : Lists) (cpu : ℕ) (plain : PlainStep)
    (step : Step) (why : Unjudged)
    → CanCall l regions before cpu plain step
    → IsUnpredicted l regions before cpu plain why
    → LacksMemory why
can_else l regions before cpu plain step unjudged.Step can h =
    absurd (unknown_else (step_from_c plain) step h can.step_is)
can_else l regions before cpu plain step unjudged.Reply can h = absurd h
can_else l regions before cpu plain step unjudged.Cpu can h =
    absurd (let least = h.1 in let most = can.cpu_is in omega (arith, least, most))
can_else l regions before cpu plain step (unjudged.Before why) can h =
    made_else l regions before why can.layout can.taken h.2
can_else l regions before cpu plain step unjudged.Generation can h =
    absurd
    (h.3.last (subst (HasNextGeneration _) (one_step plain step h.3.step can.step_is h.3.step_is) can.generation))
can_else l regions before cpu plain step (unjudged.After why) can h = absurd h
can_else l regions before cpu plain step unjudged.NoMemory can h = tt

pub judged_else : JudgedElse
judged_else l regions before call after found unjudged.Step j h =
    absurd (unknown_else (step_from_c call.step) j.step h j.can.step_is)
judged_else l regions before call after found unjudged.Reply j h = absurd (unknown_else _ j.reply h.1 j.reply_is)
judged_else l regions before call after found unjudged.Cpu j h =
    can_else l regions before call.cpu call.step j.step unjudged.Cpu j.can h.1
judged_else l regions before call after found (unjudged.Before why) j h =
    can_else l regions before call.cpu call.step j.step (unjudged.Before why) j.can h.1
judged_else l regions before call after found unjudged.Generation j h =
    can_else l regions before call.cpu call.step j.step unjudged.Generation j.can h.1
judged_else l regions before call after found (unjudged.After why) j h =
    made_else l regions after why j.can.layout j.after_taken h.2
judged_else l regions before call after found unjudged.NoMemory j h = tt

pub foretold_else : PredictedElse
foretold_else l regions before cpu step reply why f h = can_else l regions before cpu step f.step why f.can h

pub state_else : PredictedStateElse
state_else l regions before cpu step reply after why f h = can_else l regions before cpu step f.step why f.can h

-- lists of known members have no unknown one
none_from : {X : Type 0} (known : X → Bool) (xs : List X) (i : ℕ)
    → AreKnown known xs
    → position_from (λ x. not (known x)) i xs ≡ None
none_from known [] i h = refl
none_from known (x ∷ xs) i h =
    let here : known x ≡ true = h 0 x (omega arith) in
    ap (λ b. cond (not b) (Some i) (position_from (λ y. not (known y)) (i + 1) xs)) here
    ∙ none_from known xs (i + 1) (λ k d l. h (suc k) d (omega (arith, l)))

none_unknown : {X : Type 0} (known : X → Bool) (xs : List X) (list : PlainList) (others : Option (PlainList × ℕ))
    → AreKnown known xs
    → others ≡ None
    → unknown_in known xs list others ≡ None
none_unknown known xs list others h e =
    let none : position (λ x. not (known x)) xs ≡ None =
    position_from-zero (λ x. not (known x)) xs ∙ none_from known xs 0 h in
    ap (λ (o : Option ℕ). elim o as (λ _. Option (PlainList × ℕ)) [ None ↦ others | Some at ↦ Some (list, at) ]) none
    ∙ e

load_known : (slot vcpu : ℕ) → slot < 64 → vcpu < 8 → (nat_lt slot 64 && nat_lt vcpu 8) ≡ true
load_known slot vcpu h k = grind (arith, nat_tests)

cpu_known : (a b c : Bool) → (a && b) ≡ true → c ≡ true → (a && (c && b)) ≡ true
cpu_known true b true h k = h
cpu_known true b false h k = absurd (let bad = k in cc)
cpu_known false b c h k = absurd (let bad = h in cc)

pub predicted_known : PredictedKnown
predicted_known l regions before cpu step reply after f loads own =
    let told = f.after_told in
    let rows = none_unknown is_row after.rows lists.Rows None told.rows refl in
    let cpus =
    none_unknown (is_cpu l.cpus) after.cpus lists.Cpus _
    (λ k d less. let x = get_or after.cpus k d in
    cpu_known (nat_lt x.cpu l.cpus) (has_known_ticket x) (x.has_vcpu == 0 || nat_lt x.vcpu 8)
    (told.cpus_are k d less) (own k d less)) rows in
    let guests = none_unknown is_guest after.guests lists.Guests _ told.guests cpus in
    let vcpus =
    none_unknown is_load after.loads lists.Loads _
    (λ k d less. load_known _ _ (told.loads k d less) (loads k d less)) guests in
    let slots = none_unknown is_slot after.slots lists.Slots _ told.slots vcpus in
    let frames = none_unknown is_frame after.frames lists.Frames _ told.frames slots in
    let tables = none_unknown is_table after.tables lists.Tables _ told.tables frames in
    (none_unknown is_run after.runs lists.Runs _ told.runs tables, told.once)
