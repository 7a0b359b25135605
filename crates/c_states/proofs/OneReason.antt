-- What is refused, and not for want of memory, has one reason.
use Rattle.std.proofs.Common.{◌≡◌, ℕ, ◌<◌, ◌≤◌, inl, inr, refl, sym, ap, subst, arith}
use Rattle.std.specs.Prelude.{◌⊎◌}
use Rattle.page_state.specs.declared.layout.LayoutFault.{LayoutFault}
use Rattle.page_state.specs.declared.layout.LayoutFault.TheVariants.{TooMany, Empty, PastLimit, Overlap as RegionsOverlap, CarveOutside, NoMemory as NoLayoutMemory}
use Rattle.page_state.specs.Geometries.{geometry_of}
use Rattle.page_state.specs.LayoutFaults.{IsFirstFault}
use Rattle.page_state.specs.Regions.{Memory}
use Rattle.c_words.specs.Said.{reply_from_c}
use Rattle.c_words.specs.Steps.{step_from_c}
use Rattle.c_states.specs.declared.judge.Unjudged.TheVariants as unjudged
use Rattle.c_states.specs.declared.judge.Unmade.TheVariants as unmade
use Rattle.c_states.specs.declared.layout.PlainLayoutFault.{PlainLayoutFault}
use Rattle.c_states.specs.declared.layout.PlainLayoutFault.TheVariants as layouts
use Rattle.c_states.specs.declared.state.PlainFault.{PlainFault}
use Rattle.c_states.specs.declared.state.PlainFault.TheVariants as faults
use Rattle.c_states.specs.Laws.{LayoutFaultOnce, MadeLacksMemory, UnjudgedOnce, UnmadeOnce, UnpredictedOnce}
use Rattle.c_states.specs.Layouts.{memory_from_c}
use Rattle.c_states.proofs.NoRefusal.{can_else, layout_else, made_else, none_some, unknown_else}
use Rattle.c_states.proofs.OneAnswer.{fault_once}

-- layouts

region_once : (m : Memory) (f g : LayoutFault) → IsFirstFault f m → IsFirstFault g m → f ≡ g
region_once m TooMany TooMany h k = refl
region_once m TooMany Empty h k = absurd (h k.0)
region_once m TooMany PastLimit h k = absurd (h k.0)
region_once m TooMany RegionsOverlap h k = absurd (h k.0)
region_once m TooMany CarveOutside h k = absurd (h k.0)
region_once m TooMany NoLayoutMemory h k = absurd k
region_once m Empty TooMany h k = absurd (k h.0)
region_once m Empty Empty h k = refl
region_once m Empty PastLimit h k = absurd (h.1 k.1)
region_once m Empty RegionsOverlap h k = absurd (h.1 k.1)
region_once m Empty CarveOutside h k = absurd (h.1 k.1)
region_once m Empty NoLayoutMemory h k = absurd k
region_once m PastLimit TooMany h k = absurd (k h.0)
region_once m PastLimit Empty h k = absurd (k.1 h.1)
region_once m PastLimit PastLimit h k = refl
region_once m PastLimit RegionsOverlap h k = absurd (h.2 k.2)
region_once m PastLimit CarveOutside h k = absurd (h.2 k.2)
region_once m PastLimit NoLayoutMemory h k = absurd k
region_once m RegionsOverlap TooMany h k = absurd (k h.0)
region_once m RegionsOverlap Empty h k = absurd (k.1 h.1)
region_once m RegionsOverlap PastLimit h k = absurd (k.2 h.2)
region_once m RegionsOverlap RegionsOverlap h k = refl
region_once m RegionsOverlap CarveOutside h k = absurd (h.3 k.3)
region_once m RegionsOverlap NoLayoutMemory h k = absurd k
region_once m CarveOutside TooMany h k = absurd (k h.0)
region_once m CarveOutside Empty h k = absurd (k.1 h.1)
region_once m CarveOutside PastLimit h k = absurd (k.2 h.2)
region_once m CarveOutside RegionsOverlap h k = absurd (k.3 h.3)
region_once m CarveOutside CarveOutside h k = refl
region_once m CarveOutside NoLayoutMemory h k = absurd k
region_once m NoLayoutMemory g h k = absurd h

pub layout_once : LayoutFaultOnce
layout_once l regions layouts.NoMemory g h k = inl refl
layout_once l regions layouts.Geometry layouts.Geometry h k = inr (inr refl)
layout_once l regions layouts.Geometry (layouts.Memory g) h k = absurd (none_some (geometry_of l.address_bits) h k.0)
layout_once l regions layouts.Geometry layouts.NoMemory h k = inr (inl refl)
layout_once l regions (layouts.Memory f) layouts.Geometry h k = absurd (none_some (geometry_of l.address_bits) k h.0)
layout_once l regions (layouts.Memory f) (layouts.Memory g) h k =
    inr (inr (ap layouts.Memory (region_once (memory_from_c l regions) f g h.1 k.1)))
layout_once l regions (layouts.Memory f) layouts.NoMemory h k = inr (inl refl)

-- layouts and lists

pub either : {F G A B C : Type 0} → (F → A) → (G → B ⊎ C) → F ⊎ G → A ⊎ (B ⊎ C)
either f g (inl x) = inl (f x)
either f g (inr y) = inr (g y)

pub next : {F G B C : Type 0} → (F → B) → (G → C) → F ⊎ G → B ⊎ C
next f g (inl x) = inl (f x)
next f g (inr y) = inr (g y)

layout_lacks : (f : PlainLayoutFault) → f ≡ layouts.NoMemory → MadeLacksMemory (unmade.Layout f)
layout_lacks f e = subst (λ x. MadeLacksMemory (unmade.Layout x)) (sym e) tt

state_lacks : (f : PlainFault) → f ≡ faults.NoMemory → MadeLacksMemory (unmade.State f)
state_lacks f e = subst (λ x. MadeLacksMemory (unmade.State x)) (sym e) tt

pub unmade_once : UnmadeOnce
unmade_once l regions p (unmade.Layout f) (unmade.Layout g) h k =
    either (layout_lacks f) (next (layout_lacks g) (ap unmade.Layout)) (layout_once l regions f g h k)
unmade_once l regions p (unmade.Layout f) (unmade.State g) h k = inl (layout_lacks f (layout_else l regions f k.0 h))
unmade_once l regions p (unmade.State f) (unmade.Layout g) h k =
    inr (inl (layout_lacks g (layout_else l regions g h.0 k)))
unmade_once l regions p (unmade.State f) (unmade.State g) h k =
    either (state_lacks f) (next (state_lacks g) (ap unmade.State)) (fault_once l.cpus p f g h.1 k.1)

-- calls

late : (cpus cpu : ℕ) → cpus ≤ cpu → cpu < cpus → ⊥
late cpus cpu h k = omega (arith, h, k)

pub untold_once : UnpredictedOnce
untold_once l regions before cpu step unjudged.NoMemory g h k = inl tt
untold_once l regions before cpu step unjudged.Reply g h k = absurd h
untold_once l regions before cpu step (unjudged.After why) g h k = absurd h
untold_once l regions before cpu step unjudged.Step unjudged.Step h k = inr (inr refl)
untold_once l regions before cpu step unjudged.Step unjudged.Reply h k = absurd k
untold_once l regions before cpu step unjudged.Step unjudged.Cpu h k = absurd (none_some (step_from_c step) h k.0)
untold_once l regions before cpu step unjudged.Step (unjudged.Before why) h k =
    absurd (none_some (step_from_c step) h k.0)
untold_once l regions before cpu step unjudged.Step unjudged.Generation h k =
    absurd (unknown_else (step_from_c step) k.3.step h k.3.step_is)
untold_once l regions before cpu step unjudged.Step (unjudged.After why) h k = absurd k
untold_once l regions before cpu step unjudged.Step unjudged.NoMemory h k = inr (inl tt)
untold_once l regions before cpu step unjudged.Cpu unjudged.Step h k = absurd (none_some (step_from_c step) k h.0)
untold_once l regions before cpu step unjudged.Cpu unjudged.Reply h k = absurd k
untold_once l regions before cpu step unjudged.Cpu unjudged.Cpu h k = inr (inr refl)
untold_once l regions before cpu step unjudged.Cpu (unjudged.Before why) h k = absurd (late l.cpus cpu h.1 k.1)
untold_once l regions before cpu step unjudged.Cpu unjudged.Generation h k = absurd (late l.cpus cpu h.1 k.0)
untold_once l regions before cpu step unjudged.Cpu (unjudged.After why) h k = absurd k
untold_once l regions before cpu step unjudged.Cpu unjudged.NoMemory h k = inr (inl tt)
untold_once l regions before cpu step (unjudged.Before f) unjudged.Step h k =
    absurd (none_some (step_from_c step) k h.0)
untold_once l regions before cpu step (unjudged.Before f) unjudged.Reply h k = absurd k
untold_once l regions before cpu step (unjudged.Before f) unjudged.Cpu h k = absurd (late l.cpus cpu k.1 h.1)
untold_once l regions before cpu step (unjudged.Before f) (unjudged.Before g) h k =
    either (λ x. x) (next (λ x. x) (ap unjudged.Before)) (unmade_once l regions before f g h.2 k.2)
untold_once l regions before cpu step (unjudged.Before f) unjudged.Generation h k =
    inl (made_else l regions before f k.1 k.2 h.2)
untold_once l regions before cpu step (unjudged.Before f) (unjudged.After why) h k = absurd k
untold_once l regions before cpu step (unjudged.Before f) unjudged.NoMemory h k = inr (inl tt)
untold_once l regions before cpu step unjudged.Generation unjudged.Step h k =
    absurd (unknown_else (step_from_c step) h.3.step k h.3.step_is)
untold_once l regions before cpu step unjudged.Generation unjudged.Reply h k = absurd k
untold_once l regions before cpu step unjudged.Generation unjudged.Cpu h k = absurd (late l.cpus cpu k.1 h.0)
untold_once l regions before cpu step unjudged.Generation (unjudged.Before g) h k =
    inr (inl (made_else l regions before g h.1 h.2 k.2))
untold_once l regions before cpu step unjudged.Generation unjudged.Generation h k = inr (inr refl)
untold_once l regions before cpu step unjudged.Generation (unjudged.After why) h k = absurd k
untold_once l regions before cpu step unjudged.Generation unjudged.NoMemory h k = inr (inl tt)

pub unjudged_once : UnjudgedOnce
unjudged_once l regions before call after unjudged.NoMemory g h k = inl tt
unjudged_once l regions before call after unjudged.Step unjudged.Step h k = inr (inr refl)
unjudged_once l regions before call after unjudged.Step unjudged.Reply h k =
    absurd (none_some (step_from_c call.step) h k.0)
unjudged_once l regions before call after unjudged.Step unjudged.Cpu h k =
    absurd (none_some (step_from_c call.step) h k.1.0)
unjudged_once l regions before call after unjudged.Step (unjudged.Before g) h k =
    absurd (none_some (step_from_c call.step) h k.1.0)
unjudged_once l regions before call after unjudged.Step unjudged.Generation h k =
    absurd (unknown_else (step_from_c call.step) k.1.3.step h k.1.3.step_is)
unjudged_once l regions before call after unjudged.Step (unjudged.After g) h k =
    absurd (unknown_else (step_from_c call.step) k.1.0 h k.1.1.step_is)
unjudged_once l regions before call after unjudged.Step unjudged.NoMemory h k = inr (inl tt)
unjudged_once l regions before call after unjudged.Reply unjudged.Step h k =
    absurd (none_some (step_from_c call.step) k h.0)
unjudged_once l regions before call after unjudged.Reply unjudged.Reply h k = inr (inr refl)
unjudged_once l regions before call after unjudged.Reply unjudged.Cpu h k =
    absurd (none_some (reply_from_c call.reply) h.1 k.0)
unjudged_once l regions before call after unjudged.Reply (unjudged.Before g) h k =
    absurd (none_some (reply_from_c call.reply) h.1 k.0)
unjudged_once l regions before call after unjudged.Reply unjudged.Generation h k =
    absurd (none_some (reply_from_c call.reply) h.1 k.0)
unjudged_once l regions before call after unjudged.Reply (unjudged.After g) h k =
    absurd (none_some (reply_from_c call.reply) h.1 k.0)
unjudged_once l regions before call after unjudged.Reply unjudged.NoMemory h k = inr (inl tt)
unjudged_once l regions before call after (unjudged.After f) unjudged.Step h k =
    absurd (unknown_else (step_from_c call.step) h.1.0 k h.1.1.step_is)
unjudged_once l regions before call after (unjudged.After f) unjudged.Reply h k =
    absurd (none_some (reply_from_c call.reply) k.1 h.0)
unjudged_once l regions before call after (unjudged.After f) unjudged.Cpu h k =
    inr (inl (can_else l regions before call.cpu call.step h.1.0 unjudged.Cpu h.1.1 k.1))
unjudged_once l regions before call after (unjudged.After f) (unjudged.Before g) h k =
    inr (inl (can_else l regions before call.cpu call.step h.1.0 (unjudged.Before g) h.1.1 k.1))
unjudged_once l regions before call after (unjudged.After f) unjudged.Generation h k =
    inr (inl (can_else l regions before call.cpu call.step h.1.0 unjudged.Generation h.1.1 k.1))
unjudged_once l regions before call after (unjudged.After f) (unjudged.After g) h k =
    either (λ x. x) (next (λ x. x) (ap unjudged.After)) (unmade_once l regions after f g h.2 k.2)
unjudged_once l regions before call after (unjudged.After f) unjudged.NoMemory h k = inr (inl tt)
unjudged_once l regions before call after unjudged.Cpu unjudged.Step h k =
    absurd (none_some (step_from_c call.step) k h.1.0)
unjudged_once l regions before call after unjudged.Cpu unjudged.Reply h k =
    absurd (none_some (reply_from_c call.reply) k.1 h.0)
unjudged_once l regions before call after unjudged.Cpu unjudged.Cpu h k =
    untold_once l regions before call.cpu call.step unjudged.Cpu unjudged.Cpu h.1 k.1
unjudged_once l regions before call after unjudged.Cpu (unjudged.Before g) h k =
    untold_once l regions before call.cpu call.step unjudged.Cpu (unjudged.Before g) h.1 k.1
unjudged_once l regions before call after unjudged.Cpu unjudged.Generation h k =
    untold_once l regions before call.cpu call.step unjudged.Cpu unjudged.Generation h.1 k.1
unjudged_once l regions before call after unjudged.Cpu (unjudged.After g) h k =
    inl (can_else l regions before call.cpu call.step k.1.0 unjudged.Cpu k.1.1 h.1)
unjudged_once l regions before call after unjudged.Cpu unjudged.NoMemory h k = inr (inl tt)
unjudged_once l regions before call after (unjudged.Before f) unjudged.Step h k =
    absurd (none_some (step_from_c call.step) k h.1.0)
unjudged_once l regions before call after (unjudged.Before f) unjudged.Reply h k =
    absurd (none_some (reply_from_c call.reply) k.1 h.0)
unjudged_once l regions before call after (unjudged.Before f) unjudged.Cpu h k =
    untold_once l regions before call.cpu call.step (unjudged.Before f) unjudged.Cpu h.1 k.1
unjudged_once l regions before call after (unjudged.Before f) (unjudged.Before g) h k =
    untold_once l regions before call.cpu call.step (unjudged.Before f) (unjudged.Before g) h.1 k.1
unjudged_once l regions before call after (unjudged.Before f) unjudged.Generation h k =
    untold_once l regions before call.cpu call.step (unjudged.Before f) unjudged.Generation h.1 k.1
unjudged_once l regions before call after (unjudged.Before f) (unjudged.After g) h k =
    inl (can_else l regions before call.cpu call.step k.1.0 (unjudged.Before f) k.1.1 h.1)
unjudged_once l regions before call after (unjudged.Before f) unjudged.NoMemory h k = inr (inl tt)
unjudged_once l regions before call after unjudged.Generation unjudged.Step h k =
    absurd (unknown_else (step_from_c call.step) h.1.3.step k h.1.3.step_is)
unjudged_once l regions before call after unjudged.Generation unjudged.Reply h k =
    absurd (none_some (reply_from_c call.reply) k.1 h.0)
unjudged_once l regions before call after unjudged.Generation unjudged.Cpu h k =
    untold_once l regions before call.cpu call.step unjudged.Generation unjudged.Cpu h.1 k.1
unjudged_once l regions before call after unjudged.Generation (unjudged.Before g) h k =
    untold_once l regions before call.cpu call.step unjudged.Generation (unjudged.Before g) h.1 k.1
unjudged_once l regions before call after unjudged.Generation unjudged.Generation h k =
    untold_once l regions before call.cpu call.step unjudged.Generation unjudged.Generation h.1 k.1
unjudged_once l regions before call after unjudged.Generation (unjudged.After g) h k =
    inl (can_else l regions before call.cpu call.step k.1.0 unjudged.Generation k.1.1 h.1)
unjudged_once l regions before call after unjudged.Generation unjudged.NoMemory h k = inr (inl tt)
