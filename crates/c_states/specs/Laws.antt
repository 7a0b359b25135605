-- A call that is judged or predicted isn't refused, and has one answer; a refused one has one
-- reason.
use Rattle.std.specs.Prelude.{◌≡◌, ◌⊎◌, ℕ, ◌<◌, ◌==◌, ◌||◌, nat_lt, All, IsTrue, List, None, Option}
use Rattle.ghost_judge.specs.declared.disagreement.Disagreement.{Disagreement}
use Rattle.c_words.specs.declared.reply.PlainReply.{PlainReply}
use Rattle.c_words.specs.declared.step.PlainStep.{PlainStep}
use Rattle.c_states.specs.declared.judge.PlainCall.{PlainCall}
use Rattle.c_states.specs.declared.judge.Unjudged.{Unjudged}
use Rattle.c_states.specs.declared.judge.Unjudged.TheVariants as unjudged
use Rattle.c_states.specs.declared.judge.Unmade.{Unmade}
use Rattle.c_states.specs.declared.judge.Unmade.TheVariants as unmade
use Rattle.c_states.specs.declared.layout.PlainLayout.{PlainLayout}
use Rattle.c_states.specs.declared.layout.PlainLayoutFault.{PlainLayoutFault}
use Rattle.c_states.specs.declared.layout.PlainLayoutFault.TheVariants as layouts
use Rattle.c_states.specs.declared.layout.PlainRegion.{PlainRegion}
use Rattle.c_states.specs.declared.state.PlainFault.{PlainFault}
use Rattle.c_states.specs.declared.state.PlainFault.TheVariants as faults
use Rattle.c_states.specs.Faults.{first_unknown_of, AreOnce, AreTaken, IsPlainFault}
use Rattle.c_states.specs.Judged.{IsReplyPredicted, IsStatePredicted, IsJudged, IsUnjudged, IsUnmade, IsUnpredicted}
use Rattle.c_states.specs.Layouts.{IsLayoutFault, IsTakenLayout}
use Rattle.c_states.specs.States.{Lists, contents_from_c}

-- memory ran out, for a layout or a state
abbrev pub MadeLacksMemory : Unmade → Type 0
MadeLacksMemory (unmade.Layout layouts.NoMemory) = Unit {0}
MadeLacksMemory (unmade.State faults.NoMemory) = Unit {0}
MadeLacksMemory other = ⊥

-- or for a call
abbrev pub LacksMemory : Unjudged → Type 0
LacksMemory (unjudged.Before why) = MadeLacksMemory why
LacksMemory (unjudged.After why) = MadeLacksMemory why
LacksMemory unjudged.NoMemory = Unit {0}
LacksMemory other = ⊥

-- a layout and lists that are taken are refused only if memory runs out
abbrev pub MadeElse : Type 0
MadeElse =
    (l : PlainLayout) (regions : List PlainRegion) (p : Lists) (why : Unmade)
    → IsTakenLayout l regions
    → AreTaken l.cpus p
    → IsUnmade l regions p why
    → MadeLacksMemory why

-- so is a call that is judged
abbrev pub JudgedElse : Type 0
JudgedElse =
    (l : PlainLayout) (regions : List PlainRegion) (before : Lists) (call : PlainCall)
    (after : Lists) (found : Option Disagreement) (why : Unjudged)
    → IsJudged l regions before call after found
    → IsUnjudged l regions before call after why
    → LacksMemory why

-- so is a call that is predicted
abbrev pub PredictedElse : Type 0
PredictedElse =
    (l : PlainLayout) (regions : List PlainRegion) (before : Lists) (cpu : ℕ) (step : PlainStep)
    (reply : PlainReply) (why : Unjudged)
    → IsReplyPredicted l regions before cpu step reply
    → IsUnpredicted l regions before cpu step why
    → LacksMemory why

-- and one whose state after it is
abbrev pub PredictedStateElse : Type 0
PredictedStateElse =
    (l : PlainLayout) (regions : List PlainRegion) (before : Lists) (cpu : ℕ) (step : PlainStep)
    (reply : PlainReply) (after : Lists) (why : Unjudged)
    → IsStatePredicted l regions before cpu step reply after
    → IsUnpredicted l regions before cpu step why
    → LacksMemory why

-- a judgement has one answer
abbrev pub JudgedOnce : Type 0
JudgedOnce =
    (l : PlainLayout) (regions : List PlainRegion) (before : Lists) (call : PlainCall)
    (after : Lists) (f g : Option Disagreement)
    → IsJudged l regions before call after f → IsJudged l regions before call after g → f ≡ g

-- so has a prediction
abbrev pub PredictedOnce : Type 0
PredictedOnce =
    (l : PlainLayout) (regions : List PlainRegion) (before : Lists) (cpu : ℕ) (step : PlainStep)
    (r s : PlainReply)
    → IsReplyPredicted l regions before cpu step r
    → IsReplyPredicted l regions before cpu step s
    → r ≡ s

-- and the state after a call
abbrev pub PredictedStateOnce : Type 0
PredictedStateOnce =
    (l : PlainLayout) (regions : List PlainRegion) (before : Lists) (cpu : ℕ) (step : PlainStep)
    (r s : PlainReply) (a b : Lists)
    → IsStatePredicted l regions before cpu step r a
    → IsStatePredicted l regions before cpu step s b
    → (r ≡ s) × (contents_from_c a ≡ contents_from_c b)

-- a layout has at most one fault, aside from memory that runs out
abbrev pub LayoutFaultOnce : Type 0
LayoutFaultOnce =
    (l : PlainLayout) (regions : List PlainRegion) (f g : PlainLayoutFault)
    → IsLayoutFault l regions f
    → IsLayoutFault l regions g
    → (f ≡ layouts.NoMemory) ⊎ ((g ≡ layouts.NoMemory) ⊎ (f ≡ g))

-- so have lists, with one member that is named
abbrev pub PlainFaultOnce : Type 0
PlainFaultOnce =
    (cpus : ℕ) (p : Lists) (f g : PlainFault)
    → IsPlainFault cpus p f
    → IsPlainFault cpus p g
    → (f ≡ faults.NoMemory) ⊎ ((g ≡ faults.NoMemory) ⊎ (f ≡ g))

-- a layout and lists that make no state have one reason
abbrev pub UnmadeOnce : Type 0
UnmadeOnce =
    (l : PlainLayout) (regions : List PlainRegion) (p : Lists) (f g : Unmade)
    → IsUnmade l regions p f
    → IsUnmade l regions p g
    → MadeLacksMemory f ⊎ (MadeLacksMemory g ⊎ (f ≡ g))

-- so has a call that isn't predicted
abbrev pub UnpredictedOnce : Type 0
UnpredictedOnce =
    (l : PlainLayout) (regions : List PlainRegion) (before : Lists) (cpu : ℕ) (step : PlainStep)
    (f g : Unjudged)
    → IsUnpredicted l regions before cpu step f
    → IsUnpredicted l regions before cpu step g
    → LacksMemory f ⊎ (LacksMemory g ⊎ (f ≡ g))

-- and one that isn't judged
abbrev pub UnjudgedOnce : Type 0
UnjudgedOnce =
    (l : PlainLayout) (regions : List PlainRegion) (before : Lists) (call : PlainCall)
    (after : Lists) (f g : Unjudged)
    → IsUnjudged l regions before call after f
    → IsUnjudged l regions before call after g
    → LacksMemory f ⊎ (LacksMemory g ⊎ (f ≡ g))

-- no member of a state that is predicted has an unknown number, or is there twice, if no vCPU past
-- the eighth is loaded
abbrev pub PredictedKnown : Type 0
PredictedKnown =
    (l : PlainLayout) (regions : List PlainRegion) (before : Lists) (cpu : ℕ) (step : PlainStep)
    (reply : PlainReply) (after : Lists)
    → IsStatePredicted l regions before cpu step reply after
    → All (λ x. x.vcpu < 8) after.loads
    → All (λ k. IsTrue (k.has_vcpu == 0 || nat_lt k.vcpu 8)) after.cpus
    → (first_unknown_of l.cpus after ≡ None) × AreOnce after
