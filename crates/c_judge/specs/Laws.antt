-- A call that is judged by its layout's freedoms isn't refused, and has one answer; a refused one
-- has one reason.
use Rattle.std.specs.Prelude.{◌≡◌, ◌⊎◌, List, Option}
use Rattle.c_states.specs.declared.judge.PlainCall.{PlainCall}
use Rattle.c_states.specs.declared.layout.PlainLayout.{PlainLayout}
use Rattle.c_states.specs.declared.layout.PlainRegion.{PlainRegion}
use Rattle.c_states.specs.Laws.{LacksMemory}
use Rattle.c_states.specs.States.{Lists}
use Rattle.c_judge.specs.declared.found.Found.{Found}
use Rattle.c_judge.specs.declared.found.Unfound.{Unfound}
use Rattle.c_judge.specs.declared.found.Unfound.TheVariants.{Freedoms as BadFreedoms, Call}
use Rattle.c_judge.specs.Found.{IsFound, IsUnfound}

-- memory ran out
abbrev pub WasNoMemory : Unfound → Type 0
WasNoMemory (BadFreedoms fault) = ⊥
WasNoMemory (Call why) = LacksMemory why

-- a call that is judged is refused only if memory runs out
abbrev pub FoundElse : Type 0
FoundElse =
    (l : PlainLayout) (regions : List PlainRegion) (before : Lists) (call : PlainCall)
    (after : Lists) (found : Option Found) (why : Unfound)
    → IsFound l regions before call after found
    → IsUnfound l regions before call after why
    → WasNoMemory why

-- its judgement has one answer
abbrev pub FoundOnce : Type 0
FoundOnce =
    (l : PlainLayout) (regions : List PlainRegion) (before : Lists) (call : PlainCall)
    (after : Lists) (f g : Option Found)
    → IsFound l regions before call after f
    → IsFound l regions before call after g
    → f ≡ g

-- a call that isn't judged has one reason, aside from memory that runs out
abbrev pub UnfoundOnce : Type 0
UnfoundOnce =
    (l : PlainLayout) (regions : List PlainRegion) (before : Lists) (call : PlainCall)
    (after : Lists) (f g : Unfound)
    → IsUnfound l regions before call after f
    → IsUnfound l regions before call after g
    → WasNoMemory f ⊎ (WasNoMemory g ⊎ (f ≡ g))
