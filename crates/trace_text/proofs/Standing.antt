-- What a line does where there is a machine, or a carve-out.
use Rattle.std.proofs.Common.{◌≡◌, ◌∙◌, ap, Option, Some, MatchOption, option_map}
use Rattle.world.specs.declared.World.{World}
use Rattle.trace_text.specs.Session.{Standing, Answer, OnMachine}
use Rattle.trace_text.specs.View.{machine_of}
use Rattle.trace_text.specs.Worlds.{Machine}

pub matched : {X : Type 0} (o : Option X) (x : X) (P : Type 0) (Q : X → Type 0) → o ≡ Some x → Q x → MatchOption o P Q
matched o x P Q e h = rw e h

pub on_machine : {A : Type 0} (does : Machine → Standing → Answer → Standing → Type 0) (old : Standing)
    (o : Option (World A)) (world : World A) (answer : Answer) (new : Standing)
    → old.machine ≡ option_map machine_of o
    → o ≡ Some world
    → does (machine_of world) old answer new
    → OnMachine does old answer new
on_machine does old o world answer new is e h =
    matched old.machine (machine_of world) _ (λ m. does m old answer new) (is ∙ ap (option_map machine_of) e) h
