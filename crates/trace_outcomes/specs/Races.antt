-- The steps of a trace before `start` and those after it (profile).
use Rattle.std.specs.Prelude.{ℕ, Bool, false, List, [], ◌∷◌, codes, drop, map, take, Option, Some, None, option_map, Vec}
use Rattle.std.specs.Global.{Global}
use Rattle.std.specs.Str.{bytes_eq}
use Rattle.call_table.specs.declared.reply.Reply.{Reply}
use Rattle.reference_model.specs.model.State.{Reference}
use Rattle.race_outcomes.specs.declared.node.Turn.{Turn}
use Rattle.race_outcomes.specs.Orders.{replies_along}
use Rattle.trace_race.specs.declared.course.Asked.{Asked}
use Rattle.trace_race.specs.Courses.{Asking, in_order_of}
use Rattle.trace_text.specs.Worlds.{Machine}

-- the text of the reply to each step of a trace, if there is one
abbrev pub Texts : Type 0
Texts = List (Option (List ℕ))

abbrev pub texts_in : List (Option (Vec ℕ Global)) → Texts
texts_in texts = map (option_map (λ v. v.items)) texts

-- nothing of any of these
abbrev pub no_replies : List Asked → Texts
no_replies steps = map (λ a. None) steps

-- no wanted text for any of these steps
abbrev pub nothing_wanted : List Asked → List (Option (Vec ℕ Global))
nothing_wanted steps = map (λ a. None) steps

-- whether it is `nomemory`
abbrev pub wants : Option (List ℕ) → Bool
wants None = false
wants (Some text) = bytes_eq text (codes "nomemory")

-- the steps of CPUs: exactly those with the reply `nomemory` find no memory
abbrev pub turns_of : List Asked → Texts → List Turn
turns_of [] texts = []
turns_of (a ∷ more) [] = []
turns_of (a ∷ more) (text ∷ texts) =
    record { cpu = a.cpu; step = a.step; wants = wants text } ∷ turns_of more texts

-- the steps before `start`, and those after it
abbrev pub first_of : Asking → List Asked
first_of a = take (in_order_of a) a.steps

abbrev pub raced_of : Asking → List Asked
raced_of a = drop (in_order_of a) a.steps

-- the steps that are made at once
abbrev pub turns_raced : Asking → Texts → List Turn
turns_raced a texts = turns_of (raced_of a) (drop (in_order_of a) texts)

-- the model's replies to the steps before `start`, made in order, and the state after them
abbrev pub first_replies : Machine → Asking → Texts → List Reply × Reference
first_replies m a texts =
    replies_along m.layout m.state (turns_of (first_of a) (take (in_order_of a) texts))
