-- All outcomes of what a trace asks for (profile).
use Rattle.std.specs.Prelude.{◌≡◌, ℕ, List, length}
use Rattle.race_outcomes.specs.Orders.{AllOutcomes, HasMorePoints}
use Rattle.trace_race.specs.Courses.{Asking}
use Rattle.trace_text.specs.Worlds.{Machine}
use Rattle.trace_outcomes.specs.declared.finding.Found.{Found}
use Rattle.trace_outcomes.specs.declared.finding.Found.TheVariants as founds
use Rattle.trace_outcomes.specs.declared.finding.Outcomes.{Outcomes}
use Rattle.trace_outcomes.specs.declared.making.Race.{Race}
use Rattle.trace_outcomes.specs.Made.{HasMade}
use Rattle.trace_outcomes.specs.Races.{Texts, first_of, no_replies, nothing_wanted, raced_of, first_replies, turns_raced}
use Rattle.trace_outcomes.specs.Texts.{all_text}
use Rattle.trace_outcomes.specs.Told.{OnBoot}

-- the replies to the steps before `start`, and all outcomes of those after it, from the state that
-- those before lead to
pub record FindsAll (m : Machine) (a : Asking) (o : Outcomes) : Type 0 where
  pub replies : o.replies.items ≡ (first_replies m a (no_replies a.steps)).0
  pub count : length o.replies.items ≡ length (first_of a)
  pub all : AllOutcomes m.layout (first_replies m a (no_replies a.steps)).1
      (turns_raced a (no_replies a.steps)) (nothing_wanted (raced_of a)) o.found.items

-- the lines that report it
abbrev pub found_text : Asking → Outcomes → List ℕ
found_text a o = all_text (first_of a) o.replies.items (raced_of a) o.found.items

-- orders of `made` steps lead to more points than the limit
abbrev pub HasTooMany : ℕ → Machine → Asking → ℕ → Type 0
HasTooMany limit m a made =
    HasMorePoints m.layout (first_replies m a (no_replies a.steps)).1
    (turns_raced a (no_replies a.steps)) (nothing_wanted (raced_of a)) limit made

-- the finding for the steps that are made on a machine
abbrev pub FindsOn : ℕ → Asking → Machine → Found → Type 0
FindsOn limit a m (founds.All o) = FindsAll m a o
FindsOn limit a m (founds.TooMany made) = HasTooMany limit m a made
FindsOn limit a m founds.Idle = ⊥
FindsOn limit a m (founds.Fault line fault) = ⊥

-- and of what a trace asks for
abbrev pub Finds : ℕ → Asking → Found → Type 0
Finds limit a =
    OnBoot (λ number fault f. f ≡ founds.Fault number fault) (λ f. f ≡ founds.Idle)
    (FindsOn limit a) a

-- the finding for each machine whose state before the steps after `start` is the race's
abbrev pub FindsMade : ℕ → Asking → Texts → Race → Found → Type 0
FindsMade limit a texts r f = (m : Machine) → HasMade m a texts r → FindsOn limit a m f
