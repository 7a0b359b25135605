-- The state in which steps are to be made at once, as code has it.
use Rattle.std.specs.Prelude.{◌≡◌, ◌<◌, ℕ, ◌+◌, ◌^◌, List, All, length, Option, Vec}
use Rattle.std.specs.Global.{Global}
use Rattle.page_state.specs.LayoutView.{layout_of}
use Rattle.ghost_spec.specs.States.{contents_in, ghost_state}
use Rattle.race_outcomes.specs.declared.finding.OutcomesFault.{OutcomesFault}
use Rattle.race_outcomes.specs.declared.finding.OutcomesFault.TheVariants.{Generation}
use Rattle.trace_race.specs.Courses.{Asking}
use Rattle.trace_race.specs.Judged.{HasGenerationsTo}
use Rattle.trace_text.specs.Worlds.{Machine}
use Rattle.trace_outcomes.specs.declared.making.Race.{Race}
use Rattle.trace_outcomes.specs.declared.telling.Told.{Told}
use Rattle.trace_outcomes.specs.Races.{Texts, first_of, first_replies, turns_raced}

-- the steps that are made at once are of CPUs that exist, the list of wanted texts has an entry for
-- each, each step before them has its reply, and no generation is near the last
pub record IsReady (a : Asking) (wanted : List (Option (Vec ℕ Global))) (r : Race) : Type 0 where
  pub cpus : All (λ t. t.cpu < r.state.layout.config.cpus) r.turns.items
  pub count : length wanted ≡ length r.turns.items
  pub replies : length r.replies.items ≡ length (first_of a)
  pub few : length (first_of a) + length r.turns.items < 2 ^ 63
  pub low : HasGenerationsTo (1 + length (first_of a)) (contents_in r.state)

-- why there is no list of outcomes, but for a generation that would be no number of 64 bits
abbrev pub IsNoGeneration : OutcomesFault → Type 0
IsNoGeneration Generation = ⊥
IsNoGeneration other = Unit {0}

-- they are made, and those after `start` are to be made now
pub record HasMade (m : Machine) (a : Asking) (texts : Texts) (r : Race) : Type 0 where
  pub told : (r.replies.items, ghost_state r.state) ≡ first_replies m a texts
  pub layout : layout_of r.state.layout ≡ m.layout
  pub turns : r.turns.items ≡ turns_raced a texts

-- the text for each machine, by its state before the steps after `start`
abbrev pub OnMade : (Machine → Asking → Texts → Told → Type 0) → Asking → Texts → Race → Told
    → Type 0
OnMade Tells a texts r t = (m : Machine) → HasMade m a texts r → Tells m a texts t
