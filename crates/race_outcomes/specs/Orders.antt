-- The orders in which steps of CPUs can be made one after another, and what the model replies along
-- each (profile).
use Rattle.std.specs.Prelude.{◌≡◌, ◌≢◌, ℕ, ◌<◌, List, [], ◌∷◌, All, AllPairs, Contains, length, map, take, Bool, ◌&&◌, Option, Some, None, Vec, slice_get, slice_set, if◌then◌else◌}
use Rattle.std.specs.Global.{Global}
use Rattle.page_state.specs.Layouts.{Layout}
use Rattle.call_table.specs.declared.reply.Refusal.TheVariants.{NoMemory as WantsMemory}
use Rattle.call_table.specs.declared.reply.Reply.{Reply}
use Rattle.call_table.specs.declared.reply.Reply.TheVariants.{Refused}
use Rattle.call_table.specs.Texts.{text_of_reply}
use Rattle.reference_model.specs.model.Rules.{may_grow}
use Rattle.reference_model.specs.model.State.{Reference}
use Rattle.reference_model.specs.model.Step.{predict_step}
use Rattle.ghost_judge.specs.Judgements.{is_done}
use Rattle.ghost_spec.specs.Kept.{HasNextGeneration}
use Rattle.race_outcomes.specs.declared.finding.Outcome.{Outcome}
use Rattle.race_outcomes.specs.declared.finding.OutcomesFault.{OutcomesFault}
use Rattle.race_outcomes.specs.declared.finding.OutcomesFault.TheVariants.{TooMany, Generation, NoMemory}
use Rattle.race_outcomes.specs.declared.node.Turn.{Turn}

-- a step finds no memory that can take some, and that the model makes
abbrev pub is_wanting : Turn → Reply → Bool
is_wanting turn reply = turn.wants && may_grow turn.step && is_done reply

-- its reply is `nomemory`, and nothing but the logs changes; `told` is the model's reply if there
-- is memory
abbrev pub wanting : Reference → Reply × Reference → Reply × Reference
wanting s told = (Refused WantsMemory, record { contents = s.contents; rooms = told.1.rooms })

-- the model's reply to a step, and the state after it
unfoldable pub model_reply : Layout → Reference → Turn → Reply × Reference
model_reply l s turn = let told = predict_step l s turn.cpu turn.step in
    if is_wanting turn told.0 then wanting s told else told

-- how far an order has come: the model's state, and the reply of each step made so far, by its
-- place in the list of all steps
pub record Point : Type 0 where
  pub state : Reference
  pub told : List (Option Reply)

-- no step is made yet
abbrev pub no_replies_yet : List Turn → List (Option Reply)
no_replies_yet turns = map (λ t. None) turns

abbrev pub first_point : Reference → List Turn → Point
first_point s turns = record { state = s; told = no_replies_yet turns }

-- the step at a place can come next: it isn't made, and each step of its CPU that is before it in
-- the list is
pub record IsNext (turns : List Turn) (told : List (Option Reply)) (place : ℕ)
    (turn : Turn) : Type 0 where
  pub at : slice_get turns place ≡ Some turn
  pub unmade : slice_get told place ≡ Some None
  pub before : (j : ℕ) (t : Turn)
      → j < place
      → slice_get turns j ≡ Some t
      → t.cpu ≡ turn.cpu
      → slice_get told j ≢ Some None

-- the point after the step at a place, if the model makes it
abbrev pub point_after : Layout → Point → ℕ → Turn → Point
point_after l p place turn =
    let r = model_reply l p.state turn in
    record { state = r.1; told = slice_set p.told place (Some r.0) }

-- the step at a place comes next, and the model makes it
pub record Makes (l : Layout) (turns : List Turn) (p : Point) (place : ℕ) (q : Point) : Type 0 where
  pub turn : Turn
  pub next : IsNext turns p.told place turn
  pub made : q ≡ point_after l p place turn

-- the steps at these places, one after another, lead from one point to another
abbrev pub Leads : Layout → List Turn → Point → List ℕ → Point → Type 0
Leads l turns p [] q = q ≡ p
Leads l turns p (place ∷ more) q =
    (between : Point) × Makes l turns p place between × Leads l turns between more q

-- an order of all steps, by their places, gives each step this reply: it leads from the state to a
-- point at which each is made
pub record Gives (l : Layout) (s : Reference) (turns : List Turn) (order : List ℕ)
    (replies : List Reply) : Type 0 where
  pub end : Reference
  pub leads : Leads l turns (first_point s turns) order
      (record { state = end; told = map Some replies })

-- some order gives these replies
abbrev pub IsOutcome : Layout → Reference → List Turn → List Reply → Type 0
IsOutcome l s turns replies = (order : List ℕ) × Gives l s turns order replies

-- the reply has the wanted text, if there is one
abbrev pub IsWanted : Option (Vec ℕ Global) → Option Reply → Type 0
IsWanted (Some text) (Some r) = text_of_reply r ≡ text.items
IsWanted other told = Unit {0}

-- and so it is of the reply at each place
abbrev pub AreWanted : List (Option (Vec ℕ Global)) → List (Option Reply) → Type 0
AreWanted [] told = Unit {0}
AreWanted (w ∷ ws) [] = Unit {0}
AreWanted (w ∷ ws) (t ∷ ts) = IsWanted w t × AreWanted ws ts

-- all lists of replies that some order gives and that have the wanted texts
pub record AllOutcomes (l : Layout) (s : Reference) (turns : List Turn)
    (wanted : List (Option (Vec ℕ Global))) (os : List Outcome) : Type 0 where
  pub sound : All
      (λ o. Gives l s turns o.order.items o.replies.items
      × AreWanted wanted (map Some o.replies.items)) os
  pub complete : (replies : List Reply)
      → IsOutcome l s turns replies
      → AreWanted wanted (map Some replies)
      → Contains (map (λ o. o.replies.items) os) replies
  pub once : AllPairs (λ a b. a.replies.items ≢ b.replies.items) os

-- an order gives replies that have the wanted texts; and no order gives any
abbrev pub GivesWanted : Layout → Reference → List Turn → List (Option (Vec ℕ Global)) → List ℕ
    → Type 0
GivesWanted l s turns wanted order =
    (replies : List Reply) × Gives l s turns order replies × AreWanted wanted (map Some replies)

abbrev pub NoneWanted : Layout → Reference → List Turn → List (Option (Vec ℕ Global)) → Type 0
NoneWanted l s turns wanted = (order : List ℕ) → ¬ GivesWanted l s turns wanted order

-- an order that gives replies with the wanted texts, or none if no order does
abbrev pub IsExplained : Layout → Reference → List Turn → List (Option (Vec ℕ Global))
    → Option (Vec ℕ Global) → Type 0
IsExplained l s turns wanted None = NoneWanted l s turns wanted
IsExplained l s turns wanted (Some order) = GivesWanted l s turns wanted order.items

-- the replies to steps made in order, and the state after them
abbrev pub replies_along : Layout → Reference → List Turn → List Reply × Reference
replies_along l s [] = ([], s)
replies_along l s (t ∷ more) =
    let r = model_reply l s t in
    let rest = replies_along l r.1 more in
    (r.0 ∷ rest.0, rest.1)

-- a step releases a VM whose generation is the greatest u64
abbrev pub IsLastGeneration : Reference → Turn → Type 0
IsLastGeneration s turn = ¬ HasNextGeneration (s.contents.cpu turn.cpu).ticket turn.step

-- why steps in order aren't made: a VM's generation after the steps before it, or memory
abbrev pub IsStepFault : Layout → Reference → List Turn → OutcomesFault → Type 0
IsStepFault l s turns (TooMany made) = ⊥
IsStepFault l s turns Generation =
    (n : ℕ)
    × (turn : Turn)
    × (slice_get turns n ≡ Some turn)
    × IsLastGeneration (replies_along l s (take n turns)).1 turn
IsStepFault l s turns NoMemory = Unit {0}

module _ (l : Layout) (s : Reference) (turns : List Turn) where
  -- orders of `made` steps, whose replies have the wanted texts, lead to more points than the limit
  pub record HasMorePoints (wanted : List (Option (Vec ℕ Global))) (limit made : ℕ) : Type 0 where
    pub points : List Point
    pub more : limit < length points
    pub apart : AllPairs (λ p q. p ≢ q) points
    pub reached : All
        (λ p. (order : List ℕ)
        × (length order ≡ made)
        × Leads l turns (first_point s turns) order p
        × AreWanted wanted p.told) points

  -- some order leads to a point at which a next step releases a VM whose generation is the greatest
  -- u64
  pub record ReachesLastGeneration : Type 0 where
    pub order : List ℕ
    pub point : Point
    pub leads : Leads l turns (first_point s turns) order point
    pub place : ℕ
    pub turn : Turn
    pub next : IsNext turns point.told place turn
    pub last : IsLastGeneration point.state turn

  -- why there is no list of outcomes
  abbrev pub IsOutcomesFault : List (Option (Vec ℕ Global)) → ℕ → OutcomesFault → Type 0
  IsOutcomesFault wanted limit (TooMany made) = HasMorePoints wanted limit made
  IsOutcomesFault wanted limit Generation = ReachesLastGeneration
  IsOutcomesFault wanted limit NoMemory = Unit {0}
