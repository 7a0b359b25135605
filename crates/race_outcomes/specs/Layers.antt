-- All points that orders with a given number of steps lead to.
use Rattle.std.specs.Prelude.{◌≡◌, ◌≢◌, ◌⊎◌, ℕ, ◌+◌, ◌*◌, ◌%◌, ◌<◌, ◌≤◌, List, [], ◌∷◌, ◌++◌, All, AllPairs, Contains, Option, Some, None, Vec, get_or, length, map, slice_get}
use Rattle.std.specs.Global.{Global}
use Rattle.page_state.specs.Layouts.{Layout}
use Rattle.page_state.specs.LayoutView.{layout_of}
use Rattle.reference_model.specs.model.State.{Reference}
use Rattle.ghost_spec.specs.declared.lists.GhostRooms.{GhostRooms}
use Rattle.ghost_spec.specs.States.{ghost_state}
use Rattle.call_table.specs.declared.reply.Refusal.TheVariants.{Perm, NoVm, Busy, Invalid, NoPool}
use Rattle.call_table.specs.declared.reply.Reply.{Reply}
use Rattle.call_table.specs.declared.reply.Reply.TheVariants.{Done, Refused}
use Rattle.race_outcomes.specs.declared.finding.Outcome.{Outcome}
use Rattle.race_outcomes.specs.declared.finding.OutcomesFault.{OutcomesFault}
use Rattle.race_outcomes.specs.declared.finding.OutcomesFault.TheVariants.{TooMany, Generation, NoMemory}
use Rattle.race_outcomes.specs.declared.layer.Layer.{Layer}
use Rattle.race_outcomes.specs.declared.node.Node.{Node}
use Rattle.race_outcomes.specs.declared.node.Turn.{Turn}
use Rattle.race_outcomes.specs.Orders.{Point, IsLastGeneration, IsNext, Makes, Leads, AreWanted, first_point, model_reply}

-- the point that a node is at
abbrev pub point_of : Node → Point
point_of n = record { state = ghost_state n.state; told = n.told.items }

abbrev pub points_of : List Node → List Point
points_of ns = map point_of ns

-- a number for a reply, and the key of replies
abbrev pub number_of : Option Reply → ℕ
number_of None = 1
number_of (Some (Done value)) = 2
number_of (Some (Refused Perm)) = 3
number_of (Some (Refused NoVm)) = 4
number_of (Some (Refused Busy)) = 5
number_of (Some (Refused Invalid)) = 6
number_of (Some (Refused NoPool)) = 7
number_of (Some (Refused other)) = 8

abbrev pub key_from : ℕ → List (Option Reply) → ℕ
key_from key [] = key
key_from key (t ∷ ts) = key_from ((key * 31 + number_of t) % 4093) ts

abbrev pub key_of : List (Option Reply) → ℕ
key_of told = key_from 0 told

-- rooms are the same, list by list
pub record AreSameRooms (a b : GhostRooms) : Type 0 where
  pub vms : a.vms ≡ b.vms
  pub shared : a.shared ≡ b.shared
  pub guests : a.guests.items ≡ b.guests.items
  pub cpus : a.cpus.items ≡ b.cpus.items

-- two nodes of one layout are at different points
abbrev pub AreApart : Node → Node → Type 0
AreApart m n = layout_of m.state.layout ≡ layout_of n.state.layout → point_of m ≢ point_of n

-- nodes are of one layout
abbrev pub HaveOneLayout : List Node → Type 0
HaveOneLayout ns =
    (m n : Node)
    → Contains ns m
    → Contains ns n
    → layout_of m.state.layout ≡ layout_of n.state.layout

-- a node is at another point than each of these
abbrev pub IsApartFrom : List Node → Node → Type 0
IsApartFrom ns n = All (λ m. AreApart m n) ns

-- each node has its place among those of the key of its replies
abbrev pub HavePlaces : List Node → List (List ℕ) → Type 0
HavePlaces ns places =
    (i : ℕ) (n : Node)
    → slice_get ns i ≡ Some n
    → Contains (get_or places (key_of n.told.items) []) i

-- the places of each key
abbrev pub places_in : Layer → List (List ℕ)
places_in x = map (λ v. v.items) x.places.items

-- each point is there once, and each node has its place
pub record IsIndexed (x : Layer) : Type 0 where
  pub count : length x.places.items ≡ 4093
  pub apart : AllPairs AreApart x.nodes.items
  pub has : HavePlaces x.nodes.items (places_in x)

-- a node is added, or its point is there
abbrev pub IsAdded : List Node → Node → List Node → Type 0
IsAdded old node new =
    (new ≡ old ++ node ∷ []) ⊎ ((new ≡ old) × Contains (points_of old) (point_of node))

-- why a node isn't added: there are as many as may be, and it is at another point than each; or
-- memory
pub record IsOver (limit : ℕ) (old : List Node) (node : Node) (made : ℕ) : Type 0 where
  pub full : limit ≤ length old
  pub apart : IsApartFrom old node
  pub made_is : made ≡ length node.order.items

abbrev pub IsAddFault : ℕ → List Node → Node → OutcomesFault → Type 0
IsAddFault limit old node (TooMany made) = IsOver limit old node made
IsAddFault limit old node Generation = ⊥
IsAddFault limit old node NoMemory = Unit {0}

-- at a place the step comes next, and releases a VM whose generation is the greatest u64
abbrev pub EndsAt : List Turn → Node → ℕ → Type 0
EndsAt turns m place =
    (turn : Turn)
    × IsNext turns m.told.items place turn
    × IsLastGeneration (ghost_state m.state) turn

abbrev pub IsPlaceFault : List Turn → Node → ℕ → OutcomesFault → Type 0
IsPlaceFault turns m place (TooMany made) = ⊥
IsPlaceFault turns m place Generation = EndsAt turns m place
IsPlaceFault turns m place NoMemory = Unit {0}

module _ (turns : List Turn) (wanted : List (Option (Vec ℕ Global))) where
  -- a node has a reply or none for each step, and the list of wanted texts has an entry for each;
  -- each step is of one of the layout's CPUs; and each reply has the wanted text, if there is one
  pub record IsReady (n : Node) : Type 0 where
    pub count : length n.told.items ≡ length turns
    pub wanted_count : length wanted ≡ length turns
    pub cpus : All (λ t. t.cpu < n.state.layout.config.cpus) turns
    pub are_wanted : AreWanted wanted n.told.items

  -- the step at a place leads from one node to another, whose replies have the wanted texts
  pub record IsStepAt (m : Node) (place : ℕ) (n : Node) : Type 0 where
    pub layout : layout_of n.state.layout ≡ layout_of m.state.layout
    pub makes : Makes (layout_of m.state.layout) turns (point_of m) place (point_of n)
    pub order : n.order.items ≡ m.order.items ++ place ∷ []
    pub are_wanted : AreWanted wanted n.told.items

  abbrev pub IsStepOf : Node → Node → Type 0
  IsStepOf m n = (place : ℕ) × IsStepAt m place n

  -- if the step at a place leads from a node to a point, and its replies have the wanted texts, the
  -- list has the point
  abbrev pub HasStep : Node → List Node → ℕ → Type 0
  HasStep m new place =
      (q : Point)
      → Makes (layout_of m.state.layout) turns (point_of m) place q
      → AreWanted wanted q.told
      → Contains (points_of new) q

  -- adds some nodes that steps lead to from one node
  abbrev pub IsSpread : Node → List Node → List Node → Type 0
  IsSpread m old new = (more : List Node) × (new ≡ old ++ more) × All (IsStepOf m) more

  -- why the nodes that the step at a place, or any step, leads to from a node aren't added
  pub record IsCrowding (limit : ℕ) (m : Node) (old : List Node) (made : ℕ) : Type 0 where
    pub new : List Node
    pub spread : IsSpread m old new
    pub apart : AllPairs AreApart new
    pub next : Node
    pub step : IsStepOf m next
    pub over : IsOver limit new next made

  abbrev pub IsSpreadFault : ℕ → Node → List Node → OutcomesFault → Type 0
  IsSpreadFault limit m old (TooMany made) = IsCrowding limit m old made
  IsSpreadFault limit m old Generation = (place : ℕ) × EndsAt turns m place
  IsSpreadFault limit m old NoMemory = Unit {0}

  -- why the nodes one step further aren't given: they are more than the limit, all at different
  -- points
  pub record AreOver (limit : ℕ) (old : List Node) (made : ℕ) : Type 0 where
    pub new : List Node
    pub more : limit < length new
    pub apart : AllPairs AreApart new
    pub steps : All (λ n. (m : Node) × Contains old m × IsStepOf m n) new
    pub last : Node
    pub there : Contains new last
    pub made_is : made ≡ length last.order.items

  abbrev pub IsLayerFault : ℕ → List Node → OutcomesFault → Type 0
  IsLayerFault limit old (TooMany made) = AreOver limit old made
  IsLayerFault limit old Generation =
      (m : Node) × (place : ℕ) × Contains old m × EndsAt turns m place
  IsLayerFault limit old NoMemory = Unit {0}

  -- the nodes one step further
  pub record AreNext (old new : List Node) : Type 0 where
    pub sound : All (λ n. (m : Node) × Contains old m × IsStepOf m n) new
    pub complete : All (λ m. (place : ℕ) → HasStep m new place) old

  module _ (l : Layout) (s : Reference) where
    -- a node's order has `count` steps, and leads to its point
    pub record IsReached (count : ℕ) (n : Node) : Type 0 where
      pub layout : layout_of n.state.layout ≡ l
      pub count_is : length n.order.items ≡ count
      pub leads : Leads l turns (first_point s turns) n.order.items (point_of n)
      pub are_wanted : AreWanted wanted n.told.items

    -- the nodes that orders of `count` steps lead to, all those whose replies have the wanted texts
    pub record IsLayer (count : ℕ) (ns : List Node) : Type 0 where
      pub sound : All (IsReached count) ns
      pub complete : (order : List ℕ) (p : Point)
          → length order ≡ count
          → Leads l turns (first_point s turns) order p
          → AreWanted wanted p.told
          → Contains (points_of ns) p

-- an outcome has the replies of a node, with its order
pub record IsOutcomeOf (n : Node) (o : Outcome) : Type 0 where
  pub told : n.told.items ≡ map Some o.replies.items
  pub order : o.order.items ≡ n.order.items

abbrev pub replies_of : List Outcome → List (List Reply)
replies_of os = map (λ o. o.replies.items) os

-- the outcome of a node is added, unless its replies are there, or it hasn't all
pub record IsOutcomeAdded (n : Node) (old new : List Outcome) : Type 0 where
  pub grows : (new ≡ old)
      ⊎ ((o : Outcome)
      × (new ≡ old ++ o ∷ [])
      × IsOutcomeOf n o
      × ¬ Contains (replies_of old) o.replies.items)
  pub has : (replies : List Reply)
      → n.told.items ≡ map Some replies
      → Contains (replies_of new) replies

-- the outcomes of nodes, each once
pub record AreOutcomes (ns : List Node) (os : List Outcome) : Type 0 where
  pub sound : All (λ o. (n : Node) × Contains ns n × IsOutcomeOf n o) os
  pub complete : All
      (λ n. (replies : List Reply)
      → n.told.items ≡ map Some replies
      → Contains (replies_of os) replies) ns
  pub once : AllPairs (λ a b. a.replies.items ≢ b.replies.items) os

-- the first layer, for any wanted texts
abbrev pub IsFirstLayer : List Turn → Layout → Reference → List Node → Type 0
IsFirstLayer turns l s ns = (wanted : List (Option (Vec ℕ Global))) → IsLayer turns wanted l s 0 ns

-- a step is made, and its reply comes after those before it
abbrev pub GivesMore : Layout → Reference → Turn → List Reply → List Reply → Reference → Type 0
GivesMore l s turn old new t = (r : Reply) × (new ≡ old ++ r ∷ []) × ((r, t) ≡ model_reply l s turn)
