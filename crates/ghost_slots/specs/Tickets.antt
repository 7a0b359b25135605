-- The tickets of a slot, by CPU.
use Rattle.std.specs.Prelude.{ℕ, ◌≤◌, ◌<◌, Option, MatchOption}
use Rattle.reference_model.specs.claims.Sound.{HasTicket}
use Rattle.reference_model.specs.model.State.{Contents}
use Rattle.ghost_spec.specs.declared.lists.GhostLists.{GhostLists}
use Rattle.ghost_spec.specs.States.{contents_in}

-- no CPU from one on has a ticket of the slot
abbrev pub HasNoTicketFrom : Contents → ℕ → ℕ → Type 0
HasNoTicketFrom s v from = (c : ℕ) → from ≤ c → HasTicket s v c → ⊥

-- the first of `count` CPUs from one on that has
pub record IsFirstTicket (s : Contents) (cpus v from c : ℕ) : Type 0 where
  pub low : from ≤ c
  pub high : c < cpus
  pub has : HasTicket s v c
  pub none : (d : ℕ) → from ≤ d → d < c → HasTicket s v d → ⊥

-- the first CPU of a state from one on that has a ticket of the slot, if there is one
abbrev pub IsTicketFrom : GhostLists → ℕ → ℕ → Option ℕ → Type 0
IsTicketFrom g v from o =
    MatchOption o (HasNoTicketFrom (contents_in g) v from)
    (IsFirstTicket (contents_in g) g.layout.config.cpus v from)
