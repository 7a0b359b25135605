-- The places of a frame in all lists.
use Rattle.std.specs.Prelude.{ℕ, List}
use Rattle.page_state.specs.Layouts.{hyp_page}
use Rattle.ghost_spec.specs.declared.shared.Shared.{Shared}
use Rattle.ghost_legal.specs.declared.held.Held.{Held}
use Rattle.ghost_legal.specs.declared.places.Places.{Places}
use Rattle.ghost_legal.specs.Frames.{held_frames}
use Rattle.ghost_legal.specs.Ranges.{IsNear, IsPlace}

pub record AreNear (f : ℕ) (p : Places) (s : Shared) (hs : List Held) : Type 0 where
  pub host : IsNear (λ r. r.pages) f p.host.number s.host.runs.items
  pub hyp : IsNear (λ r. r.pages) (hyp_page f) p.hyp.number s.hyp.runs.items
  pub rows : IsNear (λ r. r.pages) f p.rows.number s.rows.runs
  pub held : IsNear held_frames f p.held.number hs

pub record ArePlaces (f : ℕ) (p : Places) (s : Shared) (hs : List Held) : Type 0 where
  pub host : IsPlace (λ r. r.pages) f p.host s.host.runs.items
  pub hyp : IsPlace (λ r. r.pages) (hyp_page f) p.hyp s.hyp.runs.items
  pub rows : IsPlace (λ r. r.pages) f p.rows s.rows.runs
  pub held : IsPlace held_frames f p.held hs
