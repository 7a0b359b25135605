-- What the prediction of a call answers C.
use Rattle.std.specs.Prelude.{◌≡◌, ◌⊎◌, ◌&&◌, ℕ, ℤ, Bool, false, pos, negsuc, nat_le, List, length, take, drop}
use Rattle.c_words.specs.declared.reply.PlainReply.{PlainReply}
use Rattle.c_words.specs.declared.step.PlainStep.{PlainStep}
use Rattle.c_states.specs.declared.judge.Unjudged.{Unjudged}
use Rattle.c_states.specs.declared.layout.PlainLayout.{PlainLayout}
use Rattle.c_states.specs.declared.layout.PlainRegion.{PlainRegion}
use Rattle.c_states.specs.declared.state.PlainState.{PlainState}
use Rattle.c_states.specs.Judged.{IsStatePredicted, IsUnpredicted}
use Rattle.c_states.specs.States.{Lists}
use Rattle.c_states.specs.Views.{lists_from_c}
use Rattle.pkvm_oracle.specs.declared.judged.PlainRefused.{PlainRefused}
use Rattle.pkvm_oracle.specs.declared.predicted.PlainRoom.{PlainRoom}
use Rattle.pkvm_oracle.specs.declared.predicted.PlainSizes.{PlainSizes}
use Rattle.pkvm_oracle.specs.Refusals.{of_fault, refused_by, status_by}

-- how many members lists have
abbrev pub sizes_of : Lists → PlainSizes
sizes_of p = record {
  runs = length p.runs;
  tables = length p.tables;
  frames = length p.frames;
  slots = length p.slots;
  loads = length p.loads;
  guests = length p.guests;
  cpus = length p.cpus;
  rows = length p.rows;
}

-- and how many have room
abbrev pub room_of : PlainRoom → PlainSizes
room_of r = record {
  runs = length r.runs.now;
  tables = length r.tables.now;
  frames = length r.frames.now;
  slots = length r.slots.now;
  loads = length r.loads.now;
  guests = length r.guests.now;
  cpus = length r.cpus.now;
  rows = length r.rows.now;
}

abbrev pub no_sizes : PlainSizes
no_sizes =
    record {
      runs = 0;
      tables = 0;
      frames = 0;
      slots = 0;
      loads = 0;
      guests = 0;
      cpus = 0;
      rows = 0;
    }

-- each list has room
abbrev pub fits : PlainSizes → PlainSizes → Bool
fits s r =
    nat_le s.runs r.runs && nat_le s.tables r.tables
    && (nat_le s.frames r.frames && nat_le s.rows r.rows)
    && (nat_le s.slots r.slots && nat_le s.loads r.loads
    && (nat_le s.guests r.guests && nat_le s.cpus r.cpus))

-- the members are the front, and all after them stays
pub record IsPut {X : Type 0} (members old new : List X) : Type 0 where
  pub front : take (length members) new ≡ members
  pub behind : drop (length members) new ≡ drop (length members) old

-- the lists are put into the fronts of the rooms
pub record ArePut (p : Lists) (old new : PlainRoom) : Type 0 where
  pub runs : IsPut p.runs old.runs.now new.runs.now
  pub tables : IsPut p.tables old.tables.now new.tables.now
  pub frames : IsPut p.frames old.frames.now new.frames.now
  pub slots : IsPut p.slots old.slots.now new.slots.now
  pub loads : IsPut p.loads old.loads.now new.loads.now
  pub guests : IsPut p.guests old.guests.now new.guests.now
  pub cpus : IsPut p.cpus old.cpus.now new.cpus.now
  pub rows : IsPut p.rows old.rows.now new.rows.now

-- the rooms lie where they did
pub record AreInPlace (old new : PlainRoom) : Type 0 where
  pub runs_at : new.runs.ref_ptr ≡ old.runs.ref_ptr
  pub tables_at : new.tables.ref_ptr ≡ old.tables.ref_ptr
  pub frames_at : new.frames.ref_ptr ≡ old.frames.ref_ptr
  pub slots_at : new.slots.ref_ptr ≡ old.slots.ref_ptr
  pub loads_at : new.loads.ref_ptr ≡ old.loads.ref_ptr
  pub guests_at : new.guests.ref_ptr ≡ old.guests.ref_ptr
  pub cpus_at : new.cpus.ref_ptr ≡ old.cpus.ref_ptr
  pub rows_at : new.rows.ref_ptr ≡ old.rows.ref_ptr

-- the lists are written, each into its room, and the rooms lie where they did
pub record AreWritten (p : Lists) (old new : PlainRoom) : Type 0 where
  pub lists : ArePut p old new
  pub rooms : AreInPlace old new

module _ (layout : PlainLayout) (regions : List PlainRegion) (before : Lists) (cpu : ℕ)
    (step : PlainStep) where
  -- the reply and the state after it are written
  pub record ReportsState (new : PlainReply) (old_room new_room : PlainRoom) (sizes : PlainSizes)
      (refused : PlainRefused) (status : ℤ) : Type 0 where
    pub after : Lists
    pub predicted : IsStatePredicted layout regions before cpu step new after
    pub written : AreWritten after old_room new_room
    pub sizes_are : sizes ≡ sizes_of after
    pub status_is : status ≡ pos 0
    pub refused_is : refused ≡ of_fault 0

  -- a list of the state after it has no room, and nothing is written
  pub record HasNoRoom (old new : PlainReply) (old_room new_room : PlainRoom) (sizes : PlainSizes)
      (refused : PlainRefused) (status : ℤ) : Type 0 where
    pub told : PlainReply
    pub after : Lists
    pub predicted : IsStatePredicted layout regions before cpu step told after
    pub sizes_are : sizes ≡ sizes_of after
    pub no_room : fits sizes (room_of old_room) ≡ false
    pub reply : new ≡ old
    pub room : new_room ≡ old_room
    pub status_is : status ≡ negsuc 1
    pub refused_is : refused ≡ of_fault 0

  -- there is none, and nothing is written
  pub record HasNoState (old new : PlainReply) (old_room new_room : PlainRoom) (sizes : PlainSizes)
      (refused : PlainRefused) (status : ℤ) : Type 0 where
    pub why : Unjudged
    pub unpredicted : IsUnpredicted layout regions before cpu step why
    pub sizes_are : sizes ≡ no_sizes
    pub reply : new ≡ old
    pub room : new_room ≡ old_room
    pub status_is : status ≡ status_by why
    pub refused_is : refused ≡ refused_by why

  -- one of these
  abbrev pub IsPredictedState : PlainReply → PlainReply → PlainRoom → PlainRoom → PlainSizes
      → PlainRefused → ℤ → Type 0
  IsPredictedState old new old_room new_room sizes refused status =
      ReportsState new old_room new_room sizes refused status
      ⊎ (HasNoRoom old new old_room new_room sizes refused status
      ⊎ HasNoState old new old_room new_room sizes refused status)

-- the prediction of a call, by the lists of its layout and of the state before it
abbrev pub IsCallPredicted : PlainLayout → PlainState → ℕ → PlainStep → PlainReply → PlainReply
    → PlainRoom → PlainRoom → PlainSizes → PlainRefused → ℤ → Type 0
IsCallPredicted layout before cpu step =
    IsPredictedState layout layout.regions.now (lists_from_c before) cpu step
