-- The lists of a plain state.
use Rattle.c_states.specs.declared.state.PlainState.{PlainState}
use Rattle.c_states.specs.States.{Lists}

abbrev pub lists_from_c : PlainState → Lists
lists_from_c s =
    record {
      runs = s.runs.now;
      tables = s.tables.now;
      frames = s.frames.now;
      slots = s.slots.now;
      loads = s.loads.now;
      guests = s.guests.now;
      cpus = s.cpus.now;
      rows = s.rows.now;
    }
