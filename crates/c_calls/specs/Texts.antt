-- Text that is offered to a room: it is written if there is room for all of it.
use Rattle.std.specs.Prelude.{◌≡◌, ◌<◌, ◌≤◌, ℕ, List, drop, length, take}

-- this number is the text's length; if that fits, the text is the front of the room and all after
-- it stays, and else all stays
pub record IsOffered (told old new : List ℕ) (count : ℕ) : Type 0 where
  pub count_is : count ≡ length told
  pub written : count ≤ length old → take count new ≡ told
  pub behind : count ≤ length old → drop count new ≡ drop count old
  pub no_room : length old < count → new ≡ old
