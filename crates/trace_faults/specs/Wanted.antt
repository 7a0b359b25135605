-- What was expected of lines, in words (profile).
use Rattle.std.specs.Prelude.{ℕ, Bool, not, ◌||◌, List, codes, if◌then◌else◌}
use Rattle.std.specs.Str.{bytes_eq}
use Rattle.trace_lines.specs.Asked.{begins_with_digit}

-- the place of the word that is unknown or missing, by the first word of a line that asks for
-- nothing
abbrev pub unknown_place : List ℕ → ℕ
unknown_place first =
    if begins_with_digit first || bytes_eq first (codes "word") || bytes_eq first (codes "free")
    || bytes_eq first (codes "show") || bytes_eq first (codes "poke") then 1
    else 0

-- and the form that was expected there
abbrev pub unknown_wanted : List ℕ → List ℕ
unknown_wanted first =
    if begins_with_digit first then codes "a call"
    else (if bytes_eq first (codes "free") then codes "shared or guest"
    else (if bytes_eq first (codes "word") || bytes_eq first (codes "show")
    || bytes_eq first (codes "poke") then codes "host, hyp or guest"
    else codes "a setting, boot, start, a query or a CPU"))

-- whether a word begins a setting
abbrev pub is_header : List ℕ → Bool
is_header first =
    bytes_eq first (codes "geometry") || bytes_eq first (codes "cpus")
    || bytes_eq first (codes "log")
    || bytes_eq first (codes "memory") || bytes_eq first (codes "device")
    || bytes_eq first (codes "carve")

-- the expected place of a line that may not be where it is; `booted`: a line before it is `boot`
abbrev pub place_wanted : List ℕ → Bool → List ℕ
place_wanted first booted =
    if is_header first
    then (if booted then codes "settings before boot" else codes "each setting once")
    else (if bytes_eq first (codes "boot")
    then (if booted then codes "one boot" else codes "carve before boot")
    else (if not booted then codes "boot before it"
    else (if bytes_eq first (codes "start") then codes "one start"
    else (if bytes_eq first (codes "poke") then codes "no poke but under audit"
    else codes "pokes alone after a poke, and no query under race"))))
