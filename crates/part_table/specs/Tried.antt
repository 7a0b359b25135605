-- The parts that a call tries, and how each was found.
use Rattle.std.specs.Prelude.{◌≡◌, ◌≢◌, ◌⊎◌, ℕ, List, [], ◌∷◌, ◌++◌, Option, Some, None}
use Rattle.call_table.specs.declared.reply.Call.{Call}
use Rattle.part_types.specs.Logs.{StoredCalls}
use Rattle.part_table.specs.Known.{Known, StartsWith, Try, seen_at}

-- the part was taken, with room in its log
abbrev pub FoundRoom : Option StoredCalls → Type 0
FoundRoom x = (log : StoredCalls) × (x ≡ Some log) × (log.room ≢ 0)

-- it was taken, and its log is full
abbrev pub FoundFull : Option StoredCalls → Type 0
FoundFull x = (log : StoredCalls) × (x ≡ Some log) × (log.room ≡ 0)

-- another pass had it
abbrev pub FoundAway : Option StoredCalls → Type 0
FoundAway x = x ≡ None

-- The parts were tried in this order, each once at most, and no other. The last try is one like
-- this, and at each before it the part was taken with room in its log
abbrev pub EndsIn : (Option StoredCalls → Type 0) → List ℕ → List Try → Type 0
EndsIn Last [] ts = ⊥
EndsIn Last (k ∷ ks) ts =
    (x : Option StoredCalls)
    × (rest : List Try)
    × (ts ≡ (k, x) ∷ rest)
    × ((Last x × (rest ≡ [])) ⊎ (FoundRoom x × EndsIn Last ks rest))

-- Each part was taken once, in this order, with room in its log, which began with what the pass had
-- seen. It has then seen this log with the call
abbrev pub AllTaken : Call → Known → Known → List ℕ → List Try → Type 0
AllTaken c v w [] ts = ts ≡ []
AllTaken c v w (k ∷ ks) ts =
    (log : StoredCalls)
    × (rest : List Try)
    × (ts ≡ (k, Some log) ∷ rest)
    × (log.room ≢ 0)
    × StartsWith log.calls (seen_at v.seen k)
    × (seen_at w.seen k ≡ log.calls ++ c ∷ [])
    × AllTaken c v w ks rest
