-- The findings (what isn't sound), in the order of the report.
use Rattle.std.specs.Prelude.{ℕ, zero, suc, ◌-◌, ◌==◌, ◌&&◌, ◌||◌, not, nat_lt, nat_le, Bool, List, [], ◌++◌, take, slice_get, Option, Some, None, if◌then◌else◌}
use Rattle.std.specs.List.{filter_map}
use Rattle.run_list.specs.declared.run.Run.{Run}
use Rattle.table_words.specs.declared.word.Decoded.{Decoded}
use Rattle.table_words.specs.declared.word.Decoded.TheVariants as word
use Rattle.walked_tables.specs.declared.reached.Reached.{Reached}
use Rattle.walked_tables.specs.declared.said.Said.{Said}
use Rattle.image_findings.specs.Claims.{borrows, claim_of, owns}
use Rattle.image_findings.specs.declared.claim.Claim.{Claim}
use Rattle.image_findings.specs.declared.finding.Finding.{Finding}
use Rattle.image_findings.specs.declared.finding.Finding.TheVariants.{Malformed, NoTable, Denied, TwoOwners, TwoBorrowers, MappedTable, MetTwice}

-- a word that says nothing, or names a table that isn't there
abbrev pub bad_by : ℕ → (page count : ℕ) → Decoded → Option Finding
bad_by tree page count word.Malformed = Some (Malformed tree page count)
bad_by tree page count (word.Table frame) = Some (NoTable tree page count frame.0)
bad_by tree page count other = None

abbrev pub bad_word : ℕ → Run Said → Option Finding
bad_word tree run = bad_by tree run.pages.first.0 run.pages.count run.value.0

-- a frame of a run is denied
abbrev pub denied_by : Option ℕ → Option Claim → Option Finding
denied_by (Some frame) (Some claim) = Some (Denied frame claim)
denied_by frame claim = None

abbrev pub denial_of : ℕ → Run Said → Option ℕ → Option Finding
denial_of tree run frame = denied_by frame (claim_of tree run)

-- the first frame of both
abbrev pub common_frame : Claim → Claim → Option ℕ
common_frame a b =
    if nat_lt a.frame b.frame
    then (if nat_lt (b.frame - a.frame) a.count then Some b.frame else None)
    else (if nat_lt (a.frame - b.frame) b.count then Some a.frame else None)

-- the claims of a tree that the host names as the owner, and that maps the frames itself
abbrev pub are_apart : Claim → Claim → Bool
are_apart a b = a.tree == b.tree && (a.named || b.named)

-- a frame that both own or both borrow
abbrev pub clash_at : Claim → Claim → Option ℕ → Option Finding
clash_at second first None = None
clash_at second first (Some frame) =
    if (owns first && owns second)
    && not (are_apart first second) then Some (TwoOwners frame first second)
    else (if borrows first && borrows second then Some (TwoBorrowers frame first second) else None)

abbrev pub clash_of : Claim → Claim → Option Finding
clash_of second first = clash_at second first (common_frame first second)

-- what an element gives, if there is one
abbrev pub given_by : {X : Type 0} → (X → List Finding) → Option X → List Finding
given_by f None = []
given_by f (Some x) = f x

-- the clashes of the first `n` claims, each with those before it
unfoldable pub clashes_of : List Claim → ℕ → List Finding
clashes_of claims zero = []
clashes_of claims (suc n) =
    clashes_of claims n
    ++ given_by (λ claim. filter_map (clash_of claim) (take n claims)) (slice_get claims n)

-- a claim has a frame
abbrev pub has_frame : Claim → ℕ → Bool
has_frame c frame = nat_le c.frame frame && nat_lt (frame - c.frame) c.count

-- the host or a guest maps a table; the hypervisor, tree 1, may
abbrev pub mapped_of : Reached → Claim → Option Finding
mapped_of table claim =
    if (claim.named || claim.tree == 1) || not (has_frame claim table.frame) then None
    else Some (MappedTable table claim)

-- those of the first `n` tables
unfoldable pub mapped_in : List Claim → List Reached → ℕ → List Finding
mapped_in claims tables zero = []
mapped_in claims tables (suc n) =
    mapped_in claims tables n
    ++ given_by (λ table. filter_map (mapped_of table) claims) (slice_get tables n)

-- two tables have one frame
abbrev pub met_of : Reached → Reached → Option Finding
met_of second first = if first.frame == second.frame then Some (MetTwice first second) else None

-- of the first `n` tables, each with those before it
unfoldable pub met_in : List Reached → ℕ → List Finding
met_in tables zero = []
met_in tables (suc n) =
    met_in tables n
    ++ given_by (λ table. filter_map (met_of table) (take n tables)) (slice_get tables n)
