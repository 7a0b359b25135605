-- What trees come to: lines, and what isn't sound.
use Rattle.std.specs.Prelude.{◌≡◌, Bool, List, [], ◌∷◌, ◌++◌, length, map, Result, Ok, Err, if◌then◌else◌}
use Rattle.std.specs.List.{filter, filter_map}
use Rattle.run_list.specs.declared.run.Run.{Run}
use Rattle.walked_tables.specs.declared.reached.Reached.{Reached}
use Rattle.walked_tables.specs.declared.said.Said.{Said}
use Rattle.image_trees.specs.declared.root.Root.{Root}
use Rattle.image_trees.specs.declared.root.Tree.{Tree}
use Rattle.image_trees.specs.declared.root.Unwalked.{Unwalked}
use Rattle.image_findings.specs.Claims.{claim_of}
use Rattle.image_findings.specs.Findings.{bad_word, clashes_of, mapped_in, met_in}
use Rattle.image_findings.specs.Unborrowed.{unborrowed_of, unshared_of}
use Rattle.image_findings.specs.declared.claim.Claim.{Claim}
use Rattle.image_findings.specs.declared.finding.Finding.{Finding}
use Rattle.image_dump.specs.Skips.{is_left}
use Rattle.image_dump.specs.declared.collect.Collected.{Collected}
use Rattle.image_dump.specs.declared.line.DumpLine.{DumpLine}
use Rattle.image_dump.specs.declared.line.DumpLine.TheVariants as line
use Rattle.image_dump.specs.declared.skip.Skip.{Skip}

-- a root, the result of its walk: runs and tables, or why it wasn't walked; and which of its frames
-- records deny
pub record Found : Type 0 where
  pub root : Root
  pub walked : Result (List (Run Said) × List Reached) Unwalked
  pub denied : List Finding

abbrev pub found_of : Root → Tree → List Finding → Found
found_of root tree denied =
    record { root = root; walked = Ok (tree.runs.items, tree.tables.items); denied = denied }

-- the runs of the report
abbrev pub runs_of : List Skip → Found → List (Run Said)
runs_of skips f = elim f.walked [ Ok w ↦ filter (is_left skips f.root.tree) w.0 | Err why ↦ [] ]

abbrev pub tables_of : Found → List Reached
tables_of f = elim f.walked [ Ok w ↦ w.1 | Err why ↦ [] ]

-- the lines of a tree
abbrev pub lines_by : List Skip
    → Root
    → Result (List (Run Said) × List Reached) Unwalked
    → List DumpLine
lines_by skips root (Ok w) =
    line.Tree root (length w.1) ∷ map (λ run. line.Run run) (filter (is_left skips root.tree) w.0)
lines_by skips root (Err why) = line.Unwalked root.tree why ∷ []

abbrev pub lines_of : List Skip → Found → List DumpLine
lines_of skips f = lines_by skips f.root f.walked

-- its words that say nothing, or name tables that aren't there, and its leaves that records deny
abbrev pub words_of : List Skip → Found → List Finding
words_of skips f = filter_map (bad_word f.root.tree) (runs_of skips f) ++ f.denied

abbrev pub claims_of : List Skip → Found → List Claim
claims_of skips f = filter_map (claim_of f.root.tree) (runs_of skips f)

-- a tree was added
pub record Grows (skips : List Skip) (f : Found) (before after : Collected) : Type 0 where
  pub lines_are : after.lines.items ≡ before.lines.items ++ lines_of skips f
  pub words_are : after.words.items ≡ before.words.items ++ words_of skips f
  pub claims_are : after.claims.items ≡ before.claims.items ++ claims_of skips f
  pub tables_are : after.tables.items ≡ before.tables.items ++ tables_of f

-- shares of which one side is missing
abbrev pub halves_of : List Claim → List Finding
halves_of claims =
    filter_map (unborrowed_of claims) claims ++ filter_map (unshared_of claims) claims

-- what isn't sound by claims and tables; shares need both sides if all words say states
abbrev pub findings_by : Bool → List Claim → List Reached → List Finding
findings_by states claims tables =
    ((clashes_of claims (length claims)
    ++ (if states then halves_of claims else []))
    ++ mapped_in claims tables (length tables))
    ++ met_in tables (length tables)
