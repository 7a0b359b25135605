-- The dump of an image.
use Rattle.std.specs.Prelude.{◌≡◌, ℕ, ◌+◌, ◌^◌, ◌≤◌, ◌<◌, ◌==◌, Bool, List, [], ◌∷◌, ◌++◌, length, map, Option, Result, Ok, Err, if◌then◌else◌}
use Rattle.std.specs.List.{list_all, flat_map}
use Rattle.std.specs.Option.{is_some}
use Rattle.std.specs.Io.KnownBytes.{Appends}
use Rattle.memory_image.specs.declared.segment.Segment.{Segment}
use Rattle.run_list.specs.declared.run.Run.{Run}
use Rattle.walked_tables.specs.ByFrames.{most_pages}
use Rattle.walked_tables.specs.declared.reached.Reached.{Reached}
use Rattle.walked_tables.specs.declared.said.Said.{Said}
use Rattle.image_trees.specs.Trees.{IsTreeOf}
use Rattle.image_trees.specs.declared.records.Records.{Records}
use Rattle.image_dump.specs.Stating.{hyp_root, reported_root, AreDenied, AreRecords, AreReported}
use Rattle.image_trees.specs.Unwalked.{IsFailed, IsUnwalked}
use Rattle.image_trees.specs.declared.root.Root.{Root}
use Rattle.image_trees.specs.declared.root.Unwalked.{Unwalked}
use Rattle.image_findings.specs.declared.finding.Finding.{Finding}
use Rattle.image_dump.specs.Collecting.{claims_of, findings_by, lines_of, runs_of, tables_of, words_of, Found, Grows}
use Rattle.image_dump.specs.Pictures.{picture_of}
use Rattle.image_dump.specs.Texts.{text_of_line}
use Rattle.image_dump.specs.declared.collect.Collected.{Collected}
use Rattle.image_dump.specs.declared.dump.Dumped.{Dumped}
use Rattle.image_dump.specs.declared.dump.Dumped.TheVariants.{Sound, Unsound}
use Rattle.image_dump.specs.declared.dump.NotDumped.{NotDumped}
use Rattle.image_dump.specs.declared.dump.NotDumped.TheVariants.{Refused, Unwritten}
use Rattle.image_dump.specs.declared.dump.Shape.{Shape}
use Rattle.image_dump.specs.declared.dump.Shape.TheVariants.{Lines, Picture}
use Rattle.image_dump.specs.declared.line.DumpLine.{DumpLine}
use Rattle.image_dump.specs.declared.line.DumpLine.TheVariants as line
use Rattle.image_dump.specs.declared.skip.Skip.{Skip}

-- a root that can be walked
pub record IsRoot (root : Root) : Type 0 where
  pub depth : root.depth ≤ 4
  pub few : root.count ≤ most_pages root.depth
  pub frames : root.frame + root.count < 2 ^ 64

-- words of a root's tree say states, or records do
abbrev pub gives_states : Bool → Root → Bool
gives_states has_records root = (reported_root has_records root).profile.has_states

-- lines, each with its end
unfoldable pub text_of_lines : List DumpLine → List ℕ
text_of_lines [] = []
text_of_lines (l ∷ ls) = (text_of_line l ++ 10 ∷ []) ++ text_of_lines ls

-- and in a shape
abbrev pub text_by : Shape → List DumpLine → List ℕ
text_by Lines ls = text_of_lines ls
text_by Picture ls = picture_of ls

-- the walk found the tree in the image, with the states that records say, or it isn't walked for
-- that reason
abbrev pub IsWalkOf : Option (List ℕ)
    → (ℕ → ℕ → Type 0)
    → List Segment
    → Option Records
    → Root
    → Result (List (Run Said) × List Reached) Unwalked
    → Type 0
IsWalkOf known may_fail segments records root (Ok w) =
    (walked : List (Run Said))
    × IsTreeOf known segments root walked w.1
    × AreReported known segments records root walked w.0
IsWalkOf known may_fail segments records root (Err why) =
    IsUnwalked known may_fail segments root why

-- the result of a walk from a root, which the report gives as having states if records say them,
-- and what they deny of it
pub record IsFoundIn (known : Option (List ℕ)) (may_fail : ℕ → ℕ → Type 0)
    (segments : List Segment) (records : Option Records) (skips : List Skip) (root : Root)
    (f : Found) : Type 0 where
  pub root_is : f.root ≡ reported_root (is_some records) root
  pub walk : IsWalkOf known may_fail segments records root f.walked
  pub denied : AreDenied known segments records root (runs_of skips f) f.denied

-- 1 for a tree that isn't walked
abbrev pub fault_count : {X Y : Type 0} → Result X Y → ℕ
fault_count (Ok x) = 0
fault_count (Err y) = 1

abbrev pub faults_in : List Found → ℕ
faults_in [] = 0
faults_in (f ∷ fs) = fault_count f.walked + faults_in fs

-- the result of the walk from each root, in order
abbrev pub AreFoundIn : Option (List ℕ)
    → (ℕ → ℕ → Type 0)
    → List Segment
    → Option Records
    → List Skip
    → List Root
    → List Found
    → Type 0
AreFoundIn known may_fail segments records skips [] [] = Unit {0}
AreFoundIn known may_fail segments records skips (root ∷ roots) (f ∷ fs) =
    IsFoundIn known may_fail segments records skips root f
    × AreFoundIn known may_fail segments records skips roots fs
AreFoundIn known may_fail segments records skips roots trees = ⊥

-- a root was added, with a line of its own if it isn't walked
pub record IsAdded (known : Option (List ℕ)) (may_fail : ℕ → ℕ → Type 0) (segments : List Segment)
    (records : Option Records) (root : Root) (skips : List Skip) (before after : Collected)
    (faults : ℕ) : Type 0 where
  pub found : Found
  pub found_in : IsFoundIn known may_fail segments records skips root found
  pub grows : Grows skips found before after
  pub faults_are : faults ≡ fault_count found.walked

-- roots were added
pub record AreCollected (known : Option (List ℕ)) (may_fail : ℕ → ℕ → Type 0)
    (segments : List Segment) (records : Option Records) (roots : List Root) (skips : List Skip)
    (before after : Collected) (faults : ℕ) : Type 0 where
  pub trees : List Found
  pub each : AreFoundIn known may_fail segments records skips roots trees
  pub lines_are : after.lines.items ≡ before.lines.items ++ flat_map (lines_of skips) trees
  pub words_are : after.words.items ≡ before.words.items ++ flat_map (words_of skips) trees
  pub claims_are : after.claims.items ≡ before.claims.items ++ flat_map (claims_of skips) trees
  pub tables_are : after.tables.items ≡ before.tables.items ++ flat_map tables_of trees
  pub faults_are : faults ≡ faults_in trees

-- what isn't sound in trees
abbrev pub findings_of : Bool → List Skip → List Root → List Found → List Finding
findings_of has_records skips roots trees =
    flat_map (words_of skips) trees
    ++ findings_by (list_all (gives_states has_records) roots)
    (flat_map (claims_of skips) trees) (flat_map tables_of trees)

-- the lines of the report
abbrev pub report_of : Bool → List Skip → List Root → List Found → List DumpLine
report_of has_records skips roots trees =
    let findings = findings_of has_records skips roots trees in
    (flat_map (lines_of skips) trees ++ map (λ finding. line.Finding finding) findings)
    ++ line.End (length roots) (faults_in trees + length findings) ∷ []

-- sound if nothing is named
abbrev pub outcome_of : ℕ → Dumped
outcome_of faults = if faults == 0 then Sound else Unsound

-- the report of the trees in the image was written
pub record IsDumped (known : Option (List ℕ)) (may_fail : ℕ → ℕ → Type 0) (segments : List Segment)
    (roots : List Root) (vmemmap : Option ℕ) (skips : List Skip) (shape : Shape)
    (before after : Option (List ℕ)) (outcome : Dumped) : Type 0 where
  pub records : Option Records
  pub records_are : AreRecords known may_fail segments (hyp_root roots) vmemmap records
  pub trees : List Found
  pub each : AreFoundIn known may_fail segments records skips roots trees
  pub written : Appends before after
      (text_by shape (report_of (is_some records) skips roots trees))
  pub outcome_is : outcome
      ≡ outcome_of (faults_in trees + length (findings_of (is_some records) skips roots trees))

-- there is no report: the image could not be read, the report not written, or memory was refused
abbrev pub IsFault : (ℕ → ℕ → Type 0) → NotDumped → Type 0
IsFault may_fail (Refused refused) = IsFailed may_fail refused
IsFault may_fail Unwritten = Unit {0}
