-- States that records of frames say, for trees whose words say none.
use Rattle.std.specs.Prelude.{◌≡◌, ◌⊎◌, ℕ, ◌^◌, ◌≤◌, ◌==◌, ◌&&◌, nat_lt, not, Bool, true, false, find, Option, Some, None, if◌then◌else◌, List, []}
use Rattle.std.specs.List.{filter_map}
use Rattle.std.specs.Option.{ForSome}
use Rattle.image_findings.specs.Findings.{denial_of}
use Rattle.image_findings.specs.declared.finding.Finding.{Finding}
use Rattle.memory_image.specs.declared.segment.Segment.{Segment}
use Rattle.run_list.specs.declared.run.Run.{Run}
use Rattle.walked_tables.specs.declared.reached.Reached.{Reached}
use Rattle.walked_tables.specs.declared.said.Said.{Said}
use Rattle.image_trees.specs.Records.{denied_in, records_in, IsStated}
use Rattle.image_trees.specs.Trees.{IsTreeOf}
use Rattle.image_trees.specs.Unwalked.{IsUnwalked}
use Rattle.image_trees.specs.declared.records.Records.{Records}
use Rattle.image_trees.specs.declared.root.Root.{Root}
use Rattle.image_trees.specs.declared.root.Unwalked.{Unwalked}

-- records say the states of a tree: of the host's (0) and the hypervisor's (1), if its words say
-- none
abbrev pub is_stated : Bool → Root → Bool
is_stated has_records root = (has_records && not root.profile.has_states) && nat_lt root.tree 2

-- a root as the report has it
abbrev pub reported_root : Bool → Root → Root
reported_root has_records root =
    if is_stated has_records root
    then record root { profile = record root.profile { has_states = true } }
    else root

-- the runs of the report, of those that were walked
abbrev pub AreReported : Option (List ℕ)
    → List Segment
    → Option Records
    → Root
    → (walked runs : List (Run Said))
    → Type 0
AreReported known segments None root walked runs = runs ≡ walked
AreReported known segments (Some records) root walked runs =
    (is_stated true root ≡ true → IsStated known segments records root.tree walked runs)
    × (is_stated true root ≡ false → runs ≡ walked)

-- the finding that a frame of a run is denied by its record
abbrev pub denial_by : (ℕ → Option ℕ) → ℕ → Run Said → Option Finding
denial_by record_of tree run = denial_of tree run (denied_in record_of tree run)

-- those of the runs of the report
abbrev pub AreDenied : Option (List ℕ)
    → List Segment
    → Option Records
    → Root
    → List (Run Said)
    → List Finding
    → Type 0
AreDenied known segments None root runs found = found ≡ []
AreDenied known segments (Some records) root runs found =
    (is_stated true root ≡ true
    → ForSome known
    (λ all. found ≡ filter_map (denial_by (records_in all segments records) root.tree) runs))
    × (is_stated true root ≡ false → found ≡ [])

-- the hypervisor's root
abbrev pub hyp_root : List Root → Option Root
hyp_root roots = find (λ r. r.tree == 1) roots

-- there are no records: no page was given, or none below 2^52, or the hypervisor's tree isn't
-- walked
abbrev pub HasNoRecords : Option (List ℕ)
    → (ℕ → ℕ → Type 0)
    → List Segment
    → Option Root
    → Option ℕ
    → Type 0
HasNoRecords known may_fail segments hyp None = Unit {0}
HasNoRecords known may_fail segments None (Some first) = Unit {0}
HasNoRecords known may_fail segments (Some root) (Some first) =
    (2 ^ 52 ≤ first) ⊎ ((why : Unwalked) × IsUnwalked known may_fail segments root why)

-- records by what the hypervisor's pages have, from the page on that was given
pub record AreRecordsBy (known : Option (List ℕ)) (segments : List Segment) (hyp : Option Root)
    (vmemmap : Option ℕ) (records : Records) : Type 0 where
  pub root : Root
  pub root_is : hyp ≡ Some root
  pub first_is : vmemmap ≡ Some records.first
  pub tables : List Reached
  pub tree : IsTreeOf known segments root records.hyp.items tables

abbrev pub AreRecords : Option (List ℕ)
    → (ℕ → ℕ → Type 0)
    → List Segment
    → Option Root
    → Option ℕ
    → Option Records
    → Type 0
AreRecords known may_fail segments hyp vmemmap None =
    HasNoRecords known may_fail segments hyp vmemmap
AreRecords known may_fail segments hyp vmemmap (Some records) =
    AreRecordsBy known segments hyp vmemmap records
