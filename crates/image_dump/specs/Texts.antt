-- How lines are written: pages, frames and counts of pages in hexadecimal, all else in decimal.
use Rattle.std.specs.Prelude.{ℕ, ◌-◌, ◌==◌, nat_lt, Bool, true, false, List, ◌++◌, codes, Option, Some, None, if◌then◌else◌}
use Rattle.std.specs.Fmt.{decimal}
use Rattle.descriptor.specs.declared.State.{State}
use Rattle.descriptor.specs.declared.State.TheVariants.{Owned, SharedOwned, SharedBorrowed}
use Rattle.page_state.specs.Texts.{text_of_page}
use Rattle.run_list.specs.declared.run.Run.{Run}
use Rattle.table_words.specs.declared.word.Access.{Access}
use Rattle.table_words.specs.declared.word.Access.TheVariants.{Neither, ReadOnly, WriteOnly, ReadWrite}
use Rattle.table_words.specs.declared.word.Execute.{Execute}
use Rattle.table_words.specs.declared.word.Execute.TheVariants.{Nobody, Everybody, UnprivilegedAlone, PrivilegedAlone}
use Rattle.table_words.specs.declared.word.Memory.{Memory}
use Rattle.table_words.specs.declared.word.Memory.TheVariants.{WriteBack, Uncached, FromStage1, Registers}
use Rattle.table_words.specs.declared.word.Mapping.{Mapping}
use Rattle.table_words.specs.declared.word.Decoded.{Decoded}
use Rattle.table_words.specs.declared.word.Decoded.TheVariants as word
use Rattle.walked_tables.specs.declared.reached.Reached.{Reached}
use Rattle.walked_tables.specs.declared.said.Said.{Said}
use Rattle.image_trees.specs.declared.root.Root.{Root}
use Rattle.image_trees.specs.declared.root.Unwalked.{Unwalked}
use Rattle.image_trees.specs.declared.root.Unwalked.TheVariants.{Rootless, Again, TooManyTables, Failed}
use Rattle.image_findings.specs.declared.claim.Claim.{Claim}
use Rattle.image_findings.specs.declared.finding.Finding.{Finding}
use Rattle.image_findings.specs.declared.finding.Finding.TheVariants.{Malformed, NoTable, TwoOwners, TwoBorrowers, NoBorrower, Unshared, Denied, MappedTable, MetTwice}
use Rattle.image_dump.specs.declared.line.DumpLine.{DumpLine}
use Rattle.image_dump.specs.declared.line.DumpLine.TheVariants as line

abbrev pub text_of_tree : ℕ → List ℕ
text_of_tree tree =
    if tree == 0 then codes "host"
    else (if tree == 1 then codes "hyp" else codes "guest " ++ decimal (tree - 2))

abbrev pub text_of_access : Access → List ℕ
text_of_access Neither = codes "--"
text_of_access ReadOnly = codes "r-"
text_of_access WriteOnly = codes "-w"
text_of_access ReadWrite = codes "rw"

abbrev pub text_of_execute : Execute → List ℕ
text_of_execute Nobody = codes "-"
text_of_execute Everybody = codes "x"
text_of_execute UnprivilegedAlone = codes "x(el0)"
text_of_execute PrivilegedAlone = codes "x(el1)"

abbrev pub text_of_memory : Memory → List ℕ
text_of_memory WriteBack = codes "normal"
text_of_memory Uncached = codes "uncached"
text_of_memory FromStage1 = codes "as-stage-1"
text_of_memory Registers = codes "device"

-- the state, if words say one
abbrev pub text_of_state : Option State → List ℕ
text_of_state (Some Owned) = codes " owned"
text_of_state (Some SharedOwned) = codes " shared"
text_of_state (Some SharedBorrowed) = codes " borrowed"
text_of_state None = codes ""

abbrev pub text_of_marks : Bool → Bool → List ℕ
text_of_marks false false = codes ""
text_of_marks true false = codes " guarded"
text_of_marks false true = codes " aged"
text_of_marks true true = codes " guarded aged"

abbrev pub text_of_rest : Mapping → List ℕ
text_of_rest m = text_of_state m.state ++ text_of_marks m.guarded m.aged

abbrev pub text_of_leaf : Mapping → List ℕ
text_of_leaf m =
    text_of_access m.access ++ text_of_execute m.execute ++ codes " " ++ text_of_memory m.memory
    ++ text_of_rest m

-- what pages have
abbrev pub text_of_value : Decoded → List ℕ
text_of_value word.Malformed = codes "malformed"
text_of_value word.Unmapped = codes "unmapped"
text_of_value (word.Annotated owner None) = codes "owner " ++ decimal owner.0
text_of_value (word.Annotated owner (Some guest)) =
    codes "owner guest handle " ++ text_of_page guest.handle ++ codes " page "
    ++ text_of_page guest.gfn
text_of_value word.Poisoned = codes "poisoned"
text_of_value word.Locked = codes "locked"
text_of_value (word.Cleared m) =
    codes "cleared " ++ text_of_page m.frame.0 ++ codes " " ++ text_of_leaf m
text_of_value (word.Leaf m) =
    codes "frame " ++ text_of_page m.frame.0 ++ codes " " ++ text_of_leaf m
text_of_value (word.Table frame) = codes "no-table " ++ text_of_page frame.0

-- the first page of a run, the number of its pages, and their contents
abbrev pub text_of_run : Run Said → List ℕ
text_of_run r =
    text_of_page r.pages.first.0 ++ codes " " ++ text_of_page r.pages.count ++ codes " "
    ++ text_of_value r.value.0

-- who claims a frame, and the page
abbrev pub text_of_claim : Claim → List ℕ
text_of_claim c =
    if c.named then text_of_tree c.tree ++ codes " by host " ++ text_of_page c.page
    else text_of_tree c.tree ++ codes " " ++ text_of_page c.page

-- the level of a table with as many levels below it
abbrev pub text_of_level : ℕ → List ℕ
text_of_level depth = if nat_lt depth 4 then decimal (3 - depth) else codes "-1"

abbrev pub text_of_root : Root → List ℕ
text_of_root r =
    text_of_tree r.tree ++ codes " root " ++ text_of_page r.frame ++ codes " level "
    ++ text_of_level r.depth ++ codes " pages " ++ decimal r.count

-- the level of a table, and its number among those of its level
abbrev pub text_of_place : Reached → List ℕ
text_of_place r = text_of_level r.depth ++ codes ":" ++ text_of_page r.number

abbrev pub text_of_states : Bool → List ℕ
text_of_states true = codes ""
text_of_states false = codes " states unknown"

abbrev pub text_of_why : Unwalked → List ℕ
text_of_why (Rootless frame) = codes "no-root " ++ text_of_page frame
text_of_why (Again first second) =
    codes "table-met-twice " ++ text_of_page second.frame ++ codes " at " ++ text_of_place first
    ++ codes " and " ++ text_of_place second
text_of_why TooManyTables = codes "too-many-tables"
text_of_why (Failed refused) = codes "unreadable"

abbrev pub text_of_finding : Finding → List ℕ
text_of_finding (Malformed tree page count) =
    codes "malformed " ++ text_of_tree tree ++ codes " " ++ text_of_page page ++ codes " "
    ++ text_of_page count
text_of_finding (NoTable tree page count frame) =
    codes "no-table " ++ text_of_tree tree ++ codes " " ++ text_of_page page ++ codes " "
    ++ text_of_page count ++ codes " frame " ++ text_of_page frame
text_of_finding (TwoOwners frame first second) =
    codes "two-owners " ++ text_of_page frame ++ codes " " ++ text_of_claim first ++ codes " and "
    ++ text_of_claim second
text_of_finding (TwoBorrowers frame first second) =
    codes "two-borrowers " ++ text_of_page frame ++ codes " " ++ text_of_claim first
    ++ codes " and " ++ text_of_claim second
text_of_finding (NoBorrower frame claim) =
    codes "no-borrower " ++ text_of_page frame ++ codes " " ++ text_of_claim claim
text_of_finding (Unshared frame claim) =
    codes "unshared " ++ text_of_page frame ++ codes " " ++ text_of_claim claim
text_of_finding (Denied frame claim) =
    codes "denied " ++ text_of_page frame ++ codes " " ++ text_of_claim claim
text_of_finding (MappedTable table claim) =
    codes "mapped-table " ++ text_of_page table.frame ++ codes " of " ++ text_of_tree table.tree
    ++ codes " " ++ text_of_claim claim
text_of_finding (MetTwice first second) =
    codes "table-of-two " ++ text_of_page first.frame ++ codes " " ++ text_of_tree first.tree
    ++ codes " and " ++ text_of_tree second.tree

abbrev pub text_of_line : DumpLine → List ℕ
text_of_line (line.Tree root tables) =
    codes "tree " ++ text_of_root root ++ codes " tables " ++ decimal tables
    ++ text_of_states root.profile.has_states
text_of_line (line.Run run) = text_of_run run
text_of_line (line.Unwalked tree why) =
    codes "finding " ++ text_of_tree tree ++ codes " " ++ text_of_why why
text_of_line (line.Finding finding) = codes "finding " ++ text_of_finding finding
text_of_line (line.End trees findings) =
    codes "end trees " ++ decimal trees ++ codes " findings " ++ decimal findings
