-- What a line does to a trace that is being audited, and how its report ends (profile).
use Rattle.std.specs.Prelude.{◌≡◌, ◌↔◌, ◌⊎◌, ℕ, Bool, true, false, List, [], ◌∷◌, ◌++◌, length, Option, Some, None, Result, Ok, Err, IfSome, MatchOption, MatchResult, is_some}
use Rattle.page_state.specs.declared.layout.Geometry.{Geometry}
use Rattle.page_state.specs.LayoutView.{layout_of}
use Rattle.table_tree.specs.Said.{block_of}
use Rattle.ghost_judge.specs.declared.disagreement.Disagreement.{Disagreement}
use Rattle.ghost_judge.specs.Audits.{AuditAgrees, IsFirstDifference}
use Rattle.ghost_legal.specs.declared.finding.Unlawful.{Unlawful}
use Rattle.ghost_legal.specs.Unlawful.{IsUnlawful, MakesLegal}
use Rattle.ghost_spec.specs.declared.lists.GhostLists.{GhostLists}
use Rattle.ghost_spec.specs.declared.state.Ghost.{Ghost}
use Rattle.ghost_spec.specs.States.{contents_in, ghost_state}
use Rattle.ghost_oracle.specs.declared.raw.RawParts.{RawParts}
use Rattle.ghost_oracle.specs.declared.raw.Which.{Which}
use Rattle.ghost_oracle.specs.declared.trees.Source.TheVariants.{Maplets, Words}
use Rattle.ghost_oracle.specs.Found.{scratch_rows, walked_state}
use Rattle.ghost_oracle.specs.Poked.{Beside, IsBeside, IsPokedTree, parts_trees, raw_beside_of, raw_trees}
use Rattle.ghost_oracle.specs.Seen.{SeenTree}
use Rattle.ghost_oracle.specs.RawFound.{IsRawFound, HasSameRawRows}
use Rattle.trace_lines.specs.declared.fault.LineFault.{LineFault}
use Rattle.trace_lines.specs.declared.fault.LineFault.TheVariants.{Place}
use Rattle.trace_lines.specs.declared.line.Line.{Line}
use Rattle.trace_lines.specs.declared.line.Poke.{Poke}
use Rattle.trace_lines.specs.declared.place.Allows.{Allows}
use Rattle.trace_lines.specs.Places.{after_poke, before_boot, of_audit}
use Rattle.trace_lines.specs.Said.{said}
use Rattle.trace_reader.specs.declared.outcome.Outcome.{Outcome}
use Rattle.trace_reader.specs.declared.outcome.Outcome.TheVariants as outcomes
use Rattle.trace_text.specs.declared.fault.Fault.TheVariants as faults
use Rattle.trace_text.specs.declared.report.ReportLine.{ReportLine}
use Rattle.trace_text.specs.declared.report.ReportLine.TheVariants as report
use Rattle.trace_text.specs.declared.session.Stop.{Stop}
use Rattle.trace_text.specs.declared.session.Stop.TheVariants as stops
use Rattle.trace_text.specs.Oracles.{agreed, audited_lines, illegal_lines}
use Rattle.trace_text.specs.Replay.{outcome_of}
use Rattle.trace_text.specs.Reports as reports
use Rattle.trace_text.specs.Session.{Answer, DoesLine, Standing, at_start}
use Rattle.trace_text.specs.View.{machine_of}
use Rattle.trace_text.specs.Worlds.{Machine}
use Rattle.world.specs.declared.World.{World}
use Rattle.world.specs.declared.raw.RawWorld.{RawWorld}
use Rattle.trace_audit.specs.Paths.{path_on, poke_in, which_of}

-- the progress of an audited trace: that of a replayed one, and, once a word was poked, the poked
-- world. There is no machine any more then
pub record Audited (A : Type 0) : Type 0 where
  pub session : Standing
  pub poked : Option (RawWorld A)

-- the lines that end a report of `steps` step lines: the difference, if there is one, and the
-- numbers of step lines and of differences
abbrev pub found_lines : ℕ → Option Disagreement → List ReportLine
found_lines steps found =
    audited_lines found ++ report.End steps (length (audited_lines found)) ∷ []

-- with legality asked for: behind the difference why the walked state isn't legal, if it isn't
abbrev pub told_lines : ℕ → Option Disagreement → Option Unlawful → List ReportLine
told_lines steps found why =
    audited_lines found
    ++ (illegal_lines why ++ report.End steps (length (audited_lines found)) ∷ [])

-- a walked state that isn't legal is no clean outcome
abbrev pub told_outcome : Option Unlawful → Outcome → Outcome
told_outcome None outcome = outcome
told_outcome (Some why) outcome = outcomes.Disagreed

-- why lists, those of a walk, make no legal state, which is none exactly if they make one
pub record TellsWalk (is_walk : GhostLists → Type 0) (why : Option Unlawful) : Type 0 where
  pub walked : GhostLists
  pub walked_is : is_walk walked
  pub none : (why ≡ None) ↔ MakesLegal walked
  pub some : IfSome why (IsUnlawful walked)

-- lists are what a walk of all words of a machine finds, with the rows from scratch
pub record IsWalkOf (m : Machine) (walked : GhostLists) : Type 0 where
  pub layout : layout_of walked.layout ≡ m.layout
  pub state : ghost_state walked ≡ walked_state m.layout m.state

module _ {A : Type 0} where
  -- before the first line
  abbrev pub nothing_audited : Audited A
  nothing_audited = record { session = at_start; poked = None }

  -- what `audit` allows
  abbrev pub allowed_where : Option (RawWorld A) → Bool → Bool → Allows
  allowed_where (Some world) booted started = after_poke
  allowed_where None true started = of_audit started
  allowed_where None false started = before_boot

  abbrev pub allowed : Audited A → Allows
  allowed a = allowed_where a.poked (is_some a.session.machine) a.session.started

  -- a world of these trees of which one word was set: `kept` has the state beside the trees
  pub record IsPoked (geometry : Geometry) (before : Which → SeenTree) (kept : Beside → Type 0)
      (poke : Poke) (path : List ℕ) (world : RawWorld A) : Type 0 where
    pub trees : IsPokedTree (block_of geometry path) before (raw_trees world.parts)
        (which_of poke.tree) path poke.word
    pub beside : kept (raw_beside_of world.parts)

  -- the result of setting a word: the world, or a fault if and only if the page's path has no word
  abbrev pub Sets : Geometry → (Which → SeenTree) → (Beside → Type 0) → Poke
      → Result (RawWorld A) Stop → Type 0
  Sets geometry before kept poke result =
      MatchOption (path_on geometry poke.page poke.level) (result ≡ Err (stops.Fault faults.Path))
      (λ path. MatchOption ((before (which_of poke.tree)).words path)
      (result ≡ Err (stops.Fault faults.Path))
      (λ word. MatchResult result (λ world. IsPoked geometry before kept poke path world)
      (λ stop. ⊥)))

  -- and what the line then answers
  abbrev pub Comes : Result (RawWorld A) Stop → Standing → Answer → Audited A → Type 0
  Comes (Err stop) session answer new = answer ≡ Err stop
  Comes (Ok world) session answer new =
      (answer ≡ Ok []) × (new ≡ record { session = session; poked = Some world })

  -- the first poke, on a world of the machine; from then on the world is a poked one. Before that,
  -- only memory can be refused
  abbrev pub PokesFirst : Poke → Machine → Audited A → Answer → Audited A → Type 0
  PokesFirst poke m old answer new =
      (answer ≡ Err stops.NoMemory)
      ⊎ ((w : World A) × (machine_of w ≡ m) × (result : Result (RawWorld A) Stop)
      × Sets w.parts.layout.geometry (parts_trees w.parts) (IsBeside w.parts) poke result
      × Comes result (record old.session { machine = None }) answer new)

  -- a further one
  abbrev pub PokesAgain : Poke → RawWorld A → Audited A → Answer → Audited A → Type 0
  PokesAgain poke before old answer new =
      (result : Result (RawWorld A) Stop)
      × Sets before.parts.layout.geometry (raw_trees before.parts)
      (λ beside. beside ≡ raw_beside_of before.parts) poke result
      × Comes result old.session answer new

  -- a poke, which comes after the boot
  abbrev pub Pokes : Poke → Audited A → Answer → Audited A → Type 0
  Pokes poke old answer new =
      MatchOption old.poked
      (MatchOption old.session.machine (answer ≡ Err (stops.Fault (faults.Line Place)))
      (λ m. PokesFirst poke m old answer new))
      (λ before. PokesAgain poke before old answer new)

  -- any other line does the same as in `replay`, but no oracle looks at a step
  pub record Carries (number : ℕ) (line : Line) (old : Audited A) (answer : Answer)
      (new : Audited A) : Type 0 where
    pub does : DoesLine agreed number line old.session answer new.session
    pub poked : new.poked ≡ old.poked

  abbrev pub Does : ℕ → Line → Audited A → Answer → Audited A → Type 0
  Does number line old answer new =
      MatchOption (poke_in line) (Carries number line old answer new)
      (λ poke. Pokes poke old answer new)

  -- what follows from what a line says
  abbrev pub Follows : ℕ → Result (Option Line) LineFault → Audited A → Answer → Audited A → Type 0
  Follows number (Err fault) old answer new =
      (answer ≡ Err (stops.Fault (faults.Line fault))) × (new ≡ old)
  Follows number (Ok None) old answer new = (answer ≡ Ok []) × (new ≡ old)
  Follows number (Ok (Some line)) old answer new = Does number line old answer new

  -- what the bytes of a line do
  abbrev pub RunsLine : ℕ → List ℕ → Audited A → Answer → Audited A → Type 0
  RunsLine number bytes old answer new =
      Follows number (said (allowed old) old.session.told bytes) old answer new

  -- the findings of a poked world: its kept state, what a walk of all its words finds, and the
  -- first difference, which is none exactly if both are the same
  pub record ComparesWalk (parts : RawParts A) (found : Option Disagreement) : Type 0 where
    pub kept : Ghost
    pub walked : Ghost
    pub kept_is : IsRawFound Maplets parts kept
    pub kept_rows : HasSameRawRows parts kept
    pub walked_is : IsRawFound Words parts walked
    pub walked_rows : (f : ℕ)
        → (contents_in walked).shared.row f
        ≡ scratch_rows (layout_of parts.layout) (contents_in walked) f
    pub none : (found ≡ None) ↔ AuditAgrees (contents_in kept) (contents_in walked)
    pub first : IfSome found (IsFirstDifference (contents_in kept) (contents_in walked))

  -- what an audit finds: without a poke nothing
  abbrev pub IsAudited : Audited A → Option Disagreement → Type 0
  IsAudited a found = MatchOption a.poked (found ≡ None) (λ world. ComparesWalk world.parts found)

  -- lists are what a walk of all words of a poked world finds, with the rows from scratch
  pub record IsRawWalk (parts : RawParts A) (walked : GhostLists) : Type 0 where
    pub found : IsRawFound Words parts walked
    pub rows : (f : ℕ)
        → (contents_in walked).shared.row f
        ≡ scratch_rows (layout_of parts.layout) (contents_in walked) f

  -- why the walked state isn't legal: before the boot there is none
  abbrev pub IsTold : Audited A → Option Unlawful → Type 0
  IsTold a why =
      MatchOption a.poked
      (MatchOption a.session.machine (why ≡ None) (λ m. TellsWalk (IsWalkOf m) why))
      (λ world. TellsWalk (IsRawWalk world.parts) why)

  -- the lines that end its report
  abbrev pub end_lines : Audited A → Option Disagreement → List ReportLine
  end_lines a found = found_lines a.session.steps found

  abbrev pub Ends : Audited A → List ReportLine → Outcome → Type 0
  Ends a lines outcome =
      (found : Option Disagreement)
      × IsAudited a found
      × (lines ≡ end_lines a found)
      × (outcome ≡ outcome_of (length (audited_lines found)))

  -- and with legality asked for
  abbrev pub EndsTold : Audited A → List ReportLine → Outcome → Type 0
  EndsTold a lines outcome =
      (found : Option Disagreement)
      × (why : Option Unlawful)
      × IsAudited a found
      × IsTold a why
      × (lines ≡ told_lines a.session.steps found why)
      × (outcome ≡ told_outcome why (outcome_of (length (audited_lines found))))

  -- with it, or without
  abbrev pub EndsBy : Bool → Audited A → List ReportLine → Outcome → Type 0
  EndsBy true = EndsTold
  EndsBy false = Ends

-- the written text is the report of an audit of the trace of these bytes, with the trees' tables in
-- `A`, and with legality asked for if `legal`
abbrev pub IsAuditReported : (A : Type 0)
    → Bool
    → Option (List ℕ)
    → Option (List ℕ)
    → Option (List ℕ)
    → Outcome
    → Type 0
IsAuditReported A legal = reports.IsWritten (RunsLine {A = A}) (EndsBy legal) nothing_audited

-- and a beginning of one
abbrev pub IsAuditBegun : (A : Type 0)
    → Bool
    → Option (List ℕ)
    → Option (List ℕ)
    → Option (List ℕ)
    → Type 0
IsAuditBegun A legal = reports.IsWriteBegun (RunsLine {A = A}) (EndsBy legal) nothing_audited
