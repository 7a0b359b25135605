-- What the end of an audit's report tells, and what a poke leaves.
use Rattle.std.proofs.Common.{◌≡◌, ◌∙◌, ℕ, refl, sym, ap, subst, List, Option, Some, None, Result, Ok, Err, MatchOption, MatchResult, inl, inr, ◌⊎◌}
use Rattle.page_state.specs.declared.layout.Geometry.{Geometry}
use Rattle.ghost_judge.specs.declared.disagreement.Disagreement.{Disagreement}
use Rattle.ghost_oracle.specs.declared.raw.Which.{Which}
use Rattle.ghost_oracle.specs.declared.raw.Which.TheVariants.{Host}
use Rattle.ghost_oracle.specs.Poked.{Beside, IsBeside, parts_trees, raw_beside_of, raw_trees}
use Rattle.ghost_oracle.specs.Seen.{SeenTree}
use Rattle.trace_lines.specs.declared.fault.LineFault.{LineFault}
use Rattle.trace_lines.specs.declared.fault.LineFault.TheVariants.{Place}
use Rattle.trace_lines.specs.declared.line.Line.{Line}
use Rattle.trace_lines.specs.declared.line.Poke.{Poke}
use Rattle.trace_lines.specs.Said.{said}
use Rattle.trace_text.specs.declared.fault.Fault.TheVariants as faults
use Rattle.trace_text.specs.declared.report.ReportLine.{ReportLine}
use Rattle.trace_text.specs.declared.session.Stop.{Stop}
use Rattle.trace_text.specs.declared.session.Stop.TheVariants as stops
use Rattle.trace_text.specs.View.{machine_of}
use Rattle.trace_text.specs.Worlds.{Machine}
use Rattle.world.specs.declared.World.{World}
use Rattle.world.specs.declared.raw.RawWorld.{RawWorld}
use Rattle.trace_audit.specs.Audited.{Audited, Carries, ComparesWalk, Follows, IsPoked, Pokes, PokesAgain, PokesFirst, Sets, allowed, end_lines}
use Rattle.trace_audit.specs.Laws.{AuditReports, FirstKeeps, KeepsAllBut, NextKeeps, ReportsFirst, ReportsNone}
use Rattle.trace_audit.specs.Paths.{path_on, poke_in, which_of}

module _ {A : Type 0} where
  tells_by : (a : Audited A) (world : RawWorld A) (lines : List ReportLine) (found : Option Disagreement)
      (c : ComparesWalk world.parts found)
      → lines ≡ end_lines a found
      → ReportsNone a.session.steps lines c.kept c.walked ⊎ ReportsFirst a.session.steps lines c.kept c.walked
  tells_by a world lines None c e = inl (record { lines_are = e; agrees = c.none.0 refl })
  tells_by a world lines (Some found) c e =
      inr
      (record {
        found = found;
        lines_are = e;
        differs = λ agrees. absurd (let k = c.none.1 agrees in cc);
        first = c.first;
      })

  pub audit_reports : AuditReports A
  audit_reports a world lines outcome poked h =
      let c : ComparesWalk world.parts h.0 =
      subst (λ p. MatchOption p (h.0 ≡ None) (λ w. ComparesWalk w.parts h.0)) poked h.1 in (
        c.kept,
        c.walked,
        record { kept_is = c.kept_is; kept_rows = c.kept_rows; walked_is = c.walked_is; walked_rows = c.walked_rows },
        tells_by a world lines h.0 c h.2,
      )

  module _ (geometry : Geometry) (before : Which → SeenTree) (kept : Beside → Type 0) (poke : Poke)
      (world : RawWorld A) where
    abbrev pub done : Result (RawWorld A) Stop
    done = Ok world

    word_by : (path : List ℕ) (o : Option ℕ)
        → MatchOption o (done ≡ Err (stops.Fault faults.Path))
        (λ word. MatchResult (done) (λ w. IsPoked geometry before kept poke path w) (λ stop. ⊥))
        → KeepsAllBut before kept world
    word_by path None h = absurd (let e = h in cc)
    word_by path (Some word) h = record { which = which_of poke.tree; others = h.trees.others; beside = h.beside }

    path_by : (o : Option (List ℕ))
        → MatchOption o (done ≡ Err (stops.Fault faults.Path))
        (λ path. MatchOption ((before (which_of poke.tree)).words path) (done ≡ Err (stops.Fault faults.Path))
        (λ word. MatchResult (done) (λ w. IsPoked geometry before kept poke path w) (λ stop. ⊥)))
        → KeepsAllBut before kept world
    path_by None h = absurd (let e = h in cc)
    path_by (Some path) h = word_by path ((before (which_of poke.tree)).words path) h

    sets_keeps : Sets geometry before kept poke (Ok world) → KeepsAllBut before kept world
    sets_keeps h = path_by (path_on geometry poke.page poke.level) h

  same_world : (x y : RawWorld A) (o : Option (RawWorld A)) → o ≡ Some x → o ≡ Some y → x ≡ y
  same_world x y o e f = cc

  all_kept : (before : RawWorld A)
      → KeepsAllBut (raw_trees before.parts) (λ beside. beside ≡ raw_beside_of before.parts) before
  all_kept before = record { which = Host; others = λ other is. refl; beside = refl }

  -- what is poked afterwards, and what of the world before is kept
  abbrev pub KeptNext : RawWorld A → Audited A → Type 0
  KeptNext before new =
      (after : RawWorld A)
      × (new.poked ≡ Some after)
      × KeepsAllBut (raw_trees before.parts) (λ beside. beside ≡ raw_beside_of before.parts) after

  module _ (number : ℕ) (old new : Audited A) (reported : List ReportLine) where
    again_keeps : (poke : Poke) (before : RawWorld A)
        → PokesAgain poke before old (Ok reported) new
        → KeptNext before new
    again_keeps poke before (Ok world, sets, comes) = (
      world,
      ap (λ (a : Audited A). a.poked) comes.1,
      sets_keeps before.parts.layout.geometry (raw_trees before.parts)
          (λ beside. beside ≡ raw_beside_of before.parts) poke world sets,
    )
    again_keeps poke before (Err stop, sets, comes) = absurd (let e = comes in cc)

    next_does : (before : RawWorld A)
        → old.poked ≡ Some before
        → (o : Option Poke) (line : Line)
        → MatchOption o (Carries number line old (Ok reported) new) (λ poke. Pokes poke old (Ok reported) new)
        → KeptNext before new
    next_does before is None line h = (before, h.poked ∙ is, all_kept before)
    next_does before is (Some poke) line h =
        again_keeps poke before
        (subst
        (λ p. MatchOption p
        (MatchOption old.session.machine (Ok reported ≡ Err (stops.Fault (faults.Line Place)))
        (λ m. PokesFirst poke m old (Ok reported) new))
        (λ w. PokesAgain poke w old (Ok reported) new)) is h)

    next_follows : (before : RawWorld A)
        → old.poked ≡ Some before
        → (r : Result (Option Line) LineFault)
        → Follows number r old (Ok reported) new
        → KeptNext before new
    next_follows before is (Err fault) h = absurd (let e = h.0 in cc)
    next_follows before is (Ok None) h = (before, ap (λ (a : Audited A). a.poked) h.1 ∙ is, all_kept before)
    next_follows before is (Ok (Some line)) h = next_does before is (poke_in line) line h

    abbrev pub KeptFirst : RawWorld A → Type 0
    KeptFirst after =
        (w : World A)
        × (old.session.machine ≡ Some (machine_of w))
        × KeepsAllBut (parts_trees w.parts) (IsBeside w.parts) after

    first_keeps_by : (poke : Poke) (m : Machine) (after : RawWorld A)
        → new.poked ≡ Some after
        → old.session.machine ≡ Some m
        → PokesFirst poke m old (Ok reported) new
        → KeptFirst after
    first_keeps_by poke m after is there (inl none) = absurd (let e = none in cc)
    first_keeps_by poke m after is there (inr (w, of, Ok world, sets, comes)) =
        let same : world ≡ after = same_world world after new.poked (ap (λ (a : Audited A). a.poked) comes.1) is in (
          w,
          there
              ∙ ap Some (sym of),
          subst (KeepsAllBut (parts_trees w.parts) (IsBeside w.parts)) same
              (sets_keeps w.parts.layout.geometry (parts_trees w.parts) (IsBeside w.parts) poke world sets),
        )
    first_keeps_by poke m after is there (inr (w, of, Err stop, sets, comes)) = absurd (let e = comes in cc)

    first_machine : (poke : Poke) (after : RawWorld A)
        → new.poked ≡ Some after
        → (o : Option Machine)
        → old.session.machine ≡ o
        → MatchOption o (Ok reported ≡ Err (stops.Fault (faults.Line Place)))
        (λ m. PokesFirst poke m old (Ok reported) new)
        → KeptFirst after
    first_machine poke after is None there h = absurd (let e = h in cc)
    first_machine poke after is (Some m) there h = first_keeps_by poke m after is there h

    none_poked : (after : RawWorld A) → old.poked ≡ None → new.poked ≡ Some after → new.poked ≡ old.poked → ⊥
    none_poked after none is same = cc

    first_does : (after : RawWorld A)
        → old.poked ≡ None
        → new.poked ≡ Some after
        → (o : Option Poke) (line : Line)
        → MatchOption o (Carries number line old (Ok reported) new) (λ poke. Pokes poke old (Ok reported) new)
        → KeptFirst after
    first_does after none is None line h = absurd (none_poked after none is h.poked)
    first_does after none is (Some poke) line h =
        first_machine poke after is old.session.machine refl
        (subst
        (λ p. MatchOption p
        (MatchOption old.session.machine (Ok reported ≡ Err (stops.Fault (faults.Line Place)))
        (λ m. PokesFirst poke m old (Ok reported) new))
        (λ w. PokesAgain poke w old (Ok reported) new)) none h)

    first_follows : (after : RawWorld A)
        → old.poked ≡ None
        → new.poked ≡ Some after
        → (r : Result (Option Line) LineFault)
        → Follows number r old (Ok reported) new
        → KeptFirst after
    first_follows after none is (Err fault) h = absurd (let e = h.0 in cc)
    first_follows after none is (Ok None) h = absurd (none_poked after none is (ap (λ (a : Audited A). a.poked) h.1))
    first_follows after none is (Ok (Some line)) h = first_does after none is (poke_in line) line h

  pub next_keeps : NextKeeps A
  next_keeps number line old reported new before is h =
      next_follows number old new reported before is (said (allowed old) old.session.told line) h

  pub first_keeps : FirstKeeps A
  first_keeps number line old reported new after none is h =
      first_follows number old new reported after none is (said (allowed old) old.session.told line) h
