-- What a step changed, from the state before it.
use Rattle.std.proofs.Common.{◌≡◌, ℕ, true, List, ◌++◌, Option, Some, None, Result, Ok, Err, refl, sym, ap, subst, ◌∙◌, inl, inr}
use Rattle.std.specs.Prelude.{◌⊎◌, MatchOption}
use Rattle.std.proofs.lemmas.List.{append_assoc}
use Rattle.ghost_oracle.specs.Found.{HasRowsOf}
use Rattle.ghost_spec.specs.declared.lists.GhostLists.{GhostLists}
use Rattle.page_state.proofs.Cases.{by_lt}
use Rattle.page_state.specs.Layouts.{Layout}
use Rattle.reference_model.specs.model.State.{Contents, Reference}
use Rattle.state_changes.specs.Changed.{ReportsAll}
use Rattle.state_changes.specs.Together.{Adds}
use Rattle.call_table.specs.declared.step.Step.{Step}
use Rattle.trace_explain.specs.Carried.{HasFrames, IsBefore, ReportsFrom}
use Rattle.trace_explain.specs.Explained.{IsBlock, ReportsStep, explained, line_with, step_at, step_of}
use Rattle.trace_explain.specs.Looks.{Look, seen}
use Rattle.trace_lines.specs.declared.fault.LineFault.{LineFault}
use Rattle.trace_lines.specs.declared.line.Line.{Line}
use Rattle.trace_lines.specs.declared.line.Line.TheVariants as lines
use Rattle.trace_text.specs.declared.report.ReportLine.{ReportLine}
use Rattle.trace_lines.specs.declared.fault.LineFault.TheVariants.{Place}
use Rattle.trace_text.specs.declared.fault.Fault.TheVariants as faults
use Rattle.trace_text.specs.declared.session.Stop.{Stop}
use Rattle.trace_text.specs.declared.session.Stop.TheVariants as stops
use Rattle.trace_text.specs.Oracles.{agreed}
use Rattle.trace_text.specs.Replay.{IsPlayed}
use Rattle.trace_text.specs.Session.{Answer, Faults, Follows, IsStepped, MakesStep, Standing}
use Rattle.trace_text.specs.Worlds.{Machine, in_state}

pub report_of_step : (old : Option Machine) (asked : Option (ℕ × Step)) (g : Option GhostLists) (new : Option Machine)
    (a b : List ℕ)
    → IsBefore old asked g
    → Adds (ReportsFrom g asked new) a b
    → Adds (ReportsStep old asked new) a b
report_of_step (Some m) (Some (cpu, step)) (Some g) (Some n) a b is t =
    subst (λ (x : Contents). Adds (ReportsAll x n.state.contents cpu) a b)
    (ap (λ (s : Reference). s.contents) is.state) t
report_of_step (Some m) (Some (cpu, step)) (Some g) None a b is t = t
report_of_step (Some m) (Some (cpu, step)) None new a b is t = absurd is
report_of_step (Some m) None None new a b is t = t
report_of_step None asked None new a b is t = t
report_of_step (Some m) None (Some g) new a b is t = absurd is
report_of_step None asked (Some g) new a b is t = absurd is

pair_same : (a b : ℕ × Step) → ◌≡◌ {A = Option (ℕ × Step)} (Some a) (Some b) → a ≡ b
pair_same a b e = cc

-- a line that says a step is of a step
step_of_line : (r : Result (Option Line) LineFault) (cpu : ℕ) (step : Step)
    → Some (cpu, step) ≡ step_of r
    → r ≡ Ok (Some (lines.Step cpu step))
step_of_line (Err fault) cpu step e = absurd (let f : ◌≡◌ {A = Option (ℕ × Step)} (Some (cpu, step)) None = e in cc)
step_of_line (Ok None) cpu step e = absurd (let f : ◌≡◌ {A = Option (ℕ × Step)} (Some (cpu, step)) None = e in cc)
step_of_line (Ok (Some (lines.Step c s))) cpu step e = said_same c s cpu step e
  where
    said_same : (c : ℕ) (s : Step) (cpu : ℕ) (step : Step)
        → ◌≡◌ {A = Option (ℕ × Step)} (Some (cpu, step)) (Some (c, s))
        → ◌≡◌ {A = Result (Option Line) LineFault} (Ok (Some (lines.Step c s))) (Ok (Some (lines.Step cpu step)))
    said_same c s cpu step e =
        ap (λ (x : ℕ × Step). Ok (Some (lines.Step x.0 x.1))) (sym (pair_same (cpu, step) (c, s) e))
step_of_line (Ok (Some (lines.Setting setting))) cpu step e =
    absurd (let f : ◌≡◌ {A = Option (ℕ × Step)} (Some (cpu, step)) None = e in cc)
step_of_line (Ok (Some lines.Boot)) cpu step e =
    absurd (let f : ◌≡◌ {A = Option (ℕ × Step)} (Some (cpu, step)) None = e in cc)
step_of_line (Ok (Some (lines.Query query))) cpu step e =
    absurd (let f : ◌≡◌ {A = Option (ℕ × Step)} (Some (cpu, step)) None = e in cc)
step_of_line (Ok (Some (lines.Poke poke))) cpu step e =
    absurd (let f : ◌≡◌ {A = Option (ℕ × Step)} (Some (cpu, step)) None = e in cc)
step_of_line (Ok (Some lines.Start)) cpu step e =
    absurd (let f : ◌≡◌ {A = Option (ℕ × Step)} (Some (cpu, step)) None = e in cc)

not_err : (reported : List ReportLine) (stop : Stop) → ◌≡◌ {A = Answer} (Ok reported) (Err stop) → ⊥
not_err reported stop e = cc

same_machine : (m n : Machine) → ◌≡◌ {A = Option Machine} (Some m) (Some n) → m ≡ n
same_machine m n e = cc

-- a step leaves the layout
made_layout : (number cpu : ℕ) (step : Step) (m n : Machine) (old : Standing) (reported : List ReportLine)
    (new : Standing)
    → MakesStep agreed number cpu step m old (Ok reported) new
    → new.machine ≡ Some n
    → n.layout ≡ m.layout
made_layout number cpu step m n old reported new made is =
    by_lt cpu m.layout.config.cpus
    (λ less. go (made.1 less))
    (λ past. absurd (not_err reported _ (made.0 past).0))
  where
    go : (Ok reported ≡ Err stops.NoMemory) ⊎ IsStepped agreed number cpu step m old (Ok reported) new
        → n.layout ≡ m.layout
    go (inl e) = absurd (not_err reported _ e)
    go (inr s) =
        ap (λ (x : Machine). x.layout)
        (same_machine n (in_state m s.next) (sym is ∙ ap (λ (x : Standing). x.machine) s.standing))

on_machine : (number cpu : ℕ) (step : Step) (machine : Option Machine) (m n : Machine) (old : Standing)
    (reported : List ReportLine) (new : Standing)
    → machine ≡ Some m
    → MatchOption machine (Faults (faults.Line Place) old (Ok reported) new)
    (λ x. MakesStep agreed number cpu step x old (Ok reported) new)
    → new.machine ≡ Some n
    → n.layout ≡ m.layout
on_machine number cpu step None m n old reported new e does is =
    absurd (let f : ◌≡◌ {A = Option Machine} None (Some m) = e in cc)
on_machine number cpu step (Some x) m n old reported new e does is =
    made_layout number cpu step x n old reported new does is ∙ ap (λ (y : Machine). y.layout) (same_machine x m e)

same_layout : (number cpu : ℕ) (step : Step) (line : List ℕ) (m n : Machine) (old : Standing)
    (reported : List ReportLine) (new : Standing)
    → IsPlayed agreed number line old (Ok reported) new
    → Some (cpu, step) ≡ step_at old line
    → old.machine ≡ Some m
    → new.machine ≡ Some n
    → n.layout ≡ m.layout
same_layout number cpu step line m n old reported new played asks was is =
    by_lt 1048576 number
    (λ past. absurd (not_err reported _ (played.past past).0))
    (λ few.
    let does =
    subst (λ (r : Result (Option Line) LineFault). Follows agreed number r old (Ok reported) new)
    (step_of_line _ cpu step asks) (played.runs few) in
    on_machine number cpu step old.machine m n old reported new was does is)

pub has_frames : (number : ℕ) (line : List ℕ) (old : Standing) (reported : List ReportLine) (new : Standing)
    (asked : Option (ℕ × Step)) (g : Option GhostLists)
    → IsPlayed agreed number line old (Ok reported) new
    → asked ≡ step_at old line
    → IsBefore old.machine asked g → HasFrames g new.machine
has_frames number line old reported new asked g played asks is = go old.machine asked g new.machine refl refl is asks
  where
    go : (before : Option Machine) (a : Option (ℕ × Step)) (h : Option GhostLists) (after : Option Machine)
        → old.machine ≡ before
        → new.machine ≡ after
        → IsBefore before a h
        → a ≡ step_at old line
        → HasFrames h after
    go before a None after was is b e = tt
    go before a (Some h) None was is b e = tt
    go (Some m) (Some (cpu, step)) (Some h) (Some n) was is b e =
        subst (λ (l : Layout). HasRowsOf l h)
        (sym (same_layout number cpu step line m n old reported new played e was is)) b.frames
    go (Some m) None (Some h) (Some n) was is b e = absurd b
    go None a (Some h) (Some n) was is b e = absurd b

pub block_made : (line : List ℕ) (old : Standing) (reported : List ReportLine) (new : Standing)
    (asked : Option (ℕ × Step)) (looks : List Look) (a b c : List ℕ)
    → asked ≡ step_at old line
    → looks ≡ seen old.machine asked
    → b ≡ a ++ line_with line asked looks reported new.machine
    → Adds (ReportsStep old.machine asked new.machine) b c
    → Adds (IsBlock true line old reported new) a c
block_made line old reported new asked looks a b c asks sees is (changed, t, e) =
    let all : b ≡ a ++ explained line old reported new =
    is ∙ ap (λ (x : List Look). a ++ line_with line asked x reported new.machine) sees
    ∙ ap (λ (x : Option (ℕ × Step)). a ++ line_with line x (seen old.machine x) reported new.machine) asks in (
      explained line old reported new ++ changed,
      (changed, subst (λ (x : Option (ℕ × Step)). ReportsStep old.machine x new.machine changed) asks t, refl),
      e ∙ ap (λ x. x ++ changed) all ∙ append_assoc a (explained line old reported new) changed,
    )
