-- The run that a report tells.
use Rattle.std.proofs.Common.{◌≡◌, ◌<◌, ℕ, zero, suc, All, ◌+◌, refl, sym, subst, arith, ◌∙◌, ap, true, false, List, [], ◌∷◌, ◌++◌, Option, Some, None, Result, Ok, Err, MatchOption, MatchResult, is_some, inl, inr}
use Rattle.std.specs.Prelude.{◌⊎◌}
use Rattle.std.specs.List.{cons_option}
use Rattle.std.proofs.lemmas.Bool.{cases_lt}
use Rattle.page_state.specs.declared.entry.PageRange.{PageRange}
use Rattle.call_table.specs.declared.reply.Call.{Call}
use Rattle.call_table.specs.declared.reply.Reply.{Reply}
use Rattle.page_state.specs.Regions.{memory_of}
use Rattle.reference_model.specs.model.Boot.{boot as boot_state}
use Rattle.reference_model.specs.model.Run.{IsRun, Runs as RunsBy}
use Rattle.reference_model.specs.model.State.{Reference}
use Rattle.reference_model.specs.model.Step.{Steps}
use Rattle.trace_text.specs.declared.fault.Fault.{Fault}
use Rattle.trace_lines.specs.declared.fault.LineFault.{LineFault}
use Rattle.trace_lines.specs.declared.fault.LineFault.TheVariants.{Place}
use Rattle.trace_text.specs.declared.fault.Fault.TheVariants as faults
use Rattle.trace_lines.specs.declared.line.Line.{Line}
use Rattle.trace_lines.specs.declared.line.Line.TheVariants as lines
use Rattle.trace_lines.specs.declared.line.Setting.{Setting}
use Rattle.trace_lines.specs.declared.response.Response.{Response}
use Rattle.trace_lines.specs.declared.response.Response.TheVariants as responses
use Rattle.trace_reader.specs.declared.outcome.Outcome.{Outcome}
use Rattle.trace_text.specs.declared.report.ReportLine.{ReportLine}
use Rattle.trace_text.specs.declared.report.ReportLine.TheVariants as report
use Rattle.trace_text.specs.declared.session.Stop.TheVariants as stops
use Rattle.trace_text.specs.Laws.{reported_reply, reported_replies, step_asked, steps_asked, Leads, ReportsRun, StopsIn, Reaches, ReportsNoBoot, ReportsBoot, TraceRuns}
use Rattle.trace_text.specs.Oracles.{Gives}
use Rattle.trace_text.specs.Replay.{IsPlayed, IsReport, end_line}
use Rattle.trace_text.specs.Reports.{Begins}
use Rattle.trace_lines.specs.Said.{said}
use Rattle.trace_text.specs.Session.{Standing, Answer, Follows, Tells, HasBooted, IsNoWorld, allowed, at_start}
use Rattle.trace_lines.specs.Settings.{config_of}
use Rattle.trace_text.specs.Worlds.{Machine, in_state}
use Rattle.trace_text.proofs.Asked.{Fits, fits}
use Rattle.std.proofs.lemmas.List.{append_assoc}
use Rattle.trace_text.proofs.OneLine.{one_line}

nowhere : (m : Machine) → Leads m [] m.state
nowhere m = record { cpus = λ k d less. absurd (omega (arith, less)); runs = refl }

-- a list of calls with one more in front
both_known : (n : ℕ) (c : Call) (cs : List Call) → c.cpu < n → All (λ x. x.cpu < n) cs → All (λ x. x.cpu < n) (c ∷ cs)
both_known n c cs first rest zero d less = first
both_known n c cs first rest (suc k) d less = rest k d (omega (arith, less))

onward : (m : Machine) (q t : Reference) (c : Call) (cs : List Call)
    → c.cpu < m.layout.config.cpus
    → Steps m.layout m.state c q
    → Leads (in_state m q) cs t
    → Leads m (c ∷ cs) t
onward m q t c cs known first rest =
    record { cpus = both_known m.layout.config.cpus c cs known rest.cpus; runs = (q, first, rest.runs) }

known_by : (n a b : ℕ) → a ≡ b → b < n → a < n
known_by n a b e h = rw e h

on : false ≡ true → ⊥
on h = cc

-- the replies of a list in two parts
replies_cons : (o : Option (ℕ × Reply)) (xs ys : List (ℕ × Reply)) → cons_option o (xs ++ ys) ≡ cons_option o xs ++ ys
replies_cons None xs ys = refl
replies_cons (Some x) xs ys = refl

replies_append : (xs ys : List ReportLine) → reported_replies (xs ++ ys) ≡ reported_replies xs ++ reported_replies ys
replies_append [] ys = refl
replies_append (x ∷ xs) ys =
    ap (cons_option (reported_reply x)) (replies_append xs ys)
    ∙ replies_cons (reported_reply x) (reported_replies xs) (reported_replies ys)

behind : (says more : List ReportLine)
    → reported_replies says ≡ []
    → reported_replies (says ++ more) ≡ reported_replies more
behind says more e = replies_append says more ∙ ap (λ xs. xs ++ reported_replies more) e

-- a line of the trace that asks for no step, and what it reports
passes : (p : Machine) (line : List ℕ) (rest : List (List ℕ)) (reported : List ReportLine) (outcome : Outcome)
    → step_asked line ≡ None → ReportsRun p rest reported outcome → ReportsRun p (line ∷ rest) reported outcome
passes p line rest reported outcome e run = record {
  calls = run.calls;
  last = run.last;
  leads = run.leads;
  replies = run.replies;
  left = run.left;
  steps = rw e run.steps;
  all = run.all;
}

pub world_runs : (gives : Gives) (trace : List (List ℕ)) (number : ℕ) (old : Standing) (world : Machine)
    (reported : List ReportLine) (outcome : Outcome)
    → old.machine ≡ Some world
    → IsReport gives number old trace reported outcome
    → ReportsRun world trace reported outcome
world_runs gives [] number old world reported outcome stands h = record {
  calls = [];
  last = world.state;
  leads = nowhere world;
  replies = rw h.0 refl;
  left = [];
  steps = refl;
  all = λ whole. refl;
}
world_runs gives (line ∷ rest) number old world reported outcome stands h =
    elim (one_line gives number old world line rest reported outcome stands h) [
      | inl f ↦ record {
        calls = [];
        last = world.state;
        leads = nowhere world;
        replies = rw f.alone refl;
        left = steps_asked (line ∷ rest);
        steps = refl;
        all = λ whole. absurd (whole f.ended);
      }
      | inr (inl p) ↦
          let run = world_runs gives rest (number + 1) p.new world p.more outcome p.stands p.report in
          record {
            calls = run.calls;
            last = run.last;
            leads = run.leads;
            replies = ap reported_replies p.is ∙ behind p.says p.more p.no_step ∙ run.replies;
            left = run.left;
            steps = rw p.silent run.steps;
            all = run.all;
          }
      | inr (inr s) ↦
          let run = world_runs gives rest (number + 1) s.new (in_state world s.next) s.more outcome s.stands s.report in
          record {
            calls = s.call ∷ run.calls;
            last = run.last;
            leads =
                onward world s.next run.last s.call run.calls
                (known_by _ s.call.cpu s.cpu s.cpu_is s.known) s.made run.leads;
            replies =
                rw (s.is, s.cpu_is)
                (ap (λ xs. (s.cpu, s.call.reply) ∷ xs) (behind s.told s.more s.no_step ∙ run.replies));
            left = run.left;
            steps = rw (s.asked, s.cpu_is, s.step_is) (ap (λ xs. (s.cpu, s.step) ∷ xs) run.steps);
            all = run.all;
          }
    ]

pub world_reaches : (gives : Gives) (front rest : List (List ℕ)) (number : ℕ) (old : Standing) (world : Machine)
    (reported : List ReportLine) (outcome : Outcome)
    → old.machine ≡ Some world
    → IsReport gives number old (front ++ rest) reported outcome
    → StopsIn number front reported outcome ⊎ Reaches gives number world front rest reported outcome
world_reaches gives [] rest number old world reported outcome stands h = inr (record {
  told = [];
  more = reported;
  lines = refl;
  calls = [];
  new = old;
  last = world.state;
  stands = stands;
  leads = nowhere world;
  replies = refl;
  steps = refl;
  report = subst (λ n. IsReport gives n old rest reported outcome) (omega arith) h;
})
world_reaches gives (line ∷ front) rest number old world reported outcome stands h =
    elim (one_line gives number old world line (front ++ rest) reported outcome stands h) [
      | inl f ↦ inl (record { told = []; line = number; fault = f.fault; lines = f.alone; inside = omega arith })
      | inr (inl p) ↦ elim (world_reaches gives front rest (number + 1) p.new world p.more outcome p.stands p.report) [
        | inl stop ↦ inl (record {
          told = p.says ++ stop.told;
          line = stop.line;
          fault = stop.fault;
          lines = p.is ∙ ap (λ ls. p.says ++ ls) stop.lines ∙ sym (rw append_assoc refl);
          inside = let i = stop.inside in omega (arith, i);
        })
        | inr r ↦ inr (record {
          told = p.says ++ r.told;
          more = r.more;
          lines = p.is ∙ ap (λ ls. p.says ++ ls) r.lines ∙ sym (rw append_assoc refl);
          calls = r.calls;
          new = r.new;
          last = r.last;
          stands = r.stands;
          leads = r.leads;
          replies = behind p.says r.told p.no_step ∙ r.replies;
          steps = rw p.silent r.steps;
          report = subst (λ n. IsReport gives n r.new rest r.more outcome) (omega arith) r.report;
        })
      ]
      | inr (inr s) ↦ elim
          (world_reaches gives front rest (number + 1) s.new (in_state world s.next) s.more outcome s.stands s.report) [
            | inl stop ↦ inl (record {
              told = report.Response (responses.Step number s.cpu s.call.reply) ∷ (s.told ++ stop.told);
              line = stop.line;
              fault = stop.fault;
              lines =
                  s.is
                  ∙ ap
                  (λ ls. report.Response (responses.Step number s.cpu s.call.reply) ∷ (s.told ++ ls)) stop.lines
                  ∙ sym (rw append_assoc refl);
              inside = let i = stop.inside in omega (arith, i);
            })
            | inr r ↦ inr (record {
              told = report.Response (responses.Step number s.cpu s.call.reply) ∷ (s.told ++ r.told);
              more = r.more;
              lines =
                  s.is ∙ ap (λ ls. report.Response (responses.Step number s.cpu s.call.reply) ∷ (s.told ++ ls)) r.lines
                  ∙ sym (rw append_assoc refl);
              calls = s.call ∷ r.calls;
              new = r.new;
              last = r.last;
              stands = r.stands;
              leads =
                  onward world s.next r.last s.call r.calls
                  (known_by _ s.call.cpu s.cpu s.cpu_is s.known) s.made r.leads;
              replies =
                  rw s.cpu_is (ap (λ xs. (s.cpu, s.call.reply) ∷ xs) (behind s.told r.told s.no_step ∙ r.replies));
              steps = rw (s.asked, s.cpu_is, s.step_is) (ap (λ xs. (s.cpu, s.step) ∷ xs) r.steps);
              report = subst (λ n. IsReport gives n r.new rest r.more outcome) (omega arith) r.report;
            })
          ]
    ]

-- where the state is the boot state, what leads on from it is a run
boot_runs : (m : Machine) (t : Reference) (cs : List Call)
    → m.state ≡ boot_state m.layout
    → Leads m cs t
    → IsRun m.layout cs t
boot_runs m t cs h leads =
    record { cpus = leads.cpus; leads = subst (λ s. RunsBy (Steps m.layout) s cs t) h leads.runs }

-- a report that tells of no boot, or of one and a run from there
abbrev Told : Gives → ℕ → Standing → List (List ℕ) → List ReportLine → Outcome → Type 0
Told gives number start trace reported outcome =
    ReportsNoBoot trace reported outcome ⊎ ReportsBoot gives number start trace reported outcome

module _ (gives : Gives) (number : ℕ) (line : List ℕ) (rest : List (List ℕ)) (old new : Standing)
    (reported : List ReportLine) (outcome : Outcome)
    (unbooted : old.machine ≡ None)
    (follows : (more : List ReportLine)
    → new.machine ≡ None
    → IsReport gives (number + 1) new rest more outcome
    → Told gives (number + 1) new rest more outcome) where
  abbrev Reports : Answer → Type 0
  Reports answer = Begins number answer (λ more end. IsReport gives (number + 1) new rest more end) reported outcome

  abbrev Plays : Answer → Type 0
  Plays answer = IsPlayed gives number line old answer new

  passes_before : Plays (Ok [])
      → step_asked line ≡ None
      → Told gives (number + 1) new rest reported outcome
      → Told gives number old (line ∷ rest) reported outcome
  passes_before played e (inl none) =
      inl
      (record {
        line = none.line;
        alone = none.alone;
        no_step = none.no_step;
        all = λ whole. rw e (none.all whole);
      })
  passes_before played e (inr boot) = inr (record {
    at = record {
      front = line ∷ boot.at.front;
      boot = boot.at.boot;
      rest = boot.at.rest;
      lines = ap (λ ls. line ∷ ls) boot.at.lines;
      old = boot.at.old;
      prepared = (new, played, boot.at.prepared);
      carve = boot.at.carve;
      carved = boot.at.carved;
    };
    machine = boot.machine;
    line = boot.line;
    new = boot.new;
    played =
        subst (λ n. IsPlayed gives n boot.at.boot boot.at.old (Ok (report.Response boot.line ∷ [])) boot.new)
        (omega arith) boot.played;
    booted = boot.booted;
    more = boot.more;
    first = boot.first;
    run = passes boot.machine line rest boot.more outcome e boot.run;
    ends = let r = passes boot.machine line rest boot.more outcome e boot.run in
        boot_runs boot.machine r.last r.calls boot.booted.booted.state_is r.leads;
  })

  fault_alone : (answer : Answer) (fault : Fault)
      → Reports answer
      → answer ≡ Err (stops.Fault fault)
      → Told gives number old (line ∷ rest) reported outcome
  fault_alone answer fault begins e =
      let b = rw e at begins in
      inl (record { line = report.Fault number fault; alone = b.0; no_step = refl; all = λ whole. absurd (whole b.1) })

  -- a line that reports nothing, and the report behind it
  passes_on : (answer : Answer)
      → answer ≡ Ok []
      → Plays answer
      → Reports answer
      → step_asked line ≡ None
      → new.machine ≡ None
      → Told gives number old (line ∷ rest) reported outcome
  passes_on answer e played begins silent unbooted =
      let b = rw e at begins in
      passes_before (subst Plays e played) silent
      (subst (λ r. Told gives (number + 1) new rest r outcome) (sym b.1) (follows b.0 unbooted b.2))

  told : (setting : Setting) (answer : Answer)
      → Plays answer
      → Reports answer
      → Tells setting old answer new
      → step_asked line ≡ None
      → Told gives number old (line ∷ rest) reported outcome
  told setting (Err (stops.Fault fault)) played begins h silent =
      fault_alone (Err (stops.Fault fault)) fault begins refl
  told setting (Err stops.NoMemory) played begins h silent = absurd begins
  told setting (Ok says) played begins h silent =
      passes_on (Ok says) (ap Ok h.0) played begins silent (ap (λ (s : Standing). s.machine) h.1 ∙ unbooted)

  boots_by : (carve : PageRange) (answer : Answer) → old.told.carve ≡ Some carve → Plays answer → Reports answer
      → MatchResult answer
      (λ says. (machine : Machine)
      × (says_line : Response)
      × (says ≡ report.Response says_line ∷ [])
      × HasBooted carve old machine says_line new)
      (λ stop. IsNoWorld stop (memory_of old.told.regions carve) (config_of old.told) × (new ≡ old))
      → step_asked line ≡ None → Told gives number old (line ∷ rest) reported outcome
  boots_by carve (Err (stops.Fault fault)) at played begins h silent =
      fault_alone (Err (stops.Fault fault)) fault begins refl
  boots_by carve (Err stops.NoMemory) at played begins h silent = absurd begins
  boots_by carve (Ok says) at played begins h silent =
      let b = rw h.2 at begins in
      let run =
      passes h.0 line rest b.0 outcome silent
      (world_runs gives rest (number + 1) new h.0 b.0 outcome
      (ap (λ (s : Standing). s.machine) h.3.standing) b.2) in
      inr (record {
        at = record {
          front = [];
          boot = line;
          rest = rest;
          lines = refl;
          old = old;
          prepared = refl;
          carve = carve;
          carved = at;
        };
        machine = h.0;
        line = h.1;
        new = new;
        played =
            subst (λ n. IsPlayed gives n line old (Ok (report.Response h.1 ∷ [])) new) (omega arith)
            (subst (λ ls. IsPlayed gives number line old (Ok ls) new) h.2 played);
        booted = h.3;
        more = b.0;
        first = b.1;
        run = run;
        ends = boot_runs h.0 run.last run.calls h.3.booted.state_is run.leads;
      })

  boots : (carve : Option PageRange) (answer : Answer) → old.told.carve ≡ carve → Plays answer → Reports answer
      → MatchOption carve ((answer ≡ Err (stops.Fault (faults.Line Place))) × (new ≡ old))
      (λ carve. MatchResult answer
      (λ says. (machine : Machine)
      × (says_line : Response)
      × (says ≡ report.Response says_line ∷ [])
      × HasBooted carve old machine says_line new)
      (λ stop. IsNoWorld stop (memory_of old.told.regions carve) (config_of old.told) × (new ≡ old)))
      → step_asked line ≡ None → Told gives number old (line ∷ rest) reported outcome
  boots None answer at played begins h silent = fault_alone answer (faults.Line Place) begins h.0
  boots (Some carve) answer at played begins h silent = boots_by carve answer at played begins h silent

  before_boot : (answer : Answer)
      → Plays answer
      → Reports answer
      → (r : Result (Option Line) LineFault)
      → Fits false r (step_asked line)
      → Follows gives number r old answer new
      → Told gives number old (line ∷ rest) reported outcome
  before_boot answer played begins (Err fault) fit f = fault_alone answer (faults.Line fault) begins f.0
  before_boot answer played begins (Ok None) fit f =
      passes_on answer f.0 played begins fit (ap (λ (s : Standing). s.machine) f.1 ∙ unbooted)
  before_boot answer played begins (Ok (Some (lines.Setting setting))) fit f = told setting answer played begins f fit.1
  before_boot answer played begins (Ok (Some lines.Boot)) fit f = boots old.told.carve answer refl played begins f fit.1
  before_boot answer played begins (Ok (Some (lines.Step cpu step))) fit f = absurd (on fit.0)
  before_boot answer played begins (Ok (Some (lines.Query query))) fit f = absurd (on fit.0)
  before_boot answer played begins (Ok (Some (lines.Poke poke))) fit f = absurd fit
  before_boot answer played begins (Ok (Some lines.Start)) fit f = absurd (on fit.0)

unbooted_runs : (gives : Gives) (trace : List (List ℕ)) (number : ℕ) (old : Standing) (reported : List ReportLine)
    (outcome : Outcome)
    → old.machine ≡ None
    → IsReport gives number old trace reported outcome
    → Told gives number old trace reported outcome
unbooted_runs gives [] number old reported outcome unbooted h =
    inl (record { line = end_line old; alone = h.0; no_step = refl; all = λ whole. refl })
unbooted_runs gives (line ∷ rest) number old reported outcome unbooted (answer, new, played, begins) =
    let follows : (more : List ReportLine)
    → new.machine ≡ None
    → IsReport gives (number + 1) new rest more outcome
    → Told gives (number + 1) new rest more outcome
    = λ more at report. unbooted_runs gives rest (number + 1) new more outcome at report in
    elim (cases_lt 1048576 number) [
      | inl many ↦ let x = played.past many in
          fault_alone gives number line rest old new reported outcome unbooted follows answer faults.Lines begins x.0
      | inr few ↦
          before_boot gives number line rest old new reported outcome unbooted follows answer played begins
          (said (allowed false old.started) old.told line) (fits old.told false old.started line)
          (subst (λ b. Follows gives number (said (allowed b old.started) old.told line) old answer new)
          (ap (λ o. is_some o) unbooted) (played.runs few))
    ]

pub trace_runs : (gives : Gives) → TraceRuns gives
trace_runs gives trace reported outcome h = unbooted_runs gives trace 1 at_start reported outcome refl h
