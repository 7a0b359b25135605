-- Threads that are joined one after another.
use Rattle.std.proofs.Common.{◌≡◌, ◌∙◌, sym, ap, subst, List, [], ◌∷◌, ◌++◌, All, map}
use Rattle.std.proofs.lemmas.List.{append-nil}
use Rattle.std.proofs.lemmas.List.Elements.{All-head, All-tail}
use Rattle.std.specs.declared.thread.PromisedHandle.{PromisedHandle}
use Rattle.part_table.specs.Passes.{Opened, Pass}
use Rattle.trace_race.specs.declared.course.Asked.{Asked}
use Rattle.trace_race.specs.declared.workers.Comes.{Comes}
use Rattle.trace_race.specs.declared.workers.Done.{Done}
use Rattle.trace_race.specs.Made.{IsDoneOf}
use Rattle.trace_race.specs.Workers.{AllFinish}
use Rattle.trace_race.proofs.Made.{behind}

abbrev pub Thread : Type 0
Thread = PromisedHandle Done Comes

-- a thread of this machine's table, of which these steps are asked
pub record IsTheirs (t : Opened) (steps : List Asked) (h : Thread) : Type 0 where
  pub table : h.promise.machine.value.table ≡ t
  pub steps_are : h.promise.steps.now ≡ steps

-- the passes with which threads began
abbrev pub passes_of : List Thread → List Pass
passes_of hs = map (λ h. h.promise.pass.value) hs

-- some threads were joined, the others are left: whatever these come to, all have finished
pub record Joins (t : Opened) (steps : List Asked) (all left : List Thread) (done : List Done) : Type 0 where
  pub theirs : All (IsTheirs t steps) left
  pub leads : (more : List Done)
      → AllFinish t steps (passes_of left) more
      → AllFinish t steps (passes_of all) (done ++ more)

pub joins_none : (t : Opened) (steps : List Asked) (all : List Thread) (done : List Done)
    → done ≡ []
    → All (IsTheirs t steps) all
    → Joins t steps all all done
joins_none t steps all done none theirs = record {
  theirs = theirs;
  leads = λ more finish. subst (λ ds. AllFinish t steps (passes_of all) (ds ++ more)) (sym none) finish;
}

pub joins_one : (t : Opened) (steps : List Asked) (all left rest : List Thread) (done next : List Done) (h : Thread)
    (d : Done)
    → left ≡ h ∷ rest
    → next ≡ done ++ d ∷ []
    → IsDoneOf h.promise.machine.value.table h.promise.steps.now h.promise.pass.value d
    → Joins t steps all left done → Joins t steps all rest next
joins_one t steps all left rest done next h d first is one joins =
    let both : All (IsTheirs t steps) (h ∷ rest) = subst (All (IsTheirs t steps)) first joins.theirs in
    let own : IsTheirs t steps h = All-head (IsTheirs t steps) h rest both in
    let here : IsDoneOf t steps h.promise.pass.value d =
    subst (λ ss. IsDoneOf t ss h.promise.pass.value d) own.steps_are
    (subst (λ k. IsDoneOf k h.promise.steps.now h.promise.pass.value d) own.table one) in
    record {
      theirs = All-tail (IsTheirs t steps) h rest both;
      leads = λ more finish.
          subst (AllFinish t steps (passes_of all)) (sym (ap (λ ds. ds ++ more) is ∙ behind done d more))
          (joins.leads (d ∷ more)
          (subst (λ hs. AllFinish t steps (passes_of hs) (d ∷ more)) (sym first) (here, finish)));
    }

pub joins_all : (t : Opened) (steps : List Asked) (all left : List Thread) (done : List Done) (passes : List Pass)
    → left ≡ []
    → passes_of all ≡ passes
    → Joins t steps all left done
    → AllFinish t steps passes done
joins_all t steps all left done passes none are joins =
    subst (λ ps. AllFinish t steps ps done) are
    (subst (AllFinish t steps (passes_of all)) (append-nil done)
    (joins.leads [] (subst (λ hs. AllFinish t steps (passes_of hs) []) (sym none) tt)))
