use Rattle.std.proofs.Common.{ap, sym, ◌∙◌, Option}
use Rattle.page_state.specs.declared.entry.Entry.{Entry}
use Rattle.page_state.specs.declared.entry.Target.{Target}
use Rattle.page_state.specs.Entries.{entry_of}
use Rattle.page_state.specs.Runs.{map_of}
use Rattle.page_state.specs.Map.{Map, update}
use Rattle.page_state.specs.Trees.{Tree}
use Rattle.page_state.specs.Tables.{edited}
use Rattle.page_state.proofs.Entries.{entry_of-target_of}
use Rattle.component.proofs.Component.set.Goals as goal

pub invariant_of-self : goal.invariant_of-self
unfolding edited
invariant_of-self g c =
    let e = c.args.change in
    let m : Map = map_of c.args.self.now.maplets.runs in
    record {
      agree =
          ap (λ (t : Tree). t.map) c.set_with.ensures.edited.tree
          ∙ ap (λ (m : Map). update m e.range.first.0 e.range.count e.entry) c.args.self.now.agree
          ∙ sym
          (c.set.ensures.map
          ∙ ap (λ (x : Option Target). update m e.range.first.0 e.range.count (entry_of x)) c.target.ensures
          ∙ ap (λ (x : Entry). update m e.range.first.0 e.range.count x) (entry_of-target_of e.entry));
      coarsest = c.set.ensures.coarsest;
    }
