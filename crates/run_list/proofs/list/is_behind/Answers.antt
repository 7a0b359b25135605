use Rattle.std.proofs.Common.{◌≡◌, ◌+◌, ◌-◌, ◌<◌, suc, length, sym, subst, ◌∙◌, arith}
use Rattle.std.specs.Prelude.{nat_lt}
use Rattle.std.proofs.lemmas.List.{take_all}
use Rattle.run_list.specs.Runs.{run_end, EndBefore}
use Rattle.run_list.proofs.Behind.{ends_all}
use Rattle.run_list.proofs.Found.{before_at, below, is_below}
use Rattle.run_list.proofs.list.is_behind.Goals as goal

pub returns-else-last-eq0 : goal.returns-else-last-eq0
returns-else-last-eq0 g c =
    let rs = c.args.runs.now.items in
    let run = c.index.result.now in
    let page = c.args.page + 1 in
    let last = c.len-last.result - 1 in
    let some : length rs ≡ suc last = omega (arith, c.args.runs.now.ok.0, c.len-last.ensures) in
    record {
      behind = λ t. let ends : run_end run < page = is_below (run_end run) page (sym c.ends_before.ensures ∙ t) in
          ends_all g.V.Advance.advance page rs last run c.requires.coarsest some
          (subst (λ r. run_end r < page) c.index.ensures ends);
      all = λ e. let whole = subst (EndBefore page) (sym (take_all (length rs) rs (omega arith))) e in
          let ends = before_at page (length rs) last rs run whole (omega (arith, some)) (omega arith) in
          let told : c.ends_before.result ≡ nat_lt (run_end run) page = c.ends_before.ensures in
          told ∙ below (run_end run) page (subst (λ r. run_end r < page) (sym c.index.ensures) ends);
    }
