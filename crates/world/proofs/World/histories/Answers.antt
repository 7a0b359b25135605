use Rattle.std.proofs.Math.Logic.{∥∥₁_map}
use Rattle.hypercalls.specs.declared.parts.Parts.{Parts}
use Rattle.hypercalls.specs.Stands.{HasHistory, kept_of, parts_layout}
use Rattle.ghost_oracle.proofs.Scratch.{if_ok}
use Rattle.world.specs.declared.merge.Histories.{Histories}
use Rattle.world.specs.Merges.{AreLogsOf, IsOfHistory}
use Rattle.world.proofs.World.histories.Goals as goal

of_history : {A : Type 0} (p : Parts A) (h : Histories)
    → HasHistory p
    → AreLogsOf h (parts_layout p) (kept_of p)
    → IsOfHistory h
of_history p h has logs =
    record {
      layout = parts_layout p;
      ready = has.ready;
      kept = kept_of p;
      log = has.log;
      history = has.history;
      logs = logs;
    }

pub returns-clause-history : goal.returns-clause-history
returns-clause-history g c =
    let p = c.args.self.now.parts in
    if_ok (λ h. AreLogsOf h (parts_layout p) (kept_of p)) (λ h. ∥ IsOfHistory h ∥₁) c.histories.result
    (λ h logs. ∥∥₁_map c.args.self.now.history (λ has. of_history p h has logs)) c.histories.ensures.logs
