use Rattle.std.proofs.Common.{refl, sym, ◌∙◌, inl}
use Rattle.call_table.proofs.Equality.{replies_tell}
use Rattle.free_judge.proofs.same.says.Goals as goal

pub returns-then-eq : goal.returns-then-eq
returns-then-eq c = (λ t. inl ((replies_tell c.args.said c.args.told).0 (sym c.eq.ensures ∙ c.if-eq.true)), λ h. refl)
