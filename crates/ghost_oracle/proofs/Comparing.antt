-- States and lists that are compared.
use Rattle.std.proofs.Common.{◌≡◌, ℕ, ◌<◌, ap, sym, ◌∙◌, List, length, map}
use Rattle.std.specs.Prelude.{get_or}
use Rattle.std.proofs.lemmas.List.{get_or-map}
use Rattle.reference_model.specs.model.State.{Contents}
use Rattle.ghost_judge.specs.Audits.{AuditAgrees}

-- one state doesn't differ from itself
pub none_differs : (s t : Contents) → s ≡ t → AuditAgrees s t
none_differs s t e = record {
  maps =
      record {
        host = ap (λ (x : Contents). x.shared.host.map) e;
        hyp = ap (λ (x : Contents). x.shared.hyp.map) e;
        guests = λ v. ap (λ (x : Contents). (x.guest v).tree.map) e;
      };
  rows = ap (λ (x : Contents). x.shared.row) e;
}

-- items at one place of lists that give the same
pub same_at : {X Y Z : Type 0} (f : X → Z) (g : Y → Z) (xs : List X) (ys : List Y) (i : ℕ) (x : X) (y : Y)
    → map f xs ≡ map g ys
    → i < length xs
    → i < length ys
    → x ≡ get_or xs i x
    → y ≡ get_or ys i y
    → f x ≡ g y
same_at f g xs ys i x y same less within first second =
    ap f first ∙ sym (get_or-map f xs i x (f x) less) ∙ ap (λ zs. get_or zs i (f x)) same
    ∙ get_or-map g ys i y (f x) within ∙ ap g (sym second)
