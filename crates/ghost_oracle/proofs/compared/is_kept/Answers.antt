use Rattle.std.proofs.Common.{◌∙◌, ap, sym, map}
use Rattle.guest_component.specs.View.{runs_of}
use Rattle.ghost_oracle.proofs.compared.is_kept.Goals as goal

pub returns-then-is_shared_kept : goal.returns-then-is_shared_kept
returns-then-is_shared_kept g c = (
  λ h. let both = c.is_shared_kept.ensures.0 c.if-is_shared_kept.true in record {
    host = both.0;
    hyp = both.1;
    guests =
        ap (map (λ x. x.tree.runs.items)) (sym c.as_slice.ensures.value) ∙ c.are_guests_kept.ensures.0 h
        ∙ ap (map (λ x. runs_of x.guest.body)) c.as_slice-then-is_shared_kept.ensures.value;
  },
  λ s. c.are_guests_kept.ensures.1
      (ap (map (λ x. x.tree.runs.items)) c.as_slice.ensures.value ∙ s.guests
      ∙ ap (map (λ x. runs_of x.guest.body)) (sym c.as_slice-then-is_shared_kept.ensures.value)),
)

pub returns-else-is_shared_kept : goal.returns-else-is_shared_kept
returns-else-is_shared_kept g c = (
  λ h. cc,
  λ s.
      let yes = c.is_shared_kept.ensures.1 (s.host, s.hyp) in
      let no = c.if-is_shared_kept.false in
      let clash = sym yes ∙ no in cc,
)
