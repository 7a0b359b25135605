use Rattle.std.proofs.Common.{ℕ, [], ◌∷◌, ◌++◌, Err, refl, sym, ap, ◌∙◌}
use Rattle.image_dump.specs.declared.line.DumpLine.TheVariants as line
use Rattle.std.specs.Option.{is_some}
use Rattle.image_dump.specs.Stating.{reported_root}
use Rattle.image_dump.proofs.Collected.{append_nil, none_denied, same_tree}
use Rattle.image_dump.proofs.dump.add_root.Goals as goal

pub returns-in_ok-add_line-in-Err-clause-added : goal.returns-in_ok-add_line-in-Err-clause-added
returns-in_ok-add_line-in-Err-clause-added g c = record {
  found =
      record { root = reported_root (is_some c.args.records.now) c.args.root; walked = Err c.in-Err.why; denied = [] };
  found_in = record {
    root_is = refl;
    walk = c.in-Err.ensures.unwalked;
    denied = none_denied (g.I.ImageBytes.bytes c.args.image.now) c.args.segments.now c.args.records.now c.args.root;
  };
  grows = record {
    lines_are = c.in_ok-add_line-in-Err.ensures
        ∙ ap (λ (t : ℕ). c.args.all.now.lines.items ++ line.Unwalked t c.in-Err.why ∷ [])
        (sym (same_tree (is_some c.args.records.now) c.args.root));
    words_are = sym (append_nil _);
    claims_are = sym (append_nil _);
    tables_are = sym (append_nil _);
  };
  faults_are = refl;
}
