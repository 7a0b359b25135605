use Rattle.std.proofs.Common.{◌≡◌, ◌∙◌, ◌++◌, ◌∷◌, [], sym, subst}
use Rattle.std.specs.Io.KnownBytes.{Appends}
use Rattle.image_dump.specs.Texts.{text_of_line}
use Rattle.image_dump.proofs.Collected.{one_line}
use Rattle.image_dump.proofs.dump.write_line.Goals as goal

pub returns-in-Ok : goal.returns-in-Ok
returns-in-Ok g c =
    let bytes : c.as_bytes.result.now ≡ text_of_line c.args.line ++ 10 ∷ [] =
    c.as_bytes.ensures.value ∙ c.in_ok-text.ensures.ok in
    subst (Appends (g.W.Write.contents c.args.writer.now) (g.W.Write.contents c.write_all.new.self))
    (bytes ∙ sym (one_line c.args.line)) c.in-Ok.ensures.bytes
