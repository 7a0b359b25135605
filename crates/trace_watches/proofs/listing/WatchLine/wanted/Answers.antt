use Rattle.std.proofs.Common.{◌∙◌, ◌+◌, ap, drop, length}
use Rattle.std.proofs.lemmas.List.{drop-drop}
use Rattle.trace_watches.proofs.listing.WatchLine.wanted.Goals as goal

pub returns : goal.returns
returns c =
    c.behind.ensures
    ∙ ap (drop (length c.word_at-frame.result.now)) c.behind-rest.ensures
    ∙ drop-drop (length c.word_at-frame.result.now) 13 c.args.self.line.now
    ∙ ap (λ w. drop (13 + length w) c.args.self.line.now) c.word_at-frame.ensures
