use Rattle.std.proofs.Common.{◌≡◌}
use Rattle.memory_image.specs.Pages.{words_in}
use Rattle.memory_image.proofs.pages.words_of_page.Given as goal

abbrev pub invariant-loop-i : goal.invariant-loop-i
invariant-loop-i l = l.words.items ≡ words_in l.page l.i
