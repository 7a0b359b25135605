use Rattle.std.proofs.Common.{rules}
use Rattle.table_words.proofs.Exactly.{exactly}
use Rattle.table_words.specs.Decoding.{decoded_of}
use Rattle.table_words.proofs.decoding.decode.Goals as goal

pub returns-then-word-eq0-clause-exact : goal.returns-then-word-eq0-clause-exact
unfolding decoded_of
returns-then-word-eq0-clause-exact c = exactly _ _ _ _ (search rules)

pub returns-then-bits-eq0-clause-exact : goal.returns-then-bits-eq0-clause-exact
unfolding decoded_of
returns-then-bits-eq0-clause-exact c = exactly _ _ _ _ (search rules)

pub returns-in-Some-clause-exact : goal.returns-in-Some-clause-exact
unfolding decoded_of
returns-in-Some-clause-exact c = exactly _ _ _ _ (search rules)

pub returns-in-Some-leaf_of-clause-exact : goal.returns-in-Some-leaf_of-clause-exact
unfolding decoded_of
returns-in-Some-leaf_of-clause-exact c = exactly _ _ _ _ (search rules)

pub returns-clause-exact : goal.returns-clause-exact
unfolding decoded_of
returns-clause-exact c = exactly _ _ _ _ (search rules)
