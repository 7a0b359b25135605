-- What trees say of frames.
use Rattle.std.specs.Prelude.{ℕ, ◌==◌, Bool, true, false, Option, Some, None, if◌then◌else◌}
use Rattle.descriptor.specs.declared.State.{State}
use Rattle.descriptor.specs.declared.State.TheVariants.{Owned, SharedOwned, SharedBorrowed}
use Rattle.run_list.specs.declared.run.Run.{Run}
use Rattle.table_words.specs.declared.word.Decoded.{Decoded}
use Rattle.table_words.specs.declared.word.Decoded.TheVariants.{Leaf, Annotated}
use Rattle.walked_tables.specs.declared.said.Said.{Said}
use Rattle.image_findings.specs.declared.claim.Claim.{Claim}

-- what the pages from one on claim for their tree: a leaf its frames, an annotation of the host,
-- tree 0, the frames of its pages for the owner that it names. The annotation of a guest by its
-- handle claims nothing.
abbrev pub claim_by : ℕ → (page count : ℕ) → Decoded → Option Claim
claim_by tree page count (Leaf m) =
    Some
    (record {
      tree = tree;
      page = page;
      frame = m.frame.0;
      count = count;
      state = m.state;
      named = false;
    })
claim_by tree page count (Annotated owner None) =
    if tree == 0
    then Some
    (record {
      tree = owner.0;
      page = page;
      frame = page;
      count = count;
      state = Some Owned;
      named = true;
    })
    else None
claim_by tree page count other = None

abbrev pub claim_of : ℕ → Run Said → Option Claim
claim_of tree run = claim_by tree run.pages.first.0 run.pages.count run.value.0

-- the tree owns the frames, shared or not
abbrev pub is_owner : Option State → Bool
is_owner (Some Owned) = true
is_owner (Some SharedOwned) = true
is_owner other = false

abbrev pub is_borrower : Option State → Bool
is_borrower (Some SharedBorrowed) = true
is_borrower other = false

abbrev pub is_sharer : Option State → Bool
is_sharer (Some SharedOwned) = true
is_sharer other = false

abbrev pub owns : Claim → Bool
owns c = is_owner c.state

abbrev pub borrows : Claim → Bool
borrows c = is_borrower c.state

abbrev pub shares : Claim → Bool
shares c = is_sharer c.state
