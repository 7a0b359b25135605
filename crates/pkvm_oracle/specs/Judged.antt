-- What the judgement of a call answers C.
use Rattle.std.specs.Prelude.{◌≡◌, ◌⊎◌, ◌<◌, ℕ, ℤ, pos, negsuc, List, length, take, drop, Some, None}
use Rattle.c_words.specs.declared.reply.PlainReply.{PlainReply}
use Rattle.c_words.specs.declared.step.PlainStep.{PlainStep}
use Rattle.c_states.specs.declared.judge.PlainCall.{PlainCall}
use Rattle.c_states.specs.declared.judge.Unjudged.{Unjudged}
use Rattle.c_states.specs.declared.layout.PlainLayout.{PlainLayout}
use Rattle.c_states.specs.declared.layout.PlainRegion.{PlainRegion}
use Rattle.c_states.specs.declared.state.PlainState.{PlainState}
use Rattle.c_states.specs.Judged.{IsReplyPredicted, IsUnpredicted}
use Rattle.c_states.specs.States.{Lists}
use Rattle.c_states.specs.Views.{lists_from_c}
use Rattle.c_judge.specs.declared.found.Found.{Found}
use Rattle.c_judge.specs.declared.found.Unfound.{Unfound}
use Rattle.c_judge.specs.Found.{IsFound, IsUnfound}
use Rattle.c_judge.specs.Texts.{text_of_found}
use Rattle.pkvm_oracle.specs.declared.judged.PlainRefused.{PlainRefused}
use Rattle.pkvm_oracle.specs.Refusals.{of_fault, refused_by, refused_by_found, status_by, status_by_found}

module _ (layout : PlainLayout) (regions : List PlainRegion) (before : Lists) (call : PlainCall)
    (after : Lists) where
  -- nothing is found, and nothing written
  pub record Agrees (old new : List ℕ) (count : ℕ) (refused : PlainRefused)
      (status : ℤ) : Type 0 where
    pub judged : IsFound layout regions before call after None
    pub status_is : status ≡ pos 0
    pub count_is : count ≡ 0
    pub refused_is : refused ≡ of_fault 0
    pub text : new ≡ old

  -- a difference is found, and written as text
  pub record Differs (old new : List ℕ) (count : ℕ) (refused : PlainRefused)
      (status : ℤ) : Type 0 where
    pub found : Found
    pub judged : IsFound layout regions before call after (Some found)
    pub status_is : status ≡ pos 1
    pub count_is : count ≡ length (text_of_found found)
    pub refused_is : refused ≡ of_fault 0
    pub text : take count new ≡ text_of_found found
    pub behind : drop count new ≡ drop count old

  -- a difference is found, and its text has no room
  pub record HasNoRoom (old new : List ℕ) (count : ℕ) (refused : PlainRefused)
      (status : ℤ) : Type 0 where
    pub found : Found
    pub judged : IsFound layout regions before call after (Some found)
    pub status_is : status ≡ negsuc 1
    pub count_is : count ≡ length (text_of_found found)
    pub refused_is : refused ≡ of_fault 0
    pub less : length old < count
    pub text : new ≡ old

  -- there is no judgement, and nothing is written
  pub record IsRefused (old new : List ℕ) (count : ℕ) (refused : PlainRefused)
      (status : ℤ) : Type 0 where
    pub why : Unfound
    pub unjudged : IsUnfound layout regions before call after why
    pub status_is : status ≡ status_by_found why
    pub count_is : count ≡ 0
    pub refused_is : refused ≡ refused_by_found why
    pub text : new ≡ old

  -- one of these
  abbrev pub IsAnswered : List ℕ → List ℕ → ℕ → PlainRefused → ℤ → Type 0
  IsAnswered old new count refused status =
      Agrees old new count refused status
      ⊎ (Differs old new count refused status
      ⊎ (HasNoRoom old new count refused status ⊎ IsRefused old new count refused status))

-- the judgement of a call, by the lists of its layout and of the states before and after it
abbrev pub IsCallJudged : PlainLayout → PlainState → PlainCall → PlainState → List ℕ → List ℕ → ℕ
    → PlainRefused → ℤ → Type 0
IsCallJudged layout before call after =
    IsAnswered layout layout.regions.now (lists_from_c before) call (lists_from_c after)

module _ (layout : PlainLayout) (regions : List PlainRegion) (before : Lists) (cpu : ℕ)
    (step : PlainStep) where
  -- the reply is written
  pub record IsReplyReported (new : PlainReply) (refused : PlainRefused) (status : ℤ) : Type 0 where
    pub predicted : IsReplyPredicted layout regions before cpu step new
    pub status_is : status ≡ pos 0
    pub refused_is : refused ≡ of_fault 0

  -- there is none, and nothing is written
  pub record HasNoReply (old new : PlainReply) (refused : PlainRefused) (status : ℤ) : Type 0 where
    pub why : Unjudged
    pub unpredicted : IsUnpredicted layout regions before cpu step why
    pub status_is : status ≡ status_by why
    pub refused_is : refused ≡ refused_by why
    pub reply : new ≡ old

  -- one of both
  abbrev pub IsPredicted : PlainReply → PlainReply → PlainRefused → ℤ → Type 0
  IsPredicted old new refused status =
      IsReplyReported new refused status ⊎ HasNoReply old new refused status
