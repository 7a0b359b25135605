-- What was read, by what clap answers.
use Rattle.std.proofs.Common.{◌≡◌, ◌∙◌, Result, Ok, Err, List, [], Some, None, sym, ap, subst, inl, inr, option_and_then}
use Rattle.std.specs.Prelude.{⊤}
use Rattle.clap.specs.Kinds.{HasKind, IsAmong, Kinds}
use Rattle.clap.specs.Simple.{subcommand_rows_of}
use Rattle.clap.specs.Words.{App, Text, fault_of, kind_of, subcommand_of}
use Rattle.clap.specs.declared.error.Error.{Error}
use Rattle.clap.specs.declared.error.kind.ErrorKind.TheVariants.{OutOfMemory}
use Rattle.clap.specs.declared.parser.matches.ArgMatches.{ArgMatches}
use Rattle.trace_command.specs.Words.{program}
use Rattle.trace_command.specs.Asked.{HasAsked, IsRead, StandsFor, asked_by, asked_in, asking_of}
use Rattle.trace_command.specs.declared.asked.Unread.{Unread}
use Rattle.trace_command.specs.declared.asked.Unread.TheVariants as unread
use Rattle.trace_command.specs.declared.words.Invocation.{Invocation}
use Rattle.trace_command.specs.declared.words.UsageFault.{UsageFault}
use Rattle.trace_command.specs.declared.words.UsageFault.TheVariants.{NoMemory, Usage}

-- the error is of a kind that clap may give, since it isn't that memory ran out
among : (kinds : Kinds) (error shown : Error)
    → shown ≡ error
    → ((kind_of error ≡ OutOfMemory) → ⊥)
    → HasKind kinds error
    → IsAmong (kind_of shown) kinds
among kinds error shown is other (inl memory) = absurd (other memory)
among kinds error shown is other (inr found) = subst (λ e. IsAmong (kind_of e) kinds) (sym is) found

pub err_read : (words : List Text) (a : App) (error : Error) (fault : UsageFault)
    → a ≡ program
    → HasKind (fault_of a words) error
    → StandsFor error fault
    → IsRead words (Err fault)
err_read words a error (Usage shown) is fails stands =
    inl
    (among (fault_of program words) error shown stands.0 stands.1
    (subst (λ b. HasKind (fault_of b words) error) is fails))
err_read words a error NoMemory is fails stands = tt

-- what comes of words in which clap finds no fault
abbrev pub Comes : List Text → Result Invocation Unread → Type 0
Comes words (Ok invocation) = (fault_of program words ≡ []) × (asked_by words ≡ Some (asking_of invocation))
Comes words (Err (unread.Word wanted)) = (fault_of program words ≡ []) × (asked_by words ≡ None)
Comes words (Err unread.NoMemory) = ⊤

comes : (words : List Text) (r : Result Invocation Unread)
    → fault_of program words ≡ []
    → HasAsked (asked_by words) r
    → Comes words r
comes words (Ok invocation) none has = (none, has)
comes words (Err (unread.Word wanted)) none has = (none, has)
comes words (Err unread.NoMemory) none has = tt

pub ok_read : (words : List Text) (a : App) (m : ArgMatches) (r : Result Invocation Unread)
    → a ≡ program
    → fault_of a words ≡ []
    → subcommand_rows_of m ≡ subcommand_of a words
    → HasAsked (option_and_then asked_in (subcommand_rows_of m)) r → Comes words r
ok_read words a m r is none rows has =
    comes words r (ap (λ (b : App). fault_of b words) (sym is) ∙ none)
    (subst (λ o. HasAsked (option_and_then asked_in o) r) (rows ∙ ap (λ (b : App). subcommand_of b words) is) has)
