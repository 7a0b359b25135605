-- Each step is counted once.
use Rattle.std.proofs.Common.{◌≡◌, ◌∙◌, ℕ, suc, ◌+◌, ◌==◌, ◌&&◌, Bool, true, false, List, [], ◌∷◌, ◌++◌, cond, length, sum_by, count_by, Option, Some, None, is_some, refl, sym, ap, ap₂, arith}
use Rattle.std.proofs.lemmas.List.Sums.{sum_by-append, sum_by-cons}
use Rattle.call_table.specs.declared.reply.Refusal.{Refusal}
use Rattle.call_table.specs.declared.reply.Refusal.TheVariants.{Perm, NoVm, Contended, NoMemory, Busy, Invalid, NoPool, LogFull}
use Rattle.call_table.specs.declared.row.CallName.{CallName}
use Rattle.call_table.specs.declared.row.CallName.TheVariants.{ShareHyp, UnshareHyp, DonateHyp, HypDonateHost, HostAbort, HostTranslate, HypTranslate, OwnerOf, Fund, Unfund, ShareGuest, UnshareGuest, DonateGuest, GuestShareHost, GuestUnshareHost, Install, Topup, ReclaimPage, ReclaimPool, FinishGuest, GuestRelax, GuestTranslate, MarkDying, VmReserve, VmOpen, VcpuLoad, VcpuPut, Teardown, VmRelease}
use Rattle.call_table.specs.Rows.{calls}
use Rattle.trace_cover.specs.declared.condition.Condition.{Condition}
use Rattle.trace_cover.specs.declared.condition.Condition.TheVariants.{Device, Untouched, Mapped, WithHyp, HypPlain, InSharedPool, InVmPool, InHand, WithGuest, WithDying, Guests, OfDying, LentBack, LentByDying}
use Rattle.trace_cover.specs.declared.rows.Row.{Row}
use Rattle.trace_cover.specs.declared.rows.Row.TheVariants.{Reply, Cell}
use Rattle.trace_cover.specs.declared.steps.Seen.{Seen}
use Rattle.trace_cover.specs.Counted.{is_in, is_of_call, meets}
use Rattle.trace_cover.specs.Laws.{CountsOnce, EachOnce, cell_count, is_of_frame, reply_count}
use Rattle.trace_cover.specs.Rows.{reply_number, rows, rows_in, rows_of}

-- 1 where a test holds
abbrev one : Bool → ℕ
one b = cond b 1 0

-- what one step adds to the row of a call that is the step's, or isn't
abbrev to_reply : Bool → Option Refusal → Row → ℕ
to_reply b why (Reply call w) = one (b && reply_number w == reply_number why)
to_reply b why (Cell call c) = 0

abbrev to_cell : Bool → Option Condition → Row → ℕ
to_cell b condition (Reply call w) = 0
to_cell b condition (Cell call c) = one (b && is_in c condition)

one_reply : (call : CallName) (b : Bool) (why : Option Refusal) → sum_by (to_reply b why) (rows_of call) ≡ one b
one_reply call true None = refl
one_reply call true (Some Invalid) = refl
one_reply call true (Some NoVm) = refl
one_reply call true (Some Busy) = refl
one_reply call true (Some Perm) = refl
one_reply call true (Some NoPool) = refl
one_reply call true (Some LogFull) = refl
one_reply call true (Some NoMemory) = refl
one_reply call true (Some Contended) = refl
one_reply call false why = refl

one_cell : (call : CallName) (b : Bool) (condition : Option Condition)
    → sum_by (to_cell b condition) (rows_of call) ≡ one (b && is_some condition)
one_cell call true None = refl
one_cell call true (Some Device) = refl
one_cell call true (Some Untouched) = refl
one_cell call true (Some Mapped) = refl
one_cell call true (Some WithHyp) = refl
one_cell call true (Some HypPlain) = refl
one_cell call true (Some InSharedPool) = refl
one_cell call true (Some InVmPool) = refl
one_cell call true (Some InHand) = refl
one_cell call true (Some WithGuest) = refl
one_cell call true (Some WithDying) = refl
one_cell call true (Some Guests) = refl
one_cell call true (Some OfDying) = refl
one_cell call true (Some LentBack) = refl
one_cell call true (Some LentByDying) = refl
one_cell call false condition = refl

-- a call is one of the table, once
abbrev of_call : CallName → CallName → ℕ
of_call call c = one (is_of_call c call)

one_call : (call : CallName) → sum_by (of_call call) calls ≡ 1
one_call ShareHyp = refl
one_call UnshareHyp = refl
one_call DonateHyp = refl
one_call HypDonateHost = refl
one_call HostAbort = refl
one_call HostTranslate = refl
one_call HypTranslate = refl
one_call OwnerOf = refl
one_call Fund = refl
one_call Unfund = refl
one_call ShareGuest = refl
one_call UnshareGuest = refl
one_call DonateGuest = refl
one_call GuestShareHost = refl
one_call GuestUnshareHost = refl
one_call Install = refl
one_call Topup = refl
one_call ReclaimPage = refl
one_call ReclaimPool = refl
one_call FinishGuest = refl
one_call GuestRelax = refl
one_call GuestTranslate = refl
one_call MarkDying = refl
one_call VmReserve = refl
one_call VmOpen = refl
one_call VcpuLoad = refl
one_call VcpuPut = refl
one_call Teardown = refl
one_call VmRelease = refl

-- what a step adds to a row
abbrev adds_reply : Seen → Row → ℕ
adds_reply x (Reply call why) = one (meets (Reply call why) x)
adds_reply x (Cell call condition) = 0

abbrev adds_cell : Seen → Row → ℕ
adds_cell x (Reply call why) = 0
adds_cell x (Cell call condition) = one (meets (Cell call condition) x)

in_replies : (x : Seen) (cs : List CallName) → sum_by (adds_reply x) (rows_in cs) ≡ sum_by (of_call x.call) cs
in_replies x [] = refl
in_replies x (c ∷ cs) =
    sum_by-append (adds_reply x) (rows_of c) (rows_in cs)
    ∙ ap₂ (λ (a b : ℕ). a + b) (one_reply c (is_of_call c x.call) x.why) (in_replies x cs)
    ∙ sym (sum_by-cons (of_call x.call) c cs)

-- of calls that are a step's, those whose frame is in a condition
abbrev of_cell : Seen → CallName → ℕ
of_cell x c = one (is_of_call c x.call && is_some x.condition)

in_cells : (x : Seen) (cs : List CallName) → sum_by (adds_cell x) (rows_in cs) ≡ sum_by (of_cell x) cs
in_cells x [] = refl
in_cells x (c ∷ cs) =
    sum_by-append (adds_cell x) (rows_of c) (rows_in cs)
    ∙ ap₂ (λ (a b : ℕ). a + b) (one_cell c (is_of_call c x.call) x.condition) (in_cells x cs)
    ∙ sym (sum_by-cons (of_cell x) c cs)

and_true : (a : Bool) → one (a && true) ≡ one a
and_true true = refl
and_true false = refl

and_false : (a : Bool) → one (a && false) ≡ 0
and_false true = refl
and_false false = refl

-- of the calls that are one, so many as hold
abbrev held : CallName → Bool → CallName → ℕ
held call o c = one (is_of_call c call && o)

all_held : (call : CallName) (cs : List CallName) → sum_by (held call true) cs ≡ sum_by (of_call call) cs
all_held call [] = refl
all_held call (c ∷ cs) =
    sum_by-cons (held call true) c cs ∙ ap₂ (λ (a b : ℕ). a + b) (and_true (is_of_call c call)) (all_held call cs)
    ∙ sym (sum_by-cons (of_call call) c cs)

none_held : (call : CallName) (cs : List CallName) → sum_by (held call false) cs ≡ 0
none_held call [] = refl
none_held call (c ∷ cs) =
    sum_by-cons (held call false) c cs ∙ ap₂ (λ (a b : ℕ). a + b) (and_false (is_of_call c call)) (none_held call cs)

one_held : (call : CallName) (o : Bool) → sum_by (held call o) calls ≡ one o
one_held call true = all_held call calls ∙ one_call call
one_held call false = none_held call calls

-- a sum of two is that of each
swapped : (a b c d : ℕ) → (a + b) + (c + d) ≡ (a + c) + (b + d)
swapped a b c d = omega arith

both : (f g h : Row → ℕ) → ((r : Row) → h r ≡ f r + g r) → (rs : List Row) → sum_by h rs ≡ sum_by f rs + sum_by g rs
both f g h is [] = refl
both f g h is (r ∷ rs) =
    sum_by-cons h r rs ∙ ap₂ (λ (a b : ℕ). a + b) (is r) (both f g h is rs)
    ∙ swapped (f r) (g r) (sum_by f rs) (sum_by g rs)
    ∙ sym (ap₂ (λ (a b : ℕ). a + b) (sum_by-cons f r rs) (sum_by-cons g r rs))

none : (f : Row → ℕ) → ((r : Row) → f r ≡ 0) → (rs : List Row) → sum_by f rs ≡ 0
none f is [] = refl
none f is (r ∷ rs) = sum_by-cons f r rs ∙ ap₂ (λ (a b : ℕ). a + b) (is r) (none f is rs)

no_reply : (r : Row) → reply_count [] r ≡ 0
no_reply (Reply call why) = refl
no_reply (Cell call condition) = refl

no_cell : (r : Row) → cell_count [] r ≡ 0
no_cell (Reply call why) = refl
no_cell (Cell call condition) = refl

more_replies : (x : Seen) (xs : List Seen) (r : Row) → reply_count (x ∷ xs) r ≡ adds_reply x r + reply_count xs r
more_replies x xs (Reply call why) = sum_by-cons (λ (s : Seen). one (meets (Reply call why) s)) x xs
more_replies x xs (Cell call condition) = refl

more_cells : (x : Seen) (xs : List Seen) (r : Row) → cell_count (x ∷ xs) r ≡ adds_cell x r + cell_count xs r
more_cells x xs (Reply call why) = refl
more_cells x xs (Cell call condition) = sum_by-cons (λ (s : Seen). one (meets (Cell call condition) s)) x xs

one_more : (n : ℕ) → 1 + n ≡ suc n
one_more n = omega arith

replies_once : (seen : List Seen) → sum_by (reply_count seen) (rows_in calls) ≡ length seen
replies_once [] = none (reply_count []) no_reply (rows_in calls)
replies_once (x ∷ xs) =
    both (adds_reply x) (reply_count xs) (reply_count (x ∷ xs)) (more_replies x xs) (rows_in calls)
    ∙ ap₂ (λ (a b : ℕ). a + b) (in_replies x calls ∙ one_call x.call) (replies_once xs)
    ∙ one_more (length xs)

cells_once : (seen : List Seen) → sum_by (cell_count seen) (rows_in calls) ≡ count_by is_of_frame seen
cells_once [] = none (cell_count []) no_cell (rows_in calls)
cells_once (x ∷ xs) =
    both (adds_cell x) (cell_count xs) (cell_count (x ∷ xs)) (more_cells x xs) (rows_in calls)
    ∙ ap₂ (λ (a b : ℕ). a + b) (in_cells x calls ∙ one_held x.call (is_some x.condition)) (cells_once xs)
    ∙ sym (sum_by-cons (λ (s : Seen). one (is_of_frame s)) x xs)

pub each_once : EachOnce
unfolding rows
each_once seen = record { replies = replies_once seen; cells = cells_once seen }
