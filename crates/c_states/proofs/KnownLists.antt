-- Lists whose members have known numbers name no vCPU past the eighth, and no CPU past the last.
use Rattle.std.proofs.Common.{◌≡◌, ℕ, ◌+◌, Bool, true, false, cond, not, List, [], ◌∷◌, Option, Some, None, refl, sym, ap, ◌∙◌, arith}
use Rattle.std.specs.Prelude.{◌==◌, nat_lt, if◌then◌else◌, find, position, option_map, unwrap_or}
use Rattle.std.specs.List.{position_from}
use Rattle.std.proofs.lemmas.Iterator.Adapters.{position_from-zero}
use Rattle.std.proofs.lemmas.Bool.Decides.{nat_tests}
use mathlib.Core.Path.{fun_ext}
use Rattle.page_state.proofs.Cases.{by_test}
use Rattle.reference_model.specs.model.State.{no_cpu}
use Rattle.c_states.specs.declared.members.PlainCpu.{PlainCpu}
use Rattle.c_states.specs.declared.members.PlainLoad.{PlainLoad}
use Rattle.c_states.specs.declared.members.PlainSlot.{PlainSlot}
use Rattle.c_states.specs.declared.state.PlainList.{PlainList}
use Rattle.c_states.specs.declared.state.PlainList.TheVariants as lists
use Rattle.c_states.specs.Faults.{first_unknown_later, first_unknown_of, unknown_in}
use Rattle.c_states.specs.Filled.{slot_filled}
use Rattle.c_states.specs.Known.{is_cpu, is_frame, is_guest, is_load as is_known_load, is_row, is_run, is_slot, is_table}
use Rattle.c_states.specs.Lists.{cpu_listed, cpu_from_c, is_load, loader_from_c, no_plain_cpu, slot_from_c}
use Rattle.c_states.specs.States.{Lists}

none_next : {X : Type 0} (test : X → Bool) (x : X) (xs : List X) (i : ℕ) (b : Bool) (rest : Option ℕ)
    → (b ≡ true → test x ≡ false)
    → (rest ≡ None → find test xs ≡ None)
    → cond (not b) (Some i) rest ≡ None
    → find test (x ∷ xs) ≡ None
none_next test x xs i true rest apart next is = rw (apart refl) (next is)
none_next test x xs i false rest apart next is = absurd (let bad = is in cc)

none_from : {X : Type 0} (known test : X → Bool)
    → ((x : X) → known x ≡ true → test x ≡ false)
    → (xs : List X) (i : ℕ)
    → position_from (λ x. not (known x)) i xs ≡ None
    → find test xs ≡ None
none_from known test apart [] i all = refl
none_from known test apart (x ∷ xs) i all =
    none_next test x xs i (known x) (position_from (λ y. not (known y)) (i + 1) xs) (apart x)
    (none_from known test apart xs (i + 1)) all

-- a test that no known member passes finds none
none_found : {X : Type 0} (known test : X → Bool)
    → ((x : X) → known x ≡ true → test x ≡ false)
    → (xs : List X)
    → position (λ x. not (known x)) xs ≡ None
    → find test xs ≡ None
none_found known test apart xs all =
    none_from known test apart xs 0 (sym (position_from-zero (λ x. not (known x)) xs) ∙ all)

abbrev unknown_or : PlainList → Option (PlainList × ℕ) → Option ℕ → Option (PlainList × ℕ)
unknown_or list others o = elim o [ None ↦ others | Some at ↦ Some (list, at) ]

unknown_none : (o : Option ℕ) (list : PlainList) (others : Option (PlainList × ℕ))
    → unknown_or list others o ≡ None
    → (o ≡ None) × (others ≡ None)
unknown_none None list others h = (refl, h)
unknown_none (Some at) list others h = absurd (let bad = h in cc)

in_none : {X : Type 0} (known : X → Bool) (members : List X) (list : PlainList) (others : Option (PlainList × ℕ))
    → unknown_in known members list others ≡ None
    → (position (λ x. not (known x)) members ≡ None) × (others ≡ None)
in_none known members list others is = unknown_none (position (λ x. not (known x)) members) list others is

-- from the slots on
abbrev from_slots : ℕ → Lists → Option (PlainList × ℕ)
from_slots cpus p = unknown_in is_slot p.slots lists.Slots (first_unknown_later cpus p)

abbrev from_frames : ℕ → Lists → Option (PlainList × ℕ)
from_frames cpus p = unknown_in is_frame p.frames lists.Frames (from_slots cpus p)

abbrev from_cpus : ℕ → Lists → Option (PlainList × ℕ)
from_cpus cpus p = unknown_in (is_cpu cpus) p.cpus lists.Cpus (unknown_in is_row p.rows lists.Rows None)

abbrev from_guests : ℕ → Lists → Option (PlainList × ℕ)
from_guests cpus p = unknown_in is_guest p.guests lists.Guests (from_cpus cpus p)

known_later : (cpus : ℕ) (p : Lists) → first_unknown_of cpus p ≡ None → first_unknown_later cpus p ≡ None
known_later cpus p known =
    let tables =
    (in_none is_run p.runs lists.Runs (unknown_in is_table p.tables lists.Tables (from_frames cpus p)) known).1 in
    let frames = (in_none is_table p.tables lists.Tables (from_frames cpus p) tables).1 in
    let slots = (in_none is_frame p.frames lists.Frames (from_slots cpus p) frames).1 in
    (in_none is_slot p.slots lists.Slots (first_unknown_later cpus p) slots).1

pub known_loads : (cpus : ℕ) (p : Lists)
    → first_unknown_of cpus p ≡ None
    → position (λ l. not (is_known_load l)) p.loads ≡ None
known_loads cpus p known = (in_none is_known_load p.loads lists.Loads (from_guests cpus p) (known_later cpus p known)).0

pub known_cpus : (cpus : ℕ) (p : Lists)
    → first_unknown_of cpus p ≡ None
    → position (λ k. not (is_cpu cpus k)) p.cpus ≡ None
known_cpus cpus p known =
    let guests = (in_none is_known_load p.loads lists.Loads (from_guests cpus p) (known_later cpus p known)).1 in
    let own = (in_none is_guest p.guests lists.Guests (from_cpus cpus p) guests).1 in
    (in_none (is_cpu cpus) p.cpus lists.Cpus (unknown_in is_row p.rows lists.Rows None) own).0

late_load : (loads : List PlainLoad) (v i : ℕ)
    → position (λ l. not (is_known_load l)) loads ≡ None
    → nat_lt i 8 ≡ false
    → loader_from_c loads v i ≡ None
late_load loads v i known late =
    ap (option_map (λ l. l.cpu)) (none_found is_known_load (is_load v i) (λ l k. grind (arith, nat_tests)) loads known)

late_cpu : (cpus : ℕ) (ks : List PlainCpu) (c : ℕ)
    → position (λ k. not (is_cpu cpus k)) ks ≡ None
    → nat_lt c cpus ≡ false
    → find (λ k. k.cpu == c) ks ≡ None
late_cpu cpus ks c known late = none_found (is_cpu cpus) (λ k. k.cpu == c) (λ k is. grind (arith, nat_tests)) ks known

-- so the cut at the eighth vCPU cuts nothing
pub slot_whole : (loads : List PlainLoad) (v : ℕ) (s : PlainSlot)
    → position (λ l. not (is_known_load l)) loads ≡ None
    → slot_filled loads v s ≡ slot_from_c loads v s
slot_whole loads v s known =
    ap (λ (f : ℕ → Option ℕ). record (slot_from_c loads v s) { loaded = f })
    (fun_ext (λ i. by_test (nat_lt i 8) (λ t. rw t refl) (λ t. rw t (sym (late_load loads v i known t)))))

-- and CPUs past the last have nothing
pub cpu_whole : (cpus : ℕ) (ks : List PlainCpu)
    → position (λ k. not (is_cpu cpus k)) ks ≡ None
    → (c : ℕ)
    → (if nat_lt c cpus then cpu_from_c (cpu_listed ks c) else no_cpu) ≡ cpu_from_c (cpu_listed ks c)
cpu_whole cpus ks known c =
    by_test (nat_lt c cpus) (λ t. rw t refl)
    (λ t. rw t
    (ap (λ (o : Option PlainCpu). cpu_from_c (unwrap_or o no_plain_cpu)) (sym (late_cpu cpus ks c known t))))
