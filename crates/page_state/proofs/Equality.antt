-- A derived `==` tells whether two values are the same: for structs, for enums and for options, and for the types of
-- pages, entries and rows.
use Rattle.std.proofs.Common.{◌≡◌, ℕ, Bool, true, false, List, [], ◌∷◌, refl, subst, ap, inl, inr}
use Rattle.std.specs.Prelude.{◌&&◌, Some, None, Decides}
use Rattle.std.proofs.lemmas.Bool.Decides.{same_from_decides, Decides-and, Decides-like, Decides-eqb}
use denote.Enum.Bare.{Bare, same_true, sameb, true_same}
use denote.Enum.Compared.{Each, by}
use denote.Enum.Declared.{Declared, Record, left_or, right_or, values_one}
use denote.RattleType.{RattleType}
use denote.Struct.Field.{Field}
use mir.Syntax.{Dict}
use Rattle.std.specs.contracts.prelude.OptionPartialEq.TheImpl as options
use Rattle.std.specs.contracts.prelude.U64PartialEq.TheImpl as numbers
use Rattle.std.specs.declared.cmp.PartialEq.{Ghosts}
use Rattle.descriptor.specs.contracts.FramePartialEq.TheImpl as frames
use Rattle.descriptor.specs.contracts.Kind as kind_type
use Rattle.descriptor.specs.contracts.KindPartialEq.TheImpl as kinds
use Rattle.descriptor.specs.contracts.OwnerPartialEq.TheImpl as owners
use Rattle.descriptor.specs.contracts.Prot as prot_type
use Rattle.descriptor.specs.contracts.ProtPartialEq.TheImpl as prots
use Rattle.descriptor.specs.contracts.State as state_type
use Rattle.descriptor.specs.contracts.StatePartialEq.TheImpl as states
use Rattle.descriptor.specs.declared.Frame.{Frame}
use Rattle.descriptor.specs.declared.Owner.{Owner}
use Rattle.descriptor.specs.declared.State.{State}
use Rattle.page_state.specs.EntryTests.{state_eq, entry_eq}
use Rattle.page_state.specs.Entries.{entry_of_target}
use Rattle.page_state.specs.contracts.entry.Entry as entry_type
use Rattle.page_state.specs.contracts.entry.EntryPartialEq.TheImpl as entries
use Rattle.page_state.specs.contracts.entry.PagePartialEq.TheImpl as pages
use Rattle.page_state.specs.contracts.entry.PageRangePartialEq.TheImpl as ranges
use Rattle.page_state.specs.contracts.entry.RunPartialEq.TheImpl as runs
use Rattle.page_state.specs.contracts.entry.Target as target_type
use Rattle.page_state.specs.contracts.entry.TargetPartialEq.TheImpl as targets
use Rattle.page_state.specs.contracts.row.Lent as lent_type
use Rattle.page_state.specs.contracts.row.LentPartialEq.TheImpl as loans
use Rattle.page_state.specs.contracts.row.RowPartialEq.TheImpl as rows
use Rattle.page_state.specs.contracts.row.Usage as usage_type
use Rattle.page_state.specs.contracts.row.UsagePartialEq.TheImpl as usages
use Rattle.page_state.specs.declared.entry.Entry.{Entry}
use Rattle.page_state.specs.declared.entry.Page.{Page}
use Rattle.page_state.specs.declared.entry.Target.{Target}
use Rattle.page_state.proofs.Entries.{entry_eq-same, entry_eq-self, state_eq-same, state_eq-self, target-same}

-- a test of two values tells whether they are the same
abbrev pub Tells : {X : Type 0} → (X → X → Bool) → Type 0
Tells {X} t = (x y : X) → Decides (t x y) (x ≡ y)

-- so it does of the values of each variant of an enum
abbrev TellEach : (Fss : List (List Field)) → Each Bool Fss → Type 0
TellEach [] ts = Unit {0}
TellEach (Fs ∷ Fss) ts = Tells ts.0 × TellEach Fss ts.1

tells_by : (Fss : List (List Field)) (ts : Each Bool Fss) → TellEach Fss ts → Tells (by false false Fss ts)
tells_by [] ts h x y = absurd x
tells_by (Fs ∷ Fss) ts h (inl x) (inl y) = ((λ e. ap inl ((h.0 x y).0 e)), (λ e. (h.0 x y).1 (ap (left_or x) e)))
tells_by (Fs ∷ Fss) ts h (inl x) (inr y) = ((λ e. cc), (λ e. cc))
tells_by (Fs ∷ Fss) ts h (inr x) (inl y) = ((λ e. cc), (λ e. cc))
tells_by (Fs ∷ Fss) ts h (inr x) (inr y) =
    ((λ e. ap inr ((tells_by Fss ts.1 h.1 x y).0 e)), (λ e. (tells_by Fss ts.1 h.1 x y).1 (ap (right_or x) e)))

-- an enum, by the tests of the fields of each variant
pub enum_tells : (N : Record) (ts : Each Bool N.parts)
    → TellEach N.parts ts
    → Tells (λ (x y : N.D). by false false N.parts ts (N.as_values x) (N.as_values y))
enum_tells N ts h x y = let k = tells_by N.parts ts h (N.as_values x) (N.as_values y) in
    ((λ e. values_one N x y (k.0 e)), (λ e. k.1 (ap N.as_values e)))

-- an enum whose variants have no fields
pub bare_tells : (D : Declared) → Bare D.parts → Tells (sameb D)
bare_tells D h x y = (same_true D h x y, true_same D x y)

-- tests of both parts of a value
pub both_tell : {X Y : Type 0} (t : X → X → Bool) (u : Y → Y → Bool)
    → Tells t
    → Tells u
    → (x y : X) (v w : Y)
    → Decides (t x y && u v w) ((x ≡ y) × (v ≡ w))
both_tell t u h k x y v w = Decides-and (t x y) (u v w) (h x y) (k v w)

-- the fields of a variant: none, one, and one before others
pub none : Tells (λ (a b : Unit {0}). true)
none x y = ((λ e. refl), (λ e. refl))

module _ {X : Type 0} (t : X → X → Bool) (h : Tells t) where
  pub one : Tells (λ (a b : X × Unit {0}). t a.0 b.0)
  one x y = ((λ e i. ((h x.0 y.0).0 e i, tt)), (λ e. (h x.0 y.0).1 (λ i. (e i).0)))

  pub more : {Y : Type 0} (u : Y → Y → Bool) → Tells u → Tells (λ (a b : X × Y). t a.0 b.0 && u a.1 b.1)
  more u k x y =
      Decides-like (t x.0 y.0 && u x.1 y.1) (λ p i. (p.0 i, p.1 i)) (λ e. ((λ i. (e i).0), (λ i. (e i).1)))
      (both_tell t u h k x.0 y.0 x.1 y.1)

pub options_tell : (R : RattleType) (g : Ghosts R.Denot) (d : Dict) → Tells g.eq → Tells (options.ghosts R g d).eq
options_tell R g d h None None = ((λ e. refl), (λ e. refl))
options_tell R g d h None (Some y) = ((λ e. cc), (λ e. cc))
options_tell R g d h (Some x) None = ((λ e. cc), (λ e. cc))
options_tell R g d h (Some x) (Some y) = ((λ e. ap (λ (z : R.Denot). Some z) ((h x y).0 e)), (λ e. (h x y).1 cc))

pub numbers_tell : Tells numbers.ghosts.eq
numbers_tell = Decides-eqb

-- words of the descriptors

same_frame : (a b : Frame) → a.0 ≡ b.0 → a ≡ b
same_frame a b e = let wrap : ℕ → Frame = λ n. record { 0 = n } in ap wrap e

pub frames_tell : Tells frames.ghosts.eq
frames_tell x y = Decides-like (frames.ghosts.eq x y) (same_frame x y) (λ e i. (e i).0) (numbers_tell x.0 y.0)

same_owner : (a b : Owner) → a.0 ≡ b.0 → a ≡ b
same_owner a b e = let wrap : ℕ → Owner = λ n. record { 0 = n } in ap wrap e

pub owners_tell : Tells owners.ghosts.eq
owners_tell x y = Decides-like (owners.ghosts.eq x y) (same_owner x y) (λ e i. (e i).0) (numbers_tell x.0 y.0)

pub prots_tell : Tells prots.ghosts.eq
prots_tell = bare_tells prot_type.the_type tt

pub kinds_tell : Tells kinds.ghosts.eq
kinds_tell = bare_tells kind_type.the_type tt

pub states_tell : Tells states.ghosts.eq
states_tell = bare_tells state_type.the_type tt

-- pages, entries and runs

same_page : (a b : Page) → a.0 ≡ b.0 → a ≡ b
same_page a b e = let wrap : ℕ → Page = λ n. record { 0 = n } in ap wrap e

pub pages_tell : Tells pages.ghosts.eq
pages_tell x y = Decides-like (pages.ghosts.eq x y) (same_page x y) (λ e i. (e i).0) (numbers_tell x.0 y.0)

pub ranges_tell : Tells ranges.ghosts.eq
ranges_tell x y =
    Decides-like (ranges.ghosts.eq x y) (λ p i. record { first = p.0 i; count = p.1 i })
    (λ e. ((λ i. (e i).first), (λ i. (e i).count)))
    (both_tell pages.ghosts.eq numbers.ghosts.eq pages_tell numbers_tell x.first y.first x.count y.count)

pub entries_tell : Tells entries.ghosts.eq
entries_tell =
    let leaf =
    more frames.ghosts.eq frames_tell _
    (more prots.ghosts.eq prots_tell _
    (more kinds.ghosts.eq kinds_tell _ (one states.ghosts.eq states_tell))) in
    enum_tells entry_type.enum _ (none, (none, (one owners.ghosts.eq owners_tell, (leaf, tt))))

pub targets_tell : Tells targets.ghosts.eq
targets_tell =
    let leaf =
    more frames.ghosts.eq frames_tell _
    (more prots.ghosts.eq prots_tell _
    (more kinds.ghosts.eq kinds_tell _ (one states.ghosts.eq states_tell))) in
    enum_tells target_type.enum _ (none, (one owners.ghosts.eq owners_tell, (leaf, tt)))

pub runs_tell : Tells runs.ghosts.eq
runs_tell x y =
    Decides-like (runs.ghosts.eq x y) (λ p i. record { pages = p.0 i; target = p.1 i })
    (λ e. ((λ i. (e i).pages), (λ i. (e i).target)))
    (both_tell ranges.ghosts.eq targets.ghosts.eq ranges_tell targets_tell x.pages y.pages x.target y.target)

-- owner rows

pub loans_tell : Tells loans.ghosts.eq
loans_tell x y =
    Decides-like (loans.ghosts.eq x y) (λ p i. record { owner = p.0 i; page = p.1 i })
    (λ e. ((λ i. (e i).owner), (λ i. (e i).page)))
    (both_tell owners.ghosts.eq numbers.ghosts.eq owners_tell numbers_tell x.owner y.owner x.page y.page)

pub usages_tell : Tells usages.ghosts.eq
usages_tell =
    enum_tells usage_type.enum _
    (none, (none, (one numbers.ghosts.eq numbers_tell, (one numbers.ghosts.eq numbers_tell, tt))))

pub rows_tell : Tells rows.ghosts.eq
rows_tell x y =
    let rest = more _ (options_tell lent_type.the_row loans.ghosts loans.dict loans_tell) _ usages_tell in
    Decides-like (rows.ghosts.eq x y) (λ p i. record { owner = p.0 i; lent = (p.1 i).0; usage = (p.1 i).1 })
    (λ e. ((λ i. (e i).owner), (λ i. ((e i).lent, (e i).usage))))
    (both_tell owners.ghosts.eq _ owners_tell rest x.owner y.owner (x.lent, x.usage) (y.lent, y.usage))

-- and it is the test that rules write

pub states_test : (a b : State) → states.ghosts.eq a b ≡ state_eq a b
states_test a b =
    same_from_decides (states.ghosts.eq a b) (state_eq a b) (states_tell a b)
    (state_eq-same a b, λ e. subst (λ s. state_eq a s ≡ true) e (state_eq-self a))

pub targets_test : (a b : Target) → targets.ghosts.eq a b ≡ entry_eq (entry_of_target a) (entry_of_target b)
targets_test a b =
    same_from_decides (targets.ghosts.eq a b) (entry_eq (entry_of_target a) (entry_of_target b)) (targets_tell a b) (
      (λ h. target-same a b (entry_eq-same (entry_of_target a) (entry_of_target b) h)),
      λ e. subst (λ t. entry_eq (entry_of_target a) (entry_of_target t) ≡ true) e (entry_eq-self (entry_of_target a)),
    )

pub entries_test : (a b : Entry) → entries.ghosts.eq a b ≡ entry_eq a b
entries_test a b =
    same_from_decides (entries.ghosts.eq a b) (entry_eq a b) (entries_tell a b)
    (entry_eq-same a b, λ e. subst (λ s. entry_eq a s ≡ true) e (entry_eq-self a))
