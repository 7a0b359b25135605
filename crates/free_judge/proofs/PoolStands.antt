-- Of a legal state like the one before: the state from which the model steps, and a legal state in which the guest has
-- the same pool.
use Rattle.std.proofs.Common.{◌≡◌, ◌≢◌, ℕ, suc, ◌+◌, ◌≤◌, List, [], ◌∷◌, filter, Option, Some, None, refl, ap, sym, ◌∙◌, subst, arith}
use Rattle.std.specs.Prelude.{Bool, true, false, ◌&&◌, ◌==◌, not, if◌then◌else◌}
use mathlib.Core.Path.{fun_ext}
use Rattle.call_table.specs.declared.reply.Reply.{Reply}
use Rattle.call_table.specs.declared.step.Step.{Step}
use Rattle.page_state.proofs.Common.{and-left, eq-self, if-false, if-true, not-holds, same2}
use Rattle.page_state.proofs.Counts.{count_next}
use Rattle.page_state.specs.Counts.{frame_count, is_one}
use Rattle.page_state.specs.declared.row.Row.{Row}
use Rattle.page_state.specs.Layouts.{Layout, is_memory}
use Rattle.page_state.specs.Map.{Map}
use Rattle.page_state.specs.Trees.{frames_from, no_tree}
use Rattle.reference_model.proofs.Frames.{count_blocks-none}
use Rattle.reference_model.proofs.PutAt.{put_at-same}
use Rattle.reference_model.proofs.conditions.Tables.{uses-some, uses_of}
use Rattle.reference_model.specs.help.Conditions.{guest_uses, one, table_uses}
use Rattle.reference_model.specs.model.Rules.{guest_slot}
use Rattle.reference_model.specs.model.State.{Contents, Guest, Phase, empty, live, dying, no_guest, put_at}
use Rattle.reference_model.specs.model.Used.{guest_at}
use Rattle.freedoms.specs.Ample.{asks_pool}
use Rattle.freedoms.specs.AnyTrees.{LegalInAnyTrees}
use Rattle.freedoms.specs.declared.Freedoms.{Freedoms}
use Rattle.freedoms.specs.Freedoms.{Alike, is_read, view}
use Rattle.freedoms.specs.Laws.{is_pool_of, with_pool, with_root, IsPoolByRows}
use Rattle.freedoms.specs.OwnTables.{OwnTables, bare_guest, bare_shared, without_tables}
use Rattle.freedoms.proofs.ByRows.{pools_by_rows}
use Rattle.freedoms.proofs.Gone.{IsApart}
use Rattle.freedoms.proofs.Totals.{vm-tells}
use Rattle.freedoms.proofs.Views.{view-twice}
use Rattle.free_judge.specs.Freely.{stepped_from, IsReady}
use Rattle.free_judge.specs.Laws.{HasLowMemory}
use Rattle.free_judge.specs.PoolByRows.{asked_slot, free_of, guest_of, is_pool_frame, may_hold, pool_frames, root_alone, root_of, with_rows_pool, with_tables, IsAskedOf}
use Rattle.free_judge.proofs.Ready.{no-asked}
use Rattle.free_judge.proofs.RowsPool.{all-parts, pool-count, root-in, root-some}

pub by-phase : {P : Type 0} (p : Phase) → (p ≡ empty → P) → (p ≢ empty → P) → P
by-phase empty f g = f refl
by-phase live f g = g (λ e. cc)
by-phase dying f g = g (λ e. cc)

none-left : (fs : List ℕ) → ((f : ℕ) → frame_count f fs ≡ 0) → fs ≡ []
none-left [] h = refl
none-left (g ∷ gs) h =
    let next = count_next g g gs in
    let here : is_one g g ≡ 1 = ap one (eq-self g) in
    let none = h g in
    absurd (omega arith)

-- the frames of a guest, by its rows

kept-same : (p q : ℕ → Bool) (fs : List ℕ) → p ≡ q → filter p fs ≡ filter q fs
kept-same p q fs e = ap (λ (r : ℕ → Bool). filter r fs) e

abbrev by-row : Layout → ℕ → (ℕ → Row) → ℕ → Bool
by-row l v r f = is_memory l f && is_pool_of v (r f).usage

pub same-frames : (l : Layout) (s t : Contents) (v : ℕ)
    → s.shared.row ≡ t.shared.row
    → pool_frames l s v ≡ pool_frames l t v
unfolding pool_frames
same-frames l s t v e =
    kept-same (is_pool_frame l s v) (is_pool_frame l t v) (frames_from 0 67108864)
    (ap (by-row l v) e)

module _ (l : Layout) (s : Contents) (legal : LegalInAnyTrees l s) (low : HasLowMemory l) (v : ℕ) where
  abbrev frames : List ℕ
  frames = pool_frames l s v

  pub each-once : (f : ℕ) → frame_count f frames ≡ one (is_pool_frame l s v f)
  unfolding pool_frames
  each-once f = pool-count (is_pool_frame l s v) 67108864 f (λ t. low f (and-left _ _ t))

  pub held-once : (f : ℕ) → guest_uses l.depth (s.guest v) f ≡ frame_count f frames
  held-once f = legal.state.frames.held.vm v f ∙ ap one (vm-tells l s legal v f) ∙ sym (each-once f)

  -- the root of the legal state is one of them
  pub root-listed : (s.guest v).phase ≢ empty
      → (r : ℕ) × ((s.guest v).tree.table (l.depth + 1, 0) ≡ Some r) × (1 ≤ frame_count r frames)
  unfolding table_uses uses_of
  root-listed alive =
      let root = legal.state.guest_parts.rooted v alive in
      let some =
      uses-some l.depth root.0 (l.depth + 1, 0) (s.guest v).tree.table
      (legal.state.inside (suc (suc v)) (l.depth + 1, 0) root.0 root.1) root.1 in
      let held = held-once root.0 in
      (root.0, root.1, omega arith)

  -- an Empty guest has none
  pub none-listed : (s.guest v).phase ≡ empty → frames ≡ []
  unfolding table_uses
  none-listed dead =
      let blank = legal.state.guest_parts.blank v dead in
      none-left frames
      (λ f.
      let held = held-once f in
      let none : guest_uses l.depth (s.guest v) f ≡ guest_uses l.depth no_guest f =
      ap (λ (g : Guest). guest_uses l.depth g f) blank in
      let zero : guest_uses l.depth no_guest f ≡ 0 =
      ap (λ n. 0 + n) (count_blocks-none (l.depth + 1) (l.depth + 1) (λ b. false) (λ b. refl)) in
      sym held ∙ none ∙ zero)

  pub once : (named : Option ℕ) (root : ℕ) → root_of named frames ≡ Some root → frame_count root frames ≡ 1
  once named root e =
      let some = root-in named frames root e in
      let is = each-once root in
      let most = at-most (is_pool_frame l s v root) in
      omega arith
    where
      at-most : (b : Bool) → one b ≤ 1
      at-most true = omega arith
      at-most false = omega arith

  -- a root and free frames from the rows
  pub by-rows : (named : Option ℕ) (root : ℕ)
      → root_of named frames ≡ Some root
      → IsPoolByRows l s v root (free_of named (Some root) frames)
  by-rows named root e f = all-parts named root frames (once named root e) f ∙ each-once f

-- what the freedoms leave of a state with such a pool

pub pool-alike : (w : Freedoms) (l : Layout) (s : Contents) (v : ℕ) (named : Option ℕ) (held : Bool)
    → Alike w l s (with_rows_pool l v named held (view w l s))
pool-alike w l s v named held =
    same2
    (λ (m : Map) (g : ℕ → Guest). record (view w l s) {
      shared = record (bare_shared s.shared) { host = record { map = m; table = no_tree.table } };
      guest = g;
    })
    (fun_ext (λ p. sym (view-twice w l p (s.shared.host.map p))))
    (fun_ext
    (λ u. sym
    (put_at-same bare_guest (λ k. bare_guest (s.guest k)) v
    (guest_of l.depth named held (pool_frames l (view w l s) v) (bare_guest (s.guest v))) refl u)))

pub view-alike : (w : Freedoms) (l : Layout) (s : Contents) → Alike w l s (view w l s)
view-alike w l s =
    ap
    (λ (m : Map). record (view w l s)
    { shared = record (bare_shared s.shared) { host = record { map = m; table = no_tree.table } } })
    (fun_ext (λ p. sym (view-twice w l p (s.shared.host.map p))))

view-apart : (w : Freedoms) (l : Layout) (s : Contents) (f : ℕ) → IsApart (view w l s).shared f
view-apart w l s f = record { free = refl; host = λ b e. cc; hyp = λ b e. cc }

-- a legal state in which the guest of the slot has the same pool
pub record Stands (l : Layout) (s : Contents) (slot : Option ℕ) (ready : Contents) : Type 0 where
  pub state : Contents
  pub legal : LegalInAnyTrees l state
  pub own : OwnTables s state
  pub guest : guest_at state.guest slot ≡ guest_at ready.guest slot

pub at-put : (f : ℕ → Guest) (v : ℕ) (g : Guest) → put_at f v g v ≡ g
at-put f v g = if-true (v == v) g (f v) (eq-self v)

module _ (w : Freedoms) (l : Layout) (s : Contents) (legal : LegalInAnyTrees l s) (low : HasLowMemory l) where
  -- the guest, by its frames
  pub guest-is : (v : ℕ) (named : Option ℕ) (held : Bool) (ready : Contents)
      → ready ≡ with_rows_pool l v named held (view w l s)
      → ready.guest v ≡ guest_of l.depth named held (pool_frames l s v) (bare_guest (s.guest v))
  guest-is v named held ready e =
      ap (λ (c : Contents). c.guest v) e
      ∙ at-put (view w l s).guest v
      (guest_of l.depth named held (pool_frames l (view w l s) v) (bare_guest (s.guest v)))
      ∙ ap (λ fs. guest_of l.depth named held fs (bare_guest (s.guest v))) (same-frames l (view w l s) s v refl)

  -- not all frames but the root are held
  pub rooted-is : (v root : ℕ) (named : Option ℕ) (held : Bool) (ready : Contents)
      → ready ≡ with_rows_pool l v named held (view w l s)
      → (held && may_hold l.depth (pool_frames l s v)) ≡ false
      → root_of named (pool_frames l s v) ≡ Some root
      → ready.guest v ≡ with_root l.depth root (free_of named (Some root) (pool_frames l s v)) (s.guest v)
  rooted-is v root named held ready e none r =
      guest-is v named held ready e
      ∙ same2
      (λ (c : Bool) (o : Option ℕ). with_tables (root_alone l.depth o)
      (if c then [] else free_of named o (pool_frames l s v)) (bare_guest (s.guest v))) none r

  -- all of them are
  pub held-is : (v : ℕ) (named : Option ℕ) (held : Bool) (ready : Contents)
      → ready ≡ with_rows_pool l v named held (view w l s)
      → (held && may_hold l.depth (pool_frames l s v)) ≡ true
      → (ready.guest v).free ≡ []
  held-is v named held ready e all =
      ap (λ (g : Guest). g.free) (guest-is v named held ready e)
      ∙ ap
      (λ (c : Bool). if c then [] else free_of named (root_of named (pool_frames l s v)) (pool_frames l s v)) all

  pub stands-live : (v root : ℕ) (named : Option ℕ) (held : Bool) (ready : Contents)
      → (s.guest v).phase ≢ empty
      → ready ≡ with_rows_pool l v named held (view w l s)
      → (held && may_hold l.depth (pool_frames l s v)) ≡ false
      → root_of named (pool_frames l s v) ≡ Some root
      → Stands l s (Some v) ready
  stands-live v root named held ready alive e none r =
      let free = free_of named (Some root) (pool_frames l s v) in
      let there = pools_by_rows l s v root free legal alive (by-rows l s legal low v named root r) in
      record {
        state = with_pool l v root free s;
        legal = there.0;
        own = there.1;
        guest =
            at-put s.guest v (with_root l.depth root free (s.guest v))
            ∙ sym (rooted-is v root named held ready e none r);
      }

  nothing : (named : Option ℕ) (c : Bool)
      → with_tables (root_alone l.depth None) (if c then [] else free_of named None []) (bare_guest no_guest) ≡ no_guest
  nothing named true = refl
  nothing named false = refl

  pub empty-is : (v : ℕ) (named : Option ℕ) (held : Bool) (ready : Contents)
      → (s.guest v).phase ≡ empty
      → ready ≡ with_rows_pool l v named held (view w l s)
      → s.guest v ≡ ready.guest v
  empty-is v named held ready dead e =
      let blank = legal.state.guest_parts.blank v dead in
      let none = none-listed l s legal low v dead in
      blank
      ∙ sym
      (guest-is v named held ready e
      ∙ same2 (λ fs (g : Guest). guest_of l.depth named held fs (bare_guest g)) none blank
      ∙ nothing named (held && may_hold l.depth []))

  pub stands-dead : (v : ℕ) (named : Option ℕ) (held : Bool) (ready : Contents)
      → (s.guest v).phase ≡ empty
      → ready ≡ with_rows_pool l v named held (view w l s)
      → Stands l s (Some v) ready
  stands-dead v named held ready dead e =
      record { state = s; legal = legal; own = refl; guest = empty-is v named held ready dead e }

  -- with all other frames free
  pub stands : (v : ℕ) (named : Option ℕ) (held : Bool) (ready : Contents)
      → ready ≡ with_rows_pool l v named held (view w l s)
      → (held && may_hold l.depth (pool_frames l s v)) ≡ false
      → Stands l s (Some v) ready
  stands v named held ready e none =
      by-phase (s.guest v).phase (λ dead. stands-dead v named held ready dead e)
      (λ alive.
      let root = root-listed l s legal low v alive in
      let r = root-some named (pool_frames l s v) root.0 root.2 in
      stands-live v r.0 named held ready alive e none r.1)

-- what is asked

pub no-read : (step : Step) → asks_pool step ≡ true → is_read step ≡ false
no-read step asks =
    not-holds (is_read step) (λ r. let bad : true ≡ false = sym asks ∙ no-asked step r in cc)

pub asked-from : (w : Freedoms) (l : Layout) (before s : Contents) (cpu : ℕ) (step : Step) (reply : Reply)
    (ready : Contents)
    → asks_pool step ≡ true
    → Alike w l before s
    → IsReady w l before cpu step reply ready
    → IsAskedOf w l (view w l s) (guest_slot (s.cpu cpu) step) step reply ready
asked-from w l before s cpu step reply ready asks begins from =
    let seen : stepped_from w l before step ≡ view w l s =
    if-false (is_read step) (without_tables before) (view w l before) (no-read step asks) ∙ begins in
    let slot : asked_slot (before.cpu cpu) step ≡ guest_slot (s.cpu cpu) step =
    if-true (asks_pool step) (guest_slot (before.cpu cpu) step) None asks
    ∙ ap (λ (c : Contents). guest_slot (c.cpu cpu) step) begins in
    subst (λ (o : Option ℕ). IsAskedOf w l (view w l s) o step reply ready) slot
    (subst (λ (c : Contents). IsAskedOf w l c (asked_slot (before.cpu cpu) step) step reply ready) seen from)

module _ (w : Freedoms) (l : Layout) (s : Contents) (step : Step) (reply : Reply) (ready : Contents) where
  pub asked-alike : (slot : Option ℕ) → IsAskedOf w l (view w l s) slot step reply ready → Alike w l s ready
  asked-alike None h = view-alike w l s ∙ ap (view w l) (sym h)
  asked-alike (Some v) h = pool-alike w l s v _ h.held ∙ ap (view w l) (sym h.ready_is)

  shared-is : (slot : Option ℕ)
      → IsAskedOf w l (view w l s) slot step reply ready
      → ready.shared ≡ (view w l s).shared
  shared-is None h = ap (λ (c : Contents). c.shared) h
  shared-is (Some v) h = ap (λ (c : Contents). c.shared) h.ready_is

  pub asked-apart : (slot : Option ℕ)
      → IsAskedOf w l (view w l s) slot step reply ready
      → (f : ℕ)
      → IsApart ready.shared f
  asked-apart slot h f = subst (λ x. IsApart x f) (sym (shared-is slot h)) (view-apart w l s f)
