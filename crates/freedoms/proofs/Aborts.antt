-- host_abort of a lazy host: what freedoms leave of the state stays.
use Rattle.std.proofs.Common.{◌≡◌, ℕ, ◌+◌, ◌-◌, ◌≤◌, refl, ap, sym, ◌∙◌, subst, arith, inl, inr}
use Rattle.std.specs.Prelude.{Bool, true, false, not, ◌&&◌, ◌==◌, Option, Some, None, if◌then◌else◌}
use mathlib.Core.Path.{fun_ext}
use Rattle.descriptor.specs.declared.Prot.TheVariants.{RWX}
use Rattle.descriptor.specs.declared.State.{State}
use Rattle.descriptor.specs.declared.State.TheVariants.{Owned, SharedOwned, SharedBorrowed}
use Rattle.page_state.proofs.Common.{both, eq-same, and-both, if-true, if-false, same2}
use Rattle.page_state.specs.declared.entry.Entry.{Entry}
use Rattle.page_state.specs.declared.entry.Entry.TheVariants.{Unmapped, Malformed, Annotated, Leaf}
use Rattle.page_state.specs.declared.layout.Region.{Region}
use Rattle.page_state.specs.declared.row.Row.{Row}
use Rattle.page_state.specs.Entries.{advance}
use Rattle.page_state.specs.EntryTests.{is_unmapped, is_annotated, is_free_page, leaf, device_leaf}
use Rattle.page_state.specs.Layouts.{Layout, is_memory}
use Rattle.page_state.specs.Map.{Map, update, is_within}
use Rattle.page_state.specs.Regions.{region_of, is_memory_kind}
use Rattle.page_state.specs.Tables.{edited_map, edited}
use Rattle.page_state.specs.Trees.{no_tree}
use Rattle.call_table.specs.declared.reply.Reply.{Reply}
use Rattle.call_table.specs.declared.reply.Reply.TheVariants.{Done}
use Rattle.call_table.specs.declared.step.Step.TheVariants.{HostAbort}
use Rattle.reference_model.proofs.Frames.{is_table_frame-none}
use Rattle.reference_model.proofs.conditions.AbortStep.{abort-edit}
use Rattle.reference_model.proofs.conditions.FrameMoves.{no-uses}
use Rattle.reference_model.proofs.conditions.OfLegal.{shared-of}
use Rattle.reference_model.proofs.conditions.RangeMoves.{within-is, advance-leaf, free-hosts}
use Rattle.reference_model.proofs.conditions.Stands.{SharedStands, GuestsStand, row-stands}
use Rattle.reference_model.specs.declared.changes.Changes.{Changes}
use Rattle.reference_model.specs.declared.changes.MapChange.{MapChange}
use Rattle.reference_model.specs.model.Changes.{change, edit_of, no_changes, touched}
use Rattle.reference_model.specs.help.Conditions.{hosts, IsUsable, is_inside, in_shared, in_hand, guest_condition, row_in}
use Rattle.reference_model.specs.model.Owner.{is_in_hand}
use Rattle.reference_model.specs.model.Parts.{shared, lacks_slot}
use Rattle.reference_model.specs.model.Rule.{Rule, reads}
use Rattle.reference_model.specs.model.Rules.{rule}
use Rattle.reference_model.specs.model.SharedRules.{abort_edit, abort_leaf, host_abort}
use Rattle.reference_model.specs.model.State.{Cpu, Contents, no_cpu, no_guest, blank, put_at}
use Rattle.reference_model.specs.model.Step.{first_test, rule_of, is_touched, own_row, with_rows, changed, made, shared_after, guest_after}
use Rattle.reference_model.specs.model.Used.{Used, used_of, put_back}
use Rattle.freedoms.specs.Ample.{rule_fails, AnswersAmply, StepsAmply}
use Rattle.freedoms.specs.AnyTrees.{LegalInAnyTrees}
use Rattle.freedoms.specs.declared.Freedoms.{Freedoms}
use Rattle.freedoms.specs.Freedoms.{own_entry, is_device, as_device, kind_entry, view_entry, view, Alike}
use Rattle.freedoms.specs.Laws.{AbortInView}
use Rattle.freedoms.specs.OwnTables.{bare_used}
use Rattle.freedoms.proofs.Bare.{put-bare}
use Rattle.freedoms.proofs.Gone.{still-apart, after-brings, no-frame, three-false}
use Rattle.freedoms.proofs.Loose.{range_of, abort-loose}
use Rattle.freedoms.proofs.OwnRows.{apart-of, nothing-clear, choose}
use Rattle.freedoms.proofs.Views.{Leaves, view-test, view-twice, view_used, view_shared, own-test, abort-test}
use Rattle.freedoms.proofs.ViewRows.{own-view, seen, put-alike}

-- an unmapped page of its own is seen as the host's
by-tests : (a d c : Bool) (own : Entry)
    → c ≡ true
    → (let k = if a then (if d then as_device Unmapped else Unmapped) else Unmapped in
    if c then (if is_unmapped k then own else k) else k)
    ≡ own
by-tests true true true own h = refl
by-tests true false true own h = refl
by-tests false d true own h = refl
by-tests a d false own h = cc

unmapped-seen : (w : Freedoms) (l : Layout) (p : ℕ) → w.lazy_host ≡ true → view_entry w l p Unmapped ≡ own_entry l p
unmapped-seen w l p lazy = by-tests w.any_kind (is_device l p) w.lazy_host (own_entry l p) lazy

own-seen : (w : Freedoms) (l : Layout) (p : ℕ)
    → w.lazy_host ≡ true
    → view_entry w l p (own_entry l p) ≡ view_entry w l p Unmapped
own-seen w l p lazy = ap (view_entry w l p) (sym (unmapped-seen w l p lazy)) ∙ view-twice w l p Unmapped

own-is : (l : Layout) (p : ℕ) (r : Region) → region_of l.memory p ≡ Some r → own_entry l p ≡ abort_leaf r p
own-is l p r h = ap (λ (o : Option Region). elim o [ Some q ↦ abort_leaf q p | None ↦ Unmapped ]) h

pub annotated-leaves : (l : Layout) → Leaves l is_annotated
annotated-leaves l =
    record { own = own-test l is_annotated false (λ f r. abort-test is_annotated false f r refl refl) refl; kind = go }
  where
    go : (e : Entry) → is_annotated (as_device e) ≡ is_annotated e
    go Unmapped = refl
    go Malformed = refl
    go (Annotated o) = refl
    go (Leaf f q k s) = refl

-- a map with a block of unmapped pages mapped is seen the same

edited-seen : (w : Freedoms) (l : Layout) (m : Map) (first n : ℕ) (e : Entry)
    → ((q : ℕ) → is_within first n q ≡ true → view_entry w l q (advance e (q - first)) ≡ view_entry w l q (m q))
    → (p : ℕ)
    → view_entry w l p (update m first n e p) ≡ view_entry w l p (m p)
edited-seen w l m first n e h p = elim (both (is_within first n p)) [
  | inl t ↦ ap (view_entry w l p) (if-true (is_within first n p) (advance e (p - first)) (m p) t) ∙ h p t
  | inr t ↦ ap (view_entry w l p) (if-false (is_within first n p) (advance e (p - first)) (m p) t)
]

abbrev SeenSame : Freedoms → Layout → Map → Option MapChange → Type 0
SeenSame w l m c = (p : ℕ) → view_entry w l p (edited_map m (edit_of c) p) ≡ view_entry w l p (m p)

module _ (w : Freedoms) (l : Layout) (usable : IsUsable l) (lazy : w.lazy_host ≡ true) (m : Map) (page : ℕ) where
  page-seen : (q : ℕ) (r : Region) (e : Entry)
      → region_of l.memory q ≡ Some r
      → m q ≡ Unmapped
      → e ≡ abort_leaf r q
      → view_entry w l q e ≡ view_entry w l q (m q)
  page-seen q r e at bare is =
      ap (view_entry w l q) (is ∙ sym (own-is l q r at)) ∙ own-seen w l q lazy ∙ ap (view_entry w l q) (sym bare)

  block-seen : (first n : ℕ) (r : Region)
      → 1 ≤ n
      → is_memory_kind r.kind ≡ true
      → ((q : ℕ) → is_within first n q ≡ true → (region_of l.memory q ≡ Some r) × (m q ≡ Unmapped))
      → SeenSame w l m (change first n (leaf RWX first Owned))
  block-seen first n r some kind each =
      edited-seen w l m first n (leaf RWX first Owned)
      (λ q t. page-seen q r (advance (leaf RWX first Owned) (q - first)) (each q t).0 (each q t).1
      (advance-leaf RWX first n q Owned t
      ∙ sym (if-true (is_memory_kind r.kind) (leaf RWX q Owned) (device_leaf q) kind)))

  device-seen : (first n : ℕ) (r : Region)
      → 1 ≤ n
      → is_memory_kind r.kind ≡ false
      → ((q : ℕ) → is_within first n q ≡ true → (region_of l.memory q ≡ Some r) × (m q ≡ Unmapped))
      → SeenSame w l m (change first n (device_leaf first))
  device-seen first n r some kind each =
      edited-seen w l m first n (device_leaf first)
      (λ q t. page-seen q r (advance (device_leaf first) (q - first)) (each q t).0 (each q t).1
      (device-advance first n q t
      ∙ sym (if-false (is_memory_kind r.kind) (leaf RWX q Owned) (device_leaf q) kind)))
    where
      device-advance : (first n q : ℕ)
          → is_within first n q ≡ true
          → advance (device_leaf first) (q - first) ≡ device_leaf q
      device-advance first n q t = let at = within-is first n q t in
          let low : first ≤ q = at.0 in
          let e : first + (q - first) ≡ q = omega arith in
          ap device_leaf e

  pub abort-seen : SeenSame w l m (abort_edit m (region_of l.memory page) page)
  abort-seen =
      abort-edit l usable m page (SeenSame w l m) (λ p. refl) block-seen device-seen (region_of l.memory page) refl

-- in what is seen no page of its own is unmapped, and nothing is to be mapped

mapped-by : (k own : Entry) → is_unmapped own ≡ false → is_unmapped (if is_unmapped k then own else k) ≡ false
mapped-by Unmapped own h = h
mapped-by Malformed own h = refl
mapped-by (Annotated o) own h = refl
mapped-by (Leaf f q k s) own h = refl

lazy-mapped : (c : Bool) (k own : Entry)
    → c ≡ true
    → is_unmapped own ≡ false
    → is_unmapped (if c then (if is_unmapped k then own else k) else k) ≡ false
lazy-mapped true k own lazy h = mapped-by k own h
lazy-mapped false k own lazy h = cc

view-mapped : (w : Freedoms) (l : Layout) (p : ℕ) (r : Region) (e : Entry)
    → w.lazy_host ≡ true
    → region_of l.memory p ≡ Some r
    → is_unmapped (view_entry w l p e) ≡ false
view-mapped w l p r e lazy at =
    lazy-mapped w.lazy_host (if w.any_kind then kind_entry l p e else e) (own_entry l p) lazy
    (ap is_unmapped (own-is l p r at) ∙ abort-test is_unmapped false p r refl refl)

none-edit : (w : Freedoms) (l : Layout) (m : Map) (page : ℕ)
    → w.lazy_host ≡ true
    → (o : Option Region)
    → region_of l.memory page ≡ o
    → abort_edit (λ p. view_entry w l p (m p)) o page ≡ None
unfolding abort_edit
none-edit w l m page lazy None at = refl
none-edit w l m page lazy (Some r) at =
    if-false (is_unmapped (view_entry w l page (m page))) _ None (view-mapped w l page r (m page) lazy at)

-- the row of a frame that is the host's

not-named : {P : Type 0} (state : State) (v p : ℕ) → hosts ≡ guest_condition state v p → P
not-named Owned v p h = cc
not-named SharedOwned v p h = cc
not-named SharedBorrowed v p h = cc

no-guests : (l : Layout) (f : ℕ) → GuestsStand l (λ v. no_guest) f hosts
no-guests l f = record {
  has = λ v p state e. not-named state v p e;
  alone = λ v p state m. let bad : false ≡ true = m in cc;
  held = λ v. let e = no-uses l.depth f in omega arith;
}

hand-none : (d cpu f : ℕ) (k : Cpu)
    → (d ≡ cpu → is_in_hand k.hand f ≡ false)
    → is_in_hand (put_at (λ c. no_cpu) cpu k d).hand f ≡ false
hand-none d cpu f k h = elim (both (d == cpu)) [
  | inl e ↦ ap (λ (j : Cpu). is_in_hand j.hand f) (if-true (d == cpu) k no_cpu e) ∙ h (eq-same d cpu e)
  | inr e ↦ ap (λ (j : Cpu). is_in_hand j.hand f) (if-false (d == cpu) k no_cpu e)
]

row-stays : (b : Bool) (x z : Row) → (b ≡ true → x ≡ z) → choose b x z ≡ z
row-stays true x z h = h refl
row-stays false x z h = refl

abbrev edit : Option MapChange → Changes
edit c = record no_changes { host = c }

touched-edit : (c : Option MapChange) (f : ℕ) → is_in_hand (touched (edit c)) f ≡ is_in_hand (range_of c) f
touched-edit None f = refl
touched-edit (Some c) f = refl

twin-seen : (w : Freedoms) (l : Layout) (cpu page : ℕ) (x z : Used) (reply : Reply)
    → view_used w l x ≡ view_used w l z
    → rule_fails l cpu None (HostAbort page) x ≡ rule_fails l cpu None (HostAbort page) z
    → (rule_of l cpu None (HostAbort page) x).changes.value ≡ (rule_of l cpu None (HostAbort page) z).changes.value
    → view_used w l (made l cpu None (HostAbort page) x) ≡ view_used w l (made l cpu None (HostAbort page) z)
    → (y : Used)
    → AnswersAmply l cpu None (HostAbort page) x reply y
    → (u : Used) × AnswersAmply l cpu None (HostAbort page) z reply u × (view_used w l y ≡ view_used w l u)
twin-seen w l cpu page x z reply e fails value done y (inl p) = (
  made l cpu None (HostAbort page) z,
  inl (record { passes = sym fails ∙ p.passes; reply_is = p.reply_is ∙ ap Done value; next = refl }),
  ap (view_used w l) p.next
      ∙ done,
)
twin-seen w l cpu page x z reply e fails value done y (inr (inl p)) = (
  z,
  inr (inl (record { why = p.why; fail = sym fails ∙ p.fail; reply_is = p.reply_is; next = refl })),
  ap (view_used w l) p.next
      ∙ e,
)
twin-seen w l cpu page x z reply e fails value done y (inr (inr p)) = (
  z,
  inr (inr (record { passes = sym fails ∙ p.passes; grows = p.grows; reply_is = p.reply_is; next = refl })),
  ap (view_used w l) p.next
      ∙ e,
)

module _ (w : Freedoms) (l : Layout) (usable : IsUsable l) (lazy : w.lazy_host ≡ true) (s : Contents)
    (legal : LegalInAnyTrees l s) (cpu page : ℕ) where
  abbrev x : Used
  x = used_of shared None cpu s

  abbrev z : Used
  z = used_of shared None cpu (view w l s)

  abbrev c : Option MapChange
  c = abort_edit s.shared.host.map (region_of l.memory page) page

  -- the rule by whether it passes its last test and what it changes
  by-edit : Bool → Option MapChange → Rule
  by-edit b o =
      let r = host_abort page (reads l cpu None x) in
      record r { allowed = record r.allowed { passes = b }; changes = edit o }

  x-rule : rule_of l cpu None (HostAbort page) x ≡ by-edit (not (is_annotated (s.shared.host.map page))) c
  unfolding rule used_of by-edit
  x-rule = refl

  z-rule : rule_of l cpu None (HostAbort page) z ≡ by-edit (not (is_annotated (s.shared.host.map page))) None
  unfolding rule used_of by-edit
  z-rule =
      same2 (λ b o. by-edit (not b) o) (view-test w l is_annotated (annotated-leaves l) page (s.shared.host.map page))
      (none-edit w l s.shared.host.map page lazy (region_of l.memory page) refl)

  -- a touched frame is the host's
  host-is : (f : ℕ) → is_memory l f ≡ true → is_in_hand (range_of c) f ≡ true → legal.state.frames.condition f ≡ hosts
  host-is f m t =
      free-hosts f (legal.state.frames.condition f) (s.shared.host.map f) (legal.state.frames.of_layout.inside f ∙ m)
      (legal.state.frames.maps.host f)
      (ap is_free_page (abort-loose s.shared.host.map (region_of l.memory page) page f t))

  row-plain : (f : ℕ)
      → legal.state.frames.condition f ≡ hosts
      → own_row l cpu None (HostAbort page) x f ≡ row_in f hosts
  unfolding own_row put_back used_of
  row-plain f is = row-stands l (put_back shared None cpu blank x) f hosts
      (subst (SharedStands l s.shared f) is
      (shared-of s legal.state.frames.condition legal.state.frames.maps f l legal.state.frames.held))
      (no-guests l f)
      (λ d. hand-none d cpu f (s.cpu cpu) (λ e. legal.state.frames.held.hand cpu f ∙ ap (in_hand cpu) is))
      tt
      (λ i. usable.pages f (sym (legal.state.frames.of_layout.inside f) ∙ ap is_inside is))

  seen-changed : view_used w l (changed l.depth (edit c) x) ≡ view_used w l x
  unfolding changed shared_after guest_after edited used_of
  seen-changed =
      ap
      (λ (m : Map). record (view_used w l x)
      { shared = record (view_shared w l x.shared) { host = record { map = m; table = no_tree.table } } })
      (fun_ext (abort-seen w l usable lazy s.shared.host.map page))

  row-found : (f : ℕ)
      → is_memory l f ≡ true
      → is_in_hand (range_of c) f ≡ true
      → own_row l cpu None (HostAbort page) (changed l.depth (edit c) x) f ≡ s.shared.row f
  unfolding changed used_of
  row-found f m t =
      let is = host-is f m t in
      let apart = apart-of l s legal f (ap in_shared is) in
      own-view w l (changed l.depth (edit c) x) x seen-changed cpu None (HostAbort page) f
      (still-apart l l.depth (edit c) s.shared f apart)
      (three-false _ _ _ apart.free (no-frame l s.shared.host f apart.host) (no-frame l s.shared.hyp f apart.hyp))
      (after-brings l (edit c) no_guest f (nothing-clear f) ∙ sym (is_table_frame-none l no_tree f (λ b. refl)))
      ∙ row-plain f is ∙ ap (row_in f) (sym is) ∙ sym (legal.state.frames.rows f m)

  seen-rows : ◌≡◌ {A = ℕ → Row}
      (λ f. choose (is_memory l f && is_touched (edit c) f)
      (own_row l cpu None (HostAbort page) (changed l.depth (edit c) x) f) (s.shared.row f)) s.shared.row
      → view_used w l (with_rows l cpu None (HostAbort page) (edit c) (changed l.depth (edit c) x)) ≡ view_used w l x
  unfolding with_rows changed shared_after used_of
  seen-rows rows =
      same2 (λ (u : Used) (r : ℕ → Row). record u { shared = record u.shared { row = r } }) seen-changed rows

  seen-none : ◌≡◌ {A = ℕ → Row}
      (λ f. choose (is_memory l f && false) (own_row l cpu None (HostAbort page) (changed l.depth (edit None) z) f)
      (s.shared.row f)) s.shared.row
      → view_used w l (with_rows l cpu None (HostAbort page) (edit None) (changed l.depth (edit None) z))
      ≡ view_used w l z
  unfolding with_rows changed shared_after guest_after edited used_of
  seen-none rows =
      ap (λ (r : ℕ → Row). record (view_used w l z) { shared = record (view_shared w l z.shared) { row = r } }) rows

  x-made : view_used w l (made l cpu None (HostAbort page) x) ≡ view_used w l x
  unfolding made with_rows used_of by-edit
  x-made =
      let rows =
      fun_ext
      (λ f. row-stays (is_memory l f && is_touched (edit c) f)
      (own_row l cpu None (HostAbort page) (changed l.depth (edit c) x) f) (s.shared.row f)
      (λ t. let k = and-both (is_memory l f) (is_touched (edit c) f) t in
      row-found f k.0 (sym (touched-edit c f) ∙ k.1))) in
      ap
      (λ (r : Rule). view_used w l
      (with_rows l cpu None (HostAbort page) r.changes (changed l.depth r.changes x))) x-rule
      ∙ seen-rows rows

  z-made : view_used w l (made l cpu None (HostAbort page) z) ≡ view_used w l z
  unfolding made with_rows used_of by-edit
  z-made =
      let rows =
      fun_ext
      (λ f. row-stays (is_memory l f && false)
      (own_row l cpu None (HostAbort page) (changed l.depth (edit None) z) f) (s.shared.row f)
      (λ t. let k = and-both (is_memory l f) false t in let bad = k.1 in cc)) in
      ap
      (λ (r : Rule). view_used w l
      (with_rows l cpu None (HostAbort page) r.changes (changed l.depth r.changes z))) z-rule
      ∙ seen-none rows

  x-seen : view_used w l x ≡ view_used w l z
  unfolding used_of
  x-seen = seen w l s shared None cpu

  fails-same : rule_fails l cpu None (HostAbort page) x ≡ rule_fails l cpu None (HostAbort page) z
  unfolding by-edit
  fails-same =
      ap (λ (r : Rule). first_test r (lacks_slot shared None)) x-rule
      ∙ sym (ap (λ (r : Rule). first_test r (lacks_slot shared None)) z-rule)

  value-same : (rule_of l cpu None (HostAbort page) x).changes.value
      ≡ (rule_of l cpu None (HostAbort page) z).changes.value
  unfolding by-edit
  value-same = ap (λ (r : Rule). r.changes.value) x-rule ∙ sym (ap (λ (r : Rule). r.changes.value) z-rule)

  made-same : view_used w l (made l cpu None (HostAbort page) x) ≡ view_used w l (made l cpu None (HostAbort page) z)
  made-same = x-made ∙ x-seen ∙ sym z-made

  put-same : (y u : Used)
      → view_used w l y ≡ view_used w l u
      → Alike w l (put_back shared None cpu s y) (put_back shared None cpu (view w l s) u)
  put-same y u e = ap (view w l) (put-bare shared None cpu s y) ∙ put-alike w l s shared None cpu (bare_used y) u e

  pub abort-down : (reply : Reply) (t : Contents)
      → StepsAmply l s cpu (HostAbort page) reply t
      → (u : Contents) × StepsAmply l (view w l s) cpu (HostAbort page) reply u × Alike w l t u
  abort-down reply t p =
      let k = twin-seen w l cpu page x z reply x-seen fails-same value-same made-same p.after p.answers in (
        put_back shared None cpu (view w l s) k.0,
        record { after = k.0; answers = k.1; next = refl },
        ap (view w l) p.next
            ∙ put-same p.after k.0 k.2,
      )

  pub abort-up : (reply : Reply) (u : Contents)
      → StepsAmply l (view w l s) cpu (HostAbort page) reply u
      → (t : Contents) × StepsAmply l s cpu (HostAbort page) reply t × Alike w l t u
  abort-up reply u p =
      let k =
      twin-seen w l cpu page z x reply (sym x-seen) (sym fails-same) (sym value-same)
      (sym made-same) p.after p.answers in (
        put_back shared None cpu s k.0,
        record { after = k.0; answers = k.1; next = refl },
        put-same k.0 p.after (sym k.2)
            ∙ sym (ap (view w l) p.next),
      )

pub abort_in_view : AbortInView
abort_in_view w l before legal cpu p reply after lazy usable begins is = (
  λ j.
      let d = abort-down w l usable lazy j.state j.legal cpu p j.told j.next j.steps in (
        record {
          next = d.0;
          told = j.told;
          steps =
              subst (λ s. StepsAmply l s cpu (HostAbort p) j.told d.0) (sym j.begins) d.1;
          says = j.says;
          ends = sym d.2
              ∙ j.ends;
        },
        j.mapped lazy,
      ),
  λ k.
      let j = k.0 in
      let u =
      abort-up w l usable lazy legal is cpu p j.told j.next
      (subst (λ s. StepsAmply l s cpu (HostAbort p) j.told j.next) begins j.steps) in
      record {
        state = legal;
        next = u.0;
        told = j.told;
        begins = begins;
        itself = λ r. cc;
        legal = is;
        steps = u.1;
        says = j.says;
        ends = u.2
            ∙ j.ends;
        mapped = λ z. k.1;
      },
)
