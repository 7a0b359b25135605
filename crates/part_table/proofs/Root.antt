-- What the root does: it makes the views of the CPUs, takes them in, and learns the history once all have ended.
use Rattle.std.proofs.Common.{◌≡◌, ◌≢◌, ℕ, zero, suc, ◌+◌, ◌<◌, List, [], ◌∷◌, ◌++◌, append-nil, length, map, set, true, false, true≢false, refl, sym, ap, ◌∙◌, subst, ⊎_elim, arith, length-set, length-append}
use Rattle.std.specs.Prelude.{Option, Some, None, slice_get, slice_index, slice_index_or, All}
use mathlib.Core.Option.{some, some-ne-none, some-injective}
use mathlib.Core.Logic.{dite}
use native.Mathlib.Decide.{ℕ_discrete}
use lib.ListN.{get_elem?}
use Rattle.std.proofs.lemmas.List.{length-map}
use Rattle.atomic_table.specs.Table.{State, Splits, Joins, Final, Seen, opening}
use Rattle.atomic_table.proofs.Lists.{at_set, set_else, at_longer, at_map}
use Rattle.page_state.specs.declared.layout.Layout.{Layout as TheLayout}
use Rattle.call_table.specs.declared.reply.Call.{Call}
use Rattle.page_state.specs.LayoutView.{layout_of}
use Rattle.reference_model.specs.model.Boot.{CanBoot}
use Rattle.reference_model.specs.model.History.{IsStored, calls_by, calls_on}
use Rattle.reference_model.specs.model.Run.{IsRun}
use Rattle.reference_model.specs.model.State.{Reference}
use Rattle.part_types.specs.declared.parts.CpuState.{CpuState}
use Rattle.part_table.specs.declared.rule.Begun.{Begun}
use Rattle.part_table.specs.declared.rule.Opening.{Opening}
use Rattle.part_table.specs.declared.rule.View.{View}
use Rattle.part_table.specs.declared.slot.Slot.{Slot}
use Rattle.part_table.specs.Parts.{parts, part_of, log_of, IsPart, IsOwn}
use Rattle.part_table.specs.Does.{AreLeft}
use Rattle.part_table.specs.Endings.{IsEndIn}
use Rattle.part_table.proofs.Beginning.{get_mapped, logs_at}
use Rattle.part_table.proofs.Fronts.{fronts_none}
use Rattle.part_table.proofs.Left.{each_part, one_cpu, own_left, there}
use Rattle.part_table.proofs.Lists.{elem_of_get, or_of_get}
use Rattle.part_table.specs.Beginnings.{AreLeftFirst, GoesOn, begun_in, logs_in, no_own, own_in}
use Rattle.part_table.specs.Rule.{Ended, held_at, Knows, Rooted, IsLawful, IsIdle, nobody, rooted, one_more, newcomer, with_end}
use Rattle.part_table.specs.Known.{AreFronts, StartsWith, seen_at}
use Rattle.part_table.proofs.Pairs.{set_at, at_bound, at_end, seats, still_held}

idle_is : {A : Type 0} → (x : Slot A) (o : Option (Slot A)) → o ≡ None → o ≡ Some x → ⊥
idle_is x o a b = let never : None ≡ Some x = sym a ∙ b in absurd cc

module _ (A : Type 0) (key : TheLayout) where
  abbrev Rule : State (Option (Slot A)) (View A) → Type 0
  Rule = IsLawful key

  -- a view that nobody steps with, and that holds what it held
  off_knows : (ws : List ℕ) (holder : ℕ → ℕ) (log : List Call) (state : Reference) (j : ℕ) (v : View A) → v.on ≡ false
      → ((k : ℕ) (x : Slot A)
      → held_at v.held k ≡ Some x
      → (v.on ≡ true)
      × (k < parts)
      × (slice_index ws k ≢ 0)
      × (holder k ≡ j)
      × (IsPart (layout_of key) state k x × ((log_of x).calls ≡ calls_on (part_of k) log)))
      → Knows key ws holder log state j v
  off_knows ws holder log state j v off held = record {
    layout = λ a. absurd (true≢false (sym a ∙ off));
    known = λ a. absurd (true≢false (sym a ∙ off));
    seat = λ a. absurd (true≢false (sym a ∙ off));
    mine = λ a. absurd (true≢false (sym a ∙ off));
    own = λ a. absurd (true≢false (sym a ∙ off));
    seen = λ a. absurd (true≢false (sym a ∙ off));
    tried = λ a. absurd (true≢false (sym a ∙ off));
    held = held;
  }

  pub splits : (v : View A)
      → v.root ≡ true
      → v.layout ≡ key
      → v.made < key.config.cpus
      → Splits Rule 0 v (one_more v) (newcomer v)
  splits v is of few_made s r here =
      let o = r.root v here is in
      let left = one_more v in let right = newcomer v in
      let vs : List (View A) = set s.views 0 left in
      let mine = r.each_seat 0 v here in
      let long : length vs ≡ v.made + 1 = length-set s.views 0 left ∙ o.count in
      let fresh = o.fresh v.made (omega arith) few_made in record {
        ready = r.ready;
        log = r.log;
        state = r.state;
        holder = r.holder;
        run = r.run;
        stored = r.stored;
        wide = r.wide;
        deep = r.deep;
        at_home = r.at_home;
        taken = λ k lt nz. let h = still_held s.views 0 v left k here (λ x e. (x, e)) (r.holder k) (r.taken k lt nz) in
            (h.0, h.1, at_longer vs (right ∷ []) (r.holder k) h.0 h.2, h.3);
        each_seat = λ j u e. ⊎_elim
            (seats (Knows key s.words r.holder r.log r.state) s.views 0 left
            (off_knows s.words r.holder r.log r.state 0 left o.off mine.held)
            (λ i w apart there. r.each_seat i w there) j u)
            (λ (t : (j ≡ length vs) × (right ≡ u)). subst
            (λ (z : ℕ × View A). Knows key s.words r.holder r.log r.state z.0 z.1)
            (λ i. (sym t.0 i, t.1 i)) record {
              layout = λ _. of;
              known = λ _. few_made;
              seat = λ _. sym long;
              mine = λ _. fresh.0;
              own = λ _. fresh.1;
              seen = λ _ k. (calls_on (part_of k) r.log, refl);
              tried = λ _. fronts_none key v.made r.log;
              held = λ k x e. absurd (idle_is x None refl e);
            })
            (at_end vs right u j e);
        root = λ u e up. ⊎_elim
            (λ at. ⊎_elim
            (λ (t : (0 ≡ 0) × (left ≡ u)). subst
            (λ (w : View A). Rooted key (vs ++ right ∷ []) r.log r.state w) t.1 record {
              off = o.off;
              layout = o.layout;
              count = length-append vs (right ∷ []) ∙ ap (λ n. n + 1) long;
              fresh = λ c le below. o.fresh c (omega arith) below;
              goes_on = o.goes_on;
              few = let f = o.few in omega arith;
              seen = o.seen;
              tried = o.tried;
              ended = λ c e at'. let k = o.ended c e at' in let lt = at_bound v.ended c e at' in let few = o.few in (
                k.0,
                k.1,
                λ w there. ⊎_elim
                    (λ was. ⊎_elim (λ (q : (c + 1 ≡ 0) × (left ≡ w)). absurd (omega arith))
                    (λ (q : (c + 1 ≢ 0) × (get_elem? s.views (c + 1) ≡ some w)). k.2 w q.1)
                    (at_set s.views 0 (c + 1) left w was))
                    (λ (q : (c + 1 ≡ length vs) × (right ≡ w)). absurd (omega arith))
                    (at_end vs right w (c + 1) there),
              );
            })
            (λ (t : (0 ≢ 0) × (get_elem? s.views 0 ≡ some u)). absurd (t.0 refl))
            (at_set s.views 0 0 left u at))
            (λ (t : (0 ≡ length vs) × (right ≡ u)). absurd (omega arith))
            (at_end vs right u 0 e);
      }

  pub joins : (v : View A) (other : ℕ) (w : View A)
      → v.root ≡ true
      → w.on ≡ true
      → w.cpu ≡ length v.ended
      → length v.ended < v.made
      → IsIdle w
      → Joins Rule 0 v other w (with_end v w) nobody
  joins v other w is on next room idle s r here apart there =
      let o = r.root v here is in
      let both = with_end v w in
      let vs : List (View A) = set s.views 0 both in
      let mine = r.each_seat 0 v here in
      let ne : other ≢ 0 = λ e. apart e in
      let there' : get_elem? s.views other ≡ some w = sym (set_else s.views 0 other both ne) ∙ there in
      let theirs = r.each_seat other w there' in
      let seat : length v.ended + 1 ≡ other = ap (λ n. n + 1) (sym next) ∙ theirs.seat on in record {
        ready = r.ready;
        log = r.log;
        state = r.state;
        holder = r.holder;
        run = r.run;
        stored = r.stored;
        wide = r.wide;
        deep = r.deep;
        at_home = r.at_home;
        taken =
            λ k lt nz. still_held vs other w nobody k there (λ x e. absurd (idle_is x (held_at w.held k) (idle k) e))
            (r.holder k) (still_held s.views 0 v both k here (λ x e. (x, e)) (r.holder k) (r.taken k lt nz));
        each_seat = seats (Knows key s.words r.holder r.log r.state) vs other nobody
            (off_knows s.words r.holder r.log r.state other nobody refl (λ k x e. absurd (idle_is x None refl e)))
            (λ i u _ at. seats (Knows key s.words r.holder r.log r.state) s.views 0 both
            (off_knows s.words r.holder r.log r.state 0 both o.off mine.held)
            (λ j x _ e. r.each_seat j x e) i u at);
        root = λ u e up. ⊎_elim
            (λ (t : (0 ≡ other) × (nobody ≡ u)). absurd (ne (sym t.0)))
            (λ (t : (0 ≢ other) × (get_elem? vs 0 ≡ some u)). subst
            (λ (x : View A). Rooted key (set vs other nobody) r.log r.state x)
            (some-injective both u (sym (set_at s.views 0 v both here) ∙ t.1)) record {
              off = o.off;
              layout = o.layout;
              count = length-set vs other nobody ∙ (length-set s.views 0 both ∙ o.count);
              fresh = o.fresh;
              goes_on = o.goes_on;
              few = let l = length-append v.ended ((w.own, w.seen, w.tries) ∷ []) in omega arith;
              seen = λ c e at k. ⊎_elim
                  (λ old. o.seen c e old k)
                  (λ (q : (c ≡ length v.ended) × ((w.own, w.seen, w.tries) ≡ e)). subst
                  (λ (z : Ended). StartsWith (calls_on (part_of k) r.log) (seen_at z.1 k)) q.1 (theirs.seen on k))
                  (at_end v.ended (w.own, w.seen, w.tries) e c at);
              tried = λ c e at. ⊎_elim
                  (λ old. o.tried c e old)
                  (λ (q : (c ≡ length v.ended) × ((w.own, w.seen, w.tries) ≡ e)). let same : c ≡ w.cpu =
                  q.0 ∙ sym next in
                  subst (λ (z : ℕ × Ended). AreFronts key.config.log z.0 r.log z.1.2) (λ i. (sym same i, q.1 i))
                  (theirs.tried on))
                  (at_end v.ended (w.own, w.seen, w.tries) e c at);
              ended = λ c e at. ⊎_elim
                  (λ old. let k = o.ended c e old in (
                    k.0,
                    k.1,
                    λ x p. ⊎_elim
                        (λ (q : (c + 1 ≡ other) × (nobody ≡ x)). ap (λ (z : View A). z.on) (sym q.1))
                        (λ (q : (c + 1 ≢ other) × (get_elem? vs (c + 1) ≡ some x)). k.2 x
                        (sym (set_else s.views 0 (c + 1) both (λ z. omega arith)) ∙ q.1))
                        (at_set vs other (c + 1) nobody x p),
                  ))
                  (λ (q : (c ≡ length v.ended) × ((w.own, w.seen, w.tries) ≡ e)). let same : c ≡ w.cpu =
                  q.0 ∙ sym next in (
                    ap (λ (z : Ended). z.0.log.calls) (sym q.1)
                        ∙ (theirs.mine on ∙ ap (λ n. calls_by n r.log) (sym same)),
                    subst (λ (z : ℕ × Ended). IsOwn (layout_of key) r.state z.0 z.1.0) (λ i. (sym same i, q.1 i))
                        (theirs.own on),
                    λ x p. let here' : get_elem? (set vs other nobody) other ≡ some x =
                        ap (get_elem? (set vs other nobody)) (sym seat ∙ ap (λ n. n + 1) (sym q.0)) ∙ p in
                        ap (λ (z : View A). z.on)
                        (sym (some-injective nobody x (sym (set_at vs other w nobody there) ∙ here'))),
                  ))
                  (at_end v.ended (w.own, w.seen, w.tries) e c at);
            })
            (at_set vs other 0 nobody u e);
      }

  -- the history that stands once all CPUs have ended: every part is at home, as after it, and what each had seen, and
  -- each log that it took, begins its parts
  pub record Ends (b : Begun) (ended : List Ended) (xs : List (Option (Slot A))) : Type 0 where
    pub ready : CanBoot (layout_of key)
    pub log : List Call
    pub state : Reference
    pub run : IsRun (layout_of key) log state
    pub stored : All (λ c. IsStored c.reply) log
    pub each_part : (k : ℕ)
        → k < parts
        → (x : Slot A)
        × (get_elem? xs k ≡ some (Some x))
        × IsPart (layout_of key) state k x
        × ((log_of x).calls ≡ calls_on (part_of k) log)
    pub each_cpu : (c : ℕ) (e : Ended)
        → get_elem? ended c ≡ some e
        → (e.0.log.calls ≡ calls_by c log) × IsOwn (layout_of key) state c e.0
    pub seen : (c : ℕ) (e : Ended)
        → get_elem? ended c ≡ some e
        → (k : ℕ)
        → StartsWith (calls_on (part_of k) log) (seen_at e.1 k)
    pub tried : (c : ℕ) (e : Ended) → get_elem? ended c ≡ some e → AreFronts key.config.log c log e.2
    pub goes_on : GoesOn b log

  in_list : (l : List Ended) (c : ℕ) → c < length l → (e : Ended) × (get_elem? l c ≡ some e)
  in_list [] c lt = absurd (omega arith)
  in_list (x ∷ xs) zero lt = (x, refl)
  in_list (x ∷ xs) (suc c) lt = in_list xs c (omega arith)

  on_false : (v : View A) (all : length v.ended ≡ v.made) (s : State (Option (Slot A)) (View A)) (r : Rule s)
      (at : get_elem? s.views 0 ≡ some v) (o : Rooted key s.views r.log r.state v) (j : ℕ) (u : View A)
      → get_elem? s.views j ≡ some u
      → u.on ≡ false
  on_false v all s r at o zero u e = ap (λ (z : View A). z.on) (some-injective u v (sym e ∙ at)) ∙ o.off
  on_false v all s r at o (suc c) u e = let lt = at_bound s.views (suc c) u e in
      let count = o.count in
      let h = in_list v.ended c (omega arith) in
      (o.ended c h.0 h.1).2 u (ap (get_elem? s.views) (omega arith) ∙ e)

  pub finals : (v : View A) (ws : List ℕ) (xs : List (Option (Slot A)))
      → v.root ≡ true
      → length v.ended ≡ v.made
      → Final (Seen Rule 0 v) ws xs
      → Ends v.begun v.ended xs
  finals v ws xs is all f =
      let s = f.0 in let r = f.1.0 in let o = r.root v f.1.1 is in record {
        ready = r.ready;
        log = r.log;
        state = r.state;
        run = r.run;
        stored = r.stored;
        each_part = λ k lt. dite (ℕ_discrete (slice_index s.words k) 0)
            (λ z. let h = r.at_home k lt z in (h.0, f.4 k (Some h.0) h.1, h.2.0, h.2.1))
            (λ nz. let h = r.taken k lt nz in
            absurd
            (true≢false
            (sym ((r.each_seat (r.holder k) h.0 h.2).held k h.1 h.3).0
            ∙ on_false v all s r f.1.1 o (r.holder k) h.0 h.2)));
        each_cpu = λ c e at. let k = o.ended c e at in (k.0, k.1);
        seen = o.seen;
        tried = o.tried;
        goes_on = o.goes_on;
      }

module _ (A : Type 0) (k : Opening A) (xs : List (Option (Slot A))) (same : k.slots.value.items ≡ xs)
    (e : IsEndIn k.layout xs k.owns.value.items) where
  abbrev leaves : AreLeft (layout_of k.layout) (λ c. slice_get k.owns.value.items c) (λ j. slice_get e.found j)
  leaves = e.end.left

  -- what lies in a slot
  in_slot : (j : ℕ) (x : Slot A) → slice_get e.found j ≡ Some x → get_elem? xs j ≡ some (Some x)
  in_slot j x here =
      ap (λ (ys : List (Option (Slot A))). get_elem? ys j) e.slots_are
      ∙ elem_of_get (map (λ (y : Slot A). Some y) e.found) j (Some x) (get_mapped e.found j x here)

  -- the own state with which a CPU begins
  first_own : (c : ℕ)
      → c < k.layout.config.cpus
      → ((own_in (begun_in k) c).log.calls ≡ calls_by c leaves.log)
      × IsOwn (layout_of k.layout) leaves.history.end c (own_in (begun_in k) c)
  first_own c below =
      let count : length k.owns.value.items ≡ k.layout.config.cpus = e.end.count in
      let h = there k.owns.value.items c (omega arith) in
      let is : own_in (begun_in k) c ≡ h.0 = or_of_get k.owns.value.items c no_own h.0 h.1 in
      subst
      (λ (o : CpuState). (o.log.calls ≡ calls_by c leaves.log)
      × IsOwn (layout_of k.layout) leaves.history.end c o)
      (sym is) (leaves.cpus c h.0 h.1)

  pub left_first : AreLeftFirst A k.layout (begun_in k)
  left_first c below = record {
    ready = leaves.ready;
    whole = leaves.whole;
    log = leaves.log;
    history = leaves.history;
    cpus =
        one_cpu (λ n o. (o.log.calls ≡ calls_by n leaves.log) × IsOwn (layout_of k.layout) leaves.history.end n o) c
        (own_in (begun_in k) c) (first_own c below);
    parts = λ j x q. absurd cc;
  }

  begins : GoesOn (begun_in k) leaves.log
  begins = record {
    first = leaves.log;
    after = [];
    log_is = sym (append-nil leaves.log);
    on = λ j below. let x = each_part e.end j below in
        sym x.3 ∙ sym (logs_at e.found j x.0 x.1)
        ∙ ap (λ (ys : List (Option (Slot A))). slice_index_or (logs_in ys) j []) (sym e.slots_are ∙ sym same);
    by = λ c o here. sym (leaves.cpus c o here).0;
  }

  pub opens : (ws : List ℕ)
      → length ws ≡ parts
      → ((j : ℕ) → slice_index ws j ≡ 0)
      → IsLawful k.layout (opening ws xs (rooted k))
  opens ws wide zero_words = record {
    ready = leaves.ready;
    log = leaves.log;
    state = leaves.history.end;
    holder = λ _. 0;
    run = leaves.history.run;
    stored = leaves.history.stored;
    wide = wide;
    deep =
        length-map xs (λ (y : Option (Slot A)). some y) ∙ ap (λ (ys : List (Option (Slot A))). length ys) e.slots_are
        ∙ length-map e.found (λ (y : Slot A). Some y) ∙ e.end.all;
    at_home = λ j lt z. let x = each_part e.end j lt in
        (x.0, at_map (λ (y : Option (Slot A)). some y) xs j (Some x.0) (in_slot j x.0 x.1), (x.2, x.3));
    taken = λ j lt nz. absurd (nz (zero_words j));
    each_seat = each;
    root =
        λ u f up. subst (λ (v : View A). Rooted k.layout (rooted k ∷ []) leaves.log leaves.history.end v)
        (some-injective (rooted k) u f) record {
          off = refl;
          layout = refl;
          count = refl;
          fresh = λ c le below. first_own c below;
          goes_on = begins;
          few = omega arith;
          ended = λ c e at. absurd (some-ne-none e (sym at));
          seen = λ c e at. absurd (some-ne-none e (sym at));
          tried = λ c e at. absurd (some-ne-none e (sym at));
        };
  }
    where
      each : (j : ℕ) (v : View A)
          → get_elem? (rooted k ∷ []) j ≡ some v
          → Knows k.layout ws (λ _. 0) leaves.log leaves.history.end j v
      each zero v f =
          subst (Knows k.layout ws (λ _. 0) leaves.log leaves.history.end 0) (some-injective (rooted k) v f)
          (off_knows A k.layout ws (λ _. 0) leaves.log leaves.history.end 0 (rooted k) refl
          (λ j x g. absurd (idle_is x None refl g)))
      each (suc j) v f = absurd (some-ne-none v (sym f))

-- a CPU begins with the own state of its number
pub first_id : (A : Type 0) (l : TheLayout) (b : Begun)
    → AreLeftFirst A l b
    → (c : ℕ)
    → c < l.config.cpus
    → (own_in b c).id ≡ c
first_id A l b left c below = (own_left c (own_in b c) (left c below)).id
