-- Each exchange keeps the rule.
use Rattle.std.proofs.Common.{◌≡◌, ◌≢◌, ◌⊎◌, ℕ, ◌+◌, ◌<◌, List, [], ◌∷◌, ◌++◌, length, get_or, set, Bool, true, false, true≢false, cond, eqb, refl, sym, ap, ◌∙◌, subst, ⊎_elim, inl, inr, arith, eq-eqb, ne_eqb, get_or-set_same, get_or-set_other, length-set, append-nil}
use Rattle.std.specs.Prelude.{Option, Some, None, slice_index, All}
use Rattle.std.proofs.lemmas.List.Elements.{All-push}
use mathlib.Core.Option.{some, none}
use mathlib.Core.Logic.{dite}
use native.Mathlib.Decide.{ℕ_discrete}
use lib.ListN.{get_elem?}
use lib.Seq.{set-get_or}
use Rattle.atomic_table.specs.Table.{State, Me, Step, step, keeps, takes, gives, stepped, Allows}
use Rattle.atomic_table.proofs.Lists.{at_set, set_here, set_else}
use Rattle.page_state.specs.declared.layout.Layout.{Layout as TheLayout}
use Rattle.call_table.specs.declared.reply.Call.{Call}
use Rattle.page_state.specs.LayoutView.{layout_of}
use Rattle.page_state.specs.Layouts.{Layout}
use Rattle.reference_model.specs.model.Boot.{CanBoot, boot}
use Rattle.reference_model.specs.model.History.{IsStored, calls_on, calls_by}
use Rattle.reference_model.specs.model.Rules.{call_uses}
use Rattle.reference_model.specs.model.Run.{IsRun}
use Rattle.reference_model.specs.model.State.{Reference}
use Rattle.reference_model.specs.model.Step.{Steps}
use Rattle.part_types.specs.declared.parts.CpuState.{CpuState}
use Rattle.part_types.specs.Logs.{StoredCalls}
use Rattle.part_table.specs.declared.rule.View.{View}
use Rattle.part_table.specs.declared.slot.Slot.{Slot}
use Rattle.part_table.specs.Parts.{parts, part_of, uses, log_of, IsPart, IsOwn}
use Rattle.part_table.specs.Does.{Does}
use Rattle.part_table.proofs.Left.{left_by, one_cpu, stands}
use Rattle.part_table.proofs.Beginning.{goes_longer}
use Rattle.part_table.proofs.Fronts.{fronts_longer, fronts_missed, fronts_took}
use Rattle.part_table.specs.Beginnings.{own_in}
use Rattle.part_table.specs.Rule.{Extends, Hands, held_at, seen_with, StandsAfter, Knows, Rooted, IsLawful, taking, missing, releasing, took, Standing, returned, stored, entered, storing, tail, known_of}
use Rattle.part_table.specs.Known.{at, seen_at, AreFronts, StartsWith, Try}
use Rattle.part_table.proofs.Pairs.{at_same, at_other, set_at, at_bound, part_same, still_held, seats, picked_more, picked_same, picked_longer, runs_more, after_seen, unused_seen}

pub either_bool : (b : Bool) → (b ≡ true) ⊎ (b ≡ false)
either_bool true = inl refl
either_bool false = inr refl

pub either_option : {A : Type 0} → (o : Option (Slot A)) → (o ≡ None) ⊎ ((y : Slot A) × (o ≡ Some y))
either_option None = inl refl
either_option (Some y) = inr (y, refl)

rest_is_tail : {A : Type 0} → (l : Hands A) → Rattle.atomic_table.specs.Table.rest l ≡ tail l
rest_is_tail [] = refl
rest_is_tail (x ∷ xs) = refl

-- who holds the parts once the seat id has taken k
abbrev taken_by : (ℕ → ℕ) → ℕ → ℕ → ℕ → ℕ
taken_by holder k id j = cond (eqb j k) id (holder j)

taken_here : (holder : ℕ → ℕ) (k id : ℕ) → taken_by holder k id k ≡ id
taken_here holder k id = ap (λ b. cond b id (holder k)) (eq-eqb k k refl)

taken_else : (holder : ℕ → ℕ) (k id j : ℕ) → j ≢ k → taken_by holder k id j ≡ holder j
taken_else holder k id j ne = ap (λ b. cond b id (holder j)) (ne_eqb j k ne)

module _ (A : Type 0) (key : TheLayout) where
  -- the reference layout
  abbrev L : Layout
  L = layout_of key

  abbrev St : Type 0
  St = State (Option (Slot A)) (View A)

  abbrev M : Type 0
  M = Me (Option (Slot A)) (View A)

  abbrev Rule : St → Type 0
  Rule = IsLawful key

  word_here : (s : St) (r : Rule s) (k n : ℕ) → k < parts → get_or (set s.words k n) k 0 ≡ n
  word_here s r k n inside = let wide = r.wide in get_or-set_same s.words k n 0 (omega arith)

  word_else : (s : St) (k j n : ℕ) → j ≢ k → get_or (set s.words k n) j 0 ≡ get_or s.words j 0
  word_else s k j n ne = get_or-set_other s.words k j n 0 ne

  module _ (s : St) (r : Rule s) (id k : ℕ) (m : M) (on : m.0.on ≡ true) (inside : k < parts)
      (here : get_elem? s.views id ≡ some m.0) where
    abbrev F : List ℕ → (ℕ → ℕ) → ℕ → View A → Type 0
    F ws holder = Knows key ws holder r.log r.state

    -- who has ended makes no step
    ended_else : (w : View A) (c : ℕ)
        → ((u : View A) → get_elem? s.views (c + 1) ≡ some u → u.on ≡ false)
        → (u : View A)
        → get_elem? (set s.views id w) (c + 1) ≡ some u
        → u.on ≡ false
    ended_else w c off u e = ⊎_elim
        (λ (t : (c + 1 ≡ id) × (w ≡ u)). absurd (true≢false (sym on ∙ off m.0 (ap (get_elem? s.views) t.0 ∙ here))))
        (λ (t : (c + 1 ≢ id) × (get_elem? s.views (c + 1) ≡ some u)). off u t.1)
        (at_set s.views id (c + 1) w u e)

    -- the root knows what it knew, after a step of another seat
    root_still : (w : View A) (v : View A)
        → get_elem? (set s.views id w) 0 ≡ some v
        → v.root ≡ true
        → Rooted key (set s.views id w) r.log r.state v
    root_still w v e is = ⊎_elim
        (λ (t : (0 ≡ id) × (w ≡ v)). let at_zero = (r.each_seat id m.0 here).seat on in absurd (omega arith))
        (λ (t : (0 ≢ id) × (get_elem? s.views 0 ≡ some v)). let o = r.root v t.1 is in record {
          off = o.off;
          layout = o.layout;
          count = length-set s.views id w ∙ o.count;
          fresh = o.fresh;
          goes_on = o.goes_on;
          few = o.few;
          ended = λ c e at. let k = o.ended c e at in (k.0, k.1, ended_else w c k.2);
          seen = o.seen;
          tried = o.tried;
        })
        (at_set s.views id 0 w v e)

    -- a view that goes on but for the parts that it holds and those that it tried knows what it knew, where what it
    -- holds is told
    still_knows : (ws : List ℕ) (holder : ℕ → ℕ) (i : ℕ) (v : View A) (hands : Hands A)
        (tries : List (ℕ × Try))
        → F s.words r.holder i v
        → (v.on ≡ true → AreFronts key.config.log v.cpu r.log tries)
        → ((j : ℕ) (y : Slot A)
        → held_at hands j ≡ Some y
        → (v.on ≡ true)
        × (j < parts)
        × (slice_index ws j ≢ 0)
        × (holder j ≡ i)
        × StandsAfter key ws holder r.log r.state j y)
        → F ws holder i (record v { held = hands; tries = tries })
    still_knows ws holder i v hands tries f tried held = record {
      layout = f.layout;
      known = f.known;
      seat = f.seat;
      mine = f.mine;
      own = f.own;
      seen = f.seen;
      tried = tried;
      held = held;
    }

    -- the part is found at home, and taken
    takes_it : (x : Slot A)
        → slice_index s.words k ≡ 0
        → StandsAfter key s.words r.holder r.log r.state k x
        → Rule (stepped s k 1 id m.1 (taking m.0 k x) (takes k (Some x)))
    takes_it x home stands =
        let w : View A = taking m.0 k x in
        let ws : List ℕ = set s.words k 1 in
        let holder : ℕ → ℕ = taken_by r.holder k id in
        let mine = r.each_seat id m.0 here in record {
          ready = r.ready;
          log = r.log;
          state = r.state;
          holder = holder;
          run = r.run;
          stored = r.stored;
          wide = length-set s.words k 1 ∙ r.wide;
          deep = length-set s.homes k none ∙ r.deep;
          at_home = λ j lt z. dite (ℕ_discrete j k)
              (λ e. let now = word_here s r k 1 inside in
              let z' : get_or ws k 0 ≡ 0 = subst (λ i. get_or ws i 0 ≡ 0) e z in
              absurd (omega arith))
              (λ ne. let h = r.at_home j lt (sym (word_else s k j 1 ne) ∙ z) in
              (h.0, set_else s.homes k j none ne ∙ h.1, h.2));
          taken = λ j lt nz. dite (ℕ_discrete j k)
              (λ e. (
                w,
                x,
                ap (get_elem? (set s.views id w)) (ap holder e ∙ taken_here r.holder k id)
                    ∙ set_at s.views id m.0 w here,
                ap (held_at w.held) e ∙ at_same m.0.held k (Some x) None,
              ))
              (λ ne. let h =
              still_held s.views id m.0 w j here (λ y e. (y, at_other m.0.held k j (Some x) None ne ∙ e))
              (r.holder j) (r.taken j lt (λ z. nz (word_else s k j 1 ne ∙ z))) in
              (h.0, h.1, ap (get_elem? (set s.views id w)) (taken_else r.holder k id j ne) ∙ h.2, h.3));
          root = root_still w;
          each_seat = seats (F ws holder) s.views id w
              (still_knows ws holder id m.0 w.held w.tries mine
              (λ o. fronts_took key m.0.cpu r.log m.0.own.log.calls m.0.tries r.state k x (mine.mine o) (mine.tried o)
              inside stands.0 stands.1)
              (λ j y e. dite (ℕ_discrete j k)
              (λ is. let same : x ≡ y =
              part_same x y (sym (at_same m.0.held k (Some x) None) ∙ (ap (held_at w.held) (sym is) ∙ e)) in (
                on,
                subst (λ i. i < parts) (sym is) inside,
                (λ z. let now = word_here s r k 1 inside in
                    let z' : get_or ws k 0 ≡ 0 = ap (λ i. get_or ws i 0) (sym is) ∙ z in
                    absurd (omega arith)),
                ap holder is ∙ taken_here r.holder k id,
                subst (λ (p : ℕ × Slot A). StandsAfter key ws holder r.log r.state p.0 p.1)
                    (λ i. (sym is i, same i)) stands,
              ))
              (λ ne. let h = mine.held j y (sym (at_other m.0.held k j (Some x) None ne) ∙ e) in
              (h.0, h.1, (λ z. h.2 (sym (word_else s k j 1 ne) ∙ z)), taken_else r.holder k id j ne ∙ h.3, h.4))))
              (λ i u apart there. let f = r.each_seat i u there in still_knows ws holder i u u.held u.tries f f.tried
              (λ j y e. let h = f.held j y e in let ne : j ≢ k = λ is. h.2 (ap (λ z. get_or s.words z 0) is ∙ home) in
              (h.0, h.1, (λ z. h.2 (sym (word_else s k j 1 ne) ∙ z)), taken_else r.holder k id j ne ∙ h.3, h.4)));
        }

    -- the part is found taken
    misses_it : slice_index s.words k ≢ 0 → Rule (stepped s k 1 id m.1 (missing m.0 k) keeps)
    misses_it away =
        let w : View A = missing m.0 k in
        let ws : List ℕ = set s.words k 1 in
        let mine = r.each_seat id m.0 here in
        let zero_as : (j : ℕ) → get_or ws j 0 ≡ 0 → get_or s.words j 0 ≡ 0 = λ j z. dite (ℕ_discrete j k)
        (λ e. let now = word_here s r k 1 inside in
        let z' : get_or ws k 0 ≡ 0 = subst (λ i. get_or ws i 0 ≡ 0) e z in
        absurd (omega arith))
        (λ ne. sym (word_else s k j 1 ne) ∙ z) in
        let as_zero : (j : ℕ) → get_or s.words j 0 ≡ 0 → get_or ws j 0 ≡ 0 = λ j z. dite (ℕ_discrete j k)
        (λ e. absurd (away (subst (λ i. get_or s.words i 0 ≡ 0) e z)))
        (λ ne. word_else s k j 1 ne ∙ z) in record {
          ready = r.ready;
          log = r.log;
          state = r.state;
          holder = r.holder;
          run = r.run;
          stored = r.stored;
          wide = length-set s.words k 1 ∙ r.wide;
          deep = r.deep;
          at_home = λ j lt z. r.at_home j lt (zero_as j z);
          taken =
              λ j lt nz. still_held s.views id m.0 w j here (λ y e. (y, e)) (r.holder j)
              (r.taken j lt (λ z. nz (as_zero j z)));
          root = root_still w;
          each_seat = seats (F ws r.holder) s.views id w
              (still_knows ws r.holder id m.0 w.held w.tries mine
              (λ o. fronts_missed key m.0.cpu r.log (length m.0.own.log.calls) m.0.tries k (mine.tried o))
              (λ j y e. let h = mine.held j y e in (h.0, h.1, (λ z. h.2 (zero_as j z)), h.3, h.4)))
              (λ i u apart there. let f = r.each_seat i u there in still_knows ws r.holder i u u.held u.tries f f.tried
              (λ j y e. let h = f.held j y e in (h.0, h.1, (λ z. h.2 (zero_as j z)), h.3, h.4)));
        }

    -- a part goes home as it is recorded
    returns_it : (x : Slot A) (cs : Hands A)
        → held_at m.0.held k ≡ Some x
        → Rule (stepped s k 0 id ((k, Some x) ∷ cs) (releasing m.0 k) gives)
    returns_it x cs holds =
        let w : View A = releasing m.0 k in
        let ws : List ℕ = set s.words k 0 in
        let mine = r.each_seat id m.0 here in
        let old = mine.held k x holds in
        let deep = r.deep in record {
          ready = r.ready;
          log = r.log;
          state = r.state;
          holder = r.holder;
          run = r.run;
          stored = r.stored;
          wide = length-set s.words k 0 ∙ r.wide;
          deep = length-set s.homes k (some (Some x)) ∙ r.deep;
          at_home = λ j lt z. dite (ℕ_discrete j k)
              (λ e. (
                x,
                ap (get_elem? (set s.homes k (some (Some x)))) e
                    ∙ set_here s.homes k (some (Some x)) (omega arith),
                subst (λ i. StandsAfter key ws r.holder r.log r.state i x) (sym e) old.4,
              ))
              (λ ne. let h = r.at_home j lt (sym (word_else s k j 0 ne) ∙ z) in
              (h.0, set_else s.homes k j (some (Some x)) ne ∙ h.1, h.2));
          taken = λ j lt nz. dite (ℕ_discrete j k)
              (λ e. absurd (nz (ap (λ i. get_or ws i 0) e ∙ word_here s r k 0 inside)))
              (λ ne. still_held s.views id m.0 w j here (λ y e. (y, at_other m.0.held k j None None ne ∙ e))
              (r.holder j) (r.taken j lt (λ z. nz (word_else s k j 0 ne ∙ z))));
          root = root_still w;
          each_seat = seats (F ws r.holder) s.views id w
              (still_knows ws r.holder id m.0 w.held w.tries mine mine.tried
              (λ j y e. dite (ℕ_discrete j k)
              (λ is. let never : None ≡ Some y =
              sym (at_same m.0.held k None None) ∙ (ap (held_at w.held) (sym is) ∙ e) in
              absurd cc)
              (λ ne. let h = mine.held j y (sym (at_other m.0.held k j None None ne) ∙ e) in
              (h.0, h.1, (λ z. h.2 (sym (word_else s k j 0 ne) ∙ z)), h.3, h.4))))
              (λ i u apart there. let f = r.each_seat i u there in still_knows ws r.holder i u u.held u.tries f f.tried
              (λ j y e. let h = f.held j y e in let ne : j ≢ k = λ is. apart (sym h.3 ∙ (ap r.holder is ∙ old.3)) in
              (h.0, h.1, (λ z. h.2 (sym (word_else s k j 0 ne) ∙ z)), h.3, h.4)));
        }

    module _ (c : Call) (after : Hands A) (owned : CpuState)
        (does : Does L c (held_at m.0.held) m.0.own (held_at after) owned)
        (holds_used : (j : ℕ) (x : Slot A) → held_at m.0.held j ≡ Some x → uses c j ≡ true)
        (by : c.cpu ≡ m.0.cpu) where
      abbrev log' : List Call
      log' = r.log ++ c ∷ []

      abbrev mine : Knows key s.words r.holder r.log r.state id m.0
      mine = r.each_seat id m.0 here

      abbrev gone : (t : Reference)
          × Steps L r.state c t
          × ((j : ℕ) (y : Slot A) → held_at after j ≡ Some y → IsPart L t j y)
          × IsOwn L t c.cpu owned
          × ((j : ℕ) (x : Slot A) → uses c j ≡ false → IsPart L r.state j x → IsPart L t j x)
          × ((j : ℕ) (k : CpuState) → j ≢ c.cpu → IsOwn L r.state j k → IsOwn L t j k)
      gone =
          does.goes r.state (λ j x e. (mine.held j x e).4.0)
          (subst (λ j. IsOwn L r.state j m.0.own) (sym by) (mine.own on))

      abbrev w : View A
      w = storing owned after m.0 k

      abbrev Stood : ℕ → Slot A → Type 0
      Stood = StandsAfter key s.words r.holder log' gone.0

      -- a part that the call doesn't use
      stays : (j : ℕ) (x : Slot A) → uses c j ≡ false → StandsAfter key s.words r.holder r.log r.state j x → Stood j x
      stays j x unused old = (gone.4 j x unused old.0, old.1 ∙ sym (picked_same (call_uses (part_of j)) r.log c unused))

      -- a part that it uses
      steps : (j : ℕ) (y : Slot A) → held_at after j ≡ Some y → Stood j y
      steps j y e = let yes = does.only j y e in
          let u = does.used j yes in
          let same : u.1 ≡ y = part_same u.1 y (sym u.3 ∙ e) in
          let old = (mine.held j u.0 u.2).4 in (
            gone.2 j y e,
            ap (λ (z : Slot A). (log_of z).calls) (sym same)
                ∙ (ap (λ (g : StoredCalls). g.calls) u.4
                ∙ (ap (λ l. l ++ c ∷ []) old.1 ∙ sym (picked_more (call_uses (part_of j)) r.log c yes))),
          )

      -- a part that isn't held isn't used
      spared : (j : ℕ) → ((x : Slot A) → held_at m.0.held j ≡ Some x → ⊥) → uses c j ≡ false
      spared j none_held =
          ⊎_elim (λ yes. let u = does.used j yes in absurd (none_held u.0 u.2)) (λ unused. unused)
          (either_bool (uses c j))

      -- the longer list is a run of stored calls
      runs : IsRun L log' gone.0
      runs = record {
        cpus =
            All-push (λ (d : Call). d.cpu < L.config.cpus) r.log c r.run.cpus
            (subst (λ n. n < L.config.cpus) (sym by) (mine.known on));
        leads = runs_more (Steps L) (boot L) r.log r.state gone.0 c r.run.leads gone.1;
      }

      all_stored : All (λ d. IsStored d.reply) log'
      all_stored = All-push (λ (d : Call). IsStored d.reply) r.log c r.stored does.stored

      root_steps : (v : View A)
          → get_elem? (set s.views id w) 0 ≡ some v
          → v.root ≡ true
          → Rooted key (set s.views id w) log' gone.0 v
      root_steps v e is = let o = root_still w v e is in
          let at = mine.seat on in
          let few = at_bound s.views id m.0 here in
          let count = sym (length-set s.views id w) ∙ o.count in
          record {
            off = o.off;
            layout = o.layout;
            count = o.count;
            fresh = λ j le below. let other : j ≢ c.cpu = λ is. omega (arith, is, by) in (
              (o.fresh j le below).0
                  ∙ sym (picked_same (λ (d : Call). eqb d.cpu j) r.log c (ne_eqb c.cpu j (λ is. other (sym is)))),
              gone.5 j (own_in v.begun j) other (o.fresh j le below).1,
            );
            goes_on = goes_longer v.begun r.log c o.goes_on;
            few = o.few;
            seen = λ j z at_j i. picked_longer (call_uses (part_of i)) r.log c (seen_at z.1 i) (o.seen j z at_j i);
            tried = λ j z at_j. fronts_longer key j r.log c z.2 (o.tried j z at_j);
            ended = λ j z at_j. let k = o.ended j z at_j in
                let other : j ≢ c.cpu = λ is. let same : j + 1 ≡ id = ap (λ n. n + 1) (is ∙ by) ∙ at in
                absurd
                (true≢false (sym on ∙ k.2 w (ap (get_elem? (set s.views id w)) same ∙ set_at s.views id m.0 w here))) in (
                  k.0
                      ∙ sym (picked_same (λ (d : Call). eqb d.cpu j) r.log c (ne_eqb c.cpu j (λ is. other (sym is)))),
                  gone.5 j z.0 other k.1,
                  k.2,
                );
          }

      own_list : owned.log.calls ≡ calls_by m.0.cpu log'
      own_list =
          ap (λ (g : StoredCalls). g.calls) does.mine
          ∙ (ap (λ l. l ++ c ∷ []) (mine.mine on)
          ∙ sym (picked_more (λ (d : Call). eqb d.cpu m.0.cpu) r.log c (eq-eqb c.cpu m.0.cpu by)))

      extends_it : Extends c (known_of w)
      extends_it = let same : key ≡ m.0.layout = sym (mine.layout on) in record {
        left = record {
          ready = subst (λ (l : TheLayout). CanBoot (layout_of l)) same r.ready;
          whole = left_by gone.0 log';
          log = log';
          history =
              stands (layout_of m.0.layout) gone.0 log'
              (subst (λ (l : TheLayout). IsRun (layout_of l) log' gone.0) same runs) all_stored;
          cpus =
              one_cpu (λ n k. (k.log.calls ≡ calls_by n log') × IsOwn (layout_of m.0.layout) gone.0 n k) m.0.cpu owned (
                own_list,
                subst (λ (z : TheLayout × ℕ). IsOwn (layout_of z.0) gone.0 z.1 owned)
                    (λ i. (same i, by i)) gone.3,
              );
          parts = λ j x q. absurd cc;
        };
        ends = (r.log, refl);
        seen = λ j yes. let u = does.used j yes in after_seen after m.0.seen j u.1 u.3 ∙ (steps j u.1 u.3).1;
      }

      stores_it : (y0 : Slot A) (cs : Hands A)
          → held_at after k ≡ Some y0
          → Rule (stepped s k 0 id ((k, Some y0) ∷ cs) w gives)
      stores_it y0 cs last =
          let ws : List ℕ = set s.words k 0 in
          let deep = r.deep in
          let k_used = does.used k (does.only k y0 last) in
          let k_mine = mine.held k k_used.0 k_used.2 in record {
            ready = r.ready;
            log = log';
            state = gone.0;
            holder = r.holder;
            run = runs;
            stored = all_stored;
            wide = length-set s.words k 0 ∙ r.wide;
            deep = length-set s.homes k (some (Some y0)) ∙ r.deep;
            at_home = λ j lt z. dite (ℕ_discrete j k)
                (λ e. (
                  y0,
                  ap (get_elem? (set s.homes k (some (Some y0)))) e
                      ∙ set_here s.homes k (some (Some y0)) (omega arith),
                  subst (λ i. Stood i y0) (sym e) (steps k y0 last),
                ))
                (λ ne. let z' = sym (word_else s k j 0 ne) ∙ z in let h = r.at_home j lt z' in (
                  h.0,
                  set_else s.homes k j (some (Some y0)) ne
                      ∙ h.1,
                  stays j h.0 (spared j (λ x e. (mine.held j x e).2 z')) h.2,
                ));
            taken = λ j lt nz. dite (ℕ_discrete j k)
                (λ e. absurd (nz (ap (λ i. get_or ws i 0) e ∙ word_here s r k 0 inside)))
                (λ ne. still_held s.views id m.0 w j here
                (λ x e. let u = does.used j (holds_used j x e) in (u.1, at_other after k j None None ne ∙ u.3))
                (r.holder j) (r.taken j lt (λ z. nz (word_else s k j 0 ne ∙ z))));
            root = root_steps;
            each_seat = seats (Knows key ws r.holder log' gone.0) s.views id w
                record {
                  layout = mine.layout;
                  known = mine.known;
                  seat = mine.seat;
                  mine = λ o. own_list;
                  own = λ o. subst (λ j. IsOwn L gone.0 j owned) by gone.3;
                  seen = λ o j. ⊎_elim
                      (λ none_after. subst (λ l. StartsWith (calls_on (part_of j) log') l)
                      (sym (unused_seen after m.0.seen j none_after))
                      (picked_longer (call_uses (part_of j)) r.log c (seen_at m.0.seen j) (mine.seen o j)))
                      (λ (t : (y : Slot A) × (held_at after j ≡ Some y)). subst
                      (λ l. StartsWith (calls_on (part_of j) log') l) (sym (after_seen after m.0.seen j t.0 t.1))
                      ([], sym ((steps j t.0 t.1).1) ∙ sym (append-nil (log_of t.0).calls)))
                      (either_option (held_at after j));
                  tried = λ o. fronts_longer key m.0.cpu r.log c m.0.tries (mine.tried o);
                  held = λ j y e. dite (ℕ_discrete j k)
                      (λ is. let never : None ≡ Some y =
                      sym (at_same after k None None) ∙ (ap (held_at w.held) (sym is) ∙ e) in
                      absurd cc)
                      (λ ne. let e' = sym (at_other after k j None None ne) ∙ e in
                      let u = does.used j (does.only j y e') in
                      let h = mine.held j u.0 u.2 in
                      (h.0, h.1, (λ z. h.2 (sym (word_else s k j 0 ne) ∙ z)), h.3, steps j y e'));
                }
                (λ i v apart there. let f = r.each_seat i v there in
                let other : v.on ≡ true → v.cpu ≢ c.cpu = λ o e. let a = f.seat o in
                let b = mine.seat on in
                apart (sym a ∙ (ap (λ n. n + 1) (e ∙ by) ∙ b)) in
                record {
                  layout = f.layout;
                  known = f.known;
                  seat = f.seat;
                  mine =
                      λ o. f.mine o
                      ∙ sym
                      (picked_same (λ (d : Call). eqb d.cpu v.cpu) r.log c
                      (ne_eqb c.cpu v.cpu (λ e. other o (sym e))));
                  own = λ o. gone.5 v.cpu v.own (other o) (f.own o);
                  seen = λ o j. picked_longer (call_uses (part_of j)) r.log c (seen_at v.seen j) (f.seen o j);
                  tried = λ o. fronts_longer key v.cpu r.log c v.tries (f.tried o);
                  held = λ j y e. let h = f.held j y e in
                      let ne : j ≢ k = λ is. apart (sym h.3 ∙ (ap r.holder is ∙ k_mine.3)) in (
                        h.0,
                        h.1,
                        (λ z. h.2 (sym (word_else s k j 0 ne) ∙ z)),
                        h.3,
                        stays j y (spared j (λ x e2. apart (sym h.3 ∙ (mine.held j x e2).3))) h.4,
                      );
                });
          }

      -- a call that uses no part
      enters_it : after ≡ []
          → (cs : Hands A)
          → Rule record { words = s.words; homes = s.homes; views = set s.views id w }
      enters_it empty cs =
          let unused : (j : ℕ) → uses c j ≡ false =
          λ j. ⊎_elim
          (λ used. let u = does.used j used in
          let never : None ≡ Some u.1 = ap (λ (a : Hands A). held_at a j) (sym empty) ∙ u.3 in
          absurd cc)
          (λ n. n) (either_bool (uses c j)) in
          let nothing : (j : ℕ) (x : Slot A) → held_at m.0.held j ≡ Some x → ⊥ =
          λ j x e. absurd (true≢false (sym (holds_used j x e) ∙ unused j)) in
          record {
            ready = r.ready;
            log = log';
            state = gone.0;
            holder = r.holder;
            run = runs;
            stored = all_stored;
            wide = r.wide;
            deep = r.deep;
            at_home = λ j lt z. let h = r.at_home j lt z in (h.0, h.1, stays j h.0 (unused j) h.2);
            taken =
                λ j lt nz. still_held s.views id m.0 w j here (λ x e. absurd (nothing j x e)) (r.holder j)
                (r.taken j lt nz);
            root = root_steps;
            each_seat = seats (Knows key s.words r.holder log' gone.0) s.views id w
                record {
                  layout = mine.layout;
                  known = mine.known;
                  seat = mine.seat;
                  mine = λ o. own_list;
                  own = λ o. subst (λ j. IsOwn L gone.0 j owned) by gone.3;
                  seen =
                      λ o j. subst
                      (λ (a : Hands A). StartsWith (calls_on (part_of j) log') (at (seen_with a m.0.seen) [] j))
                      (sym empty)
                      (picked_longer (call_uses (part_of j)) r.log c (seen_at m.0.seen j) (mine.seen o j));
                  tried = λ o. fronts_longer key m.0.cpu r.log c m.0.tries (mine.tried o);
                  held = λ j y e. dite (ℕ_discrete j k)
                      (λ is. let never : None ≡ Some y =
                      sym (at_same after k None None) ∙ (ap (held_at w.held) (sym is) ∙ e) in
                      absurd cc)
                      (λ ne. let e' = sym (at_other after k j None None ne) ∙ e in
                      absurd (true≢false (sym (does.only j y e') ∙ unused j)));
                }
                (λ i v apart there. let f = r.each_seat i v there in
                let other : v.on ≡ true → v.cpu ≢ c.cpu = λ o e. let a = f.seat o in
                let b = mine.seat on in
                apart (sym a ∙ (ap (λ n. n + 1) (e ∙ by) ∙ b)) in
                record {
                  layout = f.layout;
                  known = f.known;
                  seat = f.seat;
                  mine =
                      λ o. f.mine o
                      ∙ sym
                      (picked_same (λ (d : Call). eqb d.cpu v.cpu) r.log c
                      (ne_eqb c.cpu v.cpu (λ e. other o (sym e))));
                  own = λ o. gone.5 v.cpu v.own (other o) (f.own o);
                  seen = λ o j. picked_longer (call_uses (part_of j)) r.log c (seen_at v.seen j) (f.seen o j);
                  tried = λ o. fronts_longer key v.cpu r.log c v.tries (f.tried o);
                  held = λ j y e. let h = f.held j y e in (h.0, h.1, h.2, h.3, stays j y (unused j) h.4);
                });
          }

  -- an exchange that takes a part, or finds it taken
  pub take_keeps : (slots id k : ℕ) (m : M)
      → m.0.on ≡ true
      → k < parts
      → Allows Rule slots id m k (λ _. 1) (took (step slots k 1 0 none) m)
  take_keeps slots id k m on inside s r deep here small = dite (ℕ_discrete (slice_index s.words k) 0)
      (λ home. let h = r.at_home k inside home in
      let x = h.0 in
      let mine = r.each_seat id m.0 here in
      let w : View A = taking m.0 k x in
      let new : Rule (stepped s k 1 id m.1 w (takes k (Some x))) = takes_it s r id k m on inside here x home h.2 in
      let f = new.each_seat id w (set_at s.views id m.0 w here) in
      let same : key ≡ m.0.layout = sym (mine.layout on) in
      let stands : Standing w = record {
        ready = subst (λ (l : TheLayout). CanBoot (layout_of l)) same new.ready;
        whole = left_by new.state new.log;
        log = new.log;
        history =
            stands (layout_of m.0.layout) new.state new.log
            (subst (λ (l : TheLayout). IsRun (layout_of l) new.log new.state) same new.run) new.stored;
        cpus =
            one_cpu
            (λ c k. (k.log.calls ≡ calls_by c new.log) × IsOwn (layout_of m.0.layout) new.state c k) w.cpu w.own
            (f.mine on, subst (λ (l : TheLayout). IsOwn (layout_of l) new.state w.cpu w.own) same (f.own on));
        parts = λ j y e. let a = f.held j y e in
            (subst (λ (l : TheLayout). IsPart (layout_of l) new.state j y) same a.4.0, a.4.1);
      } in (
        w,
        takes k (Some x),
        h.1,
        new,
        (
          (λ _. (x, refl, subst (λ l. StartsWith l (seen_at m.0.seen k)) (sym h.2.1) (mine.seen on k), stands)),
          λ nz. absurd (nz home),
        ),
      ))
      (λ away.
      (missing m.0 k, keeps, tt, misses_it s r id k m on inside here away, ((λ z. absurd (away z)), λ _. refl)))

  -- an exchange that puts a part home as it is recorded
  pub return_keeps : (slots id k : ℕ) (m : M) (x : Slot A) (cs : Hands A)
      → m.0.on ≡ true
      → k < parts
      → m.1 ≡ (k, Some x) ∷ cs
      → held_at m.0.held k ≡ Some x
      → Allows Rule slots id m k (λ _. 0) (returned (step slots k 0 0 none) m)
  return_keeps slots id k m x cs on inside is holds s r deep here small = (
    releasing m.0 k,
    gives,
    tt,
    subst (λ c. Rule (stepped s k 0 id c (releasing m.0 k) gives)) (sym is)
        (returns_it s r id k m on inside here x cs holds),
    subst
        (λ c. returned (step slots k 0 0 none) (m.0, c) (get_or s.words k 0)
        (releasing m.0 k, Rattle.atomic_table.specs.Table.rest c))
        (sym is) refl,
  )

  -- what a step does, of the layout that a view carries, is of the key's
  of_key : (s : St) (r : Rule s) (id : ℕ) (m : M)
      → m.0.on ≡ true
      → get_elem? s.views id ≡ some m.0
      → (c : Call) (after : Hands A) (owned : CpuState)
      → Does (layout_of m.0.layout) c (held_at m.0.held) m.0.own (held_at after) owned
      → Does L c (held_at m.0.held) m.0.own (held_at after) owned
  of_key s r id m on here c after owned does =
      subst (λ (l : TheLayout). Does (layout_of l) c (held_at m.0.held) m.0.own (held_at after) owned)
      ((r.each_seat id m.0 here).layout on) does

  -- the commit: an exchange that puts a part home with the call stored
  pub store_keeps : (slots id k : ℕ) (m : M) (c : Call) (owned : CpuState) (y : Slot A) (cs : Hands A)
      → m.0.on ≡ true
      → k < parts
      → m.1 ≡ (k, Some y) ∷ cs
      → Does (layout_of m.0.layout) c (held_at m.0.held) m.0.own (held_at m.1) owned
      → ((j : ℕ) (x : Slot A) → held_at m.0.held j ≡ Some x → uses c j ≡ true)
      → c.cpu ≡ m.0.cpu
      → Allows Rule slots id m k (λ _. 0) (stored c owned (step slots k 0 0 none) m)
  store_keeps slots id k m c owned y cs on inside is does holds_used by s r deep here small =
      let last : held_at m.1 k ≡ Some y = ap (λ (h : Hands A). held_at h k) is ∙ at_same cs k (Some y) None in
      let does' = of_key s r id m on here c m.1 owned does in (
        storing owned m.1 m.0 k,
        gives,
        tt,
        subst (λ x. Rule (stepped s k 0 id x (storing owned m.1 m.0 k) gives)) (sym is)
            (stores_it s r id k m on inside here c m.1 owned does' holds_used by y cs last),
        (
          (λ i. (storing owned m.1 m.0 k, rest_is_tail m.1 i)),
          extends_it s r id k m on inside here c m.1 owned does' holds_used by,
        ),
      )

  -- a load with which a pass enters a call that used no part
  pub enter_keeps : (slots id : ℕ) (m : M) (c : Call) (owned : CpuState) → m.0.on ≡ true
      → Does (layout_of m.0.layout) c (held_at m.0.held) m.0.own (held_at []) owned
      → ((j : ℕ) (x : Slot A) → held_at m.0.held j ≡ Some x → uses c j ≡ true)
      → c.cpu ≡ m.0.cpu
      → Allows Rule slots id m 0 (λ n. n) (entered c owned (step slots 0 0 0 none) m)
  enter_keeps slots id m c owned on does holds_used by s r deep here small =
      let does' = of_key s r id m on here c [] owned does in (
        storing owned [] m.0 0,
        keeps,
        tt,
        subst
            (λ
            (ws : List ℕ). Rule
            record { words = ws; homes = s.homes; views = set s.views id (storing owned [] m.0 0) })
            (sym (set-get_or s.words 0 0))
            (enters_it s r id 0 m on (omega arith) here c [] owned does' holds_used by refl m.1),
        (refl, extends_it s r id 0 m on (omega arith) here c [] owned does' holds_used by),
      )
