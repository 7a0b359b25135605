-- Layers of nodes, one after another.
use Rattle.std.proofs.Common.{◌≡◌, ℕ, ◌+◌, ◌<◌, sym, ap, subst, ◌∙◌, arith, inl, inr, List, [], ◌∷◌, ◌++◌, length}
use Rattle.std.specs.Prelude.{All, Contains, Option, Vec}
use Rattle.std.specs.Global.{Global}
use Rattle.std.proofs.lemmas.List.{append_assoc, append-nil, length-append, map-append}
use Rattle.std.proofs.lemmas.List.Elements.{All-append, All-contains, All-cons, All-nil, All-weaker, Contains-append_left, Contains-push}
use Rattle.page_state.specs.Layouts.{Layout}
use Rattle.page_state.specs.LayoutView.{layout_of}
use Rattle.reference_model.specs.model.State.{Reference}
use Rattle.ghost_spec.specs.States.{ghost_state}
use Rattle.race_outcomes.specs.declared.node.Node.{Node}
use Rattle.race_outcomes.specs.declared.node.Turn.{Turn}
use Rattle.race_outcomes.specs.Layers.{AreNext, HasStep, HaveOneLayout, IsAdded, IsLayer, IsReached, IsReady, IsSpread, IsStepAt, IsStepOf, point_of, points_of}
use Rattle.race_outcomes.specs.Orders.{AreWanted, Leads, Makes, Point, first_point, no_replies_yet}
use Rattle.race_outcomes.proofs.Members.{from_map}
use Rattle.race_outcomes.proofs.Orders.{IsLast, leads_last, leads_length, leads_more, makes_once, makes_wanted, none_length}
use Rattle.race_outcomes.proofs.Wanted.{none_wanted}

module _ (turns : List Turn) (wanted : List (Option (Vec ℕ Global))) where
  -- points stay where nodes are added
  pub points_stay : (old more : List Node) (p : Point)
      → Contains (points_of old) p
      → Contains (points_of (old ++ more)) p
  points_stay old more p h =
      subst (λ ps. Contains ps p) (sym (map-append point_of old more))
      (Contains-append_left (points_of old) (points_of more) p h)

  pub has_stays : (k m : Node) (old new : List Node) (place : ℕ)
      → IsSpread turns wanted m old new
      → HasStep turns wanted k old place
      → HasStep turns wanted k new place
  has_stays k m old new place s h q makes are =
      subst (λ ns. Contains (points_of ns) q) (sym s.1) (points_stay old s.0 q (h q makes are))

  pub spread_none : (m : Node) (old : List Node) → IsSpread turns wanted m old old
  spread_none m old = ([], sym (append-nil old), All-nil (IsStepOf turns wanted m))

  pub spread_more : (m : Node) (a b c : List Node)
      → IsSpread turns wanted m a b
      → IsSpread turns wanted m b c
      → IsSpread turns wanted m a c
  spread_more m a b c s t = (
    s.0 ++ t.0,
    t.1 ∙ ap (λ ns. ns ++ t.0) s.1
        ∙ append_assoc a s.0 t.0,
    All-append (IsStepOf turns wanted m) s.0 t.0 s.2 t.2,
  )

  pub added_spread : (m : Node) (place : ℕ) (n : Node) (old new : List Node)
      → IsStepAt turns wanted m place n
      → IsAdded old n new
      → IsSpread turns wanted m old new
  added_spread m place n old new s (inl e) =
      (n ∷ [], e, All-cons (IsStepOf turns wanted m) n [] (place, s) (All-nil (IsStepOf turns wanted m)))
  added_spread m place n old new s (inr e) = subst (IsSpread turns wanted m old) (sym e.0) (spread_none m old)

  added_has_point : (n : Node) (old new : List Node) → IsAdded old n new → Contains (points_of new) (point_of n)
  added_has_point n old new (inl e) =
      subst (λ ns. Contains (points_of ns) (point_of n)) (sym e)
      (subst (λ ps. Contains ps (point_of n)) (sym (map-append point_of old (n ∷ [])))
      (Contains-push (points_of old) (point_of n)))
  added_has_point n old new (inr e) = subst (λ ns. Contains (points_of ns) (point_of n)) (sym e.0) e.1

  pub added_has : (m : Node) (place : ℕ) (n : Node) (old new : List Node)
      → IsStepAt turns wanted m place n
      → IsAdded old n new
      → HasStep turns wanted m new place
  added_has m place n old new s a q makes are =
      subst (Contains (points_of new))
      (makes_once (layout_of m.state.layout) turns (point_of m) place (point_of n) q s.makes makes)
      (added_has_point n old new a)

  -- the nodes one step further, of one node more
  pub next_more : (m : Node) (before old new : List Node)
      → AreNext turns wanted before old
      → IsSpread turns wanted m old new
      → ((place : ℕ) → HasStep turns wanted m new place)
      → AreNext turns wanted (before ++ m ∷ []) new
  next_more m before old new a s has = record {
    sound =
        subst (All (Comes (before ++ m ∷ []))) (sym s.1)
        (All-append (Comes (before ++ m ∷ [])) old s.0
        (All-weaker (Comes before) (Comes (before ++ m ∷ [])) still old a.sound)
        (All-weaker (IsStepOf turns wanted m) (Comes (before ++ m ∷ [])) here s.0 s.2));
    complete =
        All-append (Goes new) before (m ∷ [])
        (All-weaker (Goes old) (Goes new) (λ k h place. has_stays k m old new place s (h place)) before a.complete)
        (All-cons (Goes new) m [] has (All-nil (Goes new)));
  }
    where
      Comes : List Node → Node → Type 0
      Comes from n = (k : Node) × Contains from k × IsStepOf turns wanted k n

      Goes : List Node → Node → Type 0
      Goes to k = (place : ℕ) → HasStep turns wanted k to place

      still : (n : Node) → Comes before n → Comes (before ++ m ∷ []) n
      still n h = (h.0, Contains-append_left before (m ∷ []) h.0 h.1, h.2)

      here : (n : Node) → IsStepOf turns wanted m n → Comes (before ++ m ∷ []) n
      here n h = (m, Contains-push before m, h)

  module _ (l : Layout) (s : Reference) where
    -- a reached node is ready for a step
    pub reached_ready : (count : ℕ) (n : Node)
        → All (λ t. t.cpu < l.config.cpus) turns
        → length wanted ≡ length turns
        → IsReached turns wanted l s count n
        → IsReady turns wanted n
    reached_ready count n cpus each r = record {
      count = leads_length l turns n.order.items (first_point s turns) (point_of n) r.leads ∙ none_length turns;
      wanted_count = each;
      cpus = subst (λ (k : Layout). All (λ (t : Turn). t.cpu < k.config.cpus) turns) (sym r.layout) cpus;
      are_wanted = r.are_wanted;
    }

    pub layer_ready : (count : ℕ) (ns : List Node)
        → All (λ t. t.cpu < l.config.cpus) turns
        → length wanted ≡ length turns
        → IsLayer turns wanted l s count ns
        → All (IsReady turns wanted) ns
    layer_ready count ns cpus each h =
        All-weaker (IsReached turns wanted l s count) (IsReady turns wanted)
        (λ n r. reached_ready count n cpus each r) ns h.sound

    -- reached nodes are of one layout
    pub layer_layouts : (count : ℕ) (ns : List Node) → IsLayer turns wanted l s count ns → HaveOneLayout ns
    layer_layouts count ns h m n there here =
        let was = All-contains (IsReached turns wanted l s count) ns m h.sound there in
        let is = All-contains (IsReached turns wanted l s count) ns n h.sound here in
        was.layout ∙ sym is.layout

    -- the first layer
    pub layer_first : (n : Node)
        → layout_of n.state.layout ≡ l
        → ghost_state n.state ≡ s
        → n.told.items ≡ no_replies_yet turns
        → n.order.items ≡ []
        → IsLayer turns wanted l s 0 (n ∷ [])
    layer_first n layout state told order = record {
      sound = All-cons (IsReached turns wanted l s 0) n [] reached (All-nil (IsReached turns wanted l s 0));
      complete = λ os p e h are. (0, omega arith, sym (none os p e h ∙ sym point));
    }
      where
        point : point_of n ≡ first_point s turns
        point = cc

        reached : IsReached turns wanted l s 0 n
        reached = record {
          layout = layout;
          count_is = ap length order;
          leads = subst (λ os. Leads l turns (first_point s turns) os (point_of n)) (sym order) point;
          are_wanted = subst (AreWanted wanted) (sym told) (none_wanted wanted turns);
        }

        none : (os : List ℕ) (p : Point)
            → length os ≡ 0
            → Leads l turns (first_point s turns) os p
            → p ≡ first_point s turns
        none [] p e h = h
        none (x ∷ os) p e h = absurd (omega arith)

    -- a step further than a reached node
    pub reached_next : (count : ℕ) (ns : List Node)
        → All (IsReached turns wanted l s count) ns
        → (n : Node)
        → (m : Node) × Contains ns m × IsStepOf turns wanted m n
        → IsReached turns wanted l s (count + 1) n
    reached_next count ns sound n g =
        let m = g.0 in
        let step = g.2.1 in
        let was : IsReached turns wanted l s count m = All-contains (IsReached turns wanted l s count) ns m sound g.1 in
        let makes : Makes l turns (point_of m) g.2.0 (point_of n) =
        subst (λ (k : Layout). Makes k turns (point_of m) g.2.0 (point_of n)) was.layout step.makes in
        record {
          layout = step.layout ∙ was.layout;
          count_is = ap length step.order ∙ length-append m.order.items (g.2.0 ∷ []) ∙ ap (λ c. c + 1) was.count_is;
          leads =
              subst (λ os. Leads l turns (first_point s turns) os (point_of n)) (sym step.order)
              (leads_more l turns m.order.items (first_point s turns) (point_of m) g.2.0
              (point_of n) was.leads makes);
          are_wanted = step.are_wanted;
        }

    -- one step further
    pub layer_next : (count : ℕ) (ns new : List Node)
        → IsLayer turns wanted l s count ns
        → AreNext turns wanted ns new
        → IsLayer turns wanted l s (count + 1) new
    layer_next count ns new h a = record {
      sound = All-weaker _ (IsReached turns wanted l s (count + 1)) (reached_next count ns h.sound) new a.sound;
      complete =
          λ os p e leads are. comes os p are (leads_last l turns count os (first_point s turns) p (omega arith) leads);
    }
      where
        comes : (os : List ℕ) (p : Point)
            → AreWanted wanted p.told
            → IsLast l turns count (first_point s turns) os p
            → Contains (points_of new) p
        comes os p are last =
            let there =
            from_map point_of ns last.between
            (h.complete last.front last.between last.count last.leads
            (makes_wanted l turns wanted last.between last.place p last.makes are)) in
            let m = there.0 in
            let was : IsReached turns wanted l s count m =
            All-contains (IsReached turns wanted l s count) ns m h.sound there.1 in
            let makes : Makes l turns (point_of m) last.place p =
            subst (λ (x : Point). Makes l turns x last.place p) (sym there.2) last.makes in
            let goes : (place : ℕ) → HasStep turns wanted m new place =
            All-contains (λ k. (place : ℕ) → HasStep turns wanted k new place) ns m a.complete there.1 in
            goes last.place p
            (subst (λ (k : Layout). Makes k turns (point_of m) last.place p) (sym was.layout) makes) are
