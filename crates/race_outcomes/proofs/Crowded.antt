-- Why a layer isn't told.
use Rattle.std.proofs.Common.{◌≡◌, ◌≢◌, ℕ, ◌+◌, ◌<◌, sym, subst, ◌∙◌, arith, List, [], ◌∷◌, ◌++◌, length, take, drop}
use Rattle.std.specs.Prelude.{All, AllPairs, Contains, Option, Vec}
use Rattle.std.specs.Global.{Global}
use Rattle.std.proofs.lemmas.List.{length-map, length_push, get_or-map, take-append-drop}
use Rattle.std.proofs.lemmas.List.Elements.{All-append, All-contains, All-cons, All-map, All-nil, All-weaker, Contains-append_left, Contains-push}
use Rattle.page_state.specs.Layouts.{Layout}
use Rattle.page_state.specs.LayoutView.{layout_of}
use Rattle.reference_model.specs.model.State.{Reference}
use Rattle.race_outcomes.specs.declared.finding.OutcomesFault.{OutcomesFault}
use Rattle.race_outcomes.specs.declared.finding.OutcomesFault.TheVariants.{TooMany, Generation, NoMemory}
use Rattle.race_outcomes.specs.declared.node.Node.{Node}
use Rattle.race_outcomes.specs.declared.node.Turn.{Turn}
use Rattle.race_outcomes.specs.Layers.{AreApart, AreNext, IsAddFault, IsLayer, IsLayerFault, IsPlaceFault, IsReached, IsSpread, IsSpreadFault, IsStepAt, IsStepOf, point_of, points_of}
use Rattle.race_outcomes.specs.Orders.{AreWanted, IsOutcomesFault, Leads, Point, first_point}
use Rattle.race_outcomes.proofs.Indexed.{apart_more}
use Rattle.race_outcomes.proofs.Layers.{reached_next, spread_more, spread_none}

-- a front of a list is of it
pub within_all : (ns : List Node) (i : ℕ) (n : Node) → Contains (take i ns) n → Contains ns n
within_all ns i n h =
    subst (λ (xs : List Node). Contains xs n) (take-append-drop i ns) (Contains-append_left (take i ns) (drop i ns) n h)

module _ (turns : List Turn) (wanted : List (Option (Vec ℕ Global))) (limit : ℕ) where
  -- where a step isn't made from one node
  pub place_fault : (m : Node) (place : ℕ) (old : List Node) (f : OutcomesFault)
      → IsPlaceFault turns m place f
      → IsSpreadFault turns wanted limit m old f
  place_fault m place old (TooMany made) h = absurd h
  place_fault m place old Generation h = (place, h)
  place_fault m place old NoMemory h = tt

  -- where the node that it leads to isn't added
  pub add_fault : (m : Node) (place : ℕ) (next : Node) (old : List Node) (f : OutcomesFault)
      → IsStepAt turns wanted m place next
      → AllPairs AreApart old
      → IsAddFault limit old next f
      → IsSpreadFault turns wanted limit m old f
  add_fault m place next old (TooMany made) s apart h =
      record {
        new = old;
        spread = spread_none turns wanted m old;
        apart = apart;
        next = next;
        step = (place, s);
        over = h;
      }
  add_fault m place next old Generation s apart h = absurd h
  add_fault m place next old NoMemory s apart h = tt

  -- after some that were
  pub spread_fault : (m : Node) (a b : List Node) (f : OutcomesFault)
      → IsSpread turns wanted m a b
      → IsSpreadFault turns wanted limit m b f
      → IsSpreadFault turns wanted limit m a f
  spread_fault m a b (TooMany made) s h =
      record {
        new = h.new;
        spread = spread_more turns wanted m a b h.new s h.spread;
        apart = h.apart;
        next = h.next;
        step = h.step;
        over = h.over;
      }
  spread_fault m a b Generation s h = h
  spread_fault m a b NoMemory s h = tt

  -- and after those of other nodes
  pub layer_fault : (ns before : List Node) (m : Node) (old : List Node) (f : OutcomesFault)
      → ((k : Node) → Contains before k → Contains ns k)
      → Contains ns m
      → AreNext turns wanted before old
      → IsSpreadFault turns wanted limit m old f
      → IsLayerFault turns wanted limit ns f
  layer_fault ns before m old (TooMany made) some there a h =
      let over = h.over in
      let new = h.new ++ h.next ∷ [] in
      let count = length_push h.new h.next in
      let full = over.full in
      record {
        new = new;
        more = omega (arith, count, full);
        apart = apart_more h.new h.next h.apart over.apart;
        steps =
            All-append Comes h.new (h.next ∷ [])
            (subst (All Comes) (sym h.spread.1)
            (All-append Comes old h.spread.0
            (All-weaker Before Comes (λ n g. (g.0, some g.0 g.1, g.2)) old a.sound)
            (All-weaker (IsStepOf turns wanted m) Comes (λ n g. (m, there, g)) h.spread.0 h.spread.2)))
            (All-cons Comes h.next [] (m, there, h.step) (All-nil Comes));
        last = h.next;
        there = Contains-push h.new h.next;
        made_is = over.made_is;
      }
    where
      Comes : Node → Type 0
      Comes n = (k : Node) × Contains ns k × IsStepOf turns wanted k n

      Before : Node → Type 0
      Before n = (k : Node) × Contains before k × IsStepOf turns wanted k n
  layer_fault ns before m old Generation some there a h = (m, h.0, there, h.1)
  layer_fault ns before m old NoMemory some there a h = tt

  module _ (l : Layout) (s : Reference) where
    points_apart : (ns : List Node)
        → All (λ n. layout_of n.state.layout ≡ l) ns
        → AllPairs AreApart ns
        → AllPairs (λ (p q : Point). p ≢ q) (points_of ns)
    points_apart [] are h i j d lt within same = absurd (omega arith)
    points_apart (x ∷ xs) are h i j d lt within same =
        let ns = x ∷ xs in
        let count : length (points_of ns) ≡ length ns = length-map ns point_of in
        let lower : i < length ns = omega (arith, count, lt, within) in
        let upper : j < length ns = omega (arith, count, within) in
        let first = get_or-map point_of ns i x d lower in
        let second = get_or-map point_of ns j x d upper in
        h i j x lt upper (are i x lower ∙ sym (are j x upper)) (sym first ∙ same ∙ second)

    -- so orders of one step more lead to more points than may be
    pub outcomes_fault : (count : ℕ) (ns : List Node) (f : OutcomesFault)
        → IsLayer turns wanted l s count ns
        → IsLayerFault turns wanted limit ns f
        → IsOutcomesFault l s turns wanted limit f
    outcomes_fault count ns (TooMany made) h o =
        let reached : All (IsReached turns wanted l s (count + 1)) o.new =
        All-weaker _ (IsReached turns wanted l s (count + 1))
        (reached_next turns wanted l s count ns h.sound) o.new o.steps in
        let last : IsReached turns wanted l s (count + 1) o.last =
        All-contains (IsReached turns wanted l s (count + 1)) o.new o.last reached o.there in
        let made_is : count + 1 ≡ made = sym last.count_is ∙ sym o.made_is in
        record {
          points = points_of o.new;
          more = let k = length-map o.new point_of in let more = o.more in omega (arith, k, more);
          apart =
              points_apart o.new
              (All-weaker (IsReached turns wanted l s (count + 1)) (λ n. layout_of n.state.layout ≡ l)
              (λ n r. r.layout) o.new reached) o.apart;
          reached =
              All-map (Goes made) point_of o.new
              (All-weaker (IsReached turns wanted l s (count + 1)) (λ n. Goes made (point_of n))
              (λ n r. (n.order.items, r.count_is ∙ made_is, r.leads, r.are_wanted)) o.new reached);
        }
      where
        Goes : ℕ → Point → Type 0
        Goes made p =
            (order : List ℕ)
            × (length order ≡ made)
            × Leads l turns (first_point s turns) order p
            × AreWanted wanted p.told
    outcomes_fault count ns Generation h o =
        let r = All-contains (IsReached turns wanted l s count) ns o.0 h.sound o.2 in
        record {
          order = o.0.order.items;
          point = point_of o.0;
          leads = r.leads;
          place = o.1;
          turn = o.3.0;
          next = o.3.1;
          last = o.3.2;
        }
    outcomes_fault count ns NoMemory h o = tt
