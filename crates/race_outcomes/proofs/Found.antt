-- The outcomes of nodes at which all steps are made.
use Rattle.std.proofs.Common.{◌≡◌, ◌≢◌, ℕ, zero, suc, ◌+◌, ◌<◌, refl, sym, ap, subst, ◌∙◌, arith, inl, inr, ◌⊎◌, List, [], ◌∷◌, ◌++◌, length, map, get_or, take}
use Rattle.std.specs.Prelude.{All, AllPairs, Contains, IfErr, IsErrAnd, Option, Some, None, Result, Ok, Err, Vec}
use Rattle.std.specs.Global.{Global}
use Rattle.std.proofs.lemmas.List.{map-append, take_more}
use Rattle.std.proofs.lemmas.List.Elements.{All-append, All-contains, All-cons, All-nil, All-weaker, Contains-append_left, Contains-get_or}
use Rattle.std.proofs.lemmas.List.Quantifiers.{all_pairs_push}
use Rattle.std.proofs.lemmas.Option.{slice_get-get_or}
use Rattle.page_state.specs.Layouts.{Layout}
use Rattle.reference_model.specs.model.State.{Reference}
use Rattle.ghost_spec.specs.States.{ghost_state}
use Rattle.call_table.specs.declared.reply.Reply.{Reply}
use Rattle.race_outcomes.specs.declared.finding.Outcome.{Outcome}
use Rattle.race_outcomes.specs.declared.finding.OutcomesFault.{OutcomesFault}
use Rattle.race_outcomes.specs.declared.finding.OutcomesFault.TheVariants.{TooMany, Generation, NoMemory}
use Rattle.race_outcomes.specs.declared.node.Node.{Node}
use Rattle.race_outcomes.specs.declared.node.Turn.{Turn}
use Rattle.race_outcomes.specs.Kept.{IsTurnFault}
use Rattle.race_outcomes.specs.Layers.{AreOutcomes, IsLayer, IsOutcomeAdded, IsReached, IsOutcomeOf, point_of, replies_of}
use Rattle.race_outcomes.specs.Orders.{AllOutcomes, AreWanted, Gives, GivesWanted, IsLastGeneration, IsStepFault, Leads, NoneWanted, Point, first_point, replies_along, model_reply}
use Rattle.race_outcomes.proofs.Counts.{order_count}
use Rattle.race_outcomes.proofs.Members.{from_map, to_map}

-- replies of all steps

pub none_at : (rs : List Reply) (i : ℕ)
    → i < length (map {B = Option Reply} Some rs)
    → get_or (map {B = Option Reply} Some rs) i None ≡ None
    → ⊥
none_at [] i less e = absurd (omega arith)
none_at (r ∷ rs) zero less e = cc
none_at (r ∷ rs) (suc i) less e = none_at rs i (omega arith) e

pub all_same : (a b : List Reply) → map {B = Option Reply} Some a ≡ map Some b → a ≡ b
all_same [] [] e = refl
all_same [] (y ∷ b) e = absurd (cc)
all_same (x ∷ a) [] e = absurd (cc)
all_same (x ∷ a) (y ∷ b) e = let rest = all_same a b (heads e).1 in let first = (heads e).0 in cc
  where
    heads : ◌≡◌ {A = List (Option Reply)} (Some x ∷ map Some a) (Some y ∷ map Some b)
        → (x ≡ y) × (map {B = Option Reply} Some a ≡ map Some b)
    heads e = (cc, cc)

-- outcomes of nodes, of one node more
pub outcomes_more : (m : Node) (before : List Node) (old new : List Outcome)
    → AreOutcomes before old
    → IsOutcomeAdded m old new
    → AreOutcomes (before ++ m ∷ []) new
outcomes_more m before old new h a = by_case a.grows
  where
    Comes : List Node → Outcome → Type 0
    Comes ns o = (n : Node) × Contains ns n × IsOutcomeOf n o

    Goes : List Outcome → Node → Type 0
    Goes os n = (rs : List Reply) → n.told.items ≡ map Some rs → Contains (replies_of os) rs

    still : (o : Outcome) → Comes before o → Comes (before ++ m ∷ []) o
    still o c = (c.0, Contains-append_left before (m ∷ []) c.0 c.1, c.2)

    here : Contains (before ++ m ∷ []) m
    here = last before
      where
        last : (ns : List Node) → Contains (ns ++ m ∷ []) m
        last [] = (0, omega arith, refl)
        last (n ∷ ns) = let rest = last ns in (suc rest.0, (let k = rest.1 in omega arith), rest.2)

    at_end : Goes new m
    at_end = a.has

    by_case : (new ≡ old)
        ⊎ ((o : Outcome) × (new ≡ old ++ o ∷ []) × IsOutcomeOf m o × ¬ Contains (replies_of old) o.replies.items)
        → AreOutcomes (before ++ m ∷ []) new
    by_case (inl e) = record {
      sound =
          subst (All (Comes (before ++ m ∷ []))) (sym e)
          (All-weaker (Comes before) (Comes (before ++ m ∷ [])) still old h.sound);
      complete =
          All-append (Goes new) before (m ∷ []) (subst (λ os. All (Goes os) before) (sym e) h.complete)
          (All-cons (Goes new) m [] at_end (All-nil (Goes new)));
      once = subst (AllPairs (λ (x y : Outcome). x.replies.items ≢ y.replies.items)) (sym e) h.once;
    }
    by_case (inr e) =
        let o = e.0 in
        record {
          sound = subst (All (Comes (before ++ m ∷ []))) (sym e.1)
              (All-append (Comes (before ++ m ∷ [])) old (o ∷ [])
              (All-weaker (Comes before) (Comes (before ++ m ∷ [])) still old h.sound)
              (All-cons (Comes (before ++ m ∷ [])) o [] (m, here, e.2) (All-nil (Comes (before ++ m ∷ [])))));
          complete =
              All-append (Goes new) before (m ∷ []) (All-weaker (Goes old) (Goes new) grown before h.complete)
              (All-cons (Goes new) m [] at_end (All-nil (Goes new)));
          once =
              subst (AllPairs (λ (x y : Outcome). x.replies.items ≢ y.replies.items)) (sym e.1)
              (all_pairs_push (λ (x y : Outcome). x.replies.items ≢ y.replies.items) old o h.once apart);
        }
      where
        grown : (n : Node) → Goes old n → Goes new n
        grown n g rs t =
            subst (λ os. Contains (replies_of os) rs) (sym e.1)
            (subst (λ ls. Contains ls rs) (sym (map-append (λ (x : Outcome). x.replies.items) old (e.0 ∷ [])))
            (Contains-append_left (replies_of old) (replies_of (e.0 ∷ [])) rs (g rs t)))

        apart : (k : ℕ) (d : Outcome) → k < length old → (get_or old k d).replies.items ≢ e.0.replies.items
        apart k d less same =
            e.3
            (subst (Contains (replies_of old)) same
            (to_map (λ (x : Outcome). x.replies.items) old (get_or old k d) (Contains-get_or old k d less)))

module _ (l : Layout) (s : Reference) (turns : List Turn) where
  -- all outcomes, from the last layer
  pub all_outcomes : (wanted : List (Option (Vec ℕ Global))) (ns : List Node) (os : List Outcome)
      → IsLayer turns wanted l s (length turns) ns
      → AreOutcomes ns os
      → AllOutcomes l s turns wanted os
  all_outcomes wanted ns os h a = record {
    sound = All-weaker (λ o. (n : Node) × Contains ns n × IsOutcomeOf n o) _ gives os a.sound;
    complete = λ rs out are.
        let there =
        from_map point_of ns (record { state = out.1.end; told = map Some rs })
        (h.complete out.0 (record { state = out.1.end; told = map Some rs })
        (order_count l turns out.0 (first_point s turns)
        (record { state = out.1.end; told = map Some rs }) rs refl refl out.1.leads) out.1.leads are) in
        All-contains
        (λ n. (rs : List Reply) → n.told.items ≡ map Some rs → Contains (replies_of os) rs) ns there.0 a.complete
        there.1 rs
        (ap (λ (p : Point). p.told) there.2);
    once = a.once;
  }
    where
      gives : (o : Outcome)
          → (n : Node) × Contains ns n × IsOutcomeOf n o
          → Gives l s turns o.order.items o.replies.items × AreWanted wanted (map Some o.replies.items)
      gives o g =
          let n = g.0 in
          let was : IsReached turns wanted l s (length turns) n =
          All-contains (IsReached turns wanted l s (length turns)) ns n h.sound g.1 in
          let along : Leads l turns (first_point s turns) o.order.items (point_of n) =
          subst (λ os. Leads l turns (first_point s turns) os (point_of n)) (sym g.2.order) was.leads in (
            record {
              end = ghost_state n.state;
              leads =
                  subst
                  (λ ts. Leads l turns (first_point s turns) o.order.items
                  (record { state = ghost_state n.state; told = ts })) g.2.told along;
            },
            subst (AreWanted wanted) g.2.told was.are_wanted,
          )

  -- an order that gives wanted replies, from all outcomes
  pub none_gives : (wanted : List (Option (Vec ℕ Global))) (os : List Outcome)
      → AllOutcomes l s turns wanted os
      → os ≡ []
      → NoneWanted l s turns wanted
  none_gives wanted os h e order g =
      let there = h.complete g.0 (order, g.1) g.2 in
      let k : there.0 < length (replies_of os) = there.1 in
      let none : length (replies_of os) ≡ 0 = ap (λ (xs : List Outcome). length (replies_of xs)) e in
      omega arith

  pub one_gives : (wanted : List (Option (Vec ℕ Global))) (os : List Outcome) (o : Outcome) (order : List ℕ)
      → AllOutcomes l s turns wanted os
      → Contains os o
      → order ≡ o.order.items
      → GivesWanted l s turns wanted order
  one_gives wanted os o order h there e =
      let g =
      All-contains
      (λ (x : Outcome). Gives l s turns x.order.items x.replies.items
      × AreWanted wanted (map Some x.replies.items)) os o h.sound there in
      subst (GivesWanted l s turns wanted) (sym e) (o.replies.items, g.0, g.1)

-- steps in order, with one more
pub along_more : (l : Layout) (s : Reference) (turns : List Turn) (t : Turn)
    → replies_along l s (turns ++ t ∷ [])
    ≡ (
      (replies_along l s turns).0 ++ (model_reply l (replies_along l s turns).1 t).0
          ∷ [],
      (model_reply l (replies_along l s turns).1 t).1,
    )
along_more l s [] t = refl
along_more l s (x ∷ more) t =
    let r = model_reply l s x in
    let rest = along_more l r.1 more t in
    ap (λ (p : List Reply × Reference). (r.0 ∷ p.0, p.1)) rest

pub along_next : (l k : Layout) (s now after : Reference) (turns : List Turn) (i : ℕ) (d : Turn)
    (replies more : List Reply) (r : Reply)
    → i < length turns
    → k ≡ l
    → (replies, now) ≡ replies_along l s (take i turns)
    → more ≡ replies ++ r ∷ []
    → (r, after) ≡ model_reply k now (get_or turns i d)
    → (more, after) ≡ replies_along l s (take (i + 1) turns)
along_next l k s now after turns i d replies more r less layout so grows step =
    let t = get_or turns i d in
    let here : (r, after) ≡ model_reply l now t =
    subst (λ (m : Layout). (r, after) ≡ model_reply m now t) layout step in
    let all : replies_along l s (take (i + 1) turns) ≡ replies_along l s (take i turns ++ t ∷ []) =
    ap (replies_along l s) (take_more turns i d less) in
    ends replies now more r after (replies_along l s (take i turns)) t so grows here
    ∙ sym (all ∙ along_more l s (take i turns) t)
  where
    ends : (replies : List Reply) (now : Reference) (more : List Reply) (r : Reply) (after : Reference)
        (a : List Reply × Reference) (t : Turn)
        → (replies, now) ≡ a
        → more ≡ replies ++ r ∷ []
        → (r, after) ≡ model_reply l now t
        → ◌≡◌ {A = List Reply × Reference} (more, after) (a.0 ++ (model_reply l a.1 t).0 ∷ [], (model_reply l a.1 t).1)
    ends replies now more r after a t so grows here =
        subst
        (λ (b : List Reply × Reference). ◌≡◌ {A = List Reply × Reference} (more, after)
        (b.0 ++ (model_reply l b.1 t).0 ∷ [], (model_reply l b.1 t).1)) so
        (subst
        (λ (f : Reply × Reference). ◌≡◌ {A = List Reply × Reference} (more, after) (replies ++ f.0 ∷ [], f.1)) here
        (ap (λ ms. (ms, after)) grows))

-- a fault of a step is one of the steps in order
pub step_fault : (l : Layout) (s now : Reference) (turns : List Turn) (i : ℕ) (d : Turn) (replies : List Reply)
    (f : OutcomesFault)
    → i < length turns
    → (replies, now) ≡ replies_along l s (take i turns)
    → IsTurnFault now (get_or turns i d) f
    → IsStepFault l s turns f
step_fault l s now turns i d replies (TooMany made) less so h = absurd h
step_fault l s now turns i d replies Generation less so h = (
  i,
  get_or turns i d,
  slice_get-get_or turns i d less,
  subst (λ (x : List Reply × Reference). IsLastGeneration x.1 (get_or turns i d)) so h,
)
step_fault l s now turns i d replies NoMemory less so h = tt

-- a fault that is passed on
pub passed : {T E : Type 0} (Q : E → Type 0) (r : Result T E) (f : E) → IsErrAnd r (λ x. x ≡ f) → Q f → IfErr r Q
passed Q (Ok x) f e q = tt
passed Q (Err y) f e q = subst Q (sym e) q
