-- Orders with one step more, and where they lead.
use Rattle.std.proofs.Common.{◌≡◌, ℕ, zero, suc, ◌<◌, refl, sym, ap, subst, ◌∙◌, arith, List, [], ◌∷◌, ◌++◌, length, get_or}
use Rattle.std.specs.Prelude.{Option, Some, slice_get, slice_set, Vec}
use Rattle.std.specs.Global.{Global}
use Rattle.std.proofs.lemmas.List.{length-set}
use Rattle.std.proofs.lemmas.Option.{get_or_from_slice_get, same_Some, slice_get_within}
use Rattle.page_state.specs.Layouts.{Layout}
use Rattle.reference_model.specs.model.State.{Reference}
use Rattle.call_table.specs.declared.reply.Reply.{Reply}
use Rattle.race_outcomes.specs.declared.node.Turn.{Turn}
use Rattle.race_outcomes.specs.Orders.{AreWanted, IsNext, IsWanted, Leads, Makes, Point, no_replies_yet, point_after, model_reply}
use Rattle.race_outcomes.proofs.Wanted.{wanted_at, wanted_before}

module _ (l : Layout) (turns : List Turn) where
  -- the model makes a step in one way
  pub makes_once : (p : Point) (place : ℕ) (q r : Point) → Makes l turns p place q → Makes l turns p place r → q ≡ r
  makes_once p place q r a b =
      let same : a.turn ≡ b.turn = same_Some a.turn b.turn (sym a.next.at ∙ b.next.at) in
      a.made ∙ ap (point_after l p place) same ∙ sym b.made

  pub makes_within : (p : Point) (place : ℕ) (q : Point) → Makes l turns p place q → place < length turns
  makes_within p place q m = slice_get_within turns place m.turn m.next.at

  -- and keeps the number of replies
  pub makes_length : (p : Point) (place : ℕ) (q : Point) → Makes l turns p place q → length q.told ≡ length p.told
  makes_length p place q m = ap (λ (x : Point). length x.told) m.made ∙ length-set p.told place _

  pub leads_length : (order : List ℕ) (p q : Point) → Leads l turns p order q → length q.told ≡ length p.told
  leads_length [] p q h = ap (λ (x : Point). length x.told) h
  leads_length (place ∷ more) p q h = leads_length more h.0 q h.2 ∙ makes_length p place h.0 h.1

  -- what is wanted after a step was wanted before it
  pub makes_wanted : (wanted : List (Option (Vec ℕ Global))) (p : Point) (place : ℕ) (q : Point)
      → Makes l turns p place q
      → AreWanted wanted q.told
      → AreWanted wanted p.told
  makes_wanted wanted p place q m h =
      wanted_before wanted p.told place _ m.next.unmade (subst (λ (x : Point). AreWanted wanted x.told) m.made h)

  -- one step more
  pub leads_more : (order : List ℕ) (p q : Point) (place : ℕ) (r : Point)
      → Leads l turns p order q
      → Makes l turns q place r
      → Leads l turns p (order ++ place ∷ []) r
  leads_more [] p q place r h m = (r, subst (λ (x : Point). Makes l turns x place r) h m, refl)
  leads_more (x ∷ more) p q place r h m = (h.0, h.1, leads_more more h.0 q place r h.2 m)

  -- the last step of an order, and those before it
  pub record IsLast (n : ℕ) (p : Point) (order : List ℕ) (r : Point) : Type 0 where
    pub front : List ℕ
    pub place : ℕ
    pub between : Point
    pub count : length front ≡ n
    pub leads : Leads l turns p front between
    pub makes : Makes l turns between place r

  pub leads_last : (n : ℕ) (order : List ℕ) (p r : Point)
      → length order ≡ suc n
      → Leads l turns p order r
      → IsLast n p order r
  leads_last n [] p r e h = absurd (omega arith)
  leads_last zero (x ∷ []) p r e h =
      record {
        front = [];
        place = x;
        between = p;
        count = refl;
        leads = refl;
        makes = subst (λ (y : Point). Makes l turns p x y) (sym h.2) h.1;
      }
  leads_last (suc n) (x ∷ []) p r e h = absurd (omega arith)
  leads_last zero (x ∷ y ∷ more) p r e h = absurd (omega arith)
  leads_last (suc n) (x ∷ y ∷ more) p r e h =
      let rest = leads_last n (y ∷ more) h.0 r (omega arith) h.2 in
      record {
        front = x
            ∷ rest.front;
        place =
            rest.place;
        between =
            rest.between;
        count = ap suc rest.count;
        leads = (h.0, h.1, rest.leads);
        makes = rest.makes;
      }

pub none_length : (turns : List Turn) → length (no_replies_yet turns) ≡ length turns
none_length [] = refl
none_length (t ∷ ts) = ap suc (none_length ts)

-- the step at a place, as code makes it
module _ (l : Layout) (turns : List Turn) (p : Point) (place : ℕ) (d : Turn) (reply : Reply) (after : Reference)
    (told_is : (reply, after) ≡ model_reply l p.state (get_or turns place d)) where
  at_turn : (t : Turn) → slice_get turns place ≡ Some t → (reply, after) ≡ model_reply l p.state t
  at_turn t e =
      subst (λ (x : Turn). (reply, after) ≡ model_reply l p.state x) (get_or_from_slice_get turns place t d e) told_is

  pub step_makes : (told : List (Option Reply))
      → (turn : Turn) × IsNext turns p.told place turn
      → told ≡ slice_set p.told place (Some reply)
      → Makes l turns p place (record { state = after; told = told })
  step_makes told n e =
      let f : (reply, after) ≡ model_reply l p.state n.0 = at_turn n.0 n.1.at in
      record { turn = n.0; next = n.1; made = same told reply after (model_reply l p.state n.0) f e }
    where
      same : (told : List (Option Reply)) (r : Reply) (s : Reference) (f : Reply × Reference)
          → (r, s) ≡ f
          → told ≡ slice_set p.told place (Some r)
          → ◌≡◌ {A = Point} (record { state = s; told = told })
          (record { state = f.1; told = slice_set p.told place (Some f.0) })
      same told r s f e g i =
          record { state = (e i).1; told = (g ∙ ap (λ (x : Reply × Reference). slice_set p.told place (Some x.0)) e) i }

  pub step_wanted : (wanted : List (Option (Vec ℕ Global))) (q : Point) (w : Option (Vec ℕ Global))
      → place < length wanted
      → length wanted ≡ length turns
      → length p.told ≡ length turns
      → Makes l turns p place q
      → AreWanted wanted q.told
      → IsWanted (get_or wanted place w) (Some reply)
  step_wanted wanted q w less count told_count m are =
      let f : (reply, after) ≡ model_reply l p.state m.turn = at_turn m.turn m.next.at in
      let there : AreWanted wanted (slice_set p.told place (Some (model_reply l p.state m.turn).0)) =
      subst (λ (x : Point). AreWanted wanted x.told) m.made are in
      wanted_at wanted p.told place w reply less (omega (arith, count, told_count))
      (subst (λ (x : Reply × Reference). AreWanted wanted (slice_set p.told place (Some x.0))) (sym f) there)
