-- States at hand, and the steps that were made from them.
use Rattle.std.proofs.Common.{◌≡◌, ℕ, ◌<◌, sym, ap, subst, ◌∙◌, List, [], ◌∷◌, ◌++◌, length, get_or, set}
use Rattle.std.specs.Prelude.{All, AllPairs, Contains, Some, Vec, map, slice_get}
use Rattle.std.specs.Global.{Global}
use Rattle.std.proofs.lemmas.List.Elements.{All-get_or, All-push, All-set}
use Rattle.std.proofs.lemmas.Option.{get_or_from_slice_get, same_Some, slice_get-get_or}
use Rattle.page_state.specs.Layouts.{Layout}
use Rattle.page_state.specs.LayoutView.{layout_of}
use Rattle.call_table.specs.declared.reply.Reply.{Reply}
use Rattle.reference_model.specs.model.State.{Reference}
use Rattle.ghost_spec.specs.declared.lists.GhostLists.{GhostLists}
use Rattle.ghost_spec.specs.States.{ghost_state}
use Rattle.race_outcomes.specs.declared.finding.OutcomesFault.{OutcomesFault}
use Rattle.race_outcomes.specs.declared.finding.OutcomesFault.TheVariants.{TooMany, Generation, NoMemory}
use Rattle.race_outcomes.specs.declared.kept.Known.{Known}
use Rattle.race_outcomes.specs.declared.kept.Made.{Made}
use Rattle.race_outcomes.specs.declared.kept.States.{States}
use Rattle.race_outcomes.specs.declared.layer.Layer.{Layer}
use Rattle.race_outcomes.specs.declared.node.Node.{Node}
use Rattle.race_outcomes.specs.declared.node.Turn.{Turn}
use Rattle.race_outcomes.specs.Kept.{AreKnown, AreOfLayout, IsAtHand, IsKnown, IsMadeFrom, IsTurnFault, LeadsTo}
use Rattle.race_outcomes.specs.Layers.{AreApart, HaveOneLayout, HavePlaces, IsIndexed, IsPlaceFault, places_in}
use Rattle.race_outcomes.specs.Orders.{IsLastGeneration, IsNext, model_reply}

-- a step that was made leads where the step at its place does
pub made_again : (l : Layout) (s : Reference) (turns : List Turn) (ms : List Made) (i : ℕ) (d : Made) (place : ℕ)
    (turn : Turn)
    → i < length ms
    → All (IsMadeFrom l s turns) ms
    → ((m : Made) → slice_get ms i ≡ Some m → m.place ≡ place)
    → slice_get turns place ≡ Some turn
    → LeadsTo l s turn (get_or ms i d).reply (get_or ms i d).state
made_again l s turns ms i d place turn less made at e =
    let m = get_or ms i d in
    let is = at m (slice_get-get_or ms i d less) in
    All-get_or (IsMadeFrom l s turns) ms i d less made turn (ap (slice_get turns) is ∙ e)

-- where a step leads, by the state that is shared
pub leads_shared : (k g after to : GhostLists) (turn : Turn) (reply : Reply)
    → g ≡ k
    → ◌≡◌ {A = Reply × Reference} (reply, ghost_state after) (model_reply (layout_of g.layout) (ghost_state g) turn)
    → layout_of after.layout ≡ layout_of g.layout
    → ghost_state to ≡ ghost_state after
    → layout_of to.layout ≡ layout_of after.layout
    → LeadsTo (layout_of k.layout) (ghost_state k) turn reply to
leads_shared k g after to turn reply same told layout state shared =
    subst (λ (x : GhostLists). LeadsTo (layout_of x.layout) (ghost_state x) turn reply to) same (record {
      told = ap (λ (s : Reference). pair reply s) state ∙ told;
      layout = shared ∙ layout;
    })
  where
    pair : Reply → Reference → Reply × Reference
    pair r s = (r, s)

-- a step more that was made
pub known_made : (l : Layout) (turns : List Turn) (k new : Known) (turn : Turn) (m : Made) (place : ℕ) (reply : Reply)
    (to : GhostLists)
    → IsKnown l turns k
    → slice_get turns place ≡ Some turn
    → LeadsTo l (ghost_state k.state) turn reply to
    → m.place ≡ place
    → m.reply ≡ reply
    → m.state ≡ to
    → new.state ≡ k.state
    → new.made.items ≡ k.made.items ++ m ∷ []
    → IsKnown l turns new
known_made l turns k new turn m place reply to h at leads is replies states same more = record {
  layout = ap (λ (g : GhostLists). layout_of g.layout) same ∙ h.layout;
  made = subst (λ (g : GhostLists). All (IsMadeFrom l (ghost_state g) turns) new.made.items) (sym same)
      (subst (All (IsMadeFrom l (ghost_state k.state) turns)) (sym more)
      (All-push (IsMadeFrom l (ghost_state k.state) turns) k.made.items m h.made one));
}
  where
    leads_it : LeadsTo l (ghost_state k.state) turn m.reply m.state
    leads_it =
        subst (λ (r : Reply). LeadsTo l (ghost_state k.state) turn r m.state) (sym replies)
        (subst (λ (g : GhostLists). LeadsTo l (ghost_state k.state) turn reply g) (sym states) leads)

    one : IsMadeFrom l (ghost_state k.state) turns m
    one u e =
        subst (λ (t : Turn). LeadsTo l (ghost_state k.state) t m.reply m.state)
        (same_Some turn u (sym at ∙ ap (slice_get turns) (sym is) ∙ e)) leads_it

-- known ones, of which one has more steps
pub known_again : (g : GhostLists) (turns : List Turn) (ks : List Known) (i : ℕ) (new : Known) (a : States)
    → All (IsKnown (layout_of g.layout) turns) ks
    → IsAtHand g turns new a
    → AreKnown (layout_of g.layout) turns (set ks i new) a
known_again g turns ks i new a known h =
    record { known = All-set (IsKnown (layout_of g.layout) turns) ks i new h.known known; layouts = h.layouts }

module _ (g : GhostLists) (turns : List Turn) (k : Known) (a : States) (h : IsAtHand g turns k a) where
  -- where a step of the known state leads, it leads from the state
  pub leads_from : (turn : Turn) (reply : Reply) (to : GhostLists)
      → LeadsTo (layout_of k.state.layout) (ghost_state k.state) turn reply to
      → LeadsTo (layout_of g.layout) (ghost_state g) turn reply to
  leads_from turn reply to e =
      subst (λ (s : Reference). LeadsTo (layout_of g.layout) s turn reply to) h.same
      (subst (λ (l : Layout). LeadsTo l (ghost_state k.state) turn reply to) h.known.layout e)

  pub leads_moved : (turn : Turn) (reply : Reply) (to next : GhostLists)
      → next ≡ to
      → LeadsTo (layout_of k.state.layout) (ghost_state k.state) turn reply to
      → LeadsTo (layout_of g.layout) (ghost_state g) turn reply next
  leads_moved turn reply to next same e =
      subst (λ (x : GhostLists). LeadsTo (layout_of g.layout) (ghost_state g) turn reply x) (sym same)
      (leads_from turn reply to e)

  -- and it is at hand afterwards
  pub hand_after : (new : Known) (b : States)
      → new.state ≡ k.state
      → IsKnown (layout_of k.state.layout) turns new
      → AreOfLayout (layout_of k.state.layout) b.states.items
      → IsAtHand g turns new b
  hand_after new b state known layouts = record {
    same = ap ghost_state state ∙ h.same;
    known = subst (λ (l : Layout). IsKnown l turns new) h.known.layout known;
    layouts = subst (λ (l : Layout). AreOfLayout l b.states.items) h.known.layout layouts;
  }

-- why a step isn't made from a node at whose state it is at hand
pub hand_fault : (turns : List Turn) (n : Node) (place : ℕ) (d : Turn) (k : Known) (a : States) (f : OutcomesFault)
    → IsAtHand n.state turns k a
    → (turn : Turn) × IsNext turns n.told.items place turn
    → IsTurnFault (ghost_state k.state) (get_or turns place d) f
    → IsPlaceFault turns n place f
hand_fault turns n place d k a (TooMany made) h next e = e
hand_fault turns n place d k a Generation h next e =
    let turn = next.0 in (
      turn,
      next.1,
      subst (λ (s : Reference). IsLastGeneration s turn) h.same
          (subst (λ (t : Turn). IsLastGeneration (ghost_state k.state) t)
          (get_or_from_slice_get turns place turn d next.1.at) e),
    )
hand_fault turns n place d k a NoMemory h next e = tt

-- a state among known ones is at hand
pub hand_at : (g : GhostLists) (turns : List Turn) (ks : List Known) (i : ℕ) (d : Known) (a : States)
    → i < length ks
    → ((k : Known) → slice_get ks i ≡ Some k → ghost_state k.state ≡ ghost_state g)
    → All (IsKnown (layout_of g.layout) turns) ks
    → AreOfLayout (layout_of g.layout) a.states.items
    → IsAtHand g turns (get_or ks i d) a
hand_at g turns ks i d a less same known layouts = record {
  same = same (get_or ks i d) (slice_get-get_or ks i d less);
  known = All-get_or (IsKnown (layout_of g.layout) turns) ks i d less known;
  layouts = layouts;
}

-- known ones of a node's layout are of that of each node
pub known_of_each : (turns : List Turn) (ns : List Node) (m n : Node) (ks : List Known) (a : States)
    → HaveOneLayout ns
    → Contains ns m
    → Contains ns n
    → AreKnown (layout_of m.state.layout) turns ks a
    → AreKnown (layout_of n.state.layout) turns ks a
known_of_each turns ns m n ks a one there here h = subst (λ (l : Layout). AreKnown l turns ks a) (one m n there here) h

-- nodes are indexed, whatever their states
pub indexed_still : (x y : Layer) → y.nodes ≡ x.nodes → y.places ≡ x.places → IsIndexed x → IsIndexed y
indexed_still x y nodes places h = record {
  count = ap (λ (v : Vec (Vec ℕ Global) Global). length v.items) places ∙ h.count;
  apart = subst (λ (v : Vec Node Global). AllPairs AreApart v.items) (sym nodes) h.apart;
  has =
      subst (λ (v : Vec Node Global). HavePlaces v.items (places_in y)) (sym nodes)
      (subst
      (λ (v : Vec (Vec ℕ Global) Global). HavePlaces x.nodes.items
      (map (λ (w : Vec ℕ Global). w.items) v.items))
      (sym places) h.has);
}
