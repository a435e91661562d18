-- A walk along a chain, and the chains after a push, an unlinking and a cut.
use Rattle.std.proofs.Common.{◌≡◌, ℕ, ◌+◌, ◌<◌, ◌≤◌, ◌≢◌, Bool, true, false, ◌&&◌, eqb, List, [], ◌∷◌, ◌++◌, length, get_or, take, set, refl, sym, ap, ◌∙◌, inl, inr, arith, add-one, length-take-le, get_or-set_same, get_or-set_other}
use Rattle.std.proofs.lemmas.List.{get_or_append_left, get_or-take, get_or_push, length_push}
use Rattle.std.proofs.lemmas.Bool.{cases_lt, cases_eq}
use Rattle.std.proofs.lemmas.List.{get_or-map}
use Rattle.node_pool.specs.declared.region.Node.{Node}
use Rattle.node_pool.specs.declared.chains.Linked.{Linked}
use Rattle.node_pool.specs.Region.{newest, chain_of, no_node}
use Rattle.node_pool.specs.Chains.{HeadsBelow, LinksRight, nodes_of, links_of}
use Rattle.node_pool.proofs.Newest.{newest_le, newest_skips, newest_again, newest-append, newest-take, newest_same, newest_other}

unfoldable pub no_link : Linked
no_link = record { node = no_node; older = 0 }

-- a node that was read with its link
pub node_read : (ls : List Linked) (i : ℕ) (l : Linked) → i < length ls → l ≡ get_or ls i no_link → l.node ≡ get_or (nodes_of ls) i no_node
node_read ls i l below is = ap (λ (x : Linked). x.node) is ∙ sym (get_or-map (λ (x : Linked). x.node) ls i no_link no_node below)

pub link_read : (ls : List Linked) (i : ℕ) (l : Linked) → i < length ls → l ≡ get_or ls i no_link → l.older ≡ get_or (links_of ls) i 0
link_read ls i l below is = ap (λ (x : Linked). x.older) is ∙ sym (get_or-map (λ (x : Linked). x.older) ls i no_link 0 below)

-- a walk has passed the nodes from `after` on, and none is the one that is sought
pub record Walked (mask : ℕ) (nodes : List Node) (node : Node) (after : ℕ) : Type 0 where
  pub within : after ≤ length nodes
  pub on_chain : newest mask nodes (chain_of mask node) after ≡ after
  pub passed : (k : ℕ) → after ≤ k → k < length nodes → get_or nodes k no_node ≢ node

pub walk_starts : (mask : ℕ) (nodes : List Node) (node : Node) → Walked mask nodes node (newest mask nodes (chain_of mask node) (length nodes))
walk_starts mask nodes node = record {
  within = newest_le mask nodes (chain_of mask node) (length nodes);
  on_chain = newest_again mask nodes (chain_of mask node) (length nodes);
  passed = λ k from below same. newest_skips mask nodes (chain_of mask node) (length nodes) k from below (ap (chain_of mask) same);
}

-- the chain of the node before `after` is the one that is walked
pub walk_on_chain : (mask : ℕ) (nodes : List Node) (node : Node) (at : ℕ) → Walked mask nodes node (at + 1) → chain_of mask (get_or nodes at no_node) ≡ chain_of mask node
walk_on_chain mask nodes node at w = Rattle.node_pool.proofs.Newest.newest_hits mask nodes (chain_of mask node) (at + 1) at (w.on_chain ∙ add-one at)

pub walk_goes_on : (mask : ℕ) (nodes : List Node) (node : Node) (at : ℕ) → Walked mask nodes node (at + 1) → get_or nodes at no_node ≢ node → Walked mask nodes node (newest mask nodes (chain_of mask (get_or nodes at no_node)) at)
walk_goes_on mask nodes node at w other = rw (walk_on_chain mask nodes node at w) (record {
  within = omega (arith, newest_le mask nodes (chain_of mask node) at, w.within);
  on_chain = newest_again mask nodes (chain_of mask node) at;
  passed = λ k from below same. elim (cases_lt k at) [
    | inl low ↦ newest_skips mask nodes (chain_of mask node) at k from low (ap (chain_of mask) same)
    | inr high ↦ elim (cases_eq k at) [
      | inl here ↦ other (rw (← here) same)
      | inr above ↦ w.passed k (omega arith) below same
    ]
  ];
})

-- one node more
pub heads_push : (mask : ℕ) (nodes : List Node) (heads : List ℕ) (node : Node) → HeadsBelow mask nodes heads (length nodes) → length heads ≡ mask + 1 → chain_of mask node ≤ mask → HeadsBelow mask (nodes ++ node ∷ []) (set heads (chain_of mask node) (length nodes + 1)) (length (nodes ++ node ∷ []))
heads_push mask nodes heads node before len within b here = rw length_push (
    let pushed : get_or (nodes ++ node ∷ []) (length nodes) no_node ≡ node = get_or_push nodes node no_node (length nodes) refl in
    elim (cases_eq b (chain_of mask node)) [
      | inl same ↦ rw same (get_or-set_same heads (chain_of mask node) (length nodes + 1) 0 (omega arith) ∙ sym (newest_same mask (nodes ++ node ∷ []) (chain_of mask node) (length nodes) (ap (chain_of mask) pushed)))
      | inr other ↦ get_or-set_other heads (chain_of mask node) b (length nodes + 1) 0 other ∙ before b here
          ∙ sym (newest_other mask (nodes ++ node ∷ []) b (length nodes) (λ e. other (sym e ∙ ap (chain_of mask) pushed)) ∙ newest-append mask nodes (node ∷ []) b (length nodes) (omega arith))
    ])

pub links_push : (mask : ℕ) (nodes : List Node) (older : List ℕ) (node : Node) (link : ℕ) → LinksRight mask nodes older → length older ≡ length nodes → link ≡ newest mask nodes (chain_of mask node) (length nodes) → LinksRight mask (nodes ++ node ∷ []) (older ++ link ∷ [])
links_push mask nodes older node link before len is i within = elim (cases_lt i (length nodes)) [
  | inl low ↦ get_or_append_left older (link ∷ []) 0 i (omega arith) ∙ before i low
      ∙ sym (newest-append mask nodes (node ∷ []) (chain_of mask (get_or (nodes ++ node ∷ []) i no_node)) i (omega arith) ∙ ap (λ x. newest mask nodes (chain_of mask x) i) (get_or_append_left nodes (node ∷ []) no_node i low))
  | inr high ↦
      let at : i ≡ length nodes = omega (arith, length_push nodes node) in
      rw at (get_or_push older link 0 (length nodes) len ∙ is
      ∙ sym (newest-append mask nodes (node ∷ []) (chain_of mask (get_or (nodes ++ node ∷ []) (length nodes) no_node)) (length nodes) (omega arith) ∙ ap (λ x. newest mask nodes (chain_of mask x) (length nodes)) (get_or_push nodes node no_node (length nodes) refl)))
]

-- one node less
pub heads_unlink : (mask : ℕ) (nodes : List Node) (heads : List ℕ) (n link : ℕ) → HeadsBelow mask nodes heads (n + 1) → length heads ≡ mask + 1 → chain_of mask (get_or nodes n no_node) ≤ mask → link ≡ newest mask nodes (chain_of mask (get_or nodes n no_node)) n → HeadsBelow mask nodes (set heads (chain_of mask (get_or nodes n no_node)) link) n
heads_unlink mask nodes heads n link before len within is b here = elim (cases_eq b (chain_of mask (get_or nodes n no_node))) [
  | inl same ↦ rw same (get_or-set_same heads (chain_of mask (get_or nodes n no_node)) link 0 (omega arith) ∙ is)
  | inr other ↦ get_or-set_other heads (chain_of mask (get_or nodes n no_node)) b link 0 other ∙ before b here ∙ newest_other mask nodes b n (λ e. other (sym e))
]

pub heads_cut : (mask : ℕ) (nodes : List Node) (heads : List ℕ) (n : ℕ) → HeadsBelow mask nodes heads n → n ≤ length nodes → HeadsBelow mask (take n nodes) heads (length (take n nodes))
heads_cut mask nodes heads n before within b here = rw (length-take-le n nodes within) (before b here ∙ sym (newest-take mask nodes n b n (omega arith)))

pub links_cut : (mask : ℕ) (nodes : List Node) (older : List ℕ) (n : ℕ) → LinksRight mask nodes older → n ≤ length nodes → LinksRight mask (take n nodes) (take n older)
links_cut mask nodes older n before within i here =
    let low : i < n = omega (arith, length-take-le n nodes within) in
    get_or-take n older i 0 low ∙ before i (omega arith)
    ∙ sym (newest-take mask nodes n (chain_of mask (get_or (take n nodes) i no_node)) i (omega arith) ∙ ap (λ x. newest mask nodes (chain_of mask x) i) (get_or-take n nodes i no_node low))

-- a comparison that says no
pub differs : (m n : Node) (b : Bool) → b ≡ (eqb m.var n.var && (eqb m.lo n.lo && eqb m.hi n.hi)) → b ≡ false → m ≢ n
differs m n b e f same = grind (arith, Rattle.std.proofs.lemmas.Grind.common_steps)

-- a comparison that says yes
pub is_same : (m n : Node) (b : Bool) → b ≡ (eqb m.var n.var && (eqb m.lo n.lo && eqb m.hi n.hi)) → b ≡ true → m ≡ n
is_same m n b e t = grind (arith, Rattle.std.proofs.lemmas.Grind.common_steps)

-- one node more on its chain, in a list that holds it already
pub heads_link : (mask : ℕ) (nodes : List Node) (heads : List ℕ) (n : ℕ) → HeadsBelow mask nodes heads n → length heads ≡ mask + 1 → chain_of mask (get_or nodes n no_node) ≤ mask → HeadsBelow mask nodes (set heads (chain_of mask (get_or nodes n no_node)) (n + 1)) (n + 1)
heads_link mask nodes heads n before len within b here = elim (cases_eq b (chain_of mask (get_or nodes n no_node))) [
  | inl same ↦ rw same (get_or-set_same heads (chain_of mask (get_or nodes n no_node)) (n + 1) 0 (omega arith) ∙ sym (newest_same mask nodes (chain_of mask (get_or nodes n no_node)) n refl))
  | inr other ↦ get_or-set_other heads (chain_of mask (get_or nodes n no_node)) b (n + 1) 0 other ∙ before b here ∙ sym (newest_other mask nodes b n (λ e. other (sym e)))
]
