-- The links of ports by marks, port by port.
use Rattle.std.proofs.Common.{◌≡◌, ℕ, ◌+◌, ◌⊎◌, ◌++◌, ◌∷◌, [], ◌&&◌, Bool, true, false, cond, not, List, length, take, Some, None, ap, subst, sym, refl, ◌∙◌, inl, inr}
use Rattle.std.specs.Prelude.{◌↔◌, filter_map, nat_lt, ◌==◌}
use Rattle.std.proofs.lemmas.Bool.{and_from, and_parts, eq-eqb, false≢true, lt-ltb, ltb-true, ne_eqb, not-true, not_from_false, or_cases, or_left, or_right}
use Rattle.std.proofs.lemmas.Option.{none-some, same_Some}
use Rattle.graphs.proofs.Walks.{walk_over}
use Rattle.graphs.specs.Graphs.{ArcIn, HasArcs}
use Rattle.known_nets.proofs.NetKinds.{plain_is}
use Rattle.phase_ports.specs.declared.port_list.Port.{Port}
use Rattle.port_links.proofs.ArcLaws.{net_chain, part_chain}
use Rattle.port_links.proofs.CoverLaws.{the_item}
use Rattle.port_links.specs.Linked.{AddsLinks, AreLinks, IsLinkTo, IsLinked, IsLinkedInside, IsTarget, is_linked, is_role_linked, link_from, link_of}
use Rattle.port_links.specs.PhaseArcs.{IsPartChain, part_of}
use Rattle.port_links.specs.Reached.{AreReaching}
use Rattle.port_links.specs.declared.links.PortLink.{PortLink}
use Rattle.port_links.specs.declared.links.Target.{Target}
pub use Rattle.vrt_model.proofs.Lists.{pushed}
use Rattle.vrt_model.proofs.Lists.{among_filter_map, filter_map_among, take_one}
use Rattle.vrt_model.proofs.Members.{among_either, among_left, among_right, at_none}
use Rattle.vrt_model.specs.Circuits.{IsFlat}
use Rattle.vrt_model.specs.Comparison.{input_signal, output_signal}
use Rattle.vrt_model.specs.Known.{HasArc, is_plain_at}
use Rattle.vrt_model.specs.Lists.{At, Among, mark_at}
use Rattle.vrt_model.specs.WholeInstances.{CoverArc, IsChain}
use Rattle.vrt_model.specs.declared.circuit.Circuit.{Circuit}
use Rattle.vrt_model.specs.declared.flat_model.FlatModel.{FlatModel}
use Rattle.vrt_model.specs.declared.pairing.PortRole.{PortRole}
use Rattle.vrt_model.specs.declared.pairing.PortRole.TheVariants.{Supply, Clock, Input, Output}
use Rattle.vrt_model.specs.declared.rules.Phase.{Phase}

-- ---- the signals of a model

chain_over : (A B : ℕ → ℕ → Type 0) → ((from to : ℕ) → A from to → B from to) → (n m : ℕ) → IsChain A n m → IsChain B n m
chain_over A B over n m chain = (chain.0, chain.1, over n chain.0 chain.2, walk_over A B over chain.1 chain.0 m chain.3)

pub signal_marks : (model : FlatModel) (covers : List (List ℕ)) (signal : ℕ) (marks : List Bool) → HasArcs (CoverArc model) covers → AreReaching covers signal marks
    → (s : ℕ) → (mark_at marks s ≡ true) ↔ IsChain (CoverArc model) s signal
signal_marks model covers signal marks has reach s = (
  λ e. chain_over (ArcIn covers) (CoverArc model) (λ f t. (has f t).0) s signal ((reach s).0 e),
  λ chain. (reach s).1 (chain_over (CoverArc model) (ArcIn covers) (λ f t. (has f t).1) s signal chain),
)

-- ---- the tests of one port

module _ (c : Circuit) (phase : Phase) (model : FlatModel) (least : List ℕ) (target : Target) (signal : ℕ) (to : Port) (flat : IsFlat c)
    (is : IsTarget c phase model least to.net signal target) (out : output_signal to.role ≡ Some signal) where
  abbrev within : Port → Bool
  within from = nat_lt from.net (length c.nets)

  abbrev net_mark : Port → Bool
  net_mark from = mark_at target.nets.items from.net

  abbrev part_mark : Port → Bool
  part_mark from = mark_at target.nets.items (part_of least from.net)

  inside_means : (from : Port) (role : PortRole) → from.role ≡ role → is_role_linked c least target from to role ≡ true → IsLinkedInside c phase model from to
  inside_means from (Supply value) role e = absurd (false≢true e)
  inside_means from (Clock clock) role e = absurd (false≢true e)
  inside_means from (Input s) role e = elim (or_cases (within from && net_mark from) (mark_at target.signals.items s) e) [
    | inl net ↦
        let both = and_parts (within from) (net_mark from) net in
        (s, signal, inl (ap input_signal role, out, inl ((is.nets.nets from.net (ltb-true from.net (length c.nets) both.0)).0 both.1)))
    | inr mark ↦ (s, signal, inl (ap input_signal role, out, inr ((is.signals s).0 mark)))
  ]
  inside_means from (Output s) role e =
      let both = and_parts (not (from.place == to.place)) (is_plain_at c from.net && part_mark from) e in
      let inner = and_parts (is_plain_at c from.net) (part_mark from) both.1 in (
        s,
        signal,
        inr (
          ap output_signal role,
          out,
          λ same. false≢true (sym (not-true (from.place == to.place) both.0) ∙ eq-eqb from.place to.place same),
          (is.nets.parts from.net (plain_is c from.net inner.0)).0 inner.1,
        ),
      )

  input_test : (from : Port) (s end : ℕ) (role : PortRole) → input_signal role ≡ Some s → end ≡ signal → (IsChain (HasArc c phase) from.net to.net ⊎ IsChain (CoverArc model) s end)
      → is_role_linked c least target from to role ≡ true
  input_test from s end (Supply value) e same chain = absurd (none-some s e)
  input_test from s end (Clock clock) e same chain = absurd (none-some s e)
  input_test from s end (Output other) e same chain = absurd (none-some s e)
  input_test from s end (Input own) e same (inl chain) =
      let marked = net_chain c phase least from.net to.net target.nets.items flat is.nets chain in
      or_left (within from && net_mark from) (mark_at target.signals.items own) (and_from (within from) (net_mark from) (lt-ltb from.net (length c.nets) marked.0) marked.1)
  input_test from s end (Input own) e same (inr chain) =
      let start = same_Some own s e in
      or_right (within from && net_mark from) (mark_at target.signals.items own)
      ((is.signals own).1 (subst (λ (k : ℕ). IsChain (CoverArc model) k signal) (sym start) (subst (λ (k : ℕ). IsChain (CoverArc model) s k) same chain)))

  output_test : (from : Port) (s : ℕ) (role : PortRole) → output_signal role ≡ Some s → (from.place ≡ to.place → ⊥) → IsPartChain c phase from.net to.net → is_role_linked c least target from to role ≡ true
  output_test from s (Supply value) e other chain = absurd (none-some s e)
  output_test from s (Clock clock) e other chain = absurd (none-some s e)
  output_test from s (Input own) e other chain = absurd (none-some s e)
  output_test from s (Output own) e other chain =
      let marked = part_chain c phase least from.net to.net target.nets.items is.nets chain in
      and_from (not (from.place == to.place)) (is_plain_at c from.net && part_mark from) (not_from_false (from.place == to.place) (ne_eqb from.place to.place other))
      (and_from (is_plain_at c from.net) (part_mark from) marked.0 marked.1)

  linked_means : (named : List Bool) (from : Port) → is_linked c least target named from to ≡ true → IsLinked c phase model named from to
  linked_means named from e = elim (or_cases (is_role_linked c least target from to from.role) (mark_at named from.place) e) [
    | inl inside ↦ inl (inside_means from from.role refl inside)
    | inr name ↦ inr (name, (signal, out))
  ]

  means_linked : (named : List Bool) (from : Port) → IsLinked c phase model named from to → is_linked c least target named from to ≡ true
  means_linked named from (inr name) = or_right (is_role_linked c least target from to from.role) (mark_at named from.place) name.0
  means_linked named from (inl inside) =
      or_left (is_role_linked c least target from to from.role) (mark_at named from.place) (elim inside.2 [
        | inl input ↦ input_test from inside.0 inside.1 from.role input.0 (same_Some inside.1 signal (sym input.1 ∙ out)) input.2
        | inr output ↦ output_test from inside.0 from.role output.0 output.2 output.3
      ])

  linked_by : (named : List Bool) (from : Port) (link : PortLink) (b : Bool) → is_linked c least target named from to ≡ b → cond b (Some (link_of named from to)) None ≡ Some link
      → IsLinked c phase model named from to × (link ≡ link_of named from to)
  linked_by named from link true e some = (linked_means named from e, sym (same_Some (link_of named from to) link some))
  linked_by named from link false e some = absurd (none-some link some)

  -- the links of some ports to the output
  abbrev made : List Bool → List Port → List PortLink
  made named ports = filter_map (link_from c least target named to) ports

  joins : (named : List Bool) (ports : List Port) (link : PortLink) → IsLinkTo c phase model named ports (to ∷ []) link → Among (made named ports) link
  joins named ports link one =
      let from : Port = one.0 in
      let same = the_item to one.1 one.3 in
      let linked : IsLinked c phase model named from to = subst (λ (p : Port). IsLinked c phase model named from p) (sym same) one.4 in
      let is_it : link ≡ link_of named from to = one.5 ∙ ap (link_of named from) (sym same) in
      let some : link_from c least target named to from ≡ Some (link_of named from to) = ap (λ (b : Bool). cond b (Some (link_of named from to)) None) (means_linked named from linked) in
      filter_map_among (link_from c least target named to) ports one.2.0 from link one.2.1 (some ∙ ap (λ (l : PortLink). Some l) (sym is_it))

  pub output_adds : (named : List Bool) (ports : List Port) (old new : List PortLink) → new ≡ old ++ made named ports → AddsLinks (IsLinkTo c phase model named ports (to ∷ [])) old new
  output_adds named ports old new is_made = subst (λ (xs : List PortLink). AddsLinks (IsLinkTo c phase model named ports (to ∷ [])) old xs) (sym is_made) (record {
    only = λ link m. elim (among_either old (made named ports) link m) [
      | inl before ↦ inl before
      | inr there ↦
          let from = among_filter_map (link_from c least target named to) ports link there in
          let linked = linked_by named from.0 link (is_linked c least target named from.0 to) refl from.2 in
          inr (from.0, to, from.1, (0, refl), linked.0, linked.1)
    ];
    stays = λ link m. among_left old (made named ports) link m;
    joined = λ link one. among_right old (made named ports) link (joins named ports link one);
  })

-- ---- links that are added

pub no_links : (IsMore : PortLink → Type 0) (links : List PortLink) → ((link : PortLink) → IsMore link → ⊥) → AddsLinks IsMore links links
no_links IsMore links none = record { only = λ link m. inl m; stays = λ link m. m; joined = λ link is. absurd (none link is) }

-- no port is linked to one that is no output
pub no_output : (c : Circuit) (phase : Phase) (model : FlatModel) (named : List Bool) (ports : List Port) (to : Port) (links : List PortLink) → output_signal to.role ≡ None
    → AddsLinks (IsLinkTo c phase model named ports (to ∷ [])) links links
no_output c phase model named ports to links other = no_links (IsLinkTo c phase model named ports (to ∷ [])) links (λ link one.
    let same = the_item to one.1 one.3 in
    none one.0 (subst (λ (p : Port). IsLinked c phase model named one.0 p) (sym same) one.4))
  where
    is_none : (out : ℕ) → output_signal to.role ≡ Some out → ⊥
    is_none out e = none-some out (sym other ∙ e)

    none : (from : Port) → IsLinked c phase model named from to → ⊥
    none from (inr name) = is_none name.1.0 name.1.1
    none from (inl inside) = elim inside.2 [ inl input ↦ is_none inside.1 input.1 | inr output ↦ is_none inside.1 output.1 ]

pub output_turn : (c : Circuit) (phase : Phase) (model : FlatModel) (named : List Bool) (ports : List Port) (at : ℕ) (to : Port) (old mid new : List PortLink) → At ports at to
    → AddsLinks (IsLinkTo c phase model named ports (take at ports)) old mid → AddsLinks (IsLinkTo c phase model named ports (to ∷ [])) mid new
    → AddsLinks (IsLinkTo c phase model named ports (take (at + 1) ports)) old new
output_turn c phase model named ports at to old mid new there one two =
    subst (λ (xs : List Port). AddsLinks (IsLinkTo c phase model named ports xs) old new) (sym (take_one ports at to there)) (record {
      only = λ link m. elim (two.only link m) [
        | inr l ↦ inr (l.0, l.1, l.2, among_right (take at ports) (to ∷ []) l.1 l.3, l.4, l.5)
        | inl before ↦ elim (one.only link before) [ inl o ↦ inl o | inr l ↦ inr (l.0, l.1, l.2, among_left (take at ports) (to ∷ []) l.1 l.3, l.4, l.5) ]
      ];
      stays = λ link m. two.stays link (one.stays link m);
      joined = λ link l. elim (among_either (take at ports) (to ∷ []) l.1 l.3) [
        | inl m ↦ two.stays link (one.joined link (l.0, l.1, l.2, m, l.4, l.5))
        | inr m ↦ two.joined link (l.0, l.1, l.2, m, l.4, l.5)
      ];
    })

pub are_links : (c : Circuit) (phase : Phase) (model : FlatModel) (named : List Bool) (ports : List Port) (none links : List PortLink) → none ≡ []
    → AddsLinks (IsLinkTo c phase model named ports ports) none links → AreLinks c phase model named ports links
are_links c phase model named ports none links empty adds = record {
  sound = λ link m. elim (adds.only link m) [
    | inl before ↦ (let there = subst (λ (xs : List PortLink). Among xs link) empty before in absurd (at_none there.0 link there.1))
    | inr l ↦ l
  ];
  full = λ from to mf mt linked. adds.joined (link_of named from to) (from, to, mf, mt, linked, refl);
}
