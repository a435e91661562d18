-- Ports that are named are input ports, each once.
use Rattle.std.proofs.Common.{◌≡◌, ℕ, zero, suc, ◌+◌, ◌<◌, ◌++◌, ◌∷◌, [], ◌||◌, ◌&&◌, Bool, true, false, cond, List, Option, Some, None, ap, arith, length, refl, subst, sym, ◌∙◌}
use Rattle.std.specs.Prelude.{bytes_eq, is_some}
use Rattle.std.proofs.lemmas.Bool.{false≢true, or_parts}
use Rattle.std.proofs.lemmas.List.{length-map}
use Rattle.std.proofs.lemmas.List.Folds.{list_any-append}
use Rattle.std.proofs.lemmas.Option.{none-some, same_Some}
use Rattle.std.proofs.lemmas.Slice.Eq.{bytes_eq-Decides}
use Rattle.arrival_lines.specs.RisingNames.{AreNamed, fault_from, input_from, input_named, name_fault}
use Rattle.domino_order.specs.Arrivals.{AreRising}
use Rattle.mode_lines.specs.Lists.{first_fault}
use Rattle.mode_lines.specs.declared.valuations.AtFault.{AtFault}
use Rattle.mode_lines.specs.declared.valuations.AtFault.TheVariants.{Twice}
use Rattle.phase_ports.proofs.PortLaws.{name_is}
use Rattle.paired_ports.proofs.PortLists.{net_for_each}
use Rattle.vrt_model.proofs.Lists.{at_map, map_at, one_at}
use Rattle.vrt_model.specs.Comparison.{CellPort, Comparison, cell_at, input_signal, port_nets, ports_from, ports_of}
use Rattle.vrt_model.specs.Lists.{At, has_name}
use Rattle.vrt_model.specs.declared.pairing.PortRole.{PortRole}

-- ---- a port

-- a port at a place from a number on is an input of this name
pub record IsInputAt (ports : List CellPort) (at place : ℕ) (name : List ℕ) : Type 0 where
  pub here : ℕ
  pub place_is : place ≡ at + here
  pub port : CellPort
  pub there : At ports here port
  pub named : port.name ≡ name
  pub signal : ℕ
  pub input : input_signal port.role ≡ Some signal

-- the place that is found is that of an input of the name
pub found_at : (from at : ℕ) (names : List (List ℕ)) (nets : List ℕ) (roles : List PortRole) (name : List ℕ) (place : ℕ) → from ≡ at → length nets ≡ length names
    → input_from from names roles name ≡ Some place → IsInputAt (ports_from at names nets roles) at place name
found_at from at [] nets roles name place same each e = absurd (none-some place e)
found_at from at (own ∷ names) nets [] name place same each e = absurd (none-some place e)
found_at from at (own ∷ names) [] (role ∷ roles) name place same each e = absurd (omega (arith, each))
found_at from at (own ∷ names) (net ∷ nets) (role ∷ roles) name place same each e =
    by_test (λ later. found_at (from + 1) (suc at) names nets roles name place (omega (arith, same)) (omega (arith, each)) later) (bytes_eq own name) (input_signal role) refl refl e where
      first : CellPort
      first = record { place = at; name = own; net = net; role = role }

      behind : IsInputAt (ports_from (suc at) names nets roles) (suc at) place name → IsInputAt (first ∷ ports_from (suc at) names nets roles) at place name
      behind rest = record { here = suc rest.here; place_is = omega (arith, rest.place_is); port = rest.port; there = rest.there; named = rest.named; signal = rest.signal; input = rest.input }

      by_test : (input_from (from + 1) names roles name ≡ Some place → IsInputAt (ports_from (suc at) names nets roles) (suc at) place name) → (p : Bool) (o : Option ℕ)
          → bytes_eq own name ≡ p → input_signal role ≡ o → cond (p && is_some o) (Some from) (input_from (from + 1) names roles name) ≡ Some place
          → IsInputAt (first ∷ ports_from (suc at) names nets roles) at place name
      by_test later true (Some signal) p o found =
          record { here = 0; place_is = omega (arith, same, same_Some from place found); port = first; there = refl; named = (bytes_eq-Decides own name).0 p; signal = signal; input = o }
      by_test later true None p o found = behind (later found)
      by_test later false o p q found = behind (later found)

-- ---- names

-- a list without a fault has none at its first name, and none behind
no_fault_first : (o rest : Option AtFault) → first_fault o rest ≡ None → (o ≡ None) × (rest ≡ None)
no_fault_first None rest e = (refl, e)
no_fault_first (Some fault) rest e = absurd (none-some fault (sym e))

not_before_first : (found : Option ℕ) (before : List (List ℕ)) (name : List ℕ) → name_fault found before name ≡ None → has_name before name ≡ false
not_before_first None before name e = absurd (none-some _ (sym e))
not_before_first (Some place) before name e =
    by_test (has_name before name) refl e where
      by_test : (b : Bool) → has_name before name ≡ b → cond b (Some (Twice name)) None ≡ None → has_name before name ≡ false
      by_test false is none = is
      by_test true is none = absurd (none-some _ (sym none))

behind_one : (before : List (List ℕ)) (first name : List ℕ) → has_name (before ++ first ∷ []) name ≡ false → (has_name before name ≡ false) × ((first ≡ name) → ⊥)
behind_one before first name e =
    let parts = or_parts (has_name before name) (bytes_eq name first || false) (sym (list_any-append (bytes_eq name) before (first ∷ [])) ∙ e) in
    let apart = or_parts (bytes_eq name first) false parts.1 in
    (parts.0, λ same. false≢true (sym apart.0 ∙ (bytes_eq-Decides name first).1 (sym same)))

module _ (place_of : List ℕ → Option ℕ) where
  -- no name stands before
  not_before : (before names : List (List ℕ)) → fault_from place_of before names ≡ None → (i : ℕ) (name : List ℕ) → At names i name → has_name before name ≡ false
  not_before before [] none i name e = absurd (none-some name e)
  not_before before (first ∷ names) none zero name e =
      let parts = no_fault_first (name_fault (place_of first) before first) (fault_from place_of (before ++ first ∷ []) names) none in
      subst (λ (x : List ℕ). has_name before x ≡ false) (same_Some first name e) (not_before_first (place_of first) before first parts.0)
  not_before before (first ∷ names) none (suc i) name e =
      let parts = no_fault_first (name_fault (place_of first) before first) (fault_from place_of (before ++ first ∷ []) names) none in
      (behind_one before first name (not_before (before ++ first ∷ []) names parts.1 i name e)).0

  -- the first name is none of the others
  not_first : (before names : List (List ℕ)) (first : List ℕ) → fault_from place_of before (first ∷ names) ≡ None → (i : ℕ) → At names i first → ⊥
  not_first before names first none i e =
      let parts = no_fault_first (name_fault (place_of first) before first) (fault_from place_of (before ++ first ∷ []) names) none in
      (behind_one before first first (not_before (before ++ first ∷ []) names parts.1 i first e)).1 refl

  -- no name stands twice
  pub once : (before names : List (List ℕ)) → fault_from place_of before names ≡ None → (i j : ℕ) (name : List ℕ) → At names i name → At names j name → i ≡ j
  once before [] none i j name p q = absurd (none-some name p)
  once before (first ∷ names) none zero zero name p q = refl
  once before (first ∷ names) none zero (suc j) name p q = absurd (not_first before names first none j (q ∙ sym p))
  once before (first ∷ names) none (suc i) zero name p q = absurd (not_first before names first none i (p ∙ sym q))
  once before (first ∷ names) none (suc i) (suc j) name p q =
      let parts = no_fault_first (name_fault (place_of first) before first) (fault_from place_of (before ++ first ∷ []) names) none in
      ap suc (once (before ++ first ∷ []) names parts.1 i j name p q)

-- ---- the ports that rise

module _ (k : Comparison) (names : List (List ℕ)) (places : List ℕ) (are : AreNamed k names places) where
  abbrev some_place : ℕ → Option ℕ
  some_place place = Some place

  -- the name of a place
  named : (i place : ℕ) → At places i place → (name : List ℕ) × At names i name × (input_named k name ≡ Some place)
  named i place there =
      at_map (input_named k) names i (Some place)
      (subst (λ (xs : List (Option ℕ)). At xs i (Some place)) (sym are.places_are) (map_at some_place places i place there))

  input_at : (name : List ℕ) (place : ℕ) → input_named k name ≡ Some place → IsInputAt (ports_of k) 0 place name
  input_at name place e =
      let own = (cell_at k.design k.cell).ports in
      found_at 0 0 own (port_nets k.rules own) k.pairing.ports name place refl (net_for_each k.rules 2 own) e

  own_name : (name : List ℕ) (place : ℕ) → input_named k name ≡ Some place → At (cell_at k.design k.cell).ports place name
  own_name name place e =
      let own = (cell_at k.design k.cell).ports in
      let at = input_at name place e in
      let here : At own at.here at.port.name = name_is 0 own (port_nets k.rules own) k.pairing.ports at.here at.port at.there in
      subst (λ (j : ℕ). At own j name) (sym (omega (arith, at.place_is))) (subst (λ (x : List ℕ). At own at.here x) at.named here)

  pub are_rising : 0 < length names → AreRising k places
  are_rising some = record {
    some = omega (arith, some, sym (length-map names (input_named k)) ∙ ap length are.places_are ∙ length-map places some_place);
    once = λ i j place p q.
        let one = named i place p in
        let other = named j place q in
        let same : one.0 ≡ other.0 = one_at (cell_at k.design k.cell).ports place one.0 other.0 (own_name one.0 place one.2) (own_name other.0 place other.2) in
        once (input_named k) [] names are.no_fault i j other.0 (subst (λ (x : List ℕ). At names i x) same one.1) other.1;
    inputs = λ place among.
        let one = named among.0 place among.1 in
        let at = input_at one.0 place one.2 in
        (at.port, subst (λ (j : ℕ). At (ports_of k) j at.port) (sym (omega (arith, at.place_is))) at.there, at.signal, at.input);
  }
