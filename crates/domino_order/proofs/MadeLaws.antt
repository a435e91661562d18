-- What is made before the ports are searched is that of the definitions.
use Rattle.std.proofs.Common.{◌≡◌, ℕ, zero, suc, ◌+◌, ◌<◌, ◌++◌, Bool, true, false, cond, List, [], ◌∷◌, Option, ap, ap₂, arith, get_or, length, map, refl, sym, take, ◌∙◌}
use Rattle.std.specs.Prelude.{flat_map, option_map, slice_get, unwrap_or}
use Rattle.std.specs.Int.{from_bool}
use Rattle.std.specs.List.{range_with_len}
use Rattle.std.proofs.lemmas.List.{length-append, map-append, take_more}
use Rattle.std.proofs.lemmas.Option.{slice_get-get_or}
use Rattle.domino_order.proofs.MonotoneLaws.{port_net}
use Rattle.domino_order.proofs.StepFrames.{flat_pins}
use Rattle.domino_order.specs.Arrivals.{AreRising, net_of_port}
use Rattle.domino_order.specs.Made.{latch_elements}
use Rattle.phase_open.proofs.Sources.{variable_more}
use Rattle.phase_open.specs.Given.{variable_at}
use Rattle.phase_ports.proofs.PortLaws.{ports_shown}
use Rattle.phase_ports.specs.Ports.{ports_by, unnamed}
use Rattle.phase_ports.specs.declared.port_list.Port.{Port}
use Rattle.phase_terms.specs.Ready.{IsReady}
use Rattle.phase_terms.specs.Stores.{counts_of, most_model_words}
use Rattle.phase_terms.specs.declared.words.WordCounts.{WordCounts}
use Rattle.vrt_model.proofs.Lists.{map_at, take_one}
use Rattle.vrt_model.proofs.ElementCounts.{names_count}
use Rattle.vrt_model.specs.Circuits.{IsFlat}
use Rattle.vrt_model.specs.Comparison.{Comparison, cell_at, ports_of}
use Rattle.vrt_model.specs.Elements.{element_count, names_by_kind, signal_name}
use Rattle.vrt_model.specs.Lists.{At}
use Rattle.vrt_model.specs.Variables.{is_input}
use Rattle.vrt_model.specs.declared.circuit.Circuit.{Circuit}
use Rattle.vrt_model.specs.declared.circuit.FlatNet.{FlatNet}
use Rattle.vrt_model.specs.declared.flat_model.FlatLatch.{FlatLatch}
use Rattle.vrt_model.specs.declared.flat_model.FlatModel.{FlatModel}
use Rattle.vrt_model.specs.Levels.{source_level}
use Rattle.vrt_model.specs.declared.whole.Whole.{Whole}

-- ---- words

elements_are : (flat : FlatModel) (ls : List FlatLatch) → latch_elements ls ≡ length (flat_map (λ (l : FlatLatch). names_by_kind l.kind (signal_name flat l.output)) ls)
elements_are flat [] = refl
elements_are flat (l ∷ ls) =
    let name = signal_name flat l.output in
    let rest = elements_are flat ls in
    let here = names_count l.kind name in
    let both = length-append (names_by_kind l.kind name) (flat_map (λ (x : FlatLatch). names_by_kind x.kind (signal_name flat x.output)) ls) in omega (arith, rest, here, both)

pub counts_are : (k : Comparison) (variables nets source signals elements : ℕ) → IsFlat k.circuit → nets ≡ length k.circuit.nets → source ≡ source_level k.circuit → signals ≡ length k.model.signals → elements ≡ latch_elements k.model.latches
    → (let counts : WordCounts = record { nets = nets; source = source; pins = 0; models = 0; signals = signals; elements = elements; variables = variables } in counts) ≡ counts_of k variables
counts_are k variables nets source signals elements flat a from b c =
    let make : ℕ → ℕ → ℕ → ℕ → ℕ → ℕ → WordCounts =
    λ n l p m s e. record { nets = n; source = l; pins = p; models = m; signals = s; elements = e; variables = variables } in
    let here = counts_of k variables in
    ap (λ (n : ℕ). make n source 0 0 signals elements) a ∙ ap (λ (l : ℕ). make here.nets l 0 0 signals elements) from
    ∙ ap (λ (p : ℕ). make here.nets here.source p 0 signals elements) (sym (flat_pins k.circuit flat))
    ∙ ap (λ (ws : List Whole). make here.nets here.source here.pins (most_model_words ws) signals elements) (sym flat.wholes) ∙ ap (λ (s : ℕ). make here.nets here.source here.pins here.models s elements) b
    ∙ ap (λ (e : ℕ). make here.nets here.source here.pins here.models here.signals e) (c ∙ elements_are k.model k.model.latches)

-- ---- nets

module _ (k : Comparison) (rising : List ℕ) (ready : IsReady k) (are : AreRising k rising) (ports : List Port) (listed : ports ≡ ports_by 0 2 k.pairing.ports) where
  net_found : (i place : ℕ) → At rising i place → unwrap_or (option_map (λ (p : Port). p.net) (slice_get ports place)) 0 ≡ net_of_port k place
  net_found i place at =
      let input = are.inputs place (i, at) in
      let shown = listed ∙ ports_shown k.rules (cell_at k.design k.cell) k.pairing ready.roles in
      ap (λ (xs : List Port). unwrap_or (option_map (λ (p : Port). p.net) (slice_get xs place)) 0) shown
      ∙ ap (λ (o : Option Port). unwrap_or (option_map (λ (p : Port). p.net) o) 0) (map_at unnamed (ports_of k) place input.0 input.1) ∙ sym (port_net k rising ready are place input.0 input.1)

  -- one port more
  pub nets_more : (i net : ℕ) (nets : List ℕ) → i < length rising → nets ≡ map (net_of_port k) (take i rising) → net ≡ unwrap_or (option_map (λ (p : Port). p.net) (slice_get ports (get_or rising i 0))) 0
      → nets ++ net ∷ [] ≡ map (net_of_port k) (take (i + 1) rising)
  nets_more i net nets lt before is =
      let place = get_or rising i 0 in
      let here : net ≡ net_of_port k place = is ∙ net_found i place (slice_get-get_or rising i 0 lt) in
      ap₂ (λ (xs : List ℕ) (n : ℕ). xs ++ n ∷ []) before here ∙ sym (map-append (net_of_port k) (take i rising) (place ∷ []))
      ∙ ap (map (net_of_port k)) (sym (take_more rising i 0 lt))

-- ---- numbers and variables

pub range_more : (a n : ℕ) → range_with_len a (n + 1) ≡ range_with_len a n ++ (a + n) ∷ []
range_more a n = (let next : n + 1 ≡ suc n = omega arith in ap (range_with_len a) next ∙ one_more a n)
  where
    one_more : (a n : ℕ) → range_with_len a (suc n) ≡ range_with_len a n ++ (a + n) ∷ []
    one_more a zero = (let same : a ≡ a + 0 = omega arith in ap (λ (x : ℕ). x ∷ []) same)
    one_more a (suc n) =
        let same : (a + 1) + n ≡ a + suc n = omega arith in
        ap (λ (xs : List ℕ). a ∷ xs) (one_more (a + 1) n ∙ ap (λ (x : ℕ). range_with_len (a + 1) n ++ x ∷ []) same)

pub variables_more : (f : ℕ → ℕ) (nets : List ℕ) (i net variable : ℕ) (made : List ℕ) → At nets i net → made ≡ map f (take i nets) → variable ≡ f net → made ++ variable ∷ [] ≡ map f (take (i + 1) nets)
variables_more f nets i net variable made there sofar is =
    ap₂ (λ (xs : List ℕ) (x : ℕ). xs ++ x ∷ []) sofar is ∙ sym (map-append f (take i nets) (net ∷ [])) ∙ sym (ap (map f) (take_one nets i net there))

-- a bit as a number
bit_number : (b : Bool) → from_bool b ≡ cond b 1 0
bit_number true = refl
bit_number false = refl

-- one net more before a variable
pub variable_next : (c : Circuit) (nets : List FlatNet) (n before from : ℕ) (d : FlatNet) (own : Bool) → nets ≡ c.nets → n < length c.nets → own ≡ is_input (get_or nets n d).kind → from ≡ from_bool own → before ≡ variable_at c n
    → before + from ≡ variable_at c (n + 1)
variable_next c nets n before from d own listed lt is one sofar =
    ap₂ {C = ℕ} (λ (x y : ℕ). x + y) sofar (one ∙ bit_number own ∙ ap {B = ℕ} (λ (b : Bool). cond b 1 0) (is ∙ ap (λ (xs : List FlatNet). is_input (get_or xs n d).kind) listed)) ∙ sym (variable_more c n d lt)
