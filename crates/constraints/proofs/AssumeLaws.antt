-- What is assumed of the checked cell, by the handles of its ports.
use Rattle.std.proofs.Common.{◌≡◌, ℕ, ◌&&◌, Bool, true, false, cond, List, [], ◌∷◌, Option, Some, None, ap, refl, sym, ◌∙◌}
use Rattle.std.specs.Prelude.{bytes_eq, filter_map, option_map, slice_get, unwrap_or}
use Rattle.std.specs.List.{cons_option, list_all}
use Rattle.std.proofs.Math.Path.{fun_ext}
use Rattle.node_pool.specs.declared.region.Span.{Span}
use Rattle.bdd_core.proofs.Meaning.{meaning_zero}
use Rattle.bdd_core.specs.Diagram.{Valuation, meaning}
use Rattle.bdd_core.specs.Store.{Diagrams}
use Rattle.hold_keep.proofs.BitLaws.{constant_is}
use Rattle.hold_keep.specs.Rooted.{bits_at}
use Rattle.vrt_model.specs.CellRules.{assumed, is_for}
use Rattle.vrt_model.specs.Comparison.{cell_at, phase_at}
use Rattle.vrt_model.specs.Constraints.{given_bit, given_by_kind, meets_assumes}
use Rattle.vrt_model.specs.Expressions.{value_of}
use Rattle.vrt_model.specs.Held.{bit_of, is_input_of}
use Rattle.vrt_model.specs.declared.circuit.Circuit.{Circuit}
use Rattle.vrt_model.specs.declared.circuit.FlatNet.{FlatNet}
use Rattle.vrt_model.specs.declared.circuit.NetKind.{NetKind}
use Rattle.vrt_model.specs.declared.circuit.NetKind.TheVariants.{Supply, Clock, Input, Plain}
use Rattle.vrt_model.specs.declared.design.Design.{Design}
use Rattle.vrt_model.specs.declared.groups.Source.{Source}
use Rattle.vrt_model.specs.declared.rules.AssumeRule.{AssumeRule}
use Rattle.vrt_model.specs.declared.rules.Expr.{Expr}
use Rattle.vrt_model.specs.declared.rules.Rules.{Rules}
use Rattle.constraints.specs.Cared.{HasInputs}
use Rattle.constraints.specs.Handles.{clock_in, handle_by_kind, handle_given, handle_of_net, port_net}
use Rattle.constraints.specs.Obliged.{all_hold, assume_holds, is_asked, phase_bits}

-- ---- the bit of a port

module _ (d : Diagrams) (c : Circuit) (rules : Rules) (sources : List Source) (phase : ℕ) (values : Span) (inputs : HasInputs c sources d values) (v : Valuation) where
  abbrev input_bits : ℕ → Bool
  input_bits n = bit_of (is_input_of n) sources (bits_at sources v)

  bit_by_kind : (n : ℕ) (kind : NetKind) → (kind ≡ Input → meaning d.nodes (handle_by_kind d.words (phase_bits rules phase) values n Input) v ≡ input_bits n)
      → meaning d.nodes (handle_by_kind d.words (phase_bits rules phase) values n kind) v ≡ given_by_kind (phase_at rules phase) input_bits n kind
  bit_by_kind n (Supply value) is = constant_is d.nodes v value
  bit_by_kind n (Clock clock) is = constant_is d.nodes v (clock_in (phase_bits rules phase) clock)
  bit_by_kind n Input is = is refl
  bit_by_kind n Plain is = meaning_zero d.nodes v

  bit_of_net : (n : ℕ) → meaning d.nodes (handle_of_net d.words c (phase_bits rules phase) values n) v ≡ given_bit c (phase_at rules phase) input_bits n
  bit_of_net n = pick (slice_get c.nets n) refl
    where
      pick : (o : Option FlatNet) → slice_get c.nets n ≡ o
          → meaning d.nodes (unwrap_or (option_map (λ (x : FlatNet). handle_by_kind d.words (phase_bits rules phase) values n x.kind) o) 0) v
          ≡ unwrap_or (option_map (λ (x : FlatNet). given_by_kind (phase_at rules phase) input_bits n x.kind) o) false
      pick None e = meaning_zero d.nodes v
      pick (Some net) e = bit_by_kind n net.kind (λ k. inputs n net e k v)

  -- ---- what is assumed

  listed : (test : Expr → Bool) (cell : List ℕ) (assumes : List AssumeRule)
      → list_all test (filter_map (λ (r : AssumeRule). cond (bytes_eq r.cell cell && is_for r.phase phase) (Some r.expression) None) assumes)
      ≡ list_all (λ (r : AssumeRule). cond (is_asked cell phase r) (test r.expression) true) assumes
  listed test cell [] = refl
  listed test cell (r ∷ rs) = by_test (is_asked cell phase r) (listed test cell rs)
    where
      by_test : (b : Bool)
          → list_all test (filter_map (λ (r : AssumeRule). cond (bytes_eq r.cell cell && is_for r.phase phase) (Some r.expression) None) rs) ≡ list_all (λ (r : AssumeRule). cond (is_asked cell phase r) (test r.expression) true) rs
          → list_all test (cons_option (cond b (Some r.expression) None) (filter_map (λ (r : AssumeRule). cond (bytes_eq r.cell cell && is_for r.phase phase) (Some r.expression) None) rs))
          ≡ (cond b (test r.expression) true && list_all (λ (r : AssumeRule). cond (is_asked cell phase r) (test r.expression) true) rs)
      by_test true rest = ap (λ (t : Bool). test r.expression && t) rest
      by_test false rest = rest

  pub assumes_are : (design : Design) (cell : ℕ)
      → all_hold (assume_holds d (handle_given d.words c rules (cell_at design cell).ports (phase_bits rules phase) values) (cell_at design cell).name phase) rules.assumes v
      ≡ meets_assumes design rules cell c phase input_bits
  assumes_are design cell =
      let this = cell_at design cell in
      sym (listed (value_of (λ (name : List ℕ). meaning d.nodes (handle_given d.words c rules this.ports (phase_bits rules phase) values name) v)) this.name rules.assumes)
      ∙ ap (λ (bits : List ℕ → Bool). list_all (value_of bits) (assumed rules this.name phase)) (fun_ext (λ (name : List ℕ). bit_of_net (port_net rules this.ports name)))
