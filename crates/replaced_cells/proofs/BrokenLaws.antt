-- Broken constraints of instances whose ports have the same bits.
use Rattle.std.proofs.Common.{◌≡◌, ℕ, ◌&&◌, Bool, true, not, cond, List, Option, Some, None, subst, sym, refl, ◌∙◌, ap, inl, inr}
use Rattle.std.specs.Prelude.{bytes_eq, find, option_and_then, option_map, slice_get}
use Rattle.std.specs.List.{list_any}
use Rattle.std.proofs.Math.Path.{fun_ext}
use Rattle.std.proofs.lemmas.Bool.{and_parts, cases_Bool, cond-false, or_left, or_right}
use Rattle.std.proofs.lemmas.Option.{none-some}
use Rattle.vrt_model.proofs.Lists.{among_filter_map}
use Rattle.vrt_model.proofs.Members.{among_any, find_among}
use Rattle.vrt_model.specs.CellRules.{assumed, clock_of_port, is_constrained, is_for}
use Rattle.vrt_model.specs.Comparison.{cell_at, phase_at}
use Rattle.vrt_model.specs.Expressions.{value_by}
use Rattle.vrt_model.specs.Faults.{BreaksConstraint, port_bit}
use Rattle.vrt_model.specs.Lists.{Among, At, place_of}
use Rattle.vrt_model.specs.Reading.{Partial, clock_bit}
use Rattle.vrt_model.specs.declared.circuit.FlatInstance.{FlatInstance}
use Rattle.vrt_model.specs.declared.design.Design.{Design}
use Rattle.vrt_model.specs.declared.ids.Net.{Net}
use Rattle.vrt_model.specs.declared.rules.AssumeRule.{AssumeRule}
use Rattle.vrt_model.specs.declared.rules.ClockRef.{ClockRef}
use Rattle.vrt_model.specs.declared.rules.ClockportRule.{ClockportRule}
use Rattle.vrt_model.specs.declared.rules.Expr.{Expr}
use Rattle.vrt_model.specs.declared.rules.Rules.{Rules}

-- the bit at a port of an instance, by its place
abbrev pub bit_at_port : Partial → FlatInstance → ℕ → Option Bool
bit_at_port a i place = option_and_then (λ (net : Net). a net.0) (slice_get i.ports place)

module _ (design : Design) (rules : Rules) (phase : ℕ) (a b : Partial) (i j : FlatInstance) (cell : j.cell ≡ i.cell)
    (same : (place : ℕ) → bit_at_port a i place ≡ bit_at_port b j place) where
  by_name : (name : List ℕ) → port_bit design a i name ≡ port_bit design b j name
  by_name name =
      by_place (place_of (cell_at design i.cell).ports name)
      ∙ ap (λ (c : ℕ). option_and_then (λ (net : Net). b net.0) (option_and_then (λ (at : ℕ). slice_get j.ports at) (place_of (cell_at design c).ports name))) (sym cell)
    where
      by_place : (o : Option ℕ) → option_and_then (λ (net : Net). a net.0) (option_and_then (λ (at : ℕ). slice_get i.ports at) o)
          ≡ option_and_then (λ (net : Net). b net.0) (option_and_then (λ (at : ℕ). slice_get j.ports at) o)
      by_place None = refl
      by_place (Some place) = same place

  -- a constraint that is broken at the one is broken at the other
  pub breaks_there : BreaksConstraint design rules phase a i → BreaksConstraint design rules phase b j
  breaks_there (inl (e, m, v)) =
      inl (
        e,
        subst (λ (c : ℕ). Among (assumed rules (cell_at design c).name phase) e) (sym cell) m,
        ap (λ (f : List ℕ → Option Bool). value_by f e) (sym (fun_ext by_name)) ∙ v,
      )
  breaks_there (inr (place, name, net, clock, called, tied, ruled, bit)) =
      let there = found (slice_get j.ports place) refl (sym (same place) ∙ ap (option_and_then (λ (x : Net). a x.0)) tied ∙ bit) in
      inr (
        place,
        name,
        there.0,
        clock,
        subst (λ (c : ℕ). At (cell_at design c).ports place name) (sym cell) called,
        there.1,
        ap (λ (c : ℕ). clock_of_port rules (cell_at design c).name name) cell ∙ ruled,
        there.2,
      )
    where
      found : (o : Option Net) → slice_get j.ports place ≡ o → option_and_then (λ (x : Net). b x.0) o ≡ Some (not (clock_bit (phase_at rules phase) clock))
          → (x : Net) × At j.ports place x × (b x.0 ≡ Some (not (clock_bit (phase_at rules phase) clock)))
      found None e is = absurd (none-some (not (clock_bit (phase_at rules phase) clock)) is)
      found (Some x) e is = (x, e, is)

-- the ports have the same bits where each net at a port has
pub ports_same : (i : FlatInstance) (a b : Partial) → ((net : Net) → Among i.ports net → a net.0 ≡ b net.0) → (place : ℕ) → bit_at_port a i place ≡ bit_at_port b i place
ports_same i a b same place = found (slice_get i.ports place) refl
  where
    found : (o : Option Net) → slice_get i.ports place ≡ o → option_and_then (λ (net : Net). a net.0) o ≡ option_and_then (λ (net : Net). b net.0) o
    found None e = refl
    found (Some net) e = same net (place, e)

-- a cell with an `assume` has constraints
pub assumes_constrain : (rules : Rules) (cell : List ℕ) (phase : ℕ) (e : Expr) → Among (assumed rules cell phase) e → is_constrained rules cell ≡ true
assumes_constrain rules cell phase e m =
    let from = among_filter_map (λ (r : AssumeRule). cond (bytes_eq r.cell cell && is_for r.phase phase) (Some r.expression) None) rules.assumes e m in
    let both : (bytes_eq from.0.cell cell && is_for from.0.phase phase) ≡ true =
    elim (cases_Bool (bytes_eq from.0.cell cell && is_for from.0.phase phase)) [
      | inl t ↦ t
      | inr f ↦ absurd (none-some e (sym (cond-false (bytes_eq from.0.cell cell && is_for from.0.phase phase) (Some from.0.expression) None f) ∙ from.2))
    ] in
    or_left (list_any (λ (r : AssumeRule). bytes_eq r.cell cell) rules.assumes) (list_any (λ (r : ClockportRule). bytes_eq r.cell cell) rules.clockports)
    (among_any (λ (r : AssumeRule). bytes_eq r.cell cell) rules.assumes from.0 from.1 (and_parts (bytes_eq from.0.cell cell) (is_for from.0.phase phase) both).0)

-- and a cell with a `clockport` rule
pub clocks_constrain : (rules : Rules) (cell port : List ℕ) (clock : ClockRef) → clock_of_port rules cell port ≡ Some clock → is_constrained rules cell ≡ true
clocks_constrain rules cell port clock ruled =
    or_right (list_any (λ (r : AssumeRule). bytes_eq r.cell cell) rules.assumes) (list_any ports rules.clockports) (found (find test rules.clockports) refl ruled)
  where
    test : ClockportRule → Bool
    test r = bytes_eq r.cell cell && bytes_eq r.port port

    ports : ClockportRule → Bool
    ports r = bytes_eq r.cell cell

    found : (o : Option ClockportRule) → find test rules.clockports ≡ o → option_map (λ (r : ClockportRule). r.clock) o ≡ Some clock → list_any ports rules.clockports ≡ true
    found None e is = absurd (none-some clock is)
    found (Some r) e is =
        let m = find_among test rules.clockports r e in
        among_any ports rules.clockports r m.0 (and_parts (bytes_eq r.cell cell) (bytes_eq r.port port) m.1).0

-- so a cell whose instance breaks a constraint
pub breaks_constrained : (design : Design) (rules : Rules) (phase : ℕ) (a : Partial) (i : FlatInstance) → BreaksConstraint design rules phase a i
    → is_constrained rules (cell_at design i.cell).name ≡ true
breaks_constrained design rules phase a i (inl (e, m, v)) = assumes_constrain rules (cell_at design i.cell).name phase e m
breaks_constrained design rules phase a i (inr (place, name, net, clock, called, tied, ruled, bit)) = clocks_constrain rules (cell_at design i.cell).name name clock ruled
