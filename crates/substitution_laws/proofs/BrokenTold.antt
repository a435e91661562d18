-- Whether a constraint of an instance is broken can be told where each net has a bit.
use Rattle.std.proofs.Common.{◌≡◌, ◌⊎◌, ℕ, zero, suc, Bool, true, false, not, List, [], ◌∷◌, Option, Some, None, refl, ap, sym, ◌∙◌, subst, inl, inr}
use Rattle.std.proofs.lemmas.Bool.{false≢true}
use Rattle.std.proofs.lemmas.Option.{none-some, same_Some}
use Rattle.vrt_model.proofs.Members.{among_later}
use Rattle.vrt_model.specs.CellRules.{assumed, clock_of_port}
use Rattle.vrt_model.specs.Comparison.{cell_at, phase_at}
use Rattle.vrt_model.specs.Expressions.{value_by}
use Rattle.vrt_model.specs.Faults.{BreaksConstraint, port_bit}
use Rattle.vrt_model.specs.Lists.{Among, At}
use Rattle.vrt_model.specs.Reading.{Partial, clock_bit}
use Rattle.vrt_model.specs.declared.circuit.FlatInstance.{FlatInstance}
use Rattle.vrt_model.specs.declared.design.Design.{Design}
use Rattle.vrt_model.specs.declared.ids.Net.{Net}
use Rattle.vrt_model.specs.declared.rules.ClockRef.{ClockRef}
use Rattle.vrt_model.specs.declared.rules.Expr.{Expr}
use Rattle.vrt_model.specs.declared.rules.Rules.{Rules}

-- whether an option is a bit
is_bit : (o : Option Bool) (v : Bool) → (o ≡ Some v) ⊎ (¬ (o ≡ Some v))
is_bit None v = inr (λ e. none-some v e)
is_bit (Some true) true = inl refl
is_bit (Some false) false = inl refl
is_bit (Some true) false = inr (λ e. false≢true (sym (same_Some true false e)))
is_bit (Some false) true = inr (λ e. false≢true (same_Some false true e))

-- whether an expression of a list has a value
some_value : (f : List ℕ → Option Bool) (es : List Expr) → ((e : Expr) × Among es e × (value_by f e ≡ Some false)) ⊎ ((e : Expr) → Among es e → ¬ (value_by f e ≡ Some false))
some_value f [] = inr (λ e m v. none-some e m.1)
some_value f (x ∷ es) =
    elim (is_bit (value_by f x) false) [
      | inl broken ↦ inl (x, (0, refl), broken)
      | inr kept ↦ elim (some_value f es) [
        | inl found ↦ inl (found.0, among_later x es found.0 found.1, found.2)
        | inr none ↦ inr (by_place kept none)
      ]
    ]
  where
    by_place : (¬ (value_by f x ≡ Some false)) → ((e : Expr) → Among es e → ¬ (value_by f e ≡ Some false)) → (e : Expr) → Among (x ∷ es) e → ¬ (value_by f e ≡ Some false)
    by_place kept none e (zero, here) v = kept (subst (λ (y : Expr). value_by f y ≡ Some false) (sym (same_Some x e here)) v)
    by_place kept none e (suc i, there) v = none e (i, there) v

module _ (clock_at : List ℕ → Option ClockRef) (bit : ClockRef → Bool) (a : Partial) where
  -- a port has another bit than its clock
  abbrev IsOff : List (List ℕ) → List Net → Type 0
  IsOff names nets = (at : ℕ) × (name : List ℕ) × (net : Net) × (clock : ClockRef) × At names at name × At nets at net × (clock_at name ≡ Some clock) × (a net.0 ≡ Some (not (bit clock)))

  here_off : (name : List ℕ) (net : Net) → ((clock : ClockRef) × (clock_at name ≡ Some clock) × (a net.0 ≡ Some (not (bit clock)))) ⊎ ((clock : ClockRef) → clock_at name ≡ Some clock → ¬ (a net.0 ≡ Some (not (bit clock))))
  here_off name net = by_clock (clock_at name) refl
    where
      by_clock : (o : Option ClockRef) → clock_at name ≡ o
          → ((clock : ClockRef) × (clock_at name ≡ Some clock) × (a net.0 ≡ Some (not (bit clock)))) ⊎ ((clock : ClockRef) → clock_at name ≡ Some clock → ¬ (a net.0 ≡ Some (not (bit clock))))
      by_clock None e = inr (λ clock f v. none-some clock (sym e ∙ f))
      by_clock (Some clock) e =
          elim (is_bit (a net.0) (not (bit clock))) [
            | inl off ↦ inl (clock, e, off)
            | inr on ↦ inr (λ other f v. on (v ∙ ap (λ (c : ClockRef). Some (not (bit c))) (sym (same_Some clock other (sym e ∙ f)))))
          ]

  some_off : (names : List (List ℕ)) (nets : List Net) → IsOff names nets ⊎ (¬ IsOff names nets)
  some_off [] nets = inr (λ off. none-some off.1 off.4)
  some_off (name ∷ names) [] = inr (λ off. none-some off.2 off.5)
  some_off (name ∷ names) (net ∷ nets) =
      elim (here_off name net) [
        | inl off ↦ inl (0, name, net, off.0, refl, refl, off.1, off.2)
        | inr kept ↦ elim (some_off names nets) [
          | inl (at, other, there, clock, e, f, is, off) ↦ inl (suc at, other, there, clock, e, f, is, off)
          | inr none ↦ inr (by_place kept none)
        ]
      ]
    where
      by_place : ((clock : ClockRef) → clock_at name ≡ Some clock → ¬ (a net.0 ≡ Some (not (bit clock)))) → (¬ IsOff names nets) → ¬ IsOff (name ∷ names) (net ∷ nets)
      by_place kept none (zero, other, there, clock, e, f, is, off) =
          kept clock (subst (λ (x : List ℕ). clock_at x ≡ Some clock) (sym (same_Some name other e)) is)
          (subst (λ (x : Net). a x.0 ≡ Some (not (bit clock))) (sym (same_Some net there f)) off)
      by_place kept none (suc at, other, there, clock, e, f, is, off) = none (at, other, there, clock, e, f, is, off)

-- whether one is broken
pub broken_told : (design : Design) (rules : Rules) (phase : ℕ) (a : Partial) (i : FlatInstance) → BreaksConstraint design rules phase a i ⊎ (¬ BreaksConstraint design rules phase a i)
broken_told design rules phase a i =
    let cell = cell_at design i.cell in
    elim (some_value (port_bit design a i) (assumed rules cell.name phase)) [
      | inl found ↦ inl (inl found)
      | inr none ↦ elim (some_off (clock_of_port rules cell.name) (clock_bit (phase_at rules phase)) a cell.ports i.ports) [
        | inl off ↦ inl (inr off)
        | inr on ↦ inr (λ broken. elim broken [ inl found ↦ none found.0 found.1 found.2 | inr off ↦ on off ])
      ]
    ]
