-- A cell of which nothing is refused has neither a hold nor a clock port, and its names are free.
use Rattle.std.proofs.Common.{◌≡◌, ℕ, zero, suc, Bool, true, false, not, cond, List, [], ◌∷◌, ◌++◌, Some, None, ap, ap₂, refl, sym, ◌∙◌}
use Rattle.std.specs.Prelude.{filter, find, slice_get}
use Rattle.std.specs.List.{list_all}
use Rattle.std.proofs.lemmas.Bool.{and_from, and_parts, false≢true}
use Rattle.std.proofs.lemmas.List.Folds.{list_all-append}
use Rattle.std.proofs.lemmas.Option.{none-some, same_Some}
use Rattle.cell_writer.specs.Refused.{MayBeWritten, clock_among, is_clock}
use Rattle.model_writer.specs.Refused.{is_refused}
use Rattle.paired_ports.proofs.PortLists.{port_parts}
use Rattle.vrt_model.proofs.Tests.{map_none}
use Rattle.vrt_model.specs.Comparison.{Comparison, cell_at, net_name, port_nets}
use Rattle.vrt_model.specs.Lists.{At, has_name}
use Rattle.vrt_model.specs.declared.blif.BlifModel.{BlifModel}
use Rattle.vrt_model.specs.declared.circuit.Hold.{Hold}
use Rattle.vrt_model.specs.declared.pairing.PortRole.{PortRole}
use Rattle.written_logic.specs.Logics.{HasFreeNames, HasInterface, IsCombinational}
use Rattle.written_models.specs.Written.{Logic, is_free_name, other_clocks}

no_first : {X : Type 0} (xs : List X) → slice_get xs 0 ≡ None → xs ≡ []
no_first [] e = refl
no_first (x ∷ xs) e = absurd (none-some x (sym e))

-- ---- clocks

no_clock : (names : List (List ℕ)) (roles : List PortRole) (i : ℕ) (name : List ℕ) (role : PortRole) → clock_among names roles ≡ None → At names i name → At roles i role → is_clock role ≡ false
no_clock [] roles i name role e a b = absurd (none-some name a)
no_clock (x ∷ names) [] i name role e a b = absurd (none-some role b)
no_clock (x ∷ names) (r ∷ roles) zero name role e a b = ap is_clock (sym (same_Some r role b)) ∙ here (is_clock r) e
  where
    here : (t : Bool) → cond t (Some x) (clock_among names roles) ≡ None → t ≡ false
    here true g = absurd (none-some x (sym g))
    here false g = refl
no_clock (x ∷ names) (r ∷ roles) (suc i) name role e a b = no_clock names roles i name role (later (is_clock r) e) a b
  where
    later : (t : Bool) → cond t (Some x) (clock_among names roles) ≡ None → clock_among names roles ≡ None
    later true g = absurd (none-some x (sym g))
    later false g = g

-- ---- names

all_free : (names : List (List ℕ)) → find is_refused names ≡ None → list_all is_free_name names ≡ true
all_free [] e = refl
all_free (x ∷ names) e = here (is_free_name x) refl e (all_free names)
  where
    here : (t : Bool) → is_free_name x ≡ t → cond (not t) (Some x) (find is_refused names) ≡ None → (find is_refused names ≡ None → list_all is_free_name names ≡ true)
        → list_all is_free_name (x ∷ names) ≡ true
    here true g f rest = and_from (is_free_name x) (list_all is_free_name names) g (rest f)
    here false g f rest = absurd (none-some x (sym f))

split : (xs ys : List (List ℕ)) → list_all is_free_name (xs ++ ys) ≡ true → (list_all is_free_name xs ≡ true) × (list_all is_free_name ys ≡ true)
split xs ys e = and_parts (list_all is_free_name xs) (list_all is_free_name ys) (sym (list_all-append is_free_name xs ys) ∙ e)

-- ---- both

pub combinational : (k : Comparison) (b : BlifModel) → MayBeWritten k b → IsCombinational k
combinational k b may = record {
  holds = no_first k.circuit.holds (map_none (λ (h : Hold). net_name k.circuit h.net.0) (slice_get k.circuit.holds 0) may.holds);
  clocks = λ port clock there is.
      let names = (cell_at k.design k.cell).ports in
      let parts = port_parts 0 names (port_nets k.rules names) k.pairing.ports there.0 port there.1 in
      false≢true (sym (no_clock names k.pairing.ports there.0 port.name port.role may.clocks parts.name parts.role) ∙ ap is_clock is);
}

pub free_names : (k : Comparison) (b : BlifModel) (l : Logic) → MayBeWritten k b → HasInterface k b l → HasFreeNames l
free_names k b l may interface =
    let others : List (List ℕ) = filter (λ name. not (has_name b.inputs name)) b.clocks in
    let own : other_clocks l ≡ others = ap₂ (λ (xs ys : List (List ℕ)). filter (λ name. not (has_name xs name)) ys) interface.inputs interface.clocks in
    let three = split (((b.name ∷ []) ++ b.inputs) ++ others) b.outputs (all_free ((((b.name ∷ []) ++ b.inputs) ++ others) ++ b.outputs) may.names) in
    let two = split ((b.name ∷ []) ++ b.inputs) others three.0 in
    let one = split (b.name ∷ []) b.inputs two.0 in
    record {
      name = ap is_free_name interface.name ∙ (and_parts (is_free_name b.name) true one.0).0;
      inputs = ap (list_all is_free_name) interface.inputs ∙ one.1;
      clocks = ap (list_all is_free_name) own ∙ two.1;
      outputs = ap (list_all is_free_name) interface.outputs ∙ three.1;
    }
