-- The words of inputs.
use Rattle.std.proofs.Common.{◌≡◌, ℕ, ◌<◌, Bool, true, false, List, Option, Some, None, cond, length, arith, ap, ap₂, refl, subst, sym, ◌∙◌}
use Rattle.std.specs.Prelude.{option_map, unwrap_or}
use Rattle.std.proofs.lemmas.Option.{slice_get_within}
use Rattle.node_pool.specs.declared.region.Node.{Node}
use Rattle.node_pool.specs.declared.region.Span.{Span}
use Rattle.bdd_core.proofs.Meaning.{meaning_node, meaning_one, meaning_zero}
use Rattle.bdd_core.specs.Diagram.{IsProper, Valuation, meaning, node_at}
use Rattle.bdd_core.specs.Store.{Diagrams}
use Rattle.known_nets.specs.Conduction.{is_input_kind}
use Rattle.hold_keep.proofs.BitLaws.{picked}
use Rattle.hold_keep.specs.Rooted.{bit_by}
use Rattle.constraints.specs.Cared.{HasInputs}
use Rattle.phase_rows.specs.Given.{HasInput}
use Rattle.vrt_model.specs.Held.{is_input_of}
use Rattle.vrt_model.specs.declared.circuit.Circuit.{Circuit}
use Rattle.vrt_model.specs.declared.circuit.FlatNet.{FlatNet}
use Rattle.vrt_model.specs.declared.groups.Source.{Source}

either : (b : Bool) → cond b true false ≡ b
either true = refl
either false = refl

-- a node between the constants is the bit of its variable
pub bit_is : (nodes : List Node) (vars i at : ℕ) (place : Option ℕ) (n : Node) → IsProper vars nodes n i → n ≡ node_at nodes i
    → place ≡ Some at → n.var ≡ at → n.lo ≡ 0 → n.hi ≡ 1 → (v : Valuation) → meaning nodes i v ≡ bit_by place v
bit_is nodes vars i at place n proper is there var lo hi v =
    let lo_below = proper.lo_below in
    let hi_below = proper.hi_below in
    meaning_node nodes v i (omega (arith, hi, hi_below)) (subst (λ (m : Node). m.lo < i) is lo_below) (subst (λ (m : Node). m.hi < i) is hi_below)
    ∙ ap (λ (m : Node). cond (v m.var) (meaning nodes m.hi v) (meaning nodes m.lo v)) (sym is)
    ∙ ap₂ (λ (one zero : Bool). cond (v n.var) one zero) (ap (λ (h : ℕ). meaning nodes h v) hi ∙ meaning_one nodes v) (ap (λ (h : ℕ). meaning nodes h v) lo ∙ meaning_zero nodes v)
    ∙ either (v n.var)
    ∙ ap v var
    ∙ ap (λ (o : Option ℕ). bit_by o v) (sym there)

-- the constant 0 is the bit where there is no place
pub none_is : (nodes : List Node) (i : ℕ) (place : Option ℕ) → place ≡ None → i ≡ 0 → (v : Valuation) → meaning nodes i v ≡ bit_by place v
none_is nodes i place none zero v = ap (λ (h : ℕ). meaning nodes h v) zero ∙ meaning_zero nodes v ∙ ap (λ (o : Option ℕ). bit_by o v) (sym none)

-- where each word fits, the inputs have their variables
pub inputs_are : (c : Circuit) (sources : List Source) (d : Diagrams) (roots : Span) → ((n : ℕ) → n < length c.nets → HasInput c sources d roots n) → HasInputs c sources d roots
inputs_are c sources d roots each n net there kind v =
    each n (slice_get_within c.nets n net there)
    (ap (λ (o : Option FlatNet). unwrap_or (option_map (λ (x : FlatNet). is_input_kind x.kind) o) false) there ∙ ap is_input_kind kind) v
    ∙ picked (is_input_of n) v sources
