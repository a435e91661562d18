-- The module with whose model a cell is compared.
use Rattle.std.proofs.Common.{◌≡◌, ℕ, Bool, true, false, cond, List, ◌++◌, map, Option, Some, None, inl, inr, length, refl, subst, sym}
use Rattle.std.specs.Prelude.{bytes_eq, filter, find, flat_map, not, option_map, position, unwrap_or, ◌==◌}
use Rattle.formed_cells.specs.Formed.{AreRead, IsFormed}
use Rattle.formed_cells.proofs.FormedLaws.{supported_cells_are_formed}
use Rattle.module_cells.specs.ModuleCells.{AreExact, EqualCellsDo}
use Rattle.names.proofs.PlaceLaws.{placed_within}
use Rattle.verilog_meaning.specs.Cells.{IsNet, IsOfModule}
use Rattle.verilog_meaning.specs.Nets.{entry_nets}
use Rattle.verilog_meaning.proofs.CellLaws.{equal_does}
use Rattle.verilog_meaning.proofs.InstanceLaws.{model_there}
use Rattle.verilog_models.specs.Models.{blif_of, model_of}
use Rattle.verilog_source.specs.Modules.{Module}
use Rattle.vrt_model.specs.Comparison.{Comparison, cell_at}
use Rattle.vrt_model.specs.FlatBlif.{flat_model_of, model_at, network_names, signal_at, top_model, unrolled_of}
use Rattle.vrt_model.specs.Lists.{Among, At, has_name}
use Rattle.vrt_model.specs.PairedPorts.{Missing, Model, Paired, Skipped, has_lower_name, model_like, model_named, paired_by, paired_model}
use Rattle.vrt_model.specs.Unsupported.{comparison_of}
use Rattle.vrt_model.specs.declared.blif.Blif.{Blif}
use Rattle.vrt_model.specs.declared.blif.BlifModel.{BlifModel}
use Rattle.vrt_model.specs.declared.design.Design.{Design}
use Rattle.vrt_model.specs.declared.rules.PairRule.{PairRule}
use Rattle.vrt_model.specs.declared.rules.Rules.{Rules}
use Rattle.vrt_model.proofs.Lists.{at_map, at_there}
use Rattle.vrt_model.proofs.Members.{among_either, among_left, among_map, at_none}

-- ---- the model of a cell is there

-- the model of the number, where one is told
abbrev IsThere : List BlifModel → Paired → Type 0
IsThere models (Model m) = (x : BlifModel) × At models m x
IsThere models Skipped = Unit {0}
IsThere models Missing = Unit {0}

placed : (models : List BlifModel) (test : BlifModel → Bool) (o : Option ℕ) → position test models ≡ o → IsThere models (unwrap_or (option_map (λ m. Model m) o) Missing)
placed models test None e = tt
placed models test (Some n) e = at_there models n (placed_within test models n e)

named : (blif : Blif) (name : List ℕ) → IsThere blif.models (model_named blif name)
named blif name = placed blif.models (λ (m : BlifModel). bytes_eq m.name name) (position (λ (m : BlifModel). bytes_eq m.name name) blif.models) refl

like : (blif : Blif) (name : List ℕ) → IsThere blif.models (model_like blif name)
like blif name = by_count (length (filter (has_lower_name name) blif.models) == 1) where
  by_count : (b : Bool) → IsThere blif.models (cond b (unwrap_or (option_map (λ m. Model m) (position (has_lower_name name) blif.models)) Missing) Missing)
  by_count true = placed blif.models (has_lower_name name) (position (has_lower_name name) blif.models) refl
  by_count false = tt

ruled : (blif : Blif) (o : Option (List ℕ)) → IsThere blif.models (unwrap_or (option_map (model_named blif) o) Skipped)
ruled blif None = tt
ruled blif (Some name) = named blif name

paired : (blif : Blif) (name : List ℕ) (rule : Option PairRule) → IsThere blif.models (paired_by blif name rule)
paired blif name None = like blif name
paired blif name (Some rule) = ruled blif rule.model

-- the model with which a cell pairs is there
paired_there : (design : Design) (blif : Blif) (rules : Rules) (cell m : ℕ) → paired_model design blif rules cell ≡ Model m → (x : BlifModel) × At blif.models m x
paired_there design blif rules cell m e =
    subst (IsThere blif.models) e (paired blif (cell_at design cell).name (find (λ (r : PairRule). bytes_eq r.cell (cell_at design cell).name) rules.pairs))

-- ---- the module of a cell

-- the inputs of a model by their names
named_input : (blif : Blif) (m : ℕ) (x : BlifModel) (s : ℕ) → model_at blif m ≡ x → Among (map (signal_at blif (top_model m)) (model_at blif m).inputs) s
    → (name : List ℕ) × Among x.inputs name × (signal_at blif (top_model m) name ≡ s)
named_input blif m x s same a =
    let i = among_map (signal_at blif (top_model m)) (model_at blif m).inputs s a in (i.0, subst (λ (y : BlifModel). Among y.inputs i.0) same i.1, i.2)

-- it has no clocks
no_clock : (blif : Blif) (m : ℕ) (x : Module) (s : ℕ) → model_at blif m ≡ model_of x
    → Among (map (signal_at blif (top_model m)) (filter (λ name. not (has_name (model_at blif m).inputs name)) (model_at blif m).clocks)) s → ⊥
no_clock blif m x s same a =
    let at = subst (λ (y : BlifModel). Among (map (signal_at blif (top_model m)) (filter (λ name. not (has_name y.inputs name)) y.clocks)) s) same a in at_none at.0 s at.1

-- each input of a module's flat model is a net of the module
input_net : (modules : List Module) (m : ℕ) (top : Module) (s : ℕ) → At modules m top → Among ((flat_model_of (blif_of modules) m).inputs ++ (flat_model_of (blif_of modules) m).clocks) s
    → (name : List ℕ) × IsNet modules m top name s
unfolding flat_model_of unrolled_of network_names
input_net modules m top s at a =
    let blif = blif_of modules in
    let same = model_there modules m top at in
    elim (among_either (map (signal_at blif (top_model m)) (model_at blif m).inputs) (map (signal_at blif (top_model m)) (filter (λ name. not (has_name (model_at blif m).inputs name)) (model_at blif m).clocks)) s a) [
      | inl i ↦ (
          let n = named_input blif m (model_of top) s same i in
          (n.0, record { there = among_left ((model_of top).inputs ++ (model_of top).outputs) (flat_map entry_nets top.entries) n.0 (among_left (model_of top).inputs (model_of top).outputs n.0 n.1); is = n.2 }))
      | inr c ↦ absurd (no_clock blif m top s same c)
    ]

-- the comparison of a supported cell is one with a module
of_module : (design : Design) (rules : Rules) (modules : List Module) (cell m : ℕ) (top : Module) → At modules m top → IsFormed (comparison_of design (blif_of modules) rules cell m)
    → IsOfModule (comparison_of design (blif_of modules) rules cell m) modules m top
of_module design rules modules cell m top at formed = record {
  model = refl;
  inputs = λ t a. input_net modules m top t.signal at (formed.signals.tied t.signal (t, a, refl));
  clocks = λ s a. input_net modules m top s.signal at (formed.signals.clocked s.signal (s, a, refl));
}

does_by : (design : Design) (rules : Rules) (modules : List Module) → AreRead (blif_of modules) rules → AreExact modules → EqualCellsDo design (blif_of modules) rules modules
does_by design rules modules read exact cell m supported equal =
    let k : Comparison = comparison_of design (blif_of modules) rules cell m in
    let there = paired_there design (blif_of modules) rules cell m supported.paired in
    let of = at_map model_of modules m there.0 there.1 in
    record {
      top = of.0;
      there = of.1;
      does = equal_does k modules m of.0 (exact m of.0 of.1) (of_module design rules modules cell m of.0 of.1 (supported_cells_are_formed design (blif_of modules) rules cell m read supported)) equal;
    }

-- an equal cell does as the module says
pub equal_cells_do : (design : Design) (blif : Blif) (rules : Rules) (modules : List Module) → blif ≡ blif_of modules → AreRead blif rules → AreExact modules → EqualCellsDo design blif rules modules
equal_cells_do design blif rules modules is read exact =
    subst (λ (b : Blif). EqualCellsDo design b rules modules) (sym is) (does_by design rules modules (subst (λ (b : Blif). AreRead b rules) is read) exact)
