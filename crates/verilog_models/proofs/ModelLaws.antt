-- The model that is made of a module.
use Rattle.std.proofs.Common.{◌≡◌, ℕ, List, [], ap, ◌∙◌}
use Rattle.std.proofs.Math.Path.{fun_ext}
use Rattle.rule_index.specs.Firsts.{value_in}
use Rattle.verilog_models.specs.Drafts.{IsDraft}
use Rattle.verilog_models.specs.Models.{covers_in, given_in, lines_by, model_of, ports_by, ports_in}
use Rattle.verilog_models.specs.declared.draft.Draft.{Draft}
use Rattle.verilog_source.specs.Modules.{Module}
use Rattle.verilog_source.specs.declared.position.Direction.{Direction}
use Rattle.verilog_source.specs.declared.position.Direction.TheVariants.{Inputs, Outputs}
use Rattle.vrt_model.specs.declared.blif.BlifModel.{BlifModel}
use Rattle.vrt_model.specs.declared.blif.CoverLine.{CoverLine}
use Rattle.vrt_model.specs.declared.blif.SubLine.{SubLine}

abbrev made_of : ℕ → List ℕ → List (List ℕ) → List ℕ → List (List ℕ) → List ℕ → List CoverLine → List SubLine → BlifModel
made_of line name inputs input_lines outputs output_lines covers subs = record {
  line = line;
  name = name;
  inputs = inputs;
  input_lines = input_lines;
  clocks = [];
  clock_lines = [];
  outputs = outputs;
  output_lines = output_lines;
  covers = covers;
  latches = [];
  subs = subs;
  exdc = [];
}

-- the parts of a draft are those of the model
pub model_made : (m : Module) (d : Draft) (listed inputs outputs : List (List ℕ)) (input_lines output_lines : List ℕ) → IsDraft m d → listed ≡ d.ports
    → (inputs ≡ ports_by (value_in d.directions) Inputs listed) × (input_lines ≡ lines_by (value_in d.directions) Inputs listed)
    → (outputs ≡ ports_by (value_in d.directions) Outputs listed) × (output_lines ≡ lines_by (value_in d.directions) Outputs listed)
    → made_of d.line d.name inputs input_lines outputs output_lines d.made.covers d.subs ≡ model_of m
model_made m d listed inputs outputs input_lines output_lines h all ins outs =
    let gives : value_in d.directions ≡ given_in m.entries = fun_ext h.gives in
    let ports : listed ≡ ports_in m.entries = all ∙ h.ports in
    let names : (way : Direction) → ports_by (value_in d.directions) way listed ≡ ports_by (given_in m.entries) way (ports_in m.entries)
    = λ way. ap (λ g. ports_by g way listed) gives ∙ ap (ports_by (given_in m.entries) way) ports in
    let lines : (way : Direction) → lines_by (value_in d.directions) way listed ≡ lines_by (given_in m.entries) way (ports_in m.entries)
    = λ way. ap (λ g. lines_by g way listed) gives ∙ ap (lines_by (given_in m.entries) way) ports in
    let ns : Direction → List (List ℕ) = λ way. ports_by (given_in m.entries) way (ports_in m.entries) in
    let ls : Direction → List ℕ = λ way. lines_by (given_in m.entries) way (ports_in m.entries) in
    ap (λ l. made_of l d.name inputs input_lines outputs output_lines d.made.covers d.subs) h.line
    ∙ ap (λ n. made_of m.line n inputs input_lines outputs output_lines d.made.covers d.subs) h.name
    ∙ ap (λ xs. made_of m.line m.name xs input_lines outputs output_lines d.made.covers d.subs) (ins.0 ∙ names Inputs)
    ∙ ap (λ xs. made_of m.line m.name (ns Inputs) xs outputs output_lines d.made.covers d.subs) (ins.1 ∙ lines Inputs)
    ∙ ap (λ xs. made_of m.line m.name (ns Inputs) (ls Inputs) xs output_lines d.made.covers d.subs) (outs.0 ∙ names Outputs)
    ∙ ap (λ xs. made_of m.line m.name (ns Inputs) (ls Inputs) (ns Outputs) xs d.made.covers d.subs) (outs.1 ∙ lines Outputs)
    ∙ ap (λ xs. made_of m.line m.name (ns Inputs) (ls Inputs) (ns Outputs) (ls Outputs) xs d.subs) h.covers
    ∙ ap (λ xs. made_of m.line m.name (ns Inputs) (ls Inputs) (ns Outputs) (ls Outputs) (covers_in 0 m.entries) xs) h.subs
