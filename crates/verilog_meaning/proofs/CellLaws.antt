-- A cell that is equal to the flat model of a module does what the module means.
use Rattle.std.proofs.Common.{◌≡◌, ◌≢◌, ◌&&◌, ℕ, Bool, true, false, List, [], Option, Some, None, refl, ap, sym, subst, ◌∙◌}
use Rattle.std.specs.Prelude.{◌==◌}
use Rattle.std.specs.List.{list_any}
use Rattle.verilog_meaning.specs.Cells.{DoesAsSaid, Fits, IsNet, IsOfModule, SaysAt}
use Rattle.verilog_meaning.specs.FlatBits.{IsExact, IsGot, flat_bits, flat_place}
use Rattle.verilog_meaning.specs.Meaning.{IsMeaning}
use Rattle.verilog_meaning.specs.Meaning.StandsAt.{itself}
use Rattle.verilog_models.specs.Models.{blif_of}
use Rattle.verilog_source.specs.Modules.{Module}
use Rattle.verilog_meaning.proofs.FlatLaws.{no_networks}
use Rattle.vrt_model.specs.declared.flat_model.DontCare.{DontCare}
use Rattle.vrt_model.proofs.Networkless.{no_network}
use Rattle.vrt_model.specs.Assignment.{Assignment, IsAssignment, Obeys}
use Rattle.vrt_model.specs.CellRules.{is_observed_port}
use Rattle.vrt_model.specs.Comparison.{CellPort, Comparison, cell_at, output_signal, ports_of}
use Rattle.vrt_model.specs.Equal.{Agree, IsEqual}
use Rattle.vrt_model.specs.Faults.{Assigns, Solves, is_free, surroundings_of}
use Rattle.vrt_model.specs.Held.{setting_of}
use Rattle.vrt_model.specs.Lists.{Among}
use Rattle.vrt_model.specs.Reading.{Partial}
use Rattle.vrt_model.specs.State.{Setting}
use Rattle.vrt_model.specs.declared.flat_model.FlatModel.{FlatModel}
use Rattle.vrt_model.specs.declared.verdict.FaultKind.TheVariants.{Differs}

-- a net of the module itself has the bit of its flat signal
net_bit : (modules : List Module) (k : ℕ) (top : Module) (bits : ℕ → Bool) (name : List ℕ) (signal : ℕ) → IsNet modules k top name signal → flat_bits (blif_of modules) k bits [] name ≡ bits signal
unfolding flat_place
net_bit modules k top bits name signal net = ap bits net.is

-- a flat model says something
some_meaning : (c : Comparison) (modules : List Module) (k : ℕ) (top : Module) (phase : ℕ) (setting : Setting) → IsExact modules k top → IsOfModule c modules k top → (g : Assignment) → Assigns c phase setting g
    → (bits : List ℕ → List ℕ → Bool) × IsMeaning modules top bits × Fits c modules k top phase setting bits
some_meaning c modules k top phase setting exact of g is =
    let s = surroundings_of c phase setting in (
      flat_bits (blif_of modules) k g.signal,
      exact.means s.default_clock s.held g (subst (λ (m : FlatModel). Obeys m s.default_clock s.held g) of.model is.obeys),
      record {
        inputs = λ t a name net. net_bit modules k top g.signal name t.signal net ∙ is.inputs t a;
        clocks = λ x a name net. net_bit modules k top g.signal name x.signal net ∙ is.clocks x a;
      },
    )

-- bits of nets that fit are those of an assignment at the setting
assigned_at : (c : Comparison) (modules : List Module) (k : ℕ) (top : Module) (phase : ℕ) (setting : Setting) (bits : List ℕ → List ℕ → Bool) → IsOfModule c modules k top → IsGot modules k top bits
    → Fits c modules k top phase setting bits → (g : Assignment) × Assigns c phase setting g × ((name : List ℕ) (signal : ℕ) → IsNet modules k top name signal → g.signal signal ≡ bits [] name)
assigned_at c modules k top phase setting bits of got fits = (record { signal = got.signals; next = λ e. false }, is, shown) where
  shown : (name : List ℕ) (signal : ℕ) → IsNet modules k top name signal → got.signals signal ≡ bits [] name
  shown name signal net = sym (net_bit modules k top got.signals name signal net) ∙ got.nets [] top itself name net.there

  is : IsAssignment c.model (surroundings_of c phase setting) (record { signal = got.signals; next = λ e. false })
  is = record {
    clocks = λ x a. (let n = of.clocks x a in shown n.0 x.signal n.1 ∙ fits.clocks x a n.0 n.1);
    inputs = λ t a. (let n = of.inputs t a in shown n.0 t.signal n.1 ∙ fits.inputs t a n.0 n.1);
    obeys =
        subst (λ (m : FlatModel). Obeys m (surroundings_of c phase setting).default_clock (surroundings_of c phase setting).held (record { signal = got.signals; next = λ e. false })) (sym of.model)
        (got.assigned (surroundings_of c phase setting).default_clock (surroundings_of c phase setting).held (λ e. false));
  }

-- what does not differ is the same
not_other : (o : Option Bool) (b : Bool) → (o ≢ Some b → ⊥) → o ≡ Some b
not_other None b h = absurd (h (λ e. cc))
not_other (Some true) true h = refl
not_other (Some false) false h = refl
not_other (Some true) false h = absurd (h (λ e. cc))
not_other (Some false) true h = absurd (h (λ e. cc))

-- where no output has a don't-care bit, each matters
never_free : (flat : FlatModel) (g : Assignment) (signal : ℕ) → flat.dontcares ≡ [] → is_free flat g signal ≡ false
never_free flat g signal cared = ap (λ (ds : List DontCare). list_any (λ (d : DontCare). (d.output == signal) && g.signal d.bit) ds) cared

output_same : (c : Comparison) (phase : ℕ) (setting : Setting) (g : Assignment) (a : Partial) → c.model.dontcares ≡ [] → Agree c phase setting → Solves c phase setting a → Assigns c phase setting g → (port : CellPort) (signal : ℕ)
    → Among (ports_of c) port → output_signal port.role ≡ Some signal → is_observed_port c.rules (cell_at c.design c.cell).name port.name phase ≡ true → a port.net ≡ Some (g.signal signal)
output_same c phase setting g a cared agree solves assigns port signal there output observed =
    not_other (a port.net) (g.signal signal)
    (λ other. agree.no_fault a g solves assigns Differs there.0 (port.net, Some (g.signal signal), (port, signal, there.1, output, observed, never_free c.model g signal cared, refl, refl), other))

says_at : (c : Comparison) (modules : List Module) (k : ℕ) (top : Module) (phase : ℕ) (setting : Setting) → IsExact modules k top → IsOfModule c modules k top → Agree c phase setting → SaysAt c modules k top phase setting
says_at c modules k top phase setting exact of agree = record {
  some = some_meaning c modules k top phase setting exact of agree.assignment.0 agree.assignment.1;
  outputs = λ bits meaning fits a solves port signal there output observed name net. (
      let g = assigned_at c modules k top phase setting bits of (exact.got bits meaning) fits in
      let cared = ap (λ (m : FlatModel). m.dontcares) of.model ∙ no_network (blif_of modules) k (no_networks modules k) in
      output_same c phase setting g.0 a cared agree solves g.1 port signal there output observed ∙ ap Some (g.2 name signal net));
}

-- an equal cell does as the module says
pub equal_does : (c : Comparison) (modules : List Module) (k : ℕ) (top : Module) → IsExact modules k top → IsOfModule c modules k top → IsEqual c → DoesAsSaid c modules k top
equal_does c modules k top exact of equal phase lt bits meets = says_at c modules k top phase (setting_of c phase bits) exact of ((equal phase lt).agree bits meets)
