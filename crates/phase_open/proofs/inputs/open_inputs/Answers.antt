use Rattle.std.proofs.Common.{List, arith, ap, subst, sym, ◌∙◌}
use Rattle.std.specs.Prelude.{false, unwrap_or}
use Rattle.bdd_core.specs.Store.{Diagrams}
use Rattle.bdd_core.proofs.Frames.{writes_then}
use Rattle.phase_open.proofs.InputLaws.{constant_word, inputs_given, ports_below, ties_one, ties_within}
use Rattle.phase_open.specs.Given.{AreTiesWithin, HasOneNet, IsTie}
use Rattle.phase_ports.specs.Ports.{ports_by}
use Rattle.phase_terms.specs.Ready.{comparison_in}
use Rattle.vrt_model.specs.Comparison.{Comparison, default_clock_bit}
use Rattle.vrt_model.specs.Lists.{Among}
use Rattle.vrt_model.specs.declared.pairing.ClockedSignal.{ClockedSignal}
use Rattle.vrt_model.specs.declared.pairing.PortRole.{PortRole}
use Rattle.phase_open.proofs.inputs.open_inputs.Goals as goal

pub open_clocks-requires-clause-within : goal.open_clocks-requires-clause-within
open_clocks-requires-clause-within c d m =
    let among = subst (λ (xs : List ClockedSignal). Among xs d) c.as_slice.ensures m in
    let inputs = c.requires.ready.inputs in
    let below = inputs.below d.signal (inputs.clocked d among) in
    omega (arith, below, c.requires.inputs.2)

pub open_clocks-requires-clause-one : goal.open_clocks-requires-clause-one
open_clocks-requires-clause-one c a b m l =
    c.requires.ready.inputs.one_clock a b (subst (λ (xs : List ClockedSignal). Among xs a) c.as_slice.ensures m) (subst (λ (xs : List ClockedSignal). Among xs b) c.as_slice.ensures l)

pub open_ties-requires-clause-nets : goal.open_ties-requires-clause-nets
open_ties-requires-clause-nets c p m =
    let below = ports_below (comparison_in c.args.compared) c.requires.ready p (subst (λ (rs : List PortRole). Among (ports_by 0 2 rs) p) c.as_slice-2.ensures m) in
    omega (arith, below, c.requires.roots.1)

pub open_ties-requires-clause-within : goal.open_ties-requires-clause-within
open_ties-requires-clause-within c =
    subst (λ (rs : List PortRole). AreTiesWithin (ports_by 0 2 rs) c.args.roots.len c.args.inputs.len) (sym c.as_slice-2.ensures)
    (ties_within (comparison_in c.args.compared) c.requires.ready c.args.roots.len c.args.inputs.len c.requires.roots.1 c.requires.inputs.2)

pub open_ties-requires-clause-one : goal.open_ties-requires-clause-one
open_ties-requires-clause-one c =
    subst (λ (rs : List PortRole). HasOneNet (ports_by 0 2 rs)) (sym c.as_slice-2.ensures) (ties_one (comparison_in c.args.compared) c.requires.ready)

pub returns-clause-given : goal.returns-clause-given
returns-clause-given c =
    let k : Comparison = comparison_in c.args.compared in
    let first = c.args.store.now in
    let mid = c.open_clocks.new.store in
    let last = c.open_ties.new.store in
    let new = c.open_bit.new.store in
    let inputs = c.args.inputs in
    let same = sym c.as_slice-2.ensures in
    inputs_given k c.requires.ready c.args.phase c.args.roots inputs first mid last new
    (ap (λ (d : Diagrams). d.nodes) c.open_bit.ensures.rest ∙ ap (λ (d : Diagrams). d.nodes) c.open_ties.ensures.rest ∙ ap (λ (d : Diagrams). d.nodes) c.open_clocks.ensures.rest)
    c.open_clocks.ensures.writes
    (writes_then inputs first last new (writes_then inputs first mid last c.open_clocks.ensures.writes c.open_ties.ensures.writes) c.open_bit.ensures.writes)
    c.requires.inputs.3 c.requires.inputs.2 c.requires.roots.1 c.requires.bits
    (λ d m. c.open_clocks.ensures.opened d (subst (λ (xs : List ClockedSignal). Among xs d) (sym c.as_slice.ensures) m) ∙ ap (λ ph. constant_word ph d) c.phase_of-phase.ensures)
    (λ p s is. c.open_ties.ensures.tied p s (subst (λ (rs : List PortRole). IsTie (ports_by 0 2 rs) p s) same is))
    (λ s none. c.open_ties.ensures.others s (λ p is. none p (subst (λ (rs : List PortRole). IsTie (ports_by 0 2 rs) p s) c.as_slice-2.ensures is)))
    c.default_bit-bit.result (c.default_bit-bit.ensures ∙ ap (λ ph. unwrap_or (default_clock_bit c.args.compared.rules.now ph) false) c.phase_of-phase.ensures)
    c.open_bit.ensures.opened c.open_bit.ensures.others
