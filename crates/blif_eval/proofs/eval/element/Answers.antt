use Rattle.std.proofs.Common.{ℕ, ◌<◌, length, arith, subst, sym}
use Rattle.bdd_core.specs.Diagram.{IsWithin, meaning}
use Rattle.blif_eval.proofs.EvalLaws.{control_wider, control_within}
use Rattle.vrt_model.specs.FlatModels.{IsControl}
use Rattle.blif_eval.proofs.eval.element.Goals as goal

pub returns-clause-counts : goal.returns-clause-counts
returns-clause-counts c u reads reads' reads'' =
    let d = c.args.store.now in
    let storage = c.args.storage in
    let spans = c.requires.spans in
    let range = c.requires.range in
    let clock : c.len-signals.result < c.args.inputs.len = omega (arith, c.len-signals.ensures, spans.inputs_len) in
    let control : IsControl c.args.out.len storage.control =
    control_wider (length c.args.flat.now.signals) c.args.out.len storage.control (let len = spans.out_len in omega (arith, len)) range.control in
    let of_word : ℕ → Type 0 = λ h. IsWithin u (meaning d.nodes h) in
    c.choose.ensures.counts u
    (subst of_word (sym c.control_handle-control.ensures) (control_within u d c.len-signals.result c.args.inputs c.args.out storage.control clock control reads reads''))
    (subst of_word (sym c.read.ensures) (reads'' storage.source (let low = range.source in let len = spans.out_len in omega (arith, low, len))))
    (subst of_word (sym c.read-2.ensures) (reads' storage.element (let low = range.element in let len = spans.held_len in omega (arith, low, len))))
