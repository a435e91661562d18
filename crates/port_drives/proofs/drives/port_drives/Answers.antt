use Rattle.std.proofs.Common.{◌∷◌, ◌++◌, [], ℕ, List, arith, ap, length, length-append, subst, sym, ◌∙◌, inl, inr}
use Rattle.std.proofs.lemmas.Bool.{cases_eq}
use Rattle.std.proofs.lemmas.Option.{slice_get_within}
use Rattle.port_drives.specs.Drives.{port_drive, told_in}
use Rattle.port_drives.specs.declared.outputs.ToldOutput.{ToldOutput}
use Rattle.vrt_model.proofs.Lists.{at_front, at_last}
use Rattle.vrt_model.specs.Lists.{At}
use Rattle.vrt_model.specs.declared.whole.Drive.{Drive}
use Rattle.port_drives.proofs.drives.port_drives.Goals as goal

pub loop-at-preserved : goal.loop-at-preserved
loop-at-preserved c =
    let circuit = c.args.circuit.now in
    let lone = c.args.lone.now in
    let ports = c.args.ports.now in
    let told = told_in c.args.facts.now circuit in
    let i = c.loop-at.at in
    let old = c.loop-at.drives in
    let drive : Drive = c.port_drive.result in
    let inv = c.loop-at.invariant in
    let added = c.in_ok-append.ensures in
    let same = c.as_slice.ensures ∙ c.in_ok-told.ensures in
    let count = inv.count in
    record {
      count = ap (λ (ds : List Drive). length ds) added ∙ length-append old (drive ∷ []) ∙ omega (arith, count);
      each = λ j n lt at. subst (λ (ds : List Drive). At ds j (port_drive circuit told lone ports j n.0)) (sym added) (elim (cases_eq j i) [
        | inl e ↦
            subst (λ (k : ℕ). At (old ++ drive ∷ []) j (port_drive circuit told lone ports k n.0)) (sym e)
            (subst (λ (k : ℕ). At (old ++ drive ∷ []) k (port_drive circuit told lone ports i n.0)) (count ∙ sym e)
            (subst (λ (d : Drive). At (old ++ drive ∷ []) (length old) d)
            (c.port_drive.ensures n (subst (λ (k : ℕ). At ports.nets k n) e at) ∙ ap (λ (ts : List ToldOutput). port_drive circuit ts lone ports i n.0) same) (at_last old drive)))
        | inr ne ↦ at_front old (drive ∷ []) j (port_drive circuit told lone ports j n.0) (inv.each j n (omega (arith, lt, ne)) at)
      ]);
    }

pub returns : goal.returns
returns c = record {
  count = (let count = c.loop-at.invariant.count in let end = c.loop-at.auto.at-end in let past = c.loop-at-test.false in omega (arith, count, end, past));
  each = λ j n at. c.loop-at.invariant.each j n (let within = slice_get_within c.args.ports.now.nets j n at in let past = c.loop-at-test.false in omega (arith, within, past)) at;
}
