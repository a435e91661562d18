use Rattle.std.proofs.Common.{◌∷◌, ◌++◌, ◌≤◌, [], List, append_assoc, ap, ap₂, length, subst, sym, ◌∙◌, map, take}
use Rattle.std.specs.List.{enumerate_from}
use Rattle.port_drives.proofs.ToldLaws.{told_all, told_more}
use Rattle.port_drives.specs.Outputs.{told_pin}
use Rattle.port_drives.specs.declared.outputs.ToldOutput.{ToldOutput}
use Rattle.vrt_model.proofs.Lists.{at_there}
use Rattle.vrt_model.specs.Lists.{At}
use Rattle.vrt_model.specs.declared.whole.WholePin.{WholePin}
use Rattle.port_drives.proofs.outputs.add_outputs.Goals as goal

pub loop-place-preserved : goal.loop-place-preserved
loop-place-preserved c =
    let facts = c.args.facts.now in
    let cell = c.args.whole.now.cell in
    let pins = c.args.whole.now.outputs in
    let i = c.loop-place.place in
    let outputs = c.as_slice-outputs.result.now in
    let is = at_there outputs i c.loop-place-test.true in
    let pin : WholePin = is.0 in
    let there : At pins i pin = subst (λ (xs : List WholePin). At xs i pin) c.as_slice-outputs.ensures is.1 in
    record {
      is =
          c.in_ok-append.ensures
          ∙ ap₂ (λ (xs : List ToldOutput) (o : ToldOutput). xs ++ o ∷ []) c.loop-place.invariant.is (c.told_at.ensures pin is.1)
          ∙ append_assoc c.args.told.now (map (told_pin facts cell) (take i (enumerate_from 0 pins))) (told_pin facts cell (i, pin) ∷ [])
          ∙ ap (λ (xs : List ToldOutput). c.args.told.now ++ xs) (sym (told_more facts cell pins i pin there));
    }

pub returns : goal.returns
returns c =
    let pins = c.args.whole.now.outputs in
    c.loop-place.invariant.is
    ∙ ap (λ (xs : List ToldOutput). c.args.told.now ++ xs)
    (told_all c.args.facts.now c.args.whole.now.cell pins c.loop-place.place
    (subst (λ (xs : List WholePin). length xs ≤ c.loop-place.place) c.as_slice-outputs.ensures c.loop-place-test.false))
