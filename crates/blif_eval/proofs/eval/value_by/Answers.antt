use Rattle.std.proofs.Common.{ℕ, ◌<◌, Ok, length, arith, ap, subst, sym}
use Rattle.bdd_core.specs.Diagram.{meaning}
use Rattle.blif_eval.proofs.Drivers.{interface_below}
use Rattle.blif_eval.proofs.EvalLaws.{storage_range, stored_below}
use Rattle.bdd_core.proofs.Frames.{gives_none}
use Rattle.blif_eval.specs.Drivers.{IsDriver}
use Rattle.bdd_core.specs.Store.{Gives}
use Rattle.blif_eval.specs.Settled.{function_by}
use Rattle.blif_eval.specs.declared.driver_table.Driver.{Driver}
use Rattle.blif_eval.specs.declared.driver_table.Driver.TheVariants.{Given, Stored}
use Rattle.blif_eval.proofs.eval.value_by.Goals as goal

pub read-requires-in-Stored-clause-within : goal.read-requires-in-Stored-clause-within
read-requires-in-Stored-clause-within c =
    let flat = c.args.flat.now in
    let is : IsDriver flat c.args.number (Stored c.in-Stored.last) = subst (IsDriver flat c.args.number) c.in-Stored.is c.requires.driver in
    let low = stored_below flat c.args.number c.in-Stored.last is in
    let len = c.requires.spans.out_len in
    omega (arith, low, len)

pub element-requires-clause-range : goal.element-requires-clause-range
element-requires-clause-range c =
    let flat = c.args.flat.now in
    storage_range flat c.requires.model c.args.number c.in-Element.storage (subst (IsDriver flat c.args.number) c.in-Element.is c.requires.driver)

pub returns-in-Given-clause-gives : goal.returns-in-Given-clause-gives
returns-in-Given-clause-gives c =
    let d = c.args.store.now in
    let flat = c.args.flat.now in
    let inputs = c.args.inputs in
    let n = c.args.number in
    let P : Driver → Type 0 = λ driver. Gives d d (function_by d flat inputs c.args.held c.args.out n driver) (Ok (record { 0 = c.read.result })) in
    let low : n < inputs.len =
    (let low = interface_below flat c.requires.model n (subst (IsDriver flat n) c.in-Given.is c.requires.driver) in let len = c.requires.spans.inputs_len in omega (arith, low, len)) in
    subst P (sym c.in-Given.is)
    (gives_none d (function_by d flat inputs c.args.held c.args.out n Given) (record { 0 = c.read.result }) c.sound.ensures.sound c.sound.ensures.within
    (subst (λ (h : ℕ). h < length d.nodes) (sym c.read.ensures) (c.requires.spans.inputs_live n low))
    (λ v. ap (λ (h : ℕ). meaning d.nodes h v) c.read.ensures))

pub returns-in-Stored-clause-gives : goal.returns-in-Stored-clause-gives
returns-in-Stored-clause-gives c =
    let d = c.args.store.now in
    let flat = c.args.flat.now in
    let out = c.args.out in
    let n = c.args.number in
    let last = c.in-Stored.last in
    let P : Driver → Type 0 = λ driver. Gives d d (function_by d flat c.args.inputs c.args.held out n driver) (Ok (record { 0 = c.read-in-Stored.result })) in
    let low : last < out.len =
    (let low = stored_below flat n last (subst (IsDriver flat n) c.in-Stored.is c.requires.driver) in let len = c.requires.spans.out_len in omega (arith, low, len)) in
    subst P (sym c.in-Stored.is)
    (gives_none d (function_by d flat c.args.inputs c.args.held out n (Stored last)) (record { 0 = c.read-in-Stored.result }) c.sound.ensures.sound c.sound.ensures.within
    (subst (λ (h : ℕ). h < length d.nodes) (sym c.read-in-Stored.ensures) (c.requires.spans.out_live last low))
    (λ v. ap (λ (h : ℕ). meaning d.nodes h v) c.read-in-Stored.ensures))
