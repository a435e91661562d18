use Rattle.std.proofs.Common.{◌≡◌, ℕ, Option, arith, ap, sym, subst, ◌∙◌, inl, inr}
use Rattle.std.proofs.lemmas.Bool.{cases_eq}
use Rattle.std.proofs.lemmas.Option.{get_or_from_slice_get, slice_get_within}
use Rattle.drive_levels.specs.PhaseLevels.{level_in}
use Rattle.drive_levels.specs.PortLevels.{joined_level}
use Rattle.output_levels.specs.PartLevels.{level_at}
use Rattle.vrt_model.specs.Lists.{At}
use Rattle.vrt_model.specs.declared.ids.Net.{Net}
use Rattle.drive_levels.proofs.ports.join_all.Goals as goal

pub join_level-requires : goal.join_level-requires
join_level-requires c = (let len = c.loop-at.invariant.len in let count = c.requires in omega (arith, len, count, c.loop-at-test.true))

pub loop-at-preserved : goal.loop-at-preserved
loop-at-preserved c =
    let i = c.loop-at.at in
    let circuit = c.args.circuit.now in
    let levels = c.args.levels.now in
    let outputs = c.args.outputs.now in
    let first = c.args.first in
    let old = c.args.joined.now.items in
    let now = c.loop-at.joined.items in
    let new = c.join_level.new.joined.items in
    let inv = c.loop-at.invariant in
    let step = c.join_level.ensures in
    let same : level_at now i ≡ level_at old i = inv.later i (omega arith) in
    let here : (n : Net) → At outputs i n → level_at new i ≡ joined_level first (level_at old i) (level_in circuit levels n.0) =
    λ n at.
    step.here
    ∙ ap (λ (o : Option ℕ). joined_level first (level_at now i) o) (c.level_of-here.ensures ∙ ap (λ (x : Net). level_in circuit levels x.0) (get_or_from_slice_get outputs i n _ at))
    ∙ ap (λ (o : Option ℕ). joined_level first o (level_in circuit levels n.0)) same in
    record {
      len = step.len ∙ inv.len;
      each = λ j n lt at. elim (cases_eq j i) [
        | inl e ↦ subst (λ (k : ℕ). level_at new k ≡ joined_level first (level_at old k) (level_in circuit levels n.0)) (sym e) (here n (subst (λ (k : ℕ). At outputs k n) e at))
        | inr ne ↦ step.others j ne ∙ inv.each j n (omega (arith, lt, ne)) at
      ];
      later = λ j le. step.others j (λ e. omega (arith, e, le)) ∙ inv.later j (omega (arith, le));
    }

pub returns : goal.returns
returns c = record {
  len = c.loop-at.invariant.len;
  each = λ j n at. c.loop-at.invariant.each j n (let within = slice_get_within c.args.outputs.now j n at in omega (arith, within, c.loop-at-test.false)) at;
}
