use Rattle.std.proofs.Common.{◌≡◌, ℕ, List, length, arith, subst, sym, ap}
use Rattle.std.specs.Prelude.{map}
use Rattle.std.proofs.lemmas.List.{length-map}
use Rattle.plain_paths.proofs.Rounds.{given_attained, roots_from}
use Rattle.vrt_model.specs.Levels.{source_level}
use Rattle.plain_paths.specs.Tables.{HasGrown, IsAttained, level_of_net}
use Rattle.vrt_model.specs.Networks.{HasBound}
use Rattle.vrt_model.specs.declared.circuit.FlatNet.{FlatNet}
use Rattle.plain_paths.proofs.strengths.raise_strengths.Goals as goal

pub returns : goal.returns
returns c w over bounded has =
    let nets = c.args.circuit.now.nets in
    let t = c.add_holds.new.table in
    let source = source_level c.args.circuit.now in
    let grown : HasGrown (map (level_of_net source) nets) t = subst (λ (x : List ℕ). HasGrown x t) c.requires.given c.add_holds.ensures.grown in
    let given : IsAttained w (map (level_of_net source) nets) = subst (λ (ns : List FlatNet). IsAttained w (map (level_of_net source) ns)) over.nets (subst (λ (l : ℕ). IsAttained w (map (level_of_net l) w.nets)) over.source (given_attained w)) in
    let attained : IsAttained w t = c.add_holds.ensures.attained w over.holds (subst (IsAttained w) (sym c.requires.given) given) in
    let len : length nets ≡ length t = omega (arith, length-map nets (level_of_net source), ap {B = ℕ} (length {A = ℕ}) c.requires.given, c.add_holds.auto.table) in
    c.pass_all.ensures w (subst (HasBound w) len bounded) has (roots_from c.args.circuit.now w t over grown c.add_holds.ensures.holds) attained
