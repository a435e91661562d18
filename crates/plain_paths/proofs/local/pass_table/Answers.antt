use Rattle.std.proofs.Common.{◌≡◌, ℕ, List, drop, length, slice_index, arith, subst, sym}
use Rattle.std.specs.Prelude.{vec_len}
use Rattle.std.proofs.lemmas.List.{take_at}
use Rattle.plain_paths.specs.Tables.{HasRoots, IsAttained}
use Rattle.vrt_model.specs.Networks.{HasBound}
use Rattle.vrt_model.specs.Response.{IsStrength}
use Rattle.plain_paths.proofs.local.pass_table.Goals as goal

pub returns-clause-strength : goal.returns-clause-strength
returns-clause-strength c w bound has roots attained n =
    let table = c.args.table.now in
    let u = c.pass_all.new.table in
    let is : c.as_mut_slice.result.now ≡ table.items = c.as_mut_slice.ensures.value in
    let len : vec_len table ≡ length c.as_mut_slice.result.now = omega (arith, c.as_mut_slice.ensures.len) in
    subst (λ (t : List ℕ). IsStrength w n (slice_index t n)) (sym (take_at u (drop (length u) table.items) table.len (omega (arith, c.pass_all.auto.table, c.as_mut_slice.ensures.len))))
    (c.pass_all.ensures w (subst (HasBound w) len bound) has (subst (HasRoots w) (sym is) roots) (subst (IsAttained w) (sym is) attained) n)
