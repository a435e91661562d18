use Rattle.std.proofs.Common.{◌≡◌, ℕ, Bool, List, true, drop, length, arith, subst, sym, ◌∙◌}
use Rattle.std.specs.Prelude.{◌↔◌, vec_len}
use Rattle.std.proofs.lemmas.List.{take_at}
use Rattle.plain_paths.proofs.Passing.{bits_mean, mark_bit}
use Rattle.plain_paths.specs.Local.{roots_alone}
use Rattle.vrt_model.specs.Lists.{bit_at, mark_at}
use Rattle.vrt_model.specs.Networks.{HasBound}
use Rattle.vrt_model.specs.Response.{Reaches}
use Rattle.plain_paths.proofs.local.spread_table.Goals as goal

pub returns-clause-reached : goal.returns-clause-reached
returns-clause-reached c w bound has alone strong reach n =
    let marks = c.args.marks.now in
    let v = c.args.value in
    let u = c.spread_value.new.marks in
    let is : c.as_mut_slice.result.now ≡ marks.items = c.as_mut_slice.ensures.value in
    let len : vec_len marks ≡ length c.as_mut_slice.result.now = omega (arith, c.as_mut_slice.ensures.len) in
    let before : (m : ℕ) → (mark_at marks.items m ≡ true) ↔ Reaches (roots_alone w) m v =
    λ m. (let h = reach m in (λ e. h.0 (mark_bit marks.items m ∙ e), λ p. sym (mark_bit marks.items m) ∙ h.1 p)) in
    let there : (m : ℕ) → (mark_at c.as_mut_slice.result.now m ≡ true) ↔ Reaches (roots_alone w) m v =
    subst (λ (t : List Bool). (m : ℕ) → (mark_at t m ≡ true) ↔ Reaches (roots_alone w) m v) (sym is) before in
    subst (λ (t : List Bool). (bit_at t n ≡ true) ↔ Reaches w n v) (sym (take_at u (drop (length u) marks.items) marks.len (omega (arith, c.spread_value.auto.marks, c.as_mut_slice.ensures.len))))
    (bits_mean u n (Reaches w n v) (c.spread_value.ensures w (subst (HasBound w) len bound) has alone strong there n))
