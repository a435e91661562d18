use Rattle.std.proofs.Common.{◌≡◌, ℕ, get_or, arith, ap, refl, sym, subst, ◌∙◌, inl, inr}
use Rattle.std.proofs.lemmas.Bool.{cases_eq}
use Rattle.std.proofs.lemmas.Option.{slice_get_within}
use Rattle.output_levels.proofs.JudgeLaws.{net_at}
use Rattle.vrt_model.proofs.Lists.{one_at}
use Rattle.vrt_model.specs.Lists.{At, mark_at}
use Rattle.vrt_model.specs.declared.ids.Net.{Net}
use Rattle.output_levels.proofs.parts.has_asked.Goals as goal

pub loop-net-preserved : goal.loop-net-preserved
loop-net-preserved c =
    let nets = c.args.nets.now in
    let k = c.loop-net.net-index in
    let first : Net = record { 0 = 0 } in
    let net : Net = get_or nets k first in
    let there : At nets k net = net_at nets nets k first refl c.loop-net-test.true in
    record {
      none = λ i n lt at. elim (cases_eq i k) [
        | inl e ↦
            let same : n ≡ net = one_at nets k n net (subst (λ (j : ℕ). At nets j n) e at) there in
            ap (λ (m : Net). mark_at c.args.asked.now m.0) same ∙ sym c.is_asked.ensures ∙ c.if-is_asked.false
        | inr ne ↦ c.loop-net.invariant.none i n (omega (arith, lt, ne)) at
      ];
    }

pub returns : goal.returns
returns c e i n at =
    let inside = slice_get_within c.args.nets.now i n at in
    c.loop-net.invariant.none i n (omega (arith, inside, c.loop-net-test.false)) at
