use Rattle.std.proofs.Common.{◌≡◌, ℕ, List, [], Bool, Option, length, cond, ap, arith, ◌∙◌}
use Rattle.std.specs.Prelude.{slice_get, slice_index, unwrap_or}
use Rattle.constraints.proofs.NamedLaws.{rank_end, rank_more}
use Rattle.constraints.specs.Obliged.{is_named_in, is_named_port}
use Rattle.vrt_model.proofs.Lists.{at_there}
use Rattle.vrt_model.specs.Comparison.{cell_at}
use Rattle.vrt_model.specs.declared.ids.Net.{Net}
use Rattle.constraints.proofs.named.named_rank.Goals as goal

pub loop-at-preserved : goal.loop-at-preserved
loop-at-preserved c =
    let design = c.args.design.now in
    let rules = c.args.rules.now in
    let i = c.args.instance.now in
    let phase = c.args.phase in
    let ports : List (List ℕ) = (cell_at design i.cell).ports in
    let cell : List ℕ = (cell_at design i.cell).name in
    let at = c.loop-at.at in
    let rank : ℕ → ℕ = slice_index c.args.ranks.now in
    let named : List ℕ → Bool = is_named_port design rules phase i in
    let shown : length c.cell_ports-names.result.now ≡ length ports = ap (λ (xs : List (List ℕ)). length xs) c.cell_ports-names.ensures in
    let test = c.loop-at-test.true in
    let all_ports = c.requires in
    let name = at_there ports at (omega (arith, shown, test)) in
    let net = at_there i.ports at (omega (arith, shown, test, all_ports)) in
    let name_is : c.name_at-name.result.now ≡ name.0 =
    c.name_at-name.ensures ∙ ap (λ (xs : List (List ℕ)). unwrap_or (slice_get xs at) []) c.cell_ports-names.ensures ∙ ap (λ (o : Option (List ℕ)). unwrap_or o []) name.1 in
    let net_is : c.net_at-net.result ≡ net.0 =
    c.net_at-net.ensures ∙ ap (λ (xs : List Net). unwrap_or (slice_get xs at) (record { 0 = 0 })) c.as_slice-nets.ensures ∙ ap (λ (o : Option Net). unwrap_or o (record { 0 = 0 })) net.1 in
    let more = rank_more named rank ports i.ports at name.0 net.0 name.1 net.1 in
    let own : c.port_rank-rank.result ≡ cond (named name.0) (rank net.0.0) 0 =
    c.port_rank-rank.ensures
    ∙ ap (λ (x : List ℕ). cond (is_named_in rules x phase c.name_at-name.result.now) (rank c.net_at-net.result.0) 0) c.cell_name-cell.ensures
    ∙ ap (λ (n : List ℕ). cond (named n) (rank c.net_at-net.result.0) 0) name_is
    ∙ ap (λ (n : Net). cond (named name.0) (rank n.0) 0) net_is in
    let before = c.loop-at.invariant in
    let greater_is = c.greater-greatest.ensures in
    omega (arith, before, more, own, greater_is)

pub returns : goal.returns
returns c =
    let design = c.args.design.now in
    let i = c.args.instance.now in
    let ports : List (List ℕ) = (cell_at design i.cell).ports in
    let shown : length c.cell_ports-names.result.now ≡ length ports = ap (λ (xs : List (List ℕ)). length xs) c.cell_ports-names.ensures in
    let end = rank_end (is_named_port design c.args.rules.now c.args.phase i) (slice_index c.args.ranks.now) ports i.ports c.loop-at.at (omega (arith, shown, c.loop-at-test.false)) in
    let all = c.loop-at.invariant in
    omega (arith, all, end)
