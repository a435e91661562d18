use Rattle.std.proofs.Common.{ℕ, ◌+◌, List, get_or, length, ap, refl, subst, sym, ◌∙◌}
use Rattle.std.proofs.lemmas.List.{length-set}
use Rattle.std.proofs.lemmas.Option.{slice_get-get_or}
use Rattle.known_nets.proofs.SpreadLaws.{IsZeroBut, listed_first, zero_at_end, zeroed}
use Rattle.known_nets.proofs.amounts.write_zeros.Goals as goal

pub loop-net-init : goal.loop-net-init
loop-net-init c = record { size = refl; zero = listed_first c.args.table.now.items c.args.nets.now c.requires }

pub loop-net-preserved : goal.loop-net-preserved
loop-net-preserved c =
    let nets = c.args.nets.now in
    let at = c.loop-net.net-index in
    let net : ℕ = get_or nets at 0 in
    let table = c.loop-net.table.items in
    record {
      size = ap length c.write.ensures ∙ (length-set table net 0 ∙ c.loop-net.invariant.size);
      zero = subst (λ (t : List ℕ). IsZeroBut t nets (at + 1)) (sym c.write.ensures) (zeroed table nets at net (slice_get-get_or nets at 0 c.loop-net-test.true) c.loop-net.invariant.zero);
    }

pub returns-clause-zero : goal.returns-clause-zero
returns-clause-zero c = zero_at_end c.loop-net.table.items c.args.nets.now c.loop-net.net-index c.loop-net-test.false c.loop-net.invariant.zero
