use Rattle.std.proofs.Common.{◌≡◌, arith, length, slice_index, sym, ◌∙◌, inl, inr}
use Rattle.std.proofs.lemmas.Bool.{cases_lt}
use Rattle.std.proofs.lemmas.List.{get_or_past}
use Rattle.channel_parts.proofs.RankLaws.{rank_past}
use Rattle.channel_parts.proofs.ranking.by_net.Goals as goal

pub returns-clause-ranks : goal.returns-clause-ranks
returns-clause-ranks c n =
    let circuit = c.args.circuit.now in
    let least = c.args.least.now in
    let t = c.loop-net.table.items in
    elim (cases_lt n (length least)) [
      | inl lt ↦ c.loop-net.invariant.ranks n (omega (arith, lt))
      | inr ge ↦
          let past : slice_index t n ≡ 0 = get_or_past t n 0 (omega (arith, ge, c.loop-net.invariant.len)) in
          let none = rank_past circuit least c.args.ranks.now n (omega (arith, ge, c.requires.nets)) in
          past ∙ sym none
    ]
