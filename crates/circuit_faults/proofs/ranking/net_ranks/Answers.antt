use Rattle.std.proofs.Common.{◌≡◌, ℕ, ◌<◌, List, length, arith, ap, refl, subst, sym, ◌∙◌}
use Rattle.std.specs.Prelude.{All}
use Rattle.std.proofs.lemmas.List.{length-replicate}
use Rattle.channel_parts.specs.declared.part.Part.{Part}
use Rattle.circuit_faults.proofs.KeyLaws.{ranks_more, ranks_none}
use Rattle.circuit_faults.specs.Keys.{AreNetRanks}
use Rattle.vrt_model.proofs.Lists.{item_at}
use Rattle.vrt_model.specs.Lists.{At}
use Rattle.vrt_model.specs.declared.ids.Net.{Net}
use Rattle.circuit_faults.proofs.ranking.net_ranks.Goals as goal

pub loop-part-init : goal.loop-part-init
loop-part-init c = record {
  len = ap (λ (xs : List ℕ). length xs) c.in_ok-ranks.ensures ∙ length-replicate c.args.count 0;
  noted = subst (AreNetRanks c.args.parts.now 0) (sym c.in_ok-ranks.ensures) (ranks_none c.args.parts.now c.args.count);
}

pub note_part-requires : goal.note_part-requires
note_part-requires c =
    let part : Part = c.part-item.result in
    let there : At c.args.parts.now c.loop-part.part-index part = item_at c.args.parts.now c.args.parts.now c.loop-part.part-index part refl c.loop-part-test.true c.part-item.is in
    subst (λ (n : ℕ). All (λ (net : Net). net.0 < n) part.nets) (sym c.loop-part.invariant.len) (c.requires part (c.loop-part.part-index, there))

pub loop-part-preserved : goal.loop-part-preserved
loop-part-preserved c =
    let part : Part = c.part-item.result in
    let there : At c.args.parts.now c.loop-part.part-index part = item_at c.args.parts.now c.args.parts.now c.loop-part.part-index part refl c.loop-part-test.true c.part-item.is in
    record {
      len = (let now = c.note_part.ensures.len in let len = c.loop-part.invariant.len in now ∙ len);
      noted = ranks_more c.args.parts.now c.loop-part.part-index part there c.loop-part.ranks.items c.note_part.new.ranks.items c.loop-part.invariant.noted c.note_part.ensures.noted;
    }

pub returns : goal.returns
returns c =
    let end : c.loop-part.part-index ≡ length c.args.parts.now = omega (arith, c.loop-part-test.false, c.loop-part.auto.part-index-end) in
    subst (λ (k : ℕ). AreNetRanks c.args.parts.now k c.loop-part.ranks.items) end c.loop-part.invariant.noted
