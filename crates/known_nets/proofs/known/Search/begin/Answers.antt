use Rattle.std.proofs.Common.{ℕ, Bool, Option, length, map, ap, subst, ◌∙◌}
use Rattle.std.proofs.lemmas.List.{length-map}
use Rattle.known_nets.specs.KnownTables.{fixed_bit_of}
use Rattle.known_nets.specs.Regions.{AreZero}
use Rattle.known_nets.specs.Spreads.{AreNone}
use Rattle.vrt_model.specs.declared.circuit.FlatNet.{FlatNet}
use Rattle.known_nets.proofs.known.Search.begin.Goals as goal

pub returns : goal.returns
returns c =
    let nets = c.as_slice.result.now in
    let bit : FlatNet → Option Bool = λ net. fixed_bit_of c.args.phase.now net.kind in
    record {
      search = record {
        known = ap length c.in_ok-known.ensures ∙ (length-map nets bit ∙ ap length c.as_slice.ensures);
        marks = c.in_ok-waiting.ensures.size ∙ c.len-count.ensures;
        inside = subst (λ (n : ℕ). AreNone n c.in_ok-inside.inside) c.len-count.ensures c.in_ok-inside.ensures;
        tables = subst (λ (n : ℕ). AreZero n c.in_ok-tables.tables) c.len-count.ensures c.in_ok-tables.ensures;
      };
      known = c.in_ok-known.ensures ∙ ap (map bit) c.as_slice.ensures;
      none = c.in_ok-waiting.ensures.none;
    }
