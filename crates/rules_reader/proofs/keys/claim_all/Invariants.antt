use Rattle.std.proofs.Common.{◌≡◌, length, map}
use Rattle.names.specs.Names.{with_names}
use Rattle.rules_reader.specs.Keys.{key, repeated, text}
use Rattle.text_lines.specs.Bytes.{words_of}
use Rattle.rules_reader.proofs.keys.claim_all.Given as goal

-- no key so far was there
abbrev pub invariant-lasts : goal.invariant-lasts
invariant-lasts l =
    (repeated l.keys (map (key l.front) (words_of l.rest)) ≡ repeated l.fn.keys (map (key l.front) l.lasts))
    × (with_names l.keys (map text (map (key l.front) (words_of l.rest))) ≡ with_names l.fn.keys (map text (map (key l.front) l.lasts)))

abbrev pub decreases-lasts : goal.decreases-lasts
decreases-lasts l = length l.rest
