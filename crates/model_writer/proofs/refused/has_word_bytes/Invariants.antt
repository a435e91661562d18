use Rattle.std.proofs.Common.{◌≡◌, drop}
use Rattle.std.specs.List.{list_all}
use Rattle.plain_models.specs.Lines.{is_word_byte}
use Rattle.model_writer.proofs.refused.has_word_bytes.Given as goal

-- the bytes that are left decide
abbrev pub invariant-loop-byte : goal.invariant-loop-byte
invariant-loop-byte l = list_all is_word_byte (drop l.byte-index l.name) ≡ list_all is_word_byte l.name
