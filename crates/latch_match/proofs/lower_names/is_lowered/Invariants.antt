use Rattle.std.proofs.Common.{◌≡◌, length}
use Rattle.std.specs.Prelude.{bytes_eq}
use Rattle.std.specs.Str.{str_to_ascii_lowercase}
use Rattle.latch_match.proofs.lower_names.is_lowered.Given as goal

-- the bytes so far agree
abbrev pub invariant-bytes : goal.invariant-bytes
invariant-bytes l = bytes_eq (str_to_ascii_lowercase l.name_left) l.other_left ≡ bytes_eq (str_to_ascii_lowercase l.fn.name) l.fn.other

abbrev pub decreases-bytes : goal.decreases-bytes
decreases-bytes l = length l.name_left
