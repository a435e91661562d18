use Rattle.std.proofs.Common.{◌≡◌, ◌++◌, drop}
use Rattle.generator.specs.Forms.{filled}
use Rattle.generator.proofs.forms.add_filled.Given as goal

-- what is filled so far, and what is left
abbrev pub invariant-loop-byte : goal.invariant-loop-byte
invariant-loop-byte l = l.text ++ filled (drop l.byte-index l.form) l.place ≡ l.initial.text ++ filled l.form l.place
