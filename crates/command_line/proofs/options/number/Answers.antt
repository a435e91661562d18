use Rattle.std.proofs.Common.{◌≡◌, ◌<◌, ℕ, List, true, length, arith, sym, subst}
use Rattle.std.specs.Char.{is_ascii_digit}
use Rattle.std.specs.List.{list_all}
use Rattle.std.proofs.lemmas.Bool.{eqb-false}
use Rattle.command_line.proofs.NumberLaws.{no_number}
use Rattle.command_line.proofs.options.number.Goals as goal

pub returns-in-Err : goal.returns-in-Err
returns-in-Err c =
    let digits = subst (λ (w : List ℕ). list_all is_ascii_digit w ≡ true) c.as_bytes.ensures.value (sym c.if-not-are_digits.ensures) in
    let some : 0 < length c.args.word.now = omega (arith, eqb-false (length c.args.word.now) 0 (sym c.if-is_empty.ensures)) in
    sym (no_number c.args.places c.args.least c.args.greatest c.args.word.now c.ranges.greatest.fits digits some c.in-Err.ensures.value.0)
