use Rattle.std.proofs.Common.{◌≡◌, Bool, List, Option, true, not, ap, sym, ◌∙◌}
use Rattle.std.specs.Prelude.{is_none, is_some}
use Rattle.known_nets.proofs.TableLaws.{known_less}
use Rattle.known_nets.specs.KnownTables.{known_at}
use Rattle.witness.proofs.rounds.note.Goals as goal

pub returns-then-is_none-clause-less : goal.returns-then-is_none-clause-less
returns-then-is_none-clause-less c is =
    let known = c.args.bits.now.items in
    let none : is_none (known_at known c.args.net) ≡ true =
    ap (λ (k : List (Option Bool)). is_none (known_at k c.args.net)) (sym c.as_slice.ensures.value)
    ∙ (ap is_none (sym c.known_bit.ensures) ∙ (ap not c.is_none.ensures ∙ ap (λ (b : Bool). not (not b)) c.if-is_none.true)) in
    let some : is_some c.args.bit ≡ true = sym c.is_some.ensures ∙ c.if-is_some.true in
    known_less known c.args.net c.args.bit c.requires none some
