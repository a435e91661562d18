use Rattle.std.proofs.Common.{Global, Vec, ◌≡◌, ℕ, List, ◌++◌, ap, subst, sym, ◌∙◌}
use Rattle.std.proofs.lemmas.Result.{on_ok_weaker}
use Rattle.known_nets.specs.Spreads.{HasSpread, IsSpread, IsZero}
use Rattle.vrt_model.specs.Lists.{Among}
use Rattle.known_nets.proofs.signals.spread_over.Goals as goal

pub returns-clause-spread : goal.returns-clause-spread
returns-clause-spread c =
    let over = c.args.over in
    let nets = c.args.nets.now in
    let first = c.begin_over.new.self in
    let last = c.spread_from.new.amounts in
    let met : first.met.items ≡ nets = c.in_ok-begin_over.ensures.met ∙ ap (λ (l : List ℕ). l ++ nets) c.requires.none.empty in
    let zero : IsZero first.table.items = subst (λ (v : Vec ℕ Global). IsZero v.items) (sym c.in_ok-begin_over.ensures.table) c.requires.none.zero in
    let is_spread : HasSpread over first last → IsSpread over.spread over.circuit.now over.known.now over.levels.now nets last.table.items = λ has. record {
      base = first.table.items;
      clear = zero;
      arrived = has.arrived;
      closed = λ n m. has.closed n (has.stays n (subst (λ (l : List ℕ). Among l n) (sym met) m));
    } in
    on_ok_weaker c.spread_from.result is_spread c.spread_from.ensures
