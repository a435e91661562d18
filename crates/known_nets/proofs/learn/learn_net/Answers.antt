use Rattle.std.proofs.Common.{◌<◌, [], get_or, length, arith, sym, ◌∙◌}
use Rattle.std.proofs.lemmas.Bool.{false≢true}
use Rattle.std.proofs.lemmas.Option.{same_Some, slice_get-get_or}
use Rattle.known_nets.proofs.WaitLaws.{ends_of_one}
use Rattle.known_nets.proofs.learn.learn_net.Goals as goal

pub returns-in_ok-put_ends-clause-step : goal.returns-in_ok-put_ends-clause-step
returns-in_ok-put_ends-clause-step c =
    let gates = c.args.by.now.gates.items in
    let n = c.args.net in
    let known = c.requires.known in
    let count = c.requires.by.gate_count in
    let inside : n < length gates = omega (arith, c.requires.net, known, count) in
    let noted = c.note-noted.ensures in
    record {
      size = noted.size;
      grown = noted.grown;
      waited = c.in_ok-put_ends.ensures.waited;
      ends =
          ends_of_one c.args.circuit.now c.args.known.now.items c.note-noted.new.known.items n c.args.bit gates c.as_slice.result.now c.put_ends.new.self.marks.items c.requires.by.gates
          (c.as_slice.ensures ∙ c.index.ensures ∙ same_Some (get_or gates n c.index.result.now) (get_or gates n []) (sym (slice_get-get_or gates n c.index.result.now inside) ∙ slice_get-get_or gates n [] inside))
          inside noted.only c.in_ok-put_ends.ensures.marked;
      same = λ e. absurd (false≢true (sym e));
      falls = noted.falls;
      less = λ e. noted.less c.if-noted.true;
    }
