use Rattle.std.proofs.Common.{◌≡◌, List, Bool, [], false, true, get_or, ap, sym, ◌∙◌}
use Rattle.std.proofs.lemmas.Option.{same_Some, slice_get-get_or}
use Rattle.known_nets.proofs.ShutLaws.{open_by_device, open_by_root, shut_there}
use Rattle.vrt_model.specs.Lists.{mark_at}
use Rattle.known_nets.proofs.region.is_shut_at.Goals as goal

pub returns-then-is_marked-clause-no : goal.returns-then-is_marked-clause-no
returns-then-is_marked-clause-no c e phase =
    let n = c.args.net in
    let rooted = c.args.by.now.rooted.items in
    let marked : mark_at rooted n ≡ true = ap (λ (h : List Bool). mark_at h n) (sym c.as_slice.ensures.value) ∙ (sym c.is_marked.ensures ∙ c.if-is_marked.true) in
    open_by_root c.args.circuit.now phase c.args.known.now rooted n c.requires.by.roots marked

pub returns-else-is_marked-clause-no : goal.returns-else-is_marked-clause-no
returns-else-is_marked-clause-no c e phase =
    let opens = c.all_keep_shut.ensures.no e in
    open_by_device c.args.circuit.now phase c.args.known.now c.args.net opens.0 opens.1 opens.2

pub returns-else-is_marked-clause-yes : goal.returns-else-is_marked-clause-yes
returns-else-is_marked-clause-yes c e =
    let n = c.args.net in
    let ends = c.args.by.now.ends.items in
    let rooted = c.args.by.now.rooted.items in
    let free : mark_at rooted n ≡ false = ap (λ (h : List Bool). mark_at h n) (sym c.as_slice.ensures.value) ∙ (sym c.is_marked.ensures ∙ c.if-is_marked.false) in
    shut_there c.args.circuit.now c.args.known.now rooted ends c.as_slice-else-is_marked.result.now n c.requires.by.ends c.requires.net
    (c.as_slice-else-is_marked.ensures ∙ c.index.ensures ∙ same_Some (get_or ends n c.index.result.now) (get_or ends n []) (sym (slice_get-get_or ends n c.index.result.now c.requires.net) ∙ slice_get-get_or ends n [] c.requires.net))
    c.requires.by.roots free (c.all_keep_shut.ensures.yes e)
