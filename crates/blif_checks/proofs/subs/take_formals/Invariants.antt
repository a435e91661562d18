use Rattle.std.proofs.Common.{◌≡◌, [], ℕ, List, drop, map, take}
use Rattle.vrt_model.specs.Lists.{has_name}
use Rattle.vrt_model.specs.Models.{bad_formal_after, interface_of}
use Rattle.vrt_model.specs.declared.blif.Tie.{Tie}
use Rattle.blif_checks.proofs.subs.take_formals.Given as goal

-- each formal so far fits, and these are seen
abbrev pub invariant-loop-tie : goal.invariant-loop-tie
invariant-loop-tie l =
    (bad_formal_after (interface_of l.model) l.seen (map (λ (t : Tie). t.formal) (drop l.tie-index l.ties)) ≡ bad_formal_after (interface_of l.model) [] (map (λ (t : Tie). t.formal) l.ties))
    × ((name : List ℕ) → has_name l.seen name ≡ has_name (map (λ (t : Tie). t.formal) (take l.tie-index l.ties)) name)
