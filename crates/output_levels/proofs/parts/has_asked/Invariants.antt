use Rattle.std.proofs.Common.{◌≡◌, ℕ, ◌<◌, false}
use Rattle.output_levels.proofs.parts.has_asked.Given as goal
use Rattle.vrt_model.specs.Lists.{At, mark_at}
use Rattle.vrt_model.specs.declared.ids.Net.{Net}

-- none of the nets so far is asked for
abbrev pub invariant-loop-net : goal.invariant-loop-net
invariant-loop-net l = record {
  none : (i : ℕ) (n : Net) → i < l.net-index → At l.nets i n → mark_at l.asked n.0 ≡ false;
}
