use Rattle.std.proofs.Common.{◌≡◌, ◌<◌, ◌+◌, ℕ, List, Some, length, ap, subst, sym, ◌∙◌}
use Rattle.std.specs.Prelude.{slice_get}
use Rattle.std.proofs.lemmas.List.{length_push}
use Rattle.vrt_model.specs.Lists.{mark_at}
use Rattle.witness.proofs.ViewLaws.{pushed_each}
use Rattle.witness.specs.Views.{view_by}
use Rattle.witness.specs.declared.seen.Seen.{Seen}
use Rattle.witness.proofs.viewing.view_nets.Goals as goal

pub loop-net-preserved : goal.loop-net-preserved
loop-net-preserved c =
    let f : ℕ → Seen = λ n. view_by (mark_at c.args.marks.now n) c.args.zeros.now c.args.ones.now n in
    let k = c.loop-net.net in
    let list = c.loop-net.list in
    record {
      len = ap (λ (xs : List Seen). length xs) c.in_ok-append.ensures ∙ length_push list c.view.result ∙ ap (λ (m : ℕ). m + 1) c.loop-net.invariant.len;
      each = subst (λ (xs : List Seen). (n : ℕ) → n < k + 1 → slice_get xs n ≡ Some (f n)) (sym c.in_ok-append.ensures)
          (pushed_each list c.view.result f k c.loop-net.invariant.len c.loop-net.invariant.each c.view.ensures);
    }
