use Rattle.std.proofs.Common.{◌≡◌, ◌∙◌, ℕ, List, ap, map, subst}
use Rattle.blif_flat.specs.Counts.{AreSums, inside_in}
use Rattle.blif_flat.specs.declared.counts.Counted.TheVariants.{Signals, Rows, Subs}
use Rattle.blif_flat.specs.declared.counts.Inside.{Inside}
use Rattle.blif_flat.proofs.counts.Sums.fill.Goals as goal

pub returns : goal.returns
returns c =
    let table : List (List Inside) = map (inside_in c.args.names.now c.args.signals.now c.in_ok-self.field-0) c.args.models.now in
    let made : c.in_ok-all.all ≡ table =
    c.in_ok-all.ensures ∙ ap (λ (rows : List ℕ). map (inside_in c.args.names.now c.args.signals.now rows) c.args.models.now) c.as_slice.ensures in
    record {
      rows_are = c.in_ok-self.ensures;
      signals_are = subst (λ (all : List (List Inside)). AreSums all Signals 32 c.in_ok-self-2.field-0) (c.as_slice-2.ensures ∙ made) c.in_ok-self-2.ensures;
      below_are = subst (λ (all : List (List Inside)). AreSums all Rows 32 c.in_ok-self-3.field-0) (c.as_slice-3.ensures ∙ made) c.in_ok-self-3.ensures;
      subs_are = subst (λ (all : List (List Inside)). AreSums all Subs 32 c.in_ok-self-4.field-0) (c.as_slice-4.ensures ∙ made) c.in_ok-self-4.ensures;
    }
