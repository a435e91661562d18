use Rattle.std.proofs.Common.{◌∙◌, ap, Some, sym}
use Rattle.std.proofs.lemmas.Slice.Eq.{bytes_eq-Decides}
use Rattle.names.proofs.set.add_key.Goals.{in-Ok, in-Err}
use Rattle.names.proofs.set.add_key.Goals as goal

-- the key that stands at the place is equal to this one, so it is this name
pub returns-clause-place : goal.returns-clause-place
returns-clause-place c = elim c.match-insert_full.branch [
  | in-Ok w ↦ rw w.result-is (w.in-Ok.ensures.stored.1 ∙ ap Some (sym ((bytes_eq-Decides c.args.key w.in-Ok.ensures.stored.0).0 w.in-Ok.ensures.stored.2)))
  | in-Err w ↦ rw w.result-is tt
]
