use Rattle.std.proofs.Common.{◌≡◌, drop}
use Rattle.std.specs.List.{list_all}
use Rattle.blif_checks.specs.Notes.{is_good}
use Rattle.blif_checks.proofs.judge.are_good.Given as goal

-- all before this note are good
abbrev pub invariant-loop-note : goal.invariant-loop-note
invariant-loop-note l = list_all is_good (drop l.note-index l.notes) ≡ list_all is_good l.notes
