use Rattle.std.proofs.Common.{sym}
use Rattle.blif_checks.proofs.JudgeLaws.{line_has_one, told_never, told_twice}
use Rattle.blif_checks.proofs.judge.judge_line.Goals as goal

pub returns-in-Some : goal.returns-in-Some
returns-in-Some c = told_twice c.args.notes.now c.args.names.now c.args.mentions.now c.args.line c.in-Some.mention c.twice.result c.requires (sym c.in-Some.ensures) c.twice.ensures

pub returns-in-Some-first_use_on : goal.returns-in-Some-first_use_on
returns-in-Some-first_use_on c =
    told_never c.args.notes.now c.args.names.now c.args.mentions.now c.args.line c.in-Some-first_use_on.mention c.never.result c.requires (sym c.in-None.ensures) (sym c.in-Some-first_use_on.ensures) c.never.ensures

pub returns-in-None-first_use_on : goal.returns-in-None-first_use_on
returns-in-None-first_use_on c =
    absurd (line_has_one c.args.notes.now c.args.mentions.now c.args.line c.requires (sym c.in-None.ensures) (sym c.in-None-first_use_on.ensures))
