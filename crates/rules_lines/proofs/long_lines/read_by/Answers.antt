use Rattle.std.proofs.Common.{◌≡◌, ◌∙◌, IfOk, subst, sym}
use Rattle.text_lines.specs.Bytes.{words_of}
use Rattle.rules_lines.proofs.LongLaws.{long_line, short_line}
use Rattle.rules_lines.proofs.long_lines.read_by.Goals as goal

pub returns-then-has_list : goal.returns-then-has_list
returns-then-has_list c = subst (λ e. IfOk c.read_long.result (λ entry. entry ≡ e)) (sym (long_line c.args.word.now (words_of c.args.rest.now) (sym c.has_list.ensures ∙ c.if-has_list.true))) c.read_long.ensures

pub returns : goal.returns
returns c = subst (λ e. IfOk c.read_few.result (λ entry. entry ≡ e)) (sym (short_line c.args.word.now (words_of c.args.rest.now) (sym c.has_list.ensures ∙ c.if-has_list.false))) c.read_few.ensures
