use Rattle.std.proofs.Common.{◌≡◌, ◌++◌, ℕ, List, ap, ◌∙◌, subst, append_assoc}
use Rattle.std.specs.Prelude.{OnOk}
use Rattle.vrt_model.specs.VerdictText.{why_words}
use Rattle.std.specs.Option.{option_copied}
use Rattle.witness.proofs.verdict_lines.add_unsupported.Goals as goal

pub returns : goal.returns
returns c =
    let why = why_words c.args.rules.now (option_copied c.args.circuit) (option_copied c.args.flat) c.args.why.now in
    let P : List (List ℕ) → Type 0 = λ ws. OnOk c.add_why.result (c.add_why.new.words ≡ ws) in
    subst P (ap (λ ws. ws ++ why) c.in_ok-add.ensures ∙ append_assoc c.args.words.now _ why) c.add_why.ensures
