use Rattle.std.proofs.Common.{◌∙◌, ap, map, take}
use Rattle.std.specs.Char.{to_ascii_lowercase}
use Rattle.std.proofs.lemmas.List.{take-map}
use Rattle.vrt_model.proofs.text.Few.make_ascii_lowercase.Goals as goal

pub returns : goal.returns
returns c =
    ap (take c.args.self.now.count) (c.make_ascii_lowercase.ensures.after ∙ ap (map to_ascii_lowercase) c.as_mut_slice.ensures.value)
    ∙ take-map to_ascii_lowercase c.args.self.now.count c.args.self.now.room
