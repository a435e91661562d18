-- What the definitions of `top` give at size 2, computed.
use Rattle.std.proofs.Common.{◌≡◌, [], ◌∷◌, codes, refl}
use Rattle.std.specs.Fmt.{digits}
use Rattle.generator.specs.Forms.{text_of}
use Rattle.generator.specs.Parts.{operands, outputs, place_cards, place_models}
use Rattle.generator.specs.Texts.{top_cell, top_model}

pub cell_of_two_places : top_cell 2 ≡ text_of (codes ".subckt top s c0 a0 b0 a1 b1 y0 y1"
    ∷ codes "xf0 a0 b0 c0 t0 c1 fa"
    ∷ codes "xm0 s b0 t0 y0 mux2"
    ∷ codes "xf1 a1 b1 c1 t1 c2 fa"
    ∷ codes "xm1 s b1 t1 y1 mux2"
    ∷ codes ".ends" ∷ [])
unfolding top_cell operands outputs place_cards digits
cell_of_two_places = refl

pub model_of_two_places : top_model 2 ≡ text_of (codes ".model top"
    ∷ codes ".inputs s c0 a0 b0 a1 b1"
    ∷ codes ".outputs y0 y1"
    ∷ codes ".subckt fa a=a0 b=b0 c=c0 s=t0 co=c1"
    ∷ codes ".subckt mux2 s=s a=b0 b=t0 y=y0"
    ∷ codes ".subckt fa a=a1 b=b1 c=c1 s=t1 co=c2"
    ∷ codes ".subckt mux2 s=s a=b1 b=t1 y=y1"
    ∷ codes ".end" ∷ [])
unfolding top_model operands outputs place_models digits
model_of_two_places = refl
