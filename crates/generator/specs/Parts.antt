-- The parts of the three texts that are the same at each size, and the forms of `top`.
use Rattle.std.specs.Prelude.{ℕ, List, [], ◌∷◌, codes}
use Rattle.generator.specs.Forms.{text_of}

unfoldable pub inv_cell : List ℕ
inv_cell =
    text_of (codes ".subckt inv a y"
    ∷ codes "m1 y a vdd vdd p"
    ∷ codes "m2 y a gnd gnd n"
    ∷ codes ".ends" ∷ [])

unfoldable pub nand2_cell : List ℕ
nand2_cell =
    text_of (codes ".subckt nand2 a b y"
    ∷ codes "m1 y a vdd vdd p"
    ∷ codes "m2 y b vdd vdd p"
    ∷ codes "m3 y a m gnd n"
    ∷ codes "m4 m b gnd gnd n"
    ∷ codes ".ends" ∷ [])

-- a full adder: the sum `s` and the carry `co` of three bits
unfoldable pub fa_cell : List ℕ
fa_cell =
    text_of (codes ".subckt fa a b c s co"
    ∷ codes "x1 a b n1 nand2"
    ∷ codes "x2 a n1 n2 nand2"
    ∷ codes "x3 b n1 n3 nand2"
    ∷ codes "x4 n2 n3 x nand2"
    ∷ codes "x5 x c n4 nand2"
    ∷ codes "x6 x n4 n5 nand2"
    ∷ codes "x7 c n4 n6 nand2"
    ∷ codes "x8 n5 n6 s nand2"
    ∷ codes "x9 n1 n4 co nand2"
    ∷ codes ".ends" ∷ [])

-- `a` where `s` is 0, and `b` where it is 1
unfoldable pub mux2_cell : List ℕ
mux2_cell =
    text_of (codes ".subckt mux2 s a b y"
    ∷ codes "x1 s sn inv"
    ∷ codes "mn1 a sn y gnd n"
    ∷ codes "mp1 a s y vdd p"
    ∷ codes "mn2 b s y gnd n"
    ∷ codes "mp2 b sn y vdd p"
    ∷ codes ".ends" ∷ [])

unfoldable pub inv_model : List ℕ
inv_model =
    text_of (codes ".model inv"
    ∷ codes ".inputs a"
    ∷ codes ".outputs y"
    ∷ codes ".names a y"
    ∷ codes "0 1"
    ∷ codes ".end" ∷ [])

unfoldable pub nand2_model : List ℕ
nand2_model =
    text_of (codes ".model nand2"
    ∷ codes ".inputs a b"
    ∷ codes ".outputs y"
    ∷ codes ".names a b y"
    ∷ codes "11 0"
    ∷ codes ".end" ∷ [])

unfoldable pub fa_model : List ℕ
fa_model =
    text_of (codes ".model fa"
    ∷ codes ".inputs a b c"
    ∷ codes ".outputs s co"
    ∷ codes ".names a b c s"
    ∷ codes "100 1"
    ∷ codes "010 1"
    ∷ codes "001 1"
    ∷ codes "111 1"
    ∷ codes ".names a b c co"
    ∷ codes "11- 1"
    ∷ codes "1-1 1"
    ∷ codes "-11 1"
    ∷ codes ".end" ∷ [])

unfoldable pub mux2_model : List ℕ
mux2_model =
    text_of (codes ".model mux2"
    ∷ codes ".inputs s a b"
    ∷ codes ".outputs y"
    ∷ codes ".names s a b y"
    ∷ codes "01- 1"
    ∷ codes "1-1 1"
    ∷ codes ".end" ∷ [])

-- the two operands and the outputs of a place among the ports of `top`
unfoldable pub operands : List ℕ
operands = codes " a% b%"

unfoldable pub outputs : List ℕ
outputs = codes " y%"

-- at each place an adder whose carry goes on to the next place, and a multiplexer of the second operand and the sum
unfoldable pub place_cards : List ℕ
place_cards =
    text_of (codes "xf% a% b% c% t% c+ fa"
    ∷ codes "xm% s b% t% y% mux2" ∷ [])

-- the same in the model
unfoldable pub place_models : List ℕ
place_models =
    text_of (codes ".subckt fa a=a% b=b% c=c% s=t% co=c+"
    ∷ codes ".subckt mux2 s=s a=b% b=t% y=y%" ∷ [])
