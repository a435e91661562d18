-- Lines that are made piece by piece.
use Rattle.std.proofs.Common.{◌≡◌, ℕ, suc, ◌+◌, List, [], ◌∷◌, ◌++◌, refl, sym, ap, ◌∙◌, append_assoc, append-nil, arith}
use Rattle.std.specs.Prelude.{codes, flat_map}
use Rattle.std.proofs.lemmas.Grind.{flat_map-append}
use Rattle.model_writer.specs.Pieces.{title, words_behind}
use Rattle.model_writer.specs.Shapes.{line_cover, line_covers, root_cover}
use Rattle.model_writer.specs.declared.model.NodeLine.{NodeLine}
use Rattle.plain_models.specs.Lines.{ended, text_of}
use Rattle.plain_models.specs.Texts.{PlainCover, PlainModel, clock_lines, cover_lines, interface_lines, model_text}
use Rattle.vrt_model.specs.VerdictText.{spaced}
use Rattle.written_models.specs.Written.{constants, numbered, variable_at}

-- ---- pieces

-- one piece behind another
pub then : (t x y a b : List ℕ) → x ≡ t ++ a → y ≡ x ++ b → y ≡ t ++ (a ++ b)
then t x y a b p q = q ∙ ap (λ z. z ++ b) p ∙ append_assoc t a b

-- what was made of a text is this piece too
pub as_piece : (t x a b : List ℕ) → x ≡ t ++ a → a ≡ b → x ≡ t ++ b
as_piece t x a b p q = p ∙ ap (λ z. t ++ z) q

-- pieces before what is left: where one piece is made, less is left
pub piece_made : (t x y a rest all : List ℕ) → x ++ (a ++ rest) ≡ t ++ all → y ≡ x ++ a → y ++ rest ≡ t ++ all
piece_made t x y a rest all p q = ap (λ z. z ++ rest) q ∙ append_assoc x a rest ∙ p

four_right : (a b c d : List ℕ) → ((a ++ b) ++ c) ++ d ≡ a ++ (b ++ (c ++ d))
four_right a b c d = append_assoc (a ++ b) c d ∙ append_assoc a b (c ++ d)

-- ---- lines

-- words with spaces between them: the first, and each of the others behind a space
pub spaced_words : (w : List ℕ) (ws : List (List ℕ)) → w ++ words_behind ws ≡ spaced (w ∷ ws)
spaced_words w [] = append-nil w
spaced_words w (v ∷ ws) = ap (λ t. w ++ 32 ∷ t) (spaced_words v ws)

-- a line of a word and others
pub line_is : (w : List ℕ) (ws : List (List ℕ)) → (w ++ words_behind ws) ++ 10 ∷ [] ≡ ended (spaced (w ∷ ws))
line_is w ws = ap (λ t. t ++ 10 ∷ []) (spaced_words w ws)

-- the first line
pub title_is : (name : List ℕ) → (codes ".model" ++ 32 ∷ name) ++ 10 ∷ [] ≡ ended (spaced (title name))
title_is name = refl

-- the line of clocks, of which there are some
pub clocks_are : (clocks : List (List ℕ)) (first : List ℕ) (behind : List (List ℕ)) → clocks ≡ first ∷ behind → ended (spaced (codes ".clock" ∷ clocks)) ≡ text_of (clock_lines clocks)
clocks_are clocks first behind e =
    rw e (sym (append-nil (ended (spaced (codes ".clock" ∷ first ∷ behind)))))

-- ---- covers

-- the signals of a node
pub signals_are : (v lo hi k : List ℕ)
    → (((codes ".names " ++ v) ++ 32 ∷ lo) ++ 32 ∷ hi) ++ 32 ∷ k ≡ spaced (codes ".names" ∷ v ∷ lo ∷ hi ∷ k ∷ [])
signals_are v lo hi k =
    append_assoc ((codes ".names " ++ v) ++ 32 ∷ lo) (32 ∷ hi) (32 ∷ k)
    ∙ append_assoc (codes ".names " ++ v) (32 ∷ lo) (32 ∷ (hi ++ 32 ∷ k))
    ∙ append_assoc (codes ".names ") v (32 ∷ (lo ++ 32 ∷ (hi ++ 32 ∷ k)))

-- the cover of a node
pub node_is : (variables : List (List ℕ)) (k : ℕ) (node : NodeLine)
    → spaced (codes ".names" ∷ variable_at variables node.variable ∷ numbered node.low ∷ numbered node.high ∷ numbered k ∷ []) ++ codes "\n01- 1\n1-1 1\n"
    ≡ text_of (cover_lines (line_cover variables k node))
node_is variables k node =
    sym (append_assoc (spaced (codes ".names" ∷ variable_at variables node.variable ∷ numbered node.low ∷ numbered node.high ∷ numbered k ∷ [])) (10 ∷ []) (codes "01- 1\n1-1 1\n"))

-- those of nodes, the first before the others
pub nodes_are : (variables : List (List ℕ)) (k : ℕ) (node : NodeLine) (behind : List NodeLine)
    → text_of (cover_lines (line_cover variables k node)) ++ text_of (flat_map cover_lines (line_covers variables (suc k) behind))
    ≡ text_of (flat_map cover_lines (line_covers variables k (node ∷ behind)))
nodes_are variables k node behind = sym (flat_map-append (λ words. ended (spaced words)) (cover_lines (line_cover variables k node)) (flat_map cover_lines (line_covers variables (suc k) behind)))

-- so where the cover of the first node of what is left is made, those of the nodes behind it are left
pub nodes_on : (variables : List (List ℕ)) (k : ℕ) (node : NodeLine) (behind left : List NodeLine) (t x y all : List ℕ) → left ≡ node ∷ behind
    → x ++ text_of (flat_map cover_lines (line_covers variables k left)) ≡ t ++ all → y ≡ x ++ text_of (cover_lines (line_cover variables k node))
    → y ++ text_of (flat_map cover_lines (line_covers variables (k + 1) behind)) ≡ t ++ all
nodes_on variables k node behind left t x y all e p q =
    let next : suc k ≡ k + 1 = omega arith in
    let rest : ℕ → List ℕ = λ n. text_of (flat_map cover_lines (line_covers variables n behind)) in
    ap (λ n. y ++ rest n) (sym next)
    ∙ piece_made t x y (text_of (cover_lines (line_cover variables k node))) (rest (suc k)) all
    (ap (λ s. x ++ s) (nodes_are variables k node behind) ∙ ap (λ ns. x ++ text_of (flat_map cover_lines (line_covers variables k ns))) (sym e) ∙ p) q

-- the cover of an output
pub root_is : (name : List ℕ) (root : ℕ)
    → ((codes ".names" ++ 32 ∷ numbered root) ++ 32 ∷ name) ++ codes "\n1 1\n" ≡ text_of (cover_lines (root_cover name root))
root_is name root =
    ap (λ t. t ++ codes "\n1 1\n") (append_assoc (codes ".names") (32 ∷ numbered root) (32 ∷ name))
    ∙ sym (append_assoc (spaced (codes ".names" ∷ numbered root ∷ name ∷ [])) (10 ∷ []) (codes "1 1\n"))

-- the constants
pub constants_are :
    (((codes ".names" ++ 32 ∷ numbered 0) ++ codes "\n.names") ++ 32 ∷ numbered 1) ++ codes "\n1\n" ≡ text_of (flat_map cover_lines constants)
constants_are =
    let one : List ℕ = codes ".names" ++ 32 ∷ numbered 0 in
    let two : List ℕ = codes ".names" ++ 32 ∷ numbered 1 in
    ap (λ t. t ++ codes "\n1\n") (append_assoc one (codes "\n.names") (32 ∷ numbered 1))
    ∙ append_assoc one (10 ∷ two) (codes "\n1\n")
    ∙ sym (append_assoc one (10 ∷ []) ((two ++ 10 ∷ []) ++ codes "1\n") ∙ ap (λ t. one ++ 10 ∷ t) (append_assoc two (10 ∷ []) (codes "1\n")))

-- covers of three kinds
pub covers_are : (a b c : List PlainCover)
    → (text_of (flat_map cover_lines a) ++ text_of (flat_map cover_lines b)) ++ text_of (flat_map cover_lines c) ≡ text_of (flat_map cover_lines ((a ++ b) ++ c))
covers_are a b c =
    ap (λ t. t ++ text_of (flat_map cover_lines c)) (sym (flat_map-append (λ words. ended (spaced words)) (flat_map cover_lines a) (flat_map cover_lines b)))
    ∙ sym (flat_map-append (λ words. ended (spaced words)) (flat_map cover_lines a ++ flat_map cover_lines b) (flat_map cover_lines c))
    ∙ ap text_of (ap (λ t. t ++ flat_map cover_lines c) (sym (flat_map-append cover_lines a b)) ∙ sym (flat_map-append cover_lines (a ++ b) c))

-- ---- the whole

-- the name and the interface
pub interface_is : (m : PlainModel)
    → ((ended (spaced (title m.name)) ++ ended (spaced (codes ".inputs" ∷ m.inputs))) ++ text_of (clock_lines m.clocks)) ++ ended (spaced (codes ".outputs" ∷ m.outputs))
    ≡ text_of (title m.name ∷ interface_lines m)
interface_is m =
    let outputs : List ℕ = ended (spaced (codes ".outputs" ∷ m.outputs)) in
    four_right (ended (spaced (title m.name))) (ended (spaced (codes ".inputs" ∷ m.inputs))) (text_of (clock_lines m.clocks)) outputs
    ∙ ap (λ t. ended (spaced (title m.name)) ++ (ended (spaced (codes ".inputs" ∷ m.inputs)) ++ t))
    (ap (λ t. text_of (clock_lines m.clocks) ++ t) (sym (append-nil outputs))
    ∙ sym (flat_map-append (λ words. ended (spaced words)) (clock_lines m.clocks) ((codes ".outputs" ∷ m.outputs) ∷ [])))

-- the interface, the covers and the end
pub model_is : (m : PlainModel) (a b c : List PlainCover) → m.covers ≡ (a ++ b) ++ c
    → (((text_of (title m.name ∷ interface_lines m) ++ text_of (flat_map cover_lines a)) ++ text_of (flat_map cover_lines b)) ++ text_of (flat_map cover_lines c)) ++ codes ".end\n"
    ≡ model_text m
model_is m a b c e =
    let front : List ℕ = text_of (title m.name ∷ interface_lines m) in
    let one : List ℕ = text_of (flat_map cover_lines a) in
    let two : List ℕ = text_of (flat_map cover_lines b) in
    let three : List ℕ = text_of (flat_map cover_lines c) in
    let covers : (one ++ two) ++ three ≡ text_of (flat_map cover_lines m.covers) = covers_are a b c ∙ ap (λ cs. text_of (flat_map cover_lines cs)) (sym e) in
    ap (λ t. t ++ codes ".end\n")
    (ap (λ t. t ++ three) (append_assoc front one two) ∙ append_assoc front (one ++ two) three
    ∙ ap (λ t. front ++ t) covers
    ∙ sym (flat_map-append (λ words. ended (spaced words)) (title m.name ∷ interface_lines m) (flat_map cover_lines m.covers)))
    ∙ sym (flat_map-append (λ words. ended (spaced words)) ((title m.name ∷ interface_lines m) ++ flat_map cover_lines m.covers) ((codes ".end" ∷ []) ∷ []))
