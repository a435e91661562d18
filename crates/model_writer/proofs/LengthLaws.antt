-- How long lines are.
use Rattle.std.proofs.Common.{◌≡◌, ℕ, suc, ◌+◌, List, [], ◌∷◌, ◌++◌, length, length-append, sym, ap, ◌∙◌, arith}
use Rattle.std.specs.Prelude.{codes, flat_map}
use Rattle.model_writer.proofs.TextLaws.{clocks_are, constants_are, interface_is, line_is, model_is}
use Rattle.model_writer.specs.Pieces.{title, words_behind}
use Rattle.plain_models.specs.Lines.{ended, text_of}
use Rattle.plain_models.specs.Texts.{PlainCover, PlainModel, clock_lines, cover_lines, interface_lines, model_text}
use Rattle.vrt_model.specs.VerdictText.{spaced}
use Rattle.written_models.specs.Written.{constants, numbered}

-- pieces
two : (a b : List ℕ) → length (a ++ b) ≡ length a + length b
two a b = length-append a b

-- a line of a word and others
pub line_length : (w : List ℕ) (ws : List (List ℕ)) → length (ended (spaced (w ∷ ws))) ≡ length w + length (words_behind ws) + 1
line_length w ws =
    ap length (sym (line_is w ws)) ∙ two (w ++ words_behind ws) (10 ∷ []) ∙ ap (λ n. n + 1) (two w (words_behind ws))

-- the first line
pub title_length : (name : List ℕ) → length (ended (spaced (title name))) ≡ 8 + length name
title_length name =
    let all : length (ended (spaced (title name))) ≡ length (codes ".model" ++ 32 ∷ name) + 1 = two (codes ".model" ++ 32 ∷ name) (10 ∷ []) in
    let front : length (codes ".model" ++ 32 ∷ name) ≡ 6 + suc (length name) = two (codes ".model") (32 ∷ name) in
    omega (arith, all, front)

-- the line of clocks, of which there are some
pub clocks_length : (clocks : List (List ℕ)) (first : List ℕ) (behind : List (List ℕ)) → clocks ≡ first ∷ behind
    → length (text_of (clock_lines clocks)) ≡ 6 + length (words_behind clocks) + 1
clocks_length clocks first behind e = ap length (sym (clocks_are clocks first behind e)) ∙ line_length (codes ".clock") clocks

-- the name and the interface
pub interface_length : (m : PlainModel)
    → length (text_of (title m.name ∷ interface_lines m))
    ≡ (8 + length m.name) + (7 + length (words_behind m.inputs) + 1) + (length (text_of (clock_lines m.clocks)) + (8 + length (words_behind m.outputs) + 1))
interface_length m =
    let a : List ℕ = ended (spaced (title m.name)) in
    let b : List ℕ = ended (spaced (codes ".inputs" ∷ m.inputs)) in
    let c : List ℕ = text_of (clock_lines m.clocks) in
    let d : List ℕ = ended (spaced (codes ".outputs" ∷ m.outputs)) in
    let all : length (text_of (title m.name ∷ interface_lines m)) ≡ length ((a ++ b) ++ c) + length d = ap length (sym (interface_is m)) ∙ two ((a ++ b) ++ c) d in
    let third : length ((a ++ b) ++ c) ≡ length (a ++ b) + length c = two (a ++ b) c in
    let second : length (a ++ b) ≡ length a + length b = two a b in
    let name : length a ≡ 8 + length m.name = title_length m.name in
    let inputs : length b ≡ 7 + length (words_behind m.inputs) + 1 = line_length (codes ".inputs") m.inputs in
    let outputs : length d ≡ 8 + length (words_behind m.outputs) + 1 = line_length (codes ".outputs") m.outputs in
    omega (arith, all, third, second, name, inputs, outputs)

-- the constants
pub constants_length : length (text_of (flat_map cover_lines constants)) ≡ length (numbered 0) + length (numbered 1) + 18
constants_length =
    let one : List ℕ = numbered 0 in
    let other : List ℕ = numbered 1 in
    let all : length (text_of (flat_map cover_lines constants)) ≡ length (((codes ".names" ++ 32 ∷ one) ++ codes "\n.names") ++ 32 ∷ other) + 3 =
    ap length (sym constants_are) ∙ two (((codes ".names" ++ 32 ∷ one) ++ codes "\n.names") ++ 32 ∷ other) (codes "\n1\n") in
    let third : length (((codes ".names" ++ 32 ∷ one) ++ codes "\n.names") ++ 32 ∷ other) ≡ length ((codes ".names" ++ 32 ∷ one) ++ codes "\n.names") + suc (length other) =
    two ((codes ".names" ++ 32 ∷ one) ++ codes "\n.names") (32 ∷ other) in
    let second : length ((codes ".names" ++ 32 ∷ one) ++ codes "\n.names") ≡ length (codes ".names" ++ 32 ∷ one) + 7 = two (codes ".names" ++ 32 ∷ one) (codes "\n.names") in
    let first : length (codes ".names" ++ 32 ∷ one) ≡ 6 + suc (length one) = two (codes ".names") (32 ∷ one) in
    omega (arith, all, third, second, first)

-- all of it
pub model_length : (m : PlainModel) (b c : List PlainCover) → m.covers ≡ (constants ++ b) ++ c
    → length (model_text m)
    ≡ length (text_of (title m.name ∷ interface_lines m)) + (length (numbered 0) + length (numbered 1) + 18)
    + (length (text_of (flat_map cover_lines b)) + length (text_of (flat_map cover_lines c))) + 5
model_length m b c e =
    let front : List ℕ = text_of (title m.name ∷ interface_lines m) in
    let x : List ℕ = text_of (flat_map cover_lines constants) in
    let y : List ℕ = text_of (flat_map cover_lines b) in
    let z : List ℕ = text_of (flat_map cover_lines c) in
    let all : length (model_text m) ≡ length (((front ++ x) ++ y) ++ z) + 5 = ap length (sym (model_is m constants b c e)) ∙ two (((front ++ x) ++ y) ++ z) (codes ".end\n") in
    let third : length (((front ++ x) ++ y) ++ z) ≡ length ((front ++ x) ++ y) + length z = two ((front ++ x) ++ y) z in
    let second : length ((front ++ x) ++ y) ≡ length (front ++ x) + length y = two (front ++ x) y in
    let first : length (front ++ x) ≡ length front + length x = two front x in
    omega (arith, all, third, second, first, constants_length)
