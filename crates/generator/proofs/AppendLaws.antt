-- Texts to which one piece is added behind the other.
use Rattle.std.proofs.Common.{◌≡◌, ◌++◌, ℕ, List, ap, ◌∙◌, append_assoc}

-- two pieces behind the first text
pub then : (first second third a b : List ℕ) → second ≡ first ++ a → third ≡ second ++ b → third ≡ first ++ (a ++ b)
then first second third a b p q = q ∙ ap (λ t. t ++ b) p ∙ append_assoc first a b
