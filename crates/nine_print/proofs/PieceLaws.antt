-- Pieces that are written one behind the other.
use Rattle.std.proofs.Common.{◌≡◌, ◌≤◌, ℕ, List, ◌++◌, length, take, sym, ap, ◌∙◌, append_assoc}
use Rattle.std.proofs.lemmas.List.{take_all}

-- one piece behind a base, and then another
two_pieces : (base b c x y : List ℕ) → b ≡ base ++ x → c ≡ b ++ y → c ≡ base ++ (x ++ y)
two_pieces base b c x y p q = q ∙ ap (λ (t : List ℕ). t ++ y) p ∙ append_assoc base x y

pub five_pieces : (old a b c d f x y z w v : List ℕ) → a ≡ old ++ x → b ≡ a ++ y → c ≡ b ++ z → d ≡ c ++ w → f ≡ d ++ v → f ≡ old ++ (x ++ y ++ z ++ w ++ v)
five_pieces old a b c d f x y z w v p q r s t =
    two_pieces old d f (x ++ y ++ z ++ w) v (two_pieces old c d (x ++ y ++ z) w (two_pieces old b c (x ++ y) z (two_pieces old a b x y p q) r) s) t

-- what is short is its own front
pub short_front : (bytes : List ℕ) → length bytes ≤ 64 → bytes ≡ take 64 bytes
short_front bytes le = sym (take_all 64 bytes le)
