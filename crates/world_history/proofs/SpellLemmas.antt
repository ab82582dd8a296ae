-- Pieces spelled one behind the other.
use Rattle.std.proofs.Common.{◌≡◌, ℕ, List, [], ◌∷◌, ◌++◌, append_assoc, append-nil, Option, Some, None, refl, sym, ap, ◌∙◌}
use Rattle.world_scripts.specs.Pieces.{Piece}
use Rattle.world_history.specs.Scripts.{joined, piece_in, spelled}

pub none_spelled : (o : Option (List ℕ)) → joined (Some []) o ≡ o
none_spelled None = refl
none_spelled (Some rest) = refl

joined_more : (all bytes : List ℕ) (o : Option (List ℕ)) → joined (Some (all ++ bytes)) o ≡ joined (Some all) (joined (Some bytes) o)
joined_more all bytes None = refl
joined_more all bytes (Some rest) = ap Some (append_assoc all bytes rest)

-- one piece more
pub more_spelled : (recorded : List (List ℕ)) (all bytes : List ℕ) (piece : Piece) (left rest whole : List Piece) → joined (Some all) (spelled recorded left) ≡ spelled recorded whole
    → left ≡ piece ∷ rest → Some bytes ≡ piece_in recorded piece → joined (Some (all ++ bytes)) (spelled recorded rest) ≡ spelled recorded whole
more_spelled recorded all bytes piece left rest whole so is found =
    joined_more all bytes (spelled recorded rest)
    ∙ (ap (λ (o : Option (List ℕ)). joined (Some all) (joined o (spelled recorded rest))) found
    ∙ (ap (λ (ps : List Piece). joined (Some all) (spelled recorded ps)) (sym is) ∙ so))

-- one that isn't recorded
pub none_found : (recorded : List (List ℕ)) (all : List ℕ) (piece : Piece) (left rest whole : List Piece) → joined (Some all) (spelled recorded left) ≡ spelled recorded whole
    → left ≡ piece ∷ rest → None ≡ piece_in recorded piece → None ≡ spelled recorded whole
none_found recorded all piece left rest whole so is none =
    ap (λ (o : Option (List ℕ)). joined (Some all) (joined o (spelled recorded rest))) none
    ∙ (ap (λ (ps : List Piece). joined (Some all) (spelled recorded ps)) (sym is) ∙ so)

-- no piece is left
pub all_spelled : (recorded : List (List ℕ)) (all : List ℕ) (left whole : List Piece) → joined (Some all) (spelled recorded left) ≡ spelled recorded whole
    → left ≡ [] → Some all ≡ spelled recorded whole
all_spelled recorded all left whole so none =
    ap Some (sym (append-nil all)) ∙ (ap (λ (ps : List Piece). joined (Some all) (spelled recorded ps)) (sym none) ∙ so)
