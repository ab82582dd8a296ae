-- What is asked at a port, one call behind the other.
use Rattle.std.proofs.Common.{◌≡◌, ℕ, List, [], ◌∷◌, ◌++◌, map, reverse, sym, ap, ◌∙◌, append_assoc}
use Rattle.std.proofs.lemmas.List.{map-append, reverse-append}
use Rattle.doors.specs.Calls.{PortCall, Closed}
use Rattle.doors.specs.Requests.{closings}

-- a conversation is closed before the others
pub closed_first : (conv : ℕ) (convs : List ℕ) (past : List PortCall) → closings convs ++ Closed conv ∷ past ≡ closings (conv ∷ convs) ++ past
closed_first conv convs past =
    sym (append_assoc (closings convs) (Closed conv ∷ []) past)
    ∙ ap (λ (calls : List PortCall). calls ++ past) (sym (ap (λ (ns : List ℕ). map Closed ns) (reverse-append (conv ∷ []) convs) ∙ map-append Closed (reverse convs) (conv ∷ [])))

-- a call that was made first
pub called_first : (calls past : List PortCall) (first : PortCall) → calls ++ first ∷ past ≡ (calls ++ first ∷ []) ++ past
called_first calls past first = sym (append_assoc calls (first ∷ []) past)
