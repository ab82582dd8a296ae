-- The shapes of messages, each told piece by piece, as the code compares them: what is made of a tree's own parts and
-- then compared with it says the same. Of the code alone.
use Rattle.std.specs.Prelude.{ℕ, List, [], ◌∷◌, Bool, true, false, ◌&&◌, Option, Some, None}
use Rattle.symbolic_runs.specs.Trees.{Tree, plain, seal, same_tree}
use Rattle.symbolic_runs.specs.Forms.{answer_ok, authenticator, by_client, for_client, for_server, tickets, vouch}
use Rattle.symbolic_runs.specs.Gifts.{body, opened, part, ticket_like}
use Rattle.symbolic_runs.specs.Moves.{Own}

-- bytes that anybody may know
abbrev pub is_public : Tree → Bool
is_public (plain b) = true
is_public t = false

-- a joined tree whose pieces are so
abbrev pub of_pieces : (List Tree → Bool) → Option (List Tree) → Bool
of_pieces are (Some ts) = are ts
of_pieces are None = false

abbrev pub are_request : List ℕ → Tree → List Tree → Bool
are_request kind chal (n ∷ a ∷ d ∷ x ∷ h ∷ u ∷ []) =
    same_tree n (plain kind)
    && (is_public a && (is_public d && (same_tree x chal && (is_public h && is_public u))))
are_request kind chal ts = false

abbrev pub are_ticket : List ℕ → Tree → List Tree → Bool
are_ticket number chal (n ∷ x ∷ c ∷ u ∷ k ∷ []) =
    same_tree n (plain number) && (same_tree x chal && (is_public c && is_public u))
are_ticket number chal ts = false

abbrev pub are_authenticator : List ℕ → Tree → List Tree → Bool
are_authenticator number chal (n ∷ x ∷ id ∷ []) =
    same_tree n (plain number) && (same_tree x chal && same_tree id (plain (0 ∷ 0 ∷ 0 ∷ 0 ∷ [])))
are_authenticator number chal ts = false

-- a client's answer: a ticket for it with this challenge, and whatever it hands on
abbrev pub is_answer : Own → Tree → Tree → Bool
is_answer own chal a = same_tree a (tickets (seal own.key (ticket_like for_client chal (opened a))) (part a 2))

abbrev pub are_answer : Own → Tree → List Tree → Bool
are_answer own chal (n ∷ t ∷ handed ∷ []) =
    same_tree n (plain answer_ok) && same_tree t (seal own.key (ticket_like for_client chal (body t)))
are_answer own chal ts = false

-- a ticket under the own key with the own word, and an authenticator under the ticket's key
abbrev pub is_ticket_for : Own → Tree → Bool
is_ticket_for own t = same_tree t (seal own.key (ticket_like for_server own.word (body t)))

abbrev pub proves_ticket : Own → Tree → Tree → Bool
proves_ticket own t proof = same_tree proof (seal (part (body t) 4) (authenticator by_client own.word))

abbrev pub are_shown : Own → List Tree → Bool
are_shown own (t ∷ proof ∷ []) = is_ticket_for own t && proves_ticket own t proof
are_shown own ts = false

abbrev pub is_vouch : Own → Tree → Bool
is_vouch own a = same_tree a (vouch (seal own.key (ticket_like for_server own.word (opened a)))
    (seal (part (opened a) 4) (authenticator by_client own.word)))

abbrev pub are_vouch : Own → List Tree → Bool
are_vouch own (n ∷ t ∷ proof ∷ []) = same_tree n (plain answer_ok) && (is_ticket_for own t && proves_ticket own t proof)
are_vouch own ts = false

abbrev pub are_challenge : List Tree → Bool
are_challenge (head ∷ chal ∷ []) = is_public head
are_challenge ts = false
