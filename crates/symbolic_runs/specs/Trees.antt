-- Messages as trees, as in the symbolic model of protocols (Dolev and Yao, On the Security of Public Key Protocols,
-- 1983): atoms that differ by their constructors and numbers, and what is joined, sealed and digested from them.
use Rattle.std.specs.Prelude.{ℕ, zero, suc, List, Bool, true, false, ◌&&◌, ◌==◌, Option, Some, None}
use Rattle.std.specs.Str.{bytes_eq}
use Rattle.symbolic_runs.specs.declared.kind.MacKind.{MacKind}
use Rattle.symbolic_runs.specs.declared.kind.MacKind.TheVariants.{Apop, Cram}

mutual
  pub data Tree : Type 0 where
    -- bytes that anybody may know
    plain : List ℕ → Tree
    -- the random word of a conversation, by the number of its start
    nonce : ℕ → Tree
    -- the digits of a word of the authentication server, by the number of the request
    challenge : ℕ → Tree
    -- the long-lived key of a name
    long_key : List ℕ → Tree
    -- the ticket key made at a request
    ticket_key : ℕ → Tree
    -- a key made up for a name that has none
    junk_key : ℕ → Tree
    -- the password of a name
    password : List ℕ → Tree
    -- pieces one behind the other
    joined : Trees → Tree
    -- a body sealed under a key, the key first
    seal : Tree → Tree → Tree
    -- the digest of a text under a secret, the secret first
    digest : MacKind → Tree → Tree → Tree

  pub data Trees : Type 0 where
    none : Trees
    piece : Tree → Trees → Trees

-- the piece at a place, counted from 0
abbrev pub piece_at : Trees → ℕ → Option Tree
piece_at none index = None
piece_at (piece t ts) zero = Some t
piece_at (piece t ts) (suc index) = piece_at ts index

abbrev pub same_kind : MacKind → MacKind → Bool
same_kind Apop Apop = true
same_kind Cram Cram = true
same_kind a b = false

-- whether two trees are equal
abbrev mutual
  pub same_tree : Tree → Tree → Bool
  same_tree (plain a) (plain b) = bytes_eq a b
  same_tree (nonce a) (nonce b) = a == b
  same_tree (challenge a) (challenge b) = a == b
  same_tree (long_key a) (long_key b) = bytes_eq a b
  same_tree (ticket_key a) (ticket_key b) = a == b
  same_tree (junk_key a) (junk_key b) = a == b
  same_tree (password a) (password b) = bytes_eq a b
  same_tree (joined a) (joined b) = same_trees a b
  same_tree (seal k a) (seal l b) = same_tree k l && same_tree a b
  same_tree (digest i p a) (digest j q b) = same_kind i j && (same_tree p q && same_tree a b)
  same_tree a b = false

  pub same_trees : Trees → Trees → Bool
  same_trees none none = true
  same_trees (piece a more) (piece b others) = same_tree a b && same_trees more others
  same_trees a b = false

-- whether a tree is an atom, whose bytes a reading gives
abbrev pub is_atom : Tree → Bool
is_atom (nonce i) = true
is_atom (challenge i) = true
is_atom (long_key name) = true
is_atom (ticket_key i) = true
is_atom (junk_key i) = true
is_atom (password name) = true
is_atom t = false
