-- How a term is written: in words, each term's own word first and then those of the terms in it, so that no brackets
-- are needed. How deep it is: an atom and public bytes are one deep, any other term one deeper than what is in it.
-- The form is this project's.
use Rattle.std.specs.Prelude.{◌≡◌, ℕ, suc, List, [], ◌∷◌, ◌++◌, max, codes}
use Rattle.std.specs.Fmt.{decimal}
use Rattle.symbolic_runs.specs.declared.kind.MacKind.{MacKind}
use Rattle.symbolic_runs.specs.declared.kind.MacKind.TheVariants.{Apop, Cram}
use Rattle.symbolic_runs.specs.Trees.{Tree, plain, nonce, challenge, long_key, ticket_key, junk_key, password, joined, seal, digest, Trees, none, piece}
use Rattle.trace_labels.specs.Words.{Word, IsSmall, IsNumber, IsHex, IsKeyName}

abbrev pub kind_word : MacKind → Word
kind_word Apop = codes "apop"
kind_word Cram = codes "cram"

-- an atom: its word, and one that tells which
abbrev pub IsAtomOf : List ℕ → (Word → Type 0) → List Word → Type 0
IsAtomOf name Says words = (word : Word) × (words ≡ name ∷ word ∷ []) × Says word

-- how many terms are joined
abbrev pub count : Trees → ℕ
count none = 0
count (piece t ts) = suc (count ts)

abbrev mutual
  -- these words are the term
  pub IsTerm : Tree → List Word → Type 0
  IsTerm (plain bytes) words = IsAtomOf (codes "pub") (IsHex bytes) words
  IsTerm (nonce number) words = IsAtomOf (codes "nonce") (IsNumber number) words
  IsTerm (challenge number) words = IsAtomOf (codes "aschal") (IsNumber number) words
  IsTerm (long_key name) words = IsAtomOf (codes "lkey") (IsKeyName name) words
  IsTerm (ticket_key number) words = IsAtomOf (codes "skey") (IsNumber number) words
  IsTerm (junk_key number) words = IsAtomOf (codes "junk") (IsNumber number) words
  IsTerm (password name) words = IsAtomOf (codes "pw") (IsKeyName name) words
  IsTerm (joined ts) words =
      (pieces : List Word) × (words ≡ codes "cat" ∷ decimal (count ts) ∷ pieces) × IsSmall (count ts)
      × AreTerms ts pieces
  IsTerm (seal k t) words =
      (key body : List Word) × (words ≡ codes "seal" ∷ (key ++ body)) × IsTerm k key × IsTerm t body
  IsTerm (digest kind p t) words = (secret text : List Word) × (words ≡ codes "mac" ∷ kind_word kind ∷ (secret ++ text))
      × IsTerm p secret × IsTerm t text

  -- these words are the terms, one behind the other
  pub AreTerms : Trees → List Word → Type 0
  AreTerms none words = words ≡ []
  AreTerms (piece t ts) words =
      (first others : List Word) × (words ≡ first ++ others) × IsTerm t first × AreTerms ts others

abbrev mutual
  pub depth : Tree → ℕ
  depth (joined ts) = suc (depth_all ts)
  depth (seal k t) = suc (max (depth k) (depth t))
  depth (digest kind p t) = suc (max (depth p) (depth t))
  depth t = 1

  pub depth_all : Trees → ℕ
  depth_all none = 0
  depth_all (piece t ts) = max (depth t) (depth_all ts)
