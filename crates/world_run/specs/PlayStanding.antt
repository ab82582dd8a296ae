-- What is known of the conversations of a network by their names. This serves proofs alone.
use Rattle.std.specs.Prelude.{◌≡◌, ℕ, List, [], ◌∷◌, map, filter, true, false, Option, Some, None}
use Rattle.std.specs.Str.{bytes_eq}
use Rattle.world_history.specs.Acts.{Act, Talk, has_name, is_node, opened_names, talk_of, talks}
use Rattle.world_history.specs.Worlds.{outstanding}

-- the conversations that are open on a node, with their fids
abbrev pub conv_on : List ℕ → List Talk → List (List ℕ × ℕ)
conv_on node talks = map (λ t. (t.conv, t.fid)) (filter (λ t. bytes_eq t.node node) talks)

-- conversations don't have this name
abbrev pub AreOthers : List ℕ → List Talk → Type 0
AreOthers conv [] = Unit {0}
AreOthers conv (t ∷ more) = (bytes_eq t.conv conv ≡ false) × AreOthers conv more

-- those that have this name are on this node
abbrev pub AreOn : List ℕ → List ℕ → List Talk → Type 0
AreOn conv node [] = Unit {0}
AreOn conv node (t ∷ more) = (bytes_eq t.conv conv ≡ true → bytes_eq node t.node ≡ true) × AreOn conv node more

-- no conversation of this name was opened
pub record IsFree (acts : List Act) (conv : List ℕ) : Type 0 where
  pub free : has_name conv (opened_names acts) ≡ false
  pub asks : outstanding acts conv ≡ None
  pub others : AreOthers conv (talks acts)

-- one was, and was closed
pub record IsClosed (acts : List Act) (conv : List ℕ) : Type 0 where
  pub taken : has_name conv (opened_names acts) ≡ true
  pub others : AreOthers conv (talks acts)

-- one is open, on this node, by this fid, with this question outstanding
pub record IsOpen (acts : List Act) (conv node : List ℕ) (fid : ℕ) (call : Option ℕ) : Type 0 where
  pub taken : has_name conv (opened_names acts) ≡ true
  pub found : talk_of acts conv ≡ Some (record { conv = conv; node = node; fid = fid })
  pub asks : outstanding acts conv ≡ call
  pub made : is_node acts node ≡ true
  pub alone : AreOn conv node (talks acts)

-- a question, or else another
abbrev pub or_else : Option ℕ → Option ℕ → Option ℕ
or_else None call = call
or_else (Some number) call = Some number
