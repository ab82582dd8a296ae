-- The lines of a script: what each says, and how it is written. Words have one blank between. A name is 1 to 16 of
-- `a` to `z` and `0` to `9`; a word of random bytes is 16 hexadecimal digits in lower case.
use Rattle.std.specs.Prelude.{◌≡◌, ℕ, List, ◌∷◌, ◌++◌, Bool, true, ◌&&◌, ◌||◌, ◌==◌, nat_le, nat_lt, length, codes}
use Rattle.std.specs.List.{list_all}
use Rattle.hex.specs.Hex.{encode_lower}
use Rattle.wire_base.specs.Texts.{is_text}
use Rattle.attr_tuples.specs.Forms.{is_dom}
use Rattle.world_scripts.specs.Pieces.{Piece, pieces_text, are_pieces}

pub data ScriptLine : Type 0 where
  -- the domain of the authentication server, a line of its keys, and one of who speaks for whom
  Dom : (dom : List ℕ) → ScriptLine
  AsKey : (tuple : List ℕ) → ScriptLine
  AsSpeak : (tuple : List ℕ) → ScriptLine
  -- its tables are read again: new ones, of which the lines behind tell
  Reload : ScriptLine
  -- a new agent, the same anew, and a line of its ctl
  Node : (node : List ℕ) → ScriptLine
  Restart : (node : List ℕ) → ScriptLine
  Ctl : (node line : List ℕ) → ScriptLine
  -- a new conversation on an agent, and its start, with the random bytes that it draws
  Open : (node conv : List ℕ) → ScriptLine
  Start : (conv word tuple : List ℕ) → ScriptLine
  Read : (conv : List ℕ) → ScriptLine
  Write : (conv : List ℕ) (pieces : List Piece) → ScriptLine
  -- the server's answer to a conversation's question, or that there is none
  Answer : (conv : List ℕ) (pieces : List Piece) → ScriptLine
  NoAnswer : (conv : List ℕ) → ScriptLine
  -- a request to a session of the server, with the random bytes that it draws
  AsGive : (session : List ℕ) (pieces : List Piece) (first second third : List ℕ) → ScriptLine
  Close : (conv : List ℕ) → ScriptLine

-- ---- how a line is written

-- what stands behind a blank
abbrev pub word : List ℕ → List ℕ
word text = 32 ∷ text

-- the text of a line
abbrev pub line_text : ScriptLine → List ℕ
line_text (Dom dom) = codes "dom" ++ word dom
line_text (AsKey tuple) = codes "askey" ++ word tuple
line_text (AsSpeak tuple) = codes "asspeak" ++ word tuple
line_text Reload = codes "reload"
line_text (Node node) = codes "node" ++ word node
line_text (Restart node) = codes "restart" ++ word node
line_text (Ctl node line) = codes "ctl" ++ word (node ++ word line)
line_text (Open node conv) = codes "open" ++ word (node ++ word conv)
line_text (Start conv random tuple) = codes "start" ++ word (conv ++ word (encode_lower random ++ word tuple))
line_text (Read conv) = codes "read" ++ word conv
line_text (Write conv pieces) = codes "write" ++ word (conv ++ word (pieces_text pieces))
line_text (Answer conv pieces) = codes "answer" ++ word (conv ++ word (pieces_text pieces))
line_text (NoAnswer conv) = codes "noanswer" ++ word conv
line_text (AsGive session pieces first second third) =
    codes "asgive" ++ word
    (session ++ word (pieces_text pieces
    ++ word (encode_lower first ++ word (encode_lower second ++ word (encode_lower third)))))
line_text (Close conv) = codes "close" ++ word conv

-- ---- which lines can be written

abbrev pub is_name_byte : ℕ → Bool
is_name_byte b = nat_le 97 b && nat_le b 122 || nat_le 48 b && nat_le b 57

-- a name of an agent, a conversation or a session
abbrev pub is_name : List ℕ → Bool
is_name text = nat_le 1 (length text) && (nat_le (length text) 16 && list_all is_name_byte text)

-- a domain is text (UTF-8 without NUL), and has the form of one
abbrev pub is_domain : List ℕ → Bool
is_domain text = is_text text && is_dom text

-- random bytes: eight of them
abbrev pub is_random : List ℕ → Bool
is_random bytes = (length bytes == 8) && list_all (λ b. nat_lt b 256) bytes

-- whether the names, bytes and pieces of a line are such; a line of ctl and a tuple may be any text
abbrev pub is_formed : ScriptLine → Bool
is_formed (Dom dom) = is_domain dom
is_formed (AsKey tuple) = true
is_formed (AsSpeak tuple) = true
is_formed Reload = true
is_formed (Node node) = is_name node
is_formed (Restart node) = is_name node
is_formed (Ctl node line) = is_name node
is_formed (Open node conv) = is_name node && is_name conv
is_formed (Start conv random tuple) = is_name conv && is_random random
is_formed (Read conv) = is_name conv
is_formed (Write conv pieces) = is_name conv && are_pieces pieces
is_formed (Answer conv pieces) = is_name conv && are_pieces pieces
is_formed (NoAnswer conv) = is_name conv
is_formed (AsGive session pieces first second third) =
    is_name session && (are_pieces pieces && (is_random first && (is_random second && is_random third)))
is_formed (Close conv) = is_name conv

-- a text is that of a line that can be written
pub record IsWritten (text : List ℕ) (line : ScriptLine) : Type 0 where
  pub same : text ≡ line_text line
  pub formed : is_formed line ≡ true
