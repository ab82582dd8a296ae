-- Clean histories: ideal assumptions on a labelled history and a reading of its atoms, which no program checks. (i)
-- The reading spells each word, key and password by its atom, and different atoms of a kind differently. (ii) What is
-- taken is spelled by its label, and the label derives from what is known at its place: the keys and passwords of the
-- compromised key names, and the labels of what was given before (Dolev and Yao, On the Security of Public Key
-- Protocols, 1983). (iii) The label of a message whose tests all passed has the form of its move.
use Rattle.std.specs.Prelude.{◌≡◌, ℕ, ◌+◌, ◌*◌, ◌<◌, ◌^◌, List, [], ◌∷◌, ◌++◌, All, Bool, true, false, length, Option, Some, None, Ok, unwrap_or}
use Rattle.hex.specs.Hex.{encode_lower}
use Rattle.symbolic_runs.specs.Trees.{Tree, Trees, plain, nonce, challenge, long_key, ticket_key, junk_key, password, joined, seal, digest, none, piece}
use Rattle.symbolic_runs.specs.Derivations.{Derives}
use Rattle.symbolic_runs.specs.Spellings.{Atoms, bytes_of, spelling}
use Rattle.auth_tables.specs.Keys.{UserKey}
use Rattle.auth_server.specs.Answers.{word, word_key}
use Rattle.roles.specs.declared.key.SkKey.{SkKey}
use Rattle.wire_histories.specs.declared.step.Step.{Step}
use Rattle.wire_histories.specs.declared.step.Step.TheVariants.{Start, Out, In, Ask, Heard, Accept, AsGot, AsGave}
use Rattle.symbolic_runs.specs.Moves.{Role, client, server, mail_client, mail_server}
use Rattle.symbolic_runs.specs.Sessions.{Deed}
use Rattle.symbolic_runs.specs.Runs.{Setting as Symbolic, known, own_of}
use Rattle.wire_histories.specs.Histories.{History, replied}
use Rattle.wire_histories.specs.Legal.{Setting, Spoken, known_at}
use Rattle.clean_runs.specs.KeyNames.{key_name}
use Rattle.clean_runs.specs.Labels.{Labelling, starts_in, requests_in, labelled, dealt, taken}
use Rattle.clean_runs.specs.Runs.{deeds_by, deeds_for_deal, moves_by, number_of, role_by, run_from, setting_of}
use Rattle.clean_runs.specs.Forms.{IsAnswered, IsFormed}

-- it is so at each place: of the steps before it and of the step
abbrev pub AtEachPlace : History → (History → Step → Type 0) → Type 0
AtEachPlace history P = (later past : History) (step : Step) → history ≡ later ++ step ∷ past → P past step

-- ---- (i) the reading

-- it gives bytes
abbrev pub GivesBytes : Atoms → Type 0
GivesBytes atoms = (atom : Tree) (b : List ℕ) → bytes_of atoms atom ≡ Some b → All (λ n. n < 256) b

-- an atom has these bytes
abbrev pub Reads : Atoms → Tree → List ℕ → Type 0
Reads atoms atom b = bytes_of atoms atom ≡ Some b

-- the word of a start is read as its nonce; that of a mail client isn't used
abbrev pub ReadsWord : Atoms → Role → ℕ → List ℕ → Type 0
ReadsWord atoms client number random = Reads atoms (nonce number) random
ReadsWord atoms server number random = Reads atoms (nonce number) random
ReadsWord atoms (mail_client kind) number random = Unit {0}
ReadsWord atoms (mail_server kind) number random = Reads atoms (nonce number) random

-- the words of a request are read as the digits of its challenge and as its ticket key, and as two keys that are made
-- up
pub record ReadsWords (atoms : Atoms) (number : ℕ) (words : List (List ℕ)) : Type 0 where
  pub digits : Reads atoms (challenge number) (encode_lower (word 0 words))
  pub shared : Reads atoms (ticket_key number) (word_key (word 0 words))
  pub for_server : Reads atoms (junk_key (2 * number)) (word_key (word 1 words))
  pub for_client : Reads atoms (junk_key (2 * number + 1)) (word_key (word 2 words))

abbrev pub ReadsStep : Atoms → History → Step → Type 0
ReadsStep atoms past (Start conv protocol role random) = ReadsWord atoms (role_by protocol role) (starts_in past) random
ReadsStep atoms past (AsGot session b words) = ReadsWords atoms (requests_in past) words
ReadsStep atoms past step = Unit {0}

-- the keys and passwords of all tables of the authentication server are read as those of their key names
abbrev pub ReadsPassword : Atoms → List ℕ → Option (List ℕ) → Type 0
ReadsPassword atoms name None = Unit {0}
ReadsPassword atoms name (Some text) = Reads atoms (password name) text

abbrev pub ReadsTables : Atoms → Setting → Type 0
ReadsTables atoms z = (number : ℕ) (name : List ℕ) (key : UserKey) → (known_at z number).key name ≡ Some key
    → Reads atoms (long_key (key_name z.tables number name)) key.des
    × ReadsPassword atoms (key_name z.tables number name) key.password

-- the key that a conversation keeps is read as that of its holder, and of a mail client the password
abbrev pub ReadsKey : Atoms → Role → List ℕ → SkKey → Option (List ℕ) → Type 0
ReadsKey atoms client holder key secret = Reads atoms (long_key holder) key.des.0
ReadsKey atoms server holder key secret = Reads atoms (long_key holder) key.des.0
ReadsKey atoms (mail_client kind) holder key secret = Reads atoms (password holder) (unwrap_or secret [])
ReadsKey atoms (mail_server kind) holder key secret = Reads atoms (long_key holder) key.des.0

abbrev pub ReadsKept : Atoms → Role → List ℕ → Option (SkKey × Option (List ℕ)) → Type 0
ReadsKept atoms role holder None = Unit {0}
ReadsKept atoms role holder (Some (key, secret)) = ReadsKey atoms role holder key secret

abbrev pub ReadsSpoken : Atoms → Role → List ℕ → Option Spoken → Type 0
ReadsSpoken atoms role holder None = Unit {0}
ReadsSpoken atoms role holder (Some spoken) = ReadsKept atoms role holder spoken.key

abbrev pub ReadsHolder : Atoms → Setting → Labelling → History → Step → Type 0
ReadsHolder atoms z l past (Start conv protocol role random) =
    ReadsSpoken atoms (role_by protocol role) (l.holder conv) (z.spoken conv)
ReadsHolder atoms z l past step = Unit {0}

-- different words are read differently, and so are different keys and different passwords: all to which the reading
-- gives bytes, used or not
abbrev pub is_key : Tree → Bool
is_key (long_key name) = true
is_key (ticket_key number) = true
is_key (junk_key number) = true
is_key t = false

abbrev pub is_nonce : Tree → Bool
is_nonce (nonce number) = true
is_nonce t = false

abbrev pub is_challenge : Tree → Bool
is_challenge (challenge number) = true
is_challenge t = false

abbrev pub is_password : Tree → Bool
is_password (password name) = true
is_password t = false

abbrev pub AreApart : Atoms → (Tree → Bool) → Type 0
AreApart atoms kind = (a b : Tree) (text : List ℕ) → kind a ≡ true → kind b ≡ true → Reads atoms a text
    → Reads atoms b text → a ≡ b

-- a key has seven bytes
abbrev pub GivesSevens : Atoms → Type 0
GivesSevens atoms = (key : Tree) (b : List ℕ) → is_key key ≡ true → Reads atoms key b → length b ≡ 7

-- ---- (ii) what is taken

-- the public parts of a tree are bytes
abbrev mutual
  pub HoldsBytes : Tree → Type 0
  HoldsBytes (plain b) = All (λ n. n < 256) b
  HoldsBytes (joined ts) = AllHoldBytes ts
  HoldsBytes (seal k t) = HoldsBytes k × HoldsBytes t
  HoldsBytes (digest kind p t) = HoldsBytes p × HoldsBytes t
  HoldsBytes t = Unit {0}

  pub AllHoldBytes : Trees → Type 0
  AllHoldBytes none = Unit {0}
  AllHoldBytes (piece t ts) = HoldsBytes t × AllHoldBytes ts

-- the label of what a step takes spells it, and derives from what is known
pub record IsLabelled (atoms : Atoms) (s : Symbolic) (l : Labelling) (past : History) (b : List ℕ) : Type 0 where
  pub of_bytes : HoldsBytes (l.label (length past))
  pub spells : spelling atoms (l.label (length past)) ≡ Ok b
  pub derives : Derives (known s (run_from s l past)) (l.label (length past))

abbrev pub IsLabelledIf : Atoms → Symbolic → Labelling → History → Option (List ℕ) → Type 0
IsLabelledIf atoms s l past None = Unit {0}
IsLabelledIf atoms s l past (Some b) = IsLabelled atoms s l past b

abbrev pub LabelsStep : Atoms → Symbolic → Labelling → History → Step → Type 0
LabelsStep atoms s l past step = IsLabelledIf atoms s l past (taken step)

-- ---- (iii) what passed its tests

-- a conversation goes on: what came last to it has its form
abbrev pub GoesOn : Atoms → Symbolic → Labelling → List ℕ → History → Type 0
GoesOn atoms s l conv past = IsFormed atoms (own_of s (number_of conv past)) (s.role (number_of conv past))
    (moves_by (own_of s (number_of conv past)) (s.role (number_of conv past)) (labelled l conv past))

-- an answer is given: the request has its form
abbrev pub EachIsAnswered : Symbolic → List Deed → List Deed → Type 0
EachIsAnswered s before [] = Unit {0}
EachIsAnswered s before (deed ∷ deeds) = IsAnswered s before deed × EachIsAnswered s before deeds

abbrev pub Answers : Symbolic → Labelling → List ℕ → History → List ℕ → Type 0
Answers s l session past b = EachIsAnswered s (deeds_by (dealt l session past))
    (deeds_for_deal (deeds_by (dealt l session past)) (dealt l session past) (replied b) (requests_in past)
    (l.label (length past)))

abbrev pub FormsStep : Atoms → Symbolic → Labelling → History → Step → Type 0
FormsStep atoms s l past (Out number conv b) = GoesOn atoms s l conv past
FormsStep atoms s l past (In conv b) = GoesOn atoms s l conv past
FormsStep atoms s l past (Ask number conv b) = GoesOn atoms s l conv past
FormsStep atoms s l past (Heard conv b) = GoesOn atoms s l conv past
FormsStep atoms s l past (Accept conv cuid suid) = GoesOn atoms s l conv past
FormsStep atoms s l past (AsGave number session b) = Answers s l session past b
FormsStep atoms s l past step = Unit {0}

-- ---- all of it

pub record IsClean (history : History) (z : Setting) (atoms : Atoms) (l : Labelling) : Type 0 where
  pub short : length history < 2 ^ 31
  pub bytes : GivesBytes atoms
  pub sevens : GivesSevens atoms
  pub words : AtEachPlace history (ReadsStep atoms)
  pub tables : ReadsTables atoms z
  pub holders : AtEachPlace history (ReadsHolder atoms z l)
  pub nonces_apart : AreApart atoms is_nonce
  pub challenges_apart : AreApart atoms is_challenge
  pub keys_apart : AreApart atoms is_key
  pub passwords_apart : AreApart atoms is_password
  pub labels : AtEachPlace history (LabelsStep atoms (setting_of z l history) l)
  pub forms : AtEachPlace history (FormsStep atoms (setting_of z l history) l)
