-- What is noted of attaches, by the frames that ask for them and by their replies, and the line of each for standard
-- error. The fields of the messages are those of attach(5) and error(5) of the Plan 9 manual; the line is this
-- project's.
use Rattle.std.specs.Prelude.{ℕ, List, [], ◌∷◌, ◌++◌, ◌==◌, ◌&&◌, Bool, Option, Some, None, codes, drop, length, map, nat_lt, slice_index, unwrap_or, if◌then◌else◌}
use Rattle.wire_base.specs.Readers.{string, value_of}
use Rattle.auth_program.specs.Log.{shown_byte}

-- for whom an attach was asked, and the text that refuses it, if it was refused
abbrev pub Note : Type 0
Note = List ℕ × Option (List ℕ)

-- the type of a message stands at 4
abbrev pub is_kind : ℕ → List ℕ → Bool
is_kind kind frame = nat_lt 4 (length frame) && slice_index frame 4 == kind

-- for whom a frame asks to attach: size[4] Tattach tag[2] fid[4] afid[4] uname[s] aname[s]
abbrev pub attacher : List ℕ → Option (List ℕ)
attacher frame = if is_kind 104 frame then value_of (string frame 15) else None

-- the text of a reply that refuses: size[4] Rerror tag[2] ename[s]
abbrev pub refusal_in : List ℕ → Option (List ℕ)
refusal_in reply = if is_kind 107 reply then Some (drop 9 reply) else None

-- what is noted of a frame and its reply
abbrev pub noted_of : Option (List ℕ) → List ℕ → List Note
noted_of None reply = []
noted_of (Some uname) reply = (uname, refusal_in reply) ∷ []

abbrev pub note_of : List ℕ → List ℕ → List Note
note_of frame reply = noted_of (attacher frame) reply

-- ---- lines

abbrev pub outcome_words : Option (List ℕ) → List ℕ
outcome_words refusal = unwrap_or refusal (codes "attached")

abbrev pub attach_text : List ℕ → Option (List ℕ) → List ℕ
attach_text uname refusal =
    codes "auth_attach: " ++ (map shown_byte uname ++ (codes ": " ++ (outcome_words refusal ++ 10 ∷ [])))
