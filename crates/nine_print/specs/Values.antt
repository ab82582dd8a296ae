-- The values of a message as text of one line, in the manner of Plan 9's fcall format (fcall(2)): numbers in decimal,
-- a qid as path, version and type, bytes as text where all are printable, else as hexadecimal digits. All of it is
-- printable ASCII. Of a content nothing is shown behind the `=` of what may be a secret attribute, and unless secrets
-- are asked for nothing where its front isn't text: it may be a ticket, or what `authinfo` gives.
use Rattle.std.specs.Prelude.{ℕ, List, [], ◌∷◌, ◌++◌, length, take, Bool, false, not, ◌&&◌, ◌||◌, ◌==◌, nat_le, nat_lt, bit_and, codes, if◌then◌else◌}
use Rattle.std.specs.List.{flat_map, list_all}
use Rattle.std.specs.Int.{w32, w64, to_be_bytes}
use Rattle.std.specs.Fmt.{decimal}
use Rattle.hex.specs.Hex.{encode_lower}
use Rattle.nine.specs.declared.qid.Qid.{Qid}

-- a field is its name, with blanks round it, and its value
unfoldable pub number_text : List ℕ → ℕ → List ℕ
number_text name n = name ++ decimal n

-- the fid that names nothing is told by its name
unfoldable pub fid_text : List ℕ → ℕ → List ℕ
fid_text name fid = if fid == 4294967295 then name ++ codes "NOFID" else number_text name fid

-- and so is the tag that stands for none
unfoldable pub tag_text : ℕ → List ℕ
tag_text tag = if tag == 65535 then codes " tag NOTAG" else number_text (codes " tag ") tag

-- permissions, in eight hexadecimal digits
unfoldable pub perm_text : List ℕ → ℕ → List ℕ
perm_text name perm = name ++ encode_lower (to_be_bytes w32 perm)

-- a byte that text may hold and that is seen: from a blank to `~`
abbrev pub is_seen : ℕ → Bool
is_seen b = nat_le 32 b && nat_le b 126

-- a byte within quotes: newline, tab, `'` and `\` behind a `\`, and one that isn't seen by its two digits
abbrev pub byte_text : ℕ → List ℕ
byte_text b =
    if b == 10 then 92 ∷ 110 ∷ [] else if b == 9 then 92 ∷ 116 ∷ []
    else if b == 39 || b == 92 then 92 ∷ b ∷ []
    else if is_seen b then b ∷ [] else 92 ∷ 120 ∷ encode_lower (b ∷ [])

-- a string, in quotes
unfoldable pub string_text : List ℕ → List ℕ → List ℕ
string_text name text = name ++ (39 ∷ flat_map byte_text text ++ 39 ∷ [])

-- the letters of a qid's type: a directory, append only, exclusive use, an authentication file
abbrev pub letter_text : ℕ → ℕ → ℕ → List ℕ
letter_text kind bit letter = if bit_and kind bit == 0 then [] else letter ∷ []

abbrev pub kind_text : ℕ → List ℕ
kind_text kind = letter_text kind 128 100 ++ letter_text kind 64 97 ++ letter_text kind 32 108 ++ letter_text kind 8 65

-- (path vers type), the path in sixteen hexadecimal digits
unfoldable pub qid_shown : List ℕ → Qid → List ℕ
qid_shown name q = name ++ 40 ∷ encode_lower (to_be_bytes w64 q.path) ++ number_text (codes " ") q.vers
    ++ 32 ∷ kind_text q.kind ++ 41 ∷ []

-- ---- content

-- What of a content may be shown: nothing behind the first `=` that stands behind a `!` of the same line. So the
-- value of an attribute whose name begins with `!` isn't shown, however it is quoted, broken or cut.
abbrev pub open_part : Bool → List ℕ → List ℕ
open_part marked [] = []
open_part marked (b ∷ rest) =
    if marked && b == 61 then b ∷ []
    else b ∷ open_part (if b == 10 then false else marked || b == 33) rest

-- a byte that doesn't end a line
abbrev pub is_in_line : ℕ → Bool
is_in_line b = not (b == 10)

-- of the first 64 bytes
unfoldable pub open_front : List ℕ → List ℕ
open_front content = open_part false (take 64 content)

-- every byte is seen, a newline or a tab
abbrev pub is_printable : List ℕ → Bool
is_printable bytes = list_all (λ b. is_seen b || b == 10 || b == 9) bytes

-- that front is shown where it is text, and any front where secrets are asked for
abbrev pub shown_part : Bool → List ℕ → List ℕ
shown_part secrets content = if secrets || is_printable (open_front content) then open_front content else []

-- as text in quotes where every byte is printable, else in hexadecimal digits
unfoldable pub piece_text : List ℕ → List ℕ
piece_text bytes = if is_printable bytes then string_text [] bytes else encode_lower bytes

-- two dots where something isn't shown
abbrev pub dots : List ℕ → List ℕ → List ℕ
dots part whole = if nat_lt (length part) (length whole) then codes ".." else []

-- how many bytes, and those that are shown
unfoldable pub content_text : Bool → List ℕ → List ℕ → List ℕ
content_text secrets name content = number_text name (length content) ++ 32 ∷ piece_text (shown_part secrets content)
    ++ dots (shown_part secrets content) content
