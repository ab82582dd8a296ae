-- The lines of the log of an authentication server. A line is its name and some words, each with a blank before it:
-- the address of a client, what it asked, and what came of that. The definitions are the project's own. No word is
-- made of anything that isn't named in `judged_line`: of what is sent, a line shows the kind of a request, and the
-- names of a host and of a user.
use Rattle.std.specs.Prelude.{◌≡◌, ℕ, ◌≤◌, List, [], ◌∷◌, ◌++◌, Bool, ◌&&◌, ◌||◌, ◌==◌, true, codes, drop, length, map, nat_lt, if◌then◌else◌}
use Rattle.std.specs.List.{list_all}
use Rattle.wire_base.specs.Kinds.{ticket_request, apop_request, cram_request}
use Rattle.auth_server.specs.declared.log.Outcome.{Outcome}
use Rattle.auth_server.specs.declared.log.Outcome.TheVariants.{Granted, Refused, Challenged, Vouched, Wrong}
use Rattle.auth_server.specs.declared.log.Notice.{Notice}
use Rattle.auth_server.specs.declared.log.Notice.TheVariants.{Bad, Judged}
use Rattle.auth_program.specs.declared.status.Status.{Status}
use Rattle.auth_program.specs.Statuses.{status_text}

-- ---- words

-- whether a byte is a visible sign of ASCII
abbrev pub is_visible : ℕ → Bool
is_visible byte = nat_lt 32 byte && nat_lt byte 127

-- a byte of a name as it is shown: what isn't a visible sign of ASCII is `?` (63), so that no name ends a line or a
-- word
abbrev pub shown_byte : ℕ → ℕ
shown_byte byte = if is_visible byte then byte else 63

-- a word behind a blank: what it begins with, and a name as it is shown
abbrev pub word_text : List ℕ → List ℕ → List ℕ
word_text begin name = 32 ∷ begin ++ map shown_byte name

abbrev pub asked_word : ℕ → List ℕ
asked_word kind = if kind == ticket_request then codes "ticket"
    else if kind == apop_request then codes "APOP"
    else if kind == cram_request then codes "CRAM"
    else codes "unknown"

abbrev pub outcome_word : Outcome → List ℕ
outcome_word Granted = codes "granted"
outcome_word Refused = codes "refused"
outcome_word Challenged = codes "challenged"
outcome_word Vouched = codes "vouched"
outcome_word Wrong = codes "wrong"

-- ---- lines

-- whom a line is of
abbrev pub head_text : List ℕ → List ℕ
head_text address = codes "authd:" ++ word_text [] address

-- for whom something is asked
abbrev pub names_text : List ℕ → List ℕ → List ℕ
names_text host user = word_text (codes "host=") host ++ word_text (codes "user=") user

-- the line of a request whose fields are well
abbrev pub judged_line : List ℕ → ℕ → List ℕ → List ℕ → Outcome → List ℕ
judged_line address kind host user outcome = head_text address ++
    (word_text (asked_word kind) [] ++ (names_text host user ++ (word_text (outcome_word outcome) [] ++ 10 ∷ [])))

-- the line of one with a bad field
abbrev pub bad_line : List ℕ → ℕ → List ℕ
bad_line address kind = head_text address ++ (word_text (asked_word kind) [] ++ (codes " bad request" ++ 10 ∷ []))

-- the line of a request, by what is noted of it
abbrev pub notice_line : List ℕ → Notice → List ℕ
notice_line address (Bad kind) = bad_line address kind
notice_line address (Judged asked outcome) = judged_line address asked.kind asked.hostid asked.uid outcome

-- whether a byte may stand in a line: a visible sign, or a blank
abbrev pub is_shown : ℕ → Bool
is_shown byte = is_visible byte || byte == 32

-- a line has at most 200 bytes: those that may stand in one, and a newline behind them
pub record IsLine (line : List ℕ) : Type 0 where
  pub text : List ℕ
  pub is : line ≡ text ++ 10 ∷ []
  pub shown : list_all is_shown text ≡ true
  pub short : length line ≤ 200

-- ---- faults

-- the line of a status under another name: what stands in it behind the ten bytes of `factotum: `; nothing where
-- there is none
abbrev pub line_under : List ℕ → List ℕ → List ℕ
line_under name line = if nat_lt (length line) 10 then [] else name ++ drop 10 line

-- the line of a status under the name of the server, and under that and a client's address
abbrev pub fault_line : Status → List ℕ
fault_line status = line_under (codes "authd: ") (status_text status)

abbrev pub end_line : List ℕ → Status → List ℕ
end_line address status = line_under (head_text address ++ 32 ∷ []) (status_text status)
