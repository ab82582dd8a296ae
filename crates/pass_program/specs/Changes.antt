-- How a password is changed, after AuthPass of authsrv(6) and passwd(1) of the Plan 9 manual: the client asks for a
-- ticket to itself, and sends its old password and the new one under the key of that ticket. Which new passwords are
-- taken, and the texts of errors, are this project's.
use Rattle.std.specs.Prelude.{ℕ, List, [], ◌∷◌, ◌++◌, Bool, false, not, ◌==◌, codes, slice_index, Option, Some, None, Result, Ok, Err, if◌then◌else◌}
use Rattle.std.specs.Str.{bytes_eq}
use Rattle.wire_base.specs.Kinds.{answer_ok, password_request, password_ticket}
use Rattle.sealing.specs.Fields.{name_in, ◌>>=◌}
use Rattle.sealing.specs.Passwords.{password_key}
use Rattle.sealing.specs.Sealing.{opened}
use Rattle.sealing.specs.declared.fault.FieldFault.{FieldFault}
use Rattle.sealing.specs.declared.request.TicketReq.{TicketReq}
use Rattle.auth_tables.specs.Keys.{KeyLine, UserKey, key_of}
use Rattle.auth_tables.specs.Printing.{is_new_password}
use Rattle.auth_server.specs.Answers.{key_or, refusal, ticket, word, word_key}
use Rattle.pass_program.specs.declared.change.Change.{Change}
use Rattle.pass_program.specs.declared.refusal.Refusal.{Refusal}
use Rattle.pass_program.specs.declared.refusal.Refusal.TheVariants.{BadRequest, BadOldPassword, BadNewPassword, NoSecretKept, TableNotWritten}

-- ---- the request

-- the key that the client is given: the first word's
abbrev pub session_key : List (List ℕ) → List ℕ
session_key words = word_key (word 0 words)

-- the ticket for the user, sealed under his key; where he has none, under one that the second word stands for
unfoldable pub ticket_answer : List KeyLine → List (List ℕ) → TicketReq → List ℕ
ticket_answer keys words r =
    answer_ok ∷ [] ++ ticket password_ticket r.chal r.uid r.uid (session_key words)
    (key_or (key_of r.uid keys) (word 1 words))

-- the answer to a request: the ticket, or that a field is bad
abbrev pub request_answer : List KeyLine → List (List ℕ) → Result TicketReq FieldFault → List ℕ
request_answer keys words (Ok r) = ticket_answer keys words r
request_answer keys words (Err fault) = refusal (codes "bad request")

-- ---- the message behind it: num[1] old[28] new[28] changesecret[1] secret[32], of which the secret isn't looked at

-- the change whose fields stand at their offsets in 90 bytes, or the first fault from the left
unfoldable pub change_of : List ℕ → Result Change FieldFault
change_of bytes = do
  old ← name_in 1 28 bytes
  new ← name_in 29 28 bytes
  Ok (record { num = slice_index bytes 0; old = old; new = new; changes_secret = slice_index bytes 57 })

-- whether a password is the one of a user, if there is such a user
abbrev pub is_password : Option UserKey → List ℕ → Bool
is_password None password = false
is_password (Some key) password = bytes_eq key.des (password_key password)

-- the new password that a user asks for, or the first test that he doesn't pass
unfoldable pub asked_of : Option UserKey → Change → Result (List ℕ) Refusal
asked_of key change =
    if not (change.num == password_request) then Err BadRequest
    else if not (is_password key change.old) then Err BadOldPassword
    else if not (is_new_password change.new) then Err BadNewPassword
    else if not (change.changes_secret == 0) then Err NoSecretKept
    else Ok change.new

-- the same of a message by its fields, the first of which that is bad refuses it
abbrev pub judged_change : Option UserKey → Result Change FieldFault → Result (List ℕ) Refusal
judged_change key (Err fault) = Err BadRequest
judged_change key (Ok change) = asked_of key change

-- the same of a message that is sealed under a session's key, by the table
unfoldable pub judged : List KeyLine → List ℕ → List ℕ → List ℕ → Result (List ℕ) Refusal
judged keys user session message = judged_change (key_of user keys) (change_of (opened session message))

-- ---- its answer

abbrev pub refusal_text : Refusal → List ℕ
refusal_text BadRequest = codes "bad request"
refusal_text BadOldPassword = codes "bad old password"
refusal_text BadNewPassword = codes "bad new password"
refusal_text NoSecretKept = codes "no secret kept"
refusal_text TableNotWritten = codes "table not written"

-- a refusal as it is sent
abbrev pub refused : Refusal → List ℕ
refused why = refusal (refusal_text why)

-- how many refusals end a session
abbrev pub most_refusals : ℕ
most_refusals = 5
