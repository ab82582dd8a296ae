-- The numbers of authsrv(6) of the Plan 9 manual: the first byte of each message of the authentication server and its
-- clients, and the first byte of what is sealed, which says for whom a ticket is and by whom an authenticator.
use Rattle.std.specs.Prelude.{ℕ}

-- a ticket request; a change of a password; a check of an answer of APOP, and of CRAM
abbrev pub ticket_request : ℕ
ticket_request = 1

abbrev pub password_request : ℕ
password_request = 3

abbrev pub apop_request : ℕ
apop_request = 7

abbrev pub cram_request : ℕ
cram_request = 12

-- an answer that grants; that refuses, with a text; of a length that it tells
abbrev pub answer_ok : ℕ
answer_ok = 4

abbrev pub answer_error : ℕ
answer_error = 5

abbrev pub answer_counted : ℕ
answer_counted = 9

-- a ticket for the server, for the client, for a change of a password
abbrev pub server_ticket : ℕ
server_ticket = 64

abbrev pub client_ticket : ℕ
client_ticket = 65

abbrev pub password_ticket : ℕ
password_ticket = 68

-- an authenticator of the server, of the client
abbrev pub server_authenticator : ℕ
server_authenticator = 66

abbrev pub client_authenticator : ℕ
client_authenticator = 67
