-- Worked rows, computed on the definitions alone. They show what the definitions say, and are no part of what is proved
-- of the code: no contract cites this file.
use Rattle.std.specs.Prelude.{◌≡◌, ℕ, List, [], ◌∷◌, ◌++◌, Bool, true, false, codes, Option, Some, None, refl}
use Rattle.std.proofs.Common.{ap, ◌∙◌}
use Rattle.std.specs.Str.{is_utf8, chars}
use Rattle.std.specs.Str.Lossy.{utf8_valid_len}
use lib.Utf8.{encode}
use Rattle.wire_base.specs.Texts.{is_text}
use Rattle.attr_tuples.specs.Lines.{line_len}
use Rattle.attr_tuples.specs.Words.{first_word, gap_len}
use Rattle.attr_tuples.specs.declared.attr.Attr.{Attr}
use Rattle.attr_tuples.specs.declared.attr.Value.TheVariants.{Bare}
use Rattle.attr_tuples.specs.Grammar.{attr_of, words_from, tuple_of}
use Rattle.attr_tuples.specs.Matching.{matches, value_of}
use Rattle.attr_tuples.specs.Printing.{printed_text}
use Rattle.key_lists.specs.Lists.{KeyEntry, KeyList, no_keys}
use Rattle.key_lists.specs.CtlLines.{few_of}
use Rattle.sealing.specs.Fields.{name_in, before_nul}
use Rattle.sealing.specs.Request.{request_of, request_fields, request_text}
use Rattle.roles.specs.Starts.{role_of, start_fault}
use Rattle.roles.specs.Talks.{give, get}
use Rattle.roles.specs.Templates.{asked, given_as, asked_as, shown_text}
use Rattle.talks.specs.RpcAnswers.{answer_text}
use Rattle.talks.specs.Requests.{starts, reads, writes}
use Rattle.talks.specs.declared.answer.RpcAnswer.TheVariants as a
use Rattle.talks.specs.declared.said.Said.{Said}
use Rattle.talks.specs.declared.said.Asking.{Asking}
use Rattle.talks.specs.Calls.{Call, Chosen, AsksConsent, AsksKey, Denied, NoneServes, Stored, CarriedOut, Sought, Consented, Shut, Took, Found}
use Rattle.talks.specs.Protocols.{protocol_of}
use Rattle.talks.specs.Searches.{found_by}
use Rattle.talks.specs.Standings.{Begun, Phase, Seeking, OnConfirm, OnServer, Kept, Standing, begin, finds, nothing_said, standing, then_stands}

-- ---- words of the rows

abbrev word : List ℕ
word = 1 ∷ 35 ∷ 69 ∷ 103 ∷ 137 ∷ 171 ∷ 205 ∷ 239 ∷ []

abbrev chal : List ℕ
chal = 16 ∷ 17 ∷ 18 ∷ 19 ∷ 20 ∷ 21 ∷ 22 ∷ 23 ∷ []

abbrev proto : Attr
proto = given_as (codes "proto") (codes "p9sk1")

abbrev client : List Attr
client = proto ∷ given_as (codes "role") (codes "client") ∷ []

abbrev server : List Attr
server = proto ∷ given_as (codes "role") (codes "server") ∷ []

-- a server's request of authid srv, authdom x
abbrev server_request : List ℕ
server_request = request_text (record { kind = 1; authid = codes "srv"; authdom = codes "x"; chal = chal; hostid = []; uid = [] })

-- a conversation that was begun so, in a phase; its latest request is a start or none
abbrev stood : Option Begun → Phase → Bool → Standing
stood begun phase starting = record { begun = begun; phase = phase; starting = starting; said = nothing_said }

-- nobody can be asked; both files are open
abbrev shut : Asking
shut = record { confirm = false; needkey = false }

abbrev open_both : Asking
open_both = record { confirm = true; needkey = true }

-- one more call
next : (before : List Call) {s t : Standing} (call : Call) → standing before ≡ s → then_stands s s.phase call ≡ t → standing (call ∷ before) ≡ t
next before call e f = ap (λ x. then_stands x x.phase call) e ∙ f

-- ---- a client starts and reads

abbrev client_starts : List Call
client_starts = CarriedOut word ∷ Stored (starts (codes "proto=p9sk1 role=client")) ∷ []

pub a_template_is_read : few_of (codes "proto=p9sk1 role=client") ≡ Some client
unfolding tuple_of words_from first_word gap_len line_len utf8_valid_len attr_of is_text is_utf8 chars encode
a_template_is_read = refl

pub a_client_is_started : standing client_starts ≡ stood (Some (begin client word)) (Kept a.Ok) true
unfolding tuple_of words_from first_word gap_len line_len utf8_valid_len attr_of is_text is_utf8 chars encode protocol_of start_fault role_of value_of
a_client_is_started = refl

pub the_answer_is_ok : answer_text a.Ok ≡ codes "ok"
unfolding answer_text
the_answer_is_ok = refl

abbrev client_reads : List Call
client_reads = CarriedOut chal ∷ Stored reads ∷ Took ∷ client_starts

abbrev client_began : Begun
client_began = record { start = record { template = client; word = word }; moves = get ∷ []; key = None }

pub the_word_is_read : standing client_reads ≡ stood (Some client_began) (Kept (a.Got word)) false
unfolding protocol_of role_of value_of
the_word_is_read = next (Stored reads ∷ Took ∷ client_starts) (CarriedOut chal) (next (Took ∷ client_starts) (Stored reads) (next client_starts Took a_client_is_started refl) refl) refl

pub the_word_stands_behind_ok : answer_text (a.Got word) ≡ codes "ok " ++ word
unfolding answer_text
the_word_stands_behind_ok = refl

-- ---- a server's request finds no key

abbrev client_writes : List Call
client_writes = CarriedOut chal ∷ Stored (writes server_request) ∷ Took ∷ client_reads

abbrev client_asks : Begun
client_asks = record { start = record { template = client; word = word }; moves = give server_request ∷ get ∷ []; key = None }

pub a_key_is_sought : standing client_writes ≡ stood (Some client_asks) Seeking false
unfolding protocol_of role_of value_of request_text request_of request_fields name_in before_nul is_text is_utf8 chars encode
a_key_is_sought = next (Stored (writes server_request) ∷ Took ∷ client_reads) (CarriedOut chal) (next (Took ∷ client_reads) (Stored (writes server_request)) (next client_reads Took the_word_is_read refl) refl) refl

abbrev wanted : List Attr
wanted = proto ∷ given_as (codes "dom") (codes "x") ∷ asked_as (codes "user") ∷ []

pub no_key_is_found : finds (stood (Some client_asks) Seeking false) shut no_keys ≡ NoneServes
unfolding finds found_by protocol_of role_of value_of request_text request_of request_fields name_in before_nul is_text is_utf8 chars encode asked
no_key_is_found = refl

pub a_key_is_wanted : (standing (Sought NoneServes ∷ client_writes)).phase ≡ Kept (a.NeedKey wanted)
unfolding protocol_of role_of value_of request_text request_of request_fields name_in before_nul is_text is_utf8 chars encode asked
a_key_is_wanted = ap (λ (s : Standing). s.phase) (next client_writes (Sought NoneServes) a_key_is_sought refl)

pub a_clients_key_is_shown : answer_text (a.NeedKey wanted) ≡ codes "needkey proto=p9sk1 dom=x user? !password?"
unfolding answer_text shown_text printed_text
a_clients_key_is_shown = refl

-- ---- a server's start finds no key, and so it is none

abbrev server_starts : List Call
server_starts = CarriedOut word ∷ Stored (starts (codes "proto=p9sk1 role=server")) ∷ []

pub a_start_seeks_a_key : standing server_starts ≡ stood (Some (begin server word)) Seeking true
unfolding tuple_of words_from first_word gap_len line_len utf8_valid_len attr_of is_text is_utf8 chars encode protocol_of start_fault role_of value_of
a_start_seeks_a_key = refl

pub no_servers_key_is_found : finds (stood (Some (begin server word)) Seeking true) shut no_keys ≡ NoneServes
unfolding finds found_by protocol_of role_of value_of asked
no_servers_key_is_found = refl

abbrev wanted_by_server : List Attr
wanted_by_server = proto ∷ asked_as (codes "user") ∷ asked_as (codes "dom") ∷ []

pub a_start_wants_a_key : standing (Sought NoneServes ∷ server_starts) ≡ stood None (Kept (a.NeedKey wanted_by_server)) true
unfolding protocol_of role_of value_of asked
a_start_wants_a_key = next server_starts (Sought NoneServes) a_start_seeks_a_key refl

pub a_servers_key_is_shown : answer_text (a.NeedKey wanted_by_server) ≡ codes "needkey proto=p9sk1 user? dom? !password?"
unfolding answer_text shown_text printed_text
a_servers_key_is_shown = refl

pub it_is_not_started : standing (CarriedOut word ∷ Stored reads ∷ Took ∷ Sought NoneServes ∷ server_starts) ≡ stood None (Kept a.NotStarted) false
it_is_not_started = next (Stored reads ∷ Took ∷ Sought NoneServes ∷ server_starts) (CarriedOut word) (next (Took ∷ Sought NoneServes ∷ server_starts) (Stored reads) (next (Sought NoneServes ∷ server_starts) Took a_start_wants_a_key refl) refl) refl

pub that_is_told : answer_text a.NotStarted ≡ codes "protocol not started"
unfolding answer_text
that_is_told = refl

-- ---- a secret in a template

pub a_secret_starts_nothing : standing (CarriedOut word ∷ Stored (starts (codes "proto=p9sk1 role=client !password=a")) ∷ []) ≡ stood None (Kept a.SecretInTemplate) false
unfolding tuple_of words_from first_word gap_len line_len utf8_valid_len attr_of is_text is_utf8 chars encode protocol_of start_fault role_of value_of
a_secret_starts_nothing = refl

pub the_secret_is_told : answer_text a.SecretInTemplate ≡ codes "error secret in template"
unfolding answer_text
the_secret_is_told = refl

-- ---- a key about which the user is to be asked

abbrev asks_first : ℕ → KeyEntry
asks_first serial = record { tuple = proto ∷ given_as (codes "dom") (codes "x") ∷ given_as (codes "user") (codes "ann") ∷ record { name = codes "confirm"; value = Bare } ∷ given_as (codes "!password") (codes "a") ∷ []; serial = serial }

abbrev only : KeyEntry → KeyList
only key = record { keys = key ∷ []; ever_added = key.serial }

abbrev agreed_to : ℕ → Said
agreed_to serial = record { agreed = serial ∷ []; denied = []; asked = false }

abbrev denied_of : ℕ → Said
denied_of serial = record { agreed = []; denied = serial ∷ []; asked = false }

abbrev searched : Said → Asking → KeyList → Found
searched said asking list = found_by wanted (codes "client") said asking list

pub nobody_can_be_asked : searched nothing_said shut (only (asks_first 1)) ≡ Denied
unfolding found_by matches
nobody_can_be_asked = refl

pub he_is_asked : searched nothing_said open_both (only (asks_first 1)) ≡ AsksConsent (asks_first 1)
unfolding found_by matches
he_is_asked = refl

pub he_agreed : searched (agreed_to 1) open_both (only (asks_first 1)) ≡ Chosen (asks_first 1)
unfolding found_by matches
he_agreed = refl

pub he_denied : searched (denied_of 1) open_both (only (asks_first 1)) ≡ Denied
unfolding found_by matches
he_denied = refl

-- his agreement was to the key that stood then
pub a_replaced_key_is_asked_about_again : searched (agreed_to 1) open_both (only (asks_first 2)) ≡ AsksConsent (asks_first 2)
unfolding found_by matches
a_replaced_key_is_asked_about_again = refl

pub he_is_asked_for_a_key : searched nothing_said open_both no_keys ≡ AsksKey
unfolding found_by matches
he_is_asked_for_a_key = refl

-- ---- a client whose user agrees

abbrev waits : Standing
waits = record { begun = Some client_asks; phase = OnConfirm 1; starting = false; said = nothing_said }

pub the_user_is_asked : standing (Sought (AsksConsent (asks_first 1)) ∷ client_writes) ≡ waits
unfolding protocol_of value_of role_of request_text request_of request_fields name_in before_nul is_text is_utf8 chars encode
the_user_is_asked = next client_writes (Sought (AsksConsent (asks_first 1))) a_key_is_sought refl

pub he_agrees : standing (Consented true ∷ Sought (AsksConsent (asks_first 1)) ∷ client_writes) ≡ record { begun = Some client_asks; phase = Seeking; starting = false; said = agreed_to 1 }
unfolding protocol_of value_of role_of request_text request_of request_fields name_in before_nul is_text is_utf8 chars encode
he_agrees = next (Sought (AsksConsent (asks_first 1)) ∷ client_writes) (Consented true) the_user_is_asked refl

pub the_server_is_asked : (standing (Sought (Chosen (asks_first 1)) ∷ Consented true ∷ Sought (AsksConsent (asks_first 1)) ∷ client_writes)).phase ≡ OnServer
unfolding protocol_of role_of value_of request_text request_of request_fields name_in before_nul is_text is_utf8 chars encode
the_server_is_asked = ap (λ (s : Standing). s.phase) (next (Consented true ∷ Sought (AsksConsent (asks_first 1)) ∷ client_writes) (Sought (Chosen (asks_first 1))) he_agrees refl)

pub the_file_is_closed : (standing (Shut ∷ Sought (AsksConsent (asks_first 1)) ∷ client_writes)).phase ≡ Kept a.Denied
unfolding protocol_of value_of role_of request_text request_of request_fields name_in before_nul is_text is_utf8 chars encode
the_file_is_closed = ap (λ (s : Standing). s.phase) (next (Sought (AsksConsent (asks_first 1)) ∷ client_writes) Shut the_user_is_asked refl)

pub the_denial_is_told : answer_text a.Denied ≡ codes "error confirmation denied"
unfolding answer_text
the_denial_is_told = refl
