-- Worked rows, computed on the definitions alone, with p9sk1 as the inner role. They show what the definitions say, and
-- are no part of what is proved of the code: no contract cites this file.
use Rattle.std.specs.Prelude.{◌≡◌, ℕ, List, [], ◌∷◌, ◌++◌, codes, replicate, Some, None, refl}
use Rattle.std.specs.Str.{is_utf8, chars}
use lib.Utf8.{encode}
use Rattle.wire_base.specs.Texts.{is_text}
use Rattle.attr_tuples.specs.declared.attr.Attr.{Attr}
use Rattle.attr_tuples.specs.Matching.{value_of}
use Rattle.sealing.specs.Fields.{before_nul}
use Rattle.conv_p9any.specs.Texts.{text_in}
use Rattle.roles.specs.declared.answer.Cause.TheVariants.{NotOffered, WrongKind}
use Rattle.roles.specs.declared.answer.Gave.{Gave}
use Rattle.roles.specs.declared.answer.Gave.TheVariants as g
use Rattle.roles.specs.declared.answer.PhaseWord.TheVariants.{AwaitsWrite, Broken}
use Rattle.roles.specs.declared.key.SkKey.{SkKey}
use Rattle.roles.specs.declared.need.Need.TheVariants.{Key, Offers, Pick}
use Rattle.roles.specs.Starts.{Start, role_of, start_with}
use Rattle.roles.specs.Templates.{asked, given_as, asked_as}
use Rattle.roles.specs.Talks.{Call, give, get, found, undone, offered, picked}
use Rattle.roles.specs.Courses.{answer_after as p9sk1_answers, puts_after as p9sk1_puts, need_after as p9sk1_needs, outcome_after as p9sk1_ends, ended_after as p9sk1_ended}
use Rattle.conv_p9any.specs.Inner.{Inner}
use Rattle.conv_p9any.specs.Offers.{eligible, is_eligible, is_offered, offers_dom}
use Rattle.conv_p9any.specs.Courses.{answer_after, inner_talk, need_after, puts_after}

-- the inner role of all rows, and the word
abbrev p9sk1 : Inner
p9sk1 = record { name = codes "p9sk1"; answers = p9sk1_answers; puts = p9sk1_puts; needs = p9sk1_needs; ends = p9sk1_ends; ended = p9sk1_ended }

abbrev word : List ℕ
word = 1 ∷ 35 ∷ 69 ∷ 103 ∷ 137 ∷ 171 ∷ 205 ∷ 239 ∷ []

abbrev started : List ℕ → List Attr → Start
started role others = start_with (given_as (codes "proto") (codes "p9any") ∷ given_as (codes "role") role ∷ others) word

abbrev server : Start
server = started (codes "server") []

abbrev client : Start
client = started (codes "client") []

-- a client that names a domain
abbrev client_of_y : Start
client_of_y = started (codes "client") (given_as (codes "dom") (codes "y") ∷ [])

abbrev with_nul : List ℕ → List ℕ
with_nul text = text ++ 0 ∷ []

abbrev srv : SkKey
srv = record { des = record { 0 = 1 ∷ 2 ∷ 3 ∷ 4 ∷ 5 ∷ 6 ∷ 7 ∷ [] }; user = codes "srv"; dom = codes "x" }

-- the template of a key in the domain x
abbrev in_x : List Attr
in_x = given_as (codes "proto") (codes "p9sk1") ∷ given_as (codes "dom") (codes "x") ∷ asked_as (codes "user") ∷ []

-- ---- a server

abbrev any_key : List Attr
any_key = given_as (codes "proto") (codes "p9sk1") ∷ asked_as (codes "user") ∷ asked_as (codes "dom") ∷ []

it_wants_offers : need_after p9sk1 server [] ≡ Offers any_key
unfolding role_of value_of asked
it_wants_offers = refl

without_any_it_wants_a_key : need_after p9sk1 server (offered [] ∷ []) ≡ Key any_key
unfolding role_of value_of asked
without_any_it_wants_a_key = refl

and_offers_again : need_after p9sk1 server (found srv None ∷ offered [] ∷ []) ≡ Offers any_key
unfolding role_of value_of asked
and_offers_again = refl

-- it offers the domain x
abbrev offering : List Call
offering = get ∷ offered (codes "p9sk1@x") ∷ []

its_list_is_got : puts_after p9sk1 server (offered (codes "p9sk1@x") ∷ []) get ≡ with_nul (codes "p9sk1@x")
unfolding role_of value_of
its_list_is_got = refl

abbrev choosing_by : List ℕ → Gave
choosing_by b = answer_after p9sk1 server offering (give b)

what_it_did_not_offer_is_refused : choosing_by (with_nul (codes "p9sk1 y")) ≡ g.Refused NotOffered
unfolding role_of value_of before_nul text_in is_offered offers_dom is_text is_utf8 chars encode
what_it_did_not_offer_is_refused = refl

another_protocol_too : choosing_by (with_nul (codes "p9sk2 x")) ≡ g.Refused NotOffered
unfolding role_of value_of before_nul text_in is_offered offers_dom is_text is_utf8 chars encode
another_protocol_too = refl

a_nul_is_wanted : choosing_by (codes "p9sk1 x") ≡ g.TooSmall 8
unfolding role_of value_of before_nul text_in
a_nul_is_wanted = refl

and_nothing_behind_it : choosing_by (with_nul (codes "p9sk1 x") ++ 0 ∷ []) ≡ g.TooLong
unfolding role_of value_of before_nul text_in
and_nothing_behind_it = refl

a_text_of_1024_bytes_wants_one_more : choosing_by (replicate 1024 97) ≡ g.TooSmall 1025
unfolding role_of value_of before_nul text_in
a_text_of_1024_bytes_wants_one_more = refl

which_is_too_long : choosing_by (replicate 1024 97 ++ 0 ∷ []) ≡ g.TooLong
unfolding role_of value_of before_nul text_in
which_is_too_long = refl

a_choice_wants_a_key : choosing_by (with_nul (codes "p9sk1 x")) ≡ g.Wait
unfolding role_of value_of before_nul text_in is_offered offers_dom asked is_text is_utf8 chars encode
a_choice_wants_a_key = refl

abbrev chosen : List Call
chosen = give (with_nul (codes "p9sk1 x")) ∷ offering

in_its_domain : need_after p9sk1 server chosen ≡ Key in_x
unfolding role_of value_of before_nul text_in is_offered offers_dom asked is_text is_utf8 chars encode
in_its_domain = refl

the_inner_role_has_begun : inner_talk p9sk1 server chosen ≡ Some []
unfolding role_of value_of before_nul text_in is_offered offers_dom asked is_text is_utf8 chars encode
the_inner_role_has_begun = refl

undoing_awaits_it_again : answer_after p9sk1 server (undone ∷ chosen) get ≡ g.Phase AwaitsWrite
unfolding role_of value_of before_nul text_in is_offered offers_dom asked is_text is_utf8 chars encode
undoing_awaits_it_again = refl

a_challenge_follows : answer_after p9sk1 server (found srv None ∷ chosen) (give word) ≡ g.Ok
unfolding role_of value_of before_nul text_in is_offered offers_dom asked is_text is_utf8 chars encode
a_challenge_follows = refl

a_broken_one_is_broken : answer_after p9sk1 server (give (with_nul (codes "p9sk1 y")) ∷ offering) get ≡ g.Phase Broken
unfolding role_of value_of before_nul text_in is_offered offers_dom is_text is_utf8 chars encode
a_broken_one_is_broken = refl

-- ---- a client

abbrev told : Start → List ℕ → Gave
told start list = answer_after p9sk1 start [] (give (with_nul list))

a_domain_is_picked : told client (codes "p9sk1@x") ≡ g.Wait
unfolding role_of value_of before_nul text_in eligible is_eligible is_text is_utf8 chars encode
a_domain_is_picked = refl

among_the_eligible : need_after p9sk1 client (give (with_nul (codes "p9sk2@z p9sk1@x p9sk1")) ∷ []) ≡ Pick (in_x ∷ [])
unfolding role_of value_of before_nul text_in eligible is_eligible asked is_text is_utf8 chars encode
among_the_eligible = refl

two_blanks_are_one_empty_word : told client (codes "p9sk1@x  p9sk1@y") ≡ g.Wait
unfolding role_of value_of before_nul text_in eligible is_eligible is_text is_utf8 chars encode
two_blanks_are_one_empty_word = refl

no_list_offers_nothing : told client [] ≡ g.Refused NotOffered
unfolding role_of value_of before_nul text_in eligible is_eligible is_text is_utf8 chars encode
no_list_offers_nothing = refl

nor_does_one_of_another_domain : told client_of_y (codes "p9sk1@x") ≡ g.Refused NotOffered
unfolding role_of value_of before_nul text_in eligible is_eligible is_text is_utf8 chars encode
nor_does_one_of_another_domain = refl

nor_what_is_no_domain : told client (codes "p9sk1@x@y") ≡ g.Refused NotOffered
unfolding role_of value_of before_nul text_in eligible is_eligible is_text is_utf8 chars encode
nor_what_is_no_domain = refl

v_2_wants_its_blank : told client (codes "v.2p9sk1@x") ≡ g.Refused NotOffered
unfolding role_of value_of before_nul text_in eligible is_eligible is_text is_utf8 chars encode
v_2_wants_its_blank = refl

undoing_awaits_the_list_again : answer_after p9sk1 client (undone ∷ give (with_nul (codes "p9sk1@x")) ∷ []) get ≡ g.Phase AwaitsWrite
unfolding role_of value_of before_nul text_in eligible is_eligible is_text is_utf8 chars encode
undoing_awaits_the_list_again = refl

-- it was given two domains, and picks the second
abbrev picking : List Call
picking = picked 1 ∷ give (with_nul (codes "p9sk1@x p9sk1@y")) ∷ []

its_choice_is_got : puts_after p9sk1 client picking get ≡ with_nul (codes "p9sk1 y")
unfolding role_of value_of before_nul text_in eligible is_eligible is_text is_utf8 chars encode
its_choice_is_got = refl

then_its_challenge : puts_after p9sk1 client (get ∷ picking) get ≡ word
unfolding role_of value_of before_nul text_in eligible is_eligible is_text is_utf8 chars encode
then_its_challenge = refl

-- ---- a client whose server consents to the choice

abbrev awaiting : List Call
awaiting = get ∷ picked 0 ∷ give (with_nul (codes "v.2 p9sk1@x")) ∷ []

a_write_comes_first : answer_after p9sk1 client awaiting get ≡ g.Phase AwaitsWrite
unfolding role_of value_of before_nul text_in eligible is_eligible is_text is_utf8 chars encode
a_write_comes_first = refl

consent_is_taken : answer_after p9sk1 client awaiting (give (with_nul (codes "OK"))) ≡ g.Ok
unfolding role_of value_of before_nul text_in eligible is_eligible is_text is_utf8 chars encode
consent_is_taken = refl

anything_else_is_refused : answer_after p9sk1 client awaiting (give (with_nul (codes "ok"))) ≡ g.Refused WrongKind
unfolding role_of value_of before_nul text_in eligible is_eligible is_text is_utf8 chars encode
anything_else_is_refused = refl

its_challenge_follows : puts_after p9sk1 client (give (with_nul (codes "OK")) ∷ awaiting) get ≡ word
unfolding role_of value_of before_nul text_in eligible is_eligible is_text is_utf8 chars encode
its_challenge_follows = refl
