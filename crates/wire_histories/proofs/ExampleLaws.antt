-- That the histories written out are legal.
use Rattle.std.proofs.Common.{◌≡◌, ℕ, ◌<◌, List, [], ◌∷◌, ◌++◌, Bool, true, false, All, Some, None, if◌then◌else◌, refl, arith, codes, nat_lt}
use Rattle.std.specs.List.{list_all}
use Rattle.std.proofs.lemmas.Bool.{and_parts, ltb-true}
use Rattle.std.proofs.lemmas.List.Elements.{All-cons, All-nil}
use Rattle.std.specs.Str.{bytes_eq, is_utf8, chars}
use lib.Utf8.{encode}
use Rattle.wire_base.specs.Texts.{is_text}
use Rattle.sealing.specs.Answer.{apop_digits}
use Rattle.attr_tuples.specs.Matching.{value_of}
use Rattle.wire_base.specs.Names.{IsName}
use Rattle.sealing.specs.Fitting.{IsBlock}
use Rattle.roles.specs.Starts.{role_of}
use Rattle.roles.specs.Talks.{Call, give, get, found}
use Rattle.conv_challenge.specs.Starts.{proto_of, side_of, start_fault}
use Rattle.talks.specs.Protocols.{protocol_of}
use Rattle.wire_histories.specs.Histories.{Act, started, took, gave}
use Rattle.wire_histories.specs.Conversations.{kept_in, met_in, talk_acts}
use Rattle.wire_histories.specs.Legal.{IsConversation, IsLegal, IsMet, IsRingKey, IsServed, IsTalk, MayBe, known_at}
use Rattle.wire_histories.proofs.RestartLemmas.{unrestarted}
use Rattle.wire_histories.specs.Examples.{challenge, conv, eight_zeros, mail_history, mail_key, mail_setting, mail_spoken, mail_start, password}
use Rattle.wire_histories.specs.declared.step.Protocol.TheVariants.{Apop}
use Rattle.wire_histories.specs.declared.step.Role.TheVariants.{Client}

abbrev talk : List ℕ → List Call
talk des = get ∷ get ∷ found (mail_key des) (Some password) ∷ give challenge ∷ []

abbrev acts : List Act
acts = gave (apop_digits challenge password) ∷ took challenge ∷ started Apop Client eight_zeros ∷ []

acts_are : (des : List ℕ) → talk_acts mail_start (talk des) ≡ acts
unfolding protocol_of proto_of side_of role_of value_of
acts_are des = refl

met_so : (des : List ℕ) → met_in mail_start (talk des) ≡ found (mail_key des) (Some password) ∷ []
unfolding protocol_of proto_of side_of value_of
met_so des = refl

kept_so : (des : List ℕ) → kept_in mail_start (talk des) ≡ Some (mail_key des, Some password)
unfolding protocol_of proto_of side_of value_of
kept_so des = refl

-- numbers that are seen to be bytes
all_small : (text : List ℕ) → list_all (λ b. nat_lt b 256) text ≡ true → All (λ b. b < 256) text
all_small [] small = All-nil (λ b. b < 256)
all_small (b ∷ text) small =
    let parts = and_parts (nat_lt b 256) (list_all (λ b. nat_lt b 256) text) small in
    All-cons (λ b. b < 256) b text (ltb-true b 256 parts.0) (all_small text parts.1)

bytes : All (λ b. b < 256) (codes "mrose")
bytes = all_small (codes "mrose") refl

zeros : All (λ b. b < 256) eight_zeros
zeros = all_small eight_zeros refl

key_fits : (des : List ℕ) → IsBlock 7 des → IsRingKey (mail_key des)
unfolding is_text is_utf8 chars encode
key_fits des block = record { des = block; user = record { short = record { text = refl; short = omega arith }; bytes = bytes }; dom = record { short = record { text = refl; short = omega arith }; bytes = All-nil _ } }

may_be : (des : List ℕ) → IsBlock 7 des → MayBe (mail_spoken des)
unfolding protocol_of start_fault value_of is_text is_utf8 chars encode
may_be des block = record { tuple = refl; fits = refl; starts = refl; word = record { whole = refl; bytes = zeros }; keys = All-cons IsMet (found (mail_key des) (Some password)) [] (key_fits des block) (All-nil IsMet) }

is_talk : (des : List ℕ) → IsBlock 7 des → IsTalk (mail_spoken des) acts
is_talk des block = record { may = may_be des block; talk = talk des; met = met_so des; kept = kept_so des; later = []; left = acts_are des }

-- the one conversation, and any other name
by_name : (des : List ℕ) → IsBlock 7 des → (same : Bool) → IsConversation (if same then Some (mail_spoken des) else None) ((if same then gave (apop_digits challenge password) ∷ [] else []) ++ ((if same then took challenge ∷ [] else []) ++ ((if same then started Apop Client eight_zeros ∷ [] else []) ++ [])))
by_name des block true = is_talk des block
by_name des block false = refl

nobody : (des : List ℕ) → IsServed (known_at (mail_setting des)) []
nobody des = record { requests = []; session = tt; later = []; left = refl }

domain_fits : IsName 48 (codes "x")
unfolding is_text is_utf8 chars encode
domain_fits = record { text = refl; short = omega arith }

pub mail_legal : (des : List ℕ) → IsBlock 7 des → IsLegal mail_history (mail_setting des)
mail_legal des block = record { domain = domain_fits; tables = refl; conversations = λ name. by_name des block (bytes_eq conv name); restarts = λ name. unrestarted ((mail_setting des).spoken name) name mail_history refl; sessions = λ name. nobody des; numbered = (tt, (refl, (tt, (tt, tt)))) }
