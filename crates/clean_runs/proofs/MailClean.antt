-- The record of the login by APOP is clean: what is taken is spelled by its label, which was given right before it or is
-- bytes that anybody may know, what passed its tests has the form of its move, and what is read differs.
use Rattle.std.proofs.Common.{◌≡◌, ℕ, zero, suc, ◌<◌, List, [], ◌∷◌, ◌++◌, append-nil, length, None, Some, Ok, true, inl, inr, refl, sym, ap, subst, ◌∙◌, arith, codes}
use Rattle.std.proofs.lemmas.Bool.{cases_Bool}
use Rattle.std.proofs.lemmas.List.Elements.{All-head, All-tail, All-take}
use Rattle.std.proofs.lemmas.Slice.Eq.{bytes_eq-Decides}
use Rattle.std.specs.Str.{bytes_eq, is_utf8, chars}
use lib.Utf8.{encode}
use Rattle.hex.specs.Hex.{IsBytes, encode_lower, encode_with, decode_of}
use Rattle.hex.proofs.HexLemmas.{decode_of-encode_lower}
use Rattle.std.specs.Prelude.{Result, take}
use Rattle.std.specs.Result.{result_unwrap_or}
use Rattle.wire_base.specs.Names.{name_field}
use Rattle.wire_base.specs.Texts.{is_text}
use Rattle.sealing.specs.Fields.{before_nul, name_in}
use Rattle.sealing.specs.Request.{request_fields, request_of, request_text}
use Rattle.sealing.specs.declared.fault.FieldFault.{FieldFault}
use Rattle.sealing.specs.declared.request.TicketReq.{TicketReq}
use Rattle.attr_tuples.specs.Matching.{value_of}
use Rattle.auth_server.specs.Answers.{challenge_at}
use Rattle.conv_challenge.specs.Starts.{proto_of}
use Rattle.complete_logins.proofs.MailLaws.{request_about, then_read}
use Rattle.auth_tables.specs.Keys.{UserKey}
use Rattle.auth_tables.specs.Speaks.{may_speak}
use Rattle.symbolic_runs.specs.Trees.{long_key, nonce, ticket_key}
use Rattle.symbolic_runs.specs.Derivations.{by_knowing, in_public}
use Rattle.symbolic_runs.specs.declared.kind.MacKind.TheVariants as mac
use Rattle.symbolic_runs.specs.Forms.{AreFields, mail_request, pair, request}
use Rattle.symbolic_runs.specs.Moves.{AreNames}
use Rattle.clean_runs.specs.Clean.{FormsStep, GivesBytes, GivesSevens, IsClean, LabelsStep, Reads, ReadsHolder, ReadsPassword, ReadsStep, ReadsTables, is_challenge, is_key, is_nonce, is_password}
use Rattle.symbolic_runs.specs.Sessions.{Grant, vouch_given}
use Rattle.clean_runs.specs.Runs.{grant_by, setting_of}
use Rattle.clean_runs.specs.Login.{Word, ann, key_bytes, name_28, srv, user_key, word_bytes}
use Rattle.clean_runs.specs.MailLogin.{Secrets, answering, challenged, fields, head, labelling, login, reading, request_about as request_tree, request_bytes, checked_bytes, digits, proof_bytes, setting, tables, ticket_bytes}
use Rattle.clean_runs.specs.ExampleStatements.{AreBytes, AreDifferent, AreFreshInMail}
use Rattle.clean_runs.specs.KeyNames.{key_in}
use Rattle.clean_runs.proofs.KeyNameLaws.{first_name, none_in}
use Rattle.clean_runs.proofs.Bytes.{digits_small}
use Rattle.clean_runs.proofs.MailOf.{may, of}
use Rattle.clean_runs.proofs.LoginPlaces.{Everywhere, everywhere}
use Rattle.clean_runs.proofs.Readings.{any_two, apart, small, so_of_each}

-- ---- what is read

seven : (w : Word) → AreBytes (word_bytes w) → AreBytes (key_bytes w)
seven w h = All-take (λ n. n < 256) 7 (word_bytes w) h

gives : (k : Secrets) → AreFreshInMail k → GivesBytes (reading k)
gives k f = so_of_each (λ t b. AreBytes b) (reading k) (f.server, (digits_small (word_bytes k.first), (seven k.first f.first, (seven k.second f.second, (seven k.third f.third, (digits_small (word_bytes k.fourth), (seven k.fourth f.fourth, (seven k.fifth f.fifth, (seven k.sixth f.sixth, (seven k.ann_key f.ann_key, (seven k.srv_key f.srv_key, (f.ann_password, (f.srv_password, tt)))))))))))))

sevens : (k : Secrets) → GivesSevens (reading k)
sevens k key b is read = so_of_each (λ t b. is_key t ≡ true → length b ≡ 7) (reading k) ((λ e. absurd (cc)), ((λ e. absurd (cc)), ((λ e. refl), ((λ e. refl), ((λ e. refl), ((λ e. absurd (cc)), ((λ e. refl), ((λ e. refl), ((λ e. refl), ((λ e. refl), ((λ e. refl), ((λ e. absurd (cc)), ((λ e. absurd (cc)), tt))))))))))))) key b read is

words : (k : Secrets) → Everywhere (ReadsStep (reading k)) (login k)
words k = (tt, (tt, (tt, (record { digits = refl; shared = refl; for_server = refl; for_client = refl }, (tt, (tt, (tt, (tt, (tt, (tt, (tt, (tt, (tt, (record { digits = refl; shared = refl; for_server = refl; for_client = refl }, (tt, (refl, tt))))))))))))))))

holders : (k : Secrets) → Everywhere (ReadsHolder (reading k) (setting k) labelling) (login k)
holders k = (tt, (tt, (tt, (tt, (tt, (tt, (tt, (tt, (tt, (refl, (tt, (tt, (tt, (tt, (tt, (refl, tt))))))))))))))))

bytes_at : (xs : List ℕ) → AreBytes xs → IsBytes xs
bytes_at [] h i = omega arith
bytes_at (x ∷ xs) h zero = All-head (λ n. n < 256) x xs h
bytes_at (x ∷ xs) h (suc i) = bytes_at xs (All-tail (λ n. n < 256) x xs h) i

-- words of different keys are written by different digits
differ : (a b : Word) → AreBytes (word_bytes a) → AreBytes (word_bytes b) → (key_bytes a ≡ key_bytes b → ⊥) → encode_lower (word_bytes a) ≡ encode_lower (word_bytes b) → ⊥
differ a b bytes_a bytes_b keys_differ same =
    let back : word_bytes a ≡ word_bytes b = sym (ap (λ r. result_unwrap_or r []) (decode_of-encode_lower (word_bytes a) (bytes_at (word_bytes a) bytes_a)))
    ∙ ap (λ text. result_unwrap_or (decode_of text) []) same
    ∙ ap (λ r. result_unwrap_or r []) (decode_of-encode_lower (word_bytes b) (bytes_at (word_bytes b) bytes_b)) in
    keys_differ (ap (take 7) back)

challenges : (k : Secrets) → AreFreshInMail k → AreDifferent (encode_lower (word_bytes k.first) ∷ encode_lower (word_bytes k.fourth) ∷ [])
challenges k f = ((differ k.first k.fourth f.first f.fourth f.keys.0.1.1.0, tt), (tt, tt))

-- ---- the table

entry : (k : Secrets) (name user : List ℕ) (at : Word) (secret : List ℕ) (key : UserKey) → name ≡ user → user_key at secret ≡ key
    → Reads (reading k) (long_key user) (key_bytes at) × ReadsPassword (reading k) user (Some secret) → Reads (reading k) (long_key name) key.des × ReadsPassword (reading k) name key.password
entry k name user at secret key named is h = subst (λ (n : List ℕ). Reads (reading k) (long_key n) key.des × ReadsPassword (reading k) n key.password) (sym named) (subst (λ (u : UserKey). Reads (reading k) (long_key user) u.des × ReadsPassword (reading k) user u.password) is h)

read_first : (k : Secrets) (name : List ℕ) (key : UserKey) → key_in (tables k ∷ []) 0 name ≡ Some key → Reads (reading k) (long_key name) key.des × ReadsPassword (reading k) name key.password
read_first k name key is = elim (cases_Bool (bytes_eq name ann)) [
  | inl first ↦ (
      let here : Some (user_key k.ann_key k.ann_password) ≡ Some key = rw first at is in
      entry k name ann k.ann_key k.ann_password key ((bytes_eq-Decides name ann).0 first) (let same : user_key k.ann_key k.ann_password ≡ key = cc in same) (refl, refl))
  | inr not_first ↦ elim (cases_Bool (bytes_eq name srv)) [
    | inl second ↦ (
        let here : Some (user_key k.srv_key k.srv_password) ≡ Some key = rw (not_first, second) at is in
        entry k name srv k.srv_key k.srv_password key ((bytes_eq-Decides name srv).0 second) (let same : user_key k.srv_key k.srv_password ≡ key = cc in same) (refl, refl))
    | inr other ↦ absurd (let nothing : None ≡ Some key = rw (not_first, other) at is in cc)
  ]
]

tables_read : (k : Secrets) → ReadsTables (reading k) (setting k)
tables_read k zero name key is = subst (λ (n : List ℕ). Reads (reading k) (long_key n) key.des × ReadsPassword (reading k) n key.password) (sym (first_name (tables k ∷ []) name (key_in (tables k ∷ []) 0 name))) (read_first k name key is)
tables_read k (suc number) name key is = absurd (none_in number name key is)

-- ---- what is taken

-- the request that has the digits behind it is read as one about ann
checked_read : (k : Secrets) → AreFreshInMail k → request_of (checked_bytes k) ≡ Ok (request_about ann (of k))
unfolding request_text proto_of value_of challenge_at encode_with
checked_read k f = then_read (of k) (may k f)

-- what it grants, by what it is read as
abbrev granted : Secrets → Result TicketReq FieldFault → Grant
granted k r = grant_by (setting k) 0 r (pair (request_tree ann) answering)

labels : (k : Secrets) → AreFreshInMail k → Everywhere (LabelsStep (reading k) (setting_of (setting k) labelling (login k)) labelling) (login k)
unfolding request_of request_fields name_in before_nul is_text is_utf8 chars encode may_speak encode_with proto_of value_of
labels k f = (
  tt,
  (
    record {
      of_bytes = (small (4 ∷ []) refl, ((tt, (small (64 ∷ []) refl, (tt, (small (name_28 ann) refl, (small (name_28 ann) refl, (tt, tt)))))), ((tt, (small (67 ∷ []) refl, (tt, (small (0 ∷ 0 ∷ 0 ∷ 0 ∷ []) refl, tt)))), tt)));
      spells = ap (λ rest. Ok (4 ∷ ticket_bytes k ++ rest)) (append-nil (proof_bytes k));
      derives = by_knowing 0 (ap (λ r. Some (vouch_given (granted k r) 1)) (checked_read k f));
    },
    (
      tt,
      (
        record {
          of_bytes = ((small (7 ∷ []) refl, (small (name_28 srv) refl, (small (name_field 48 (codes "x")) refl, (tt, (small (name_28 srv) refl, (small (name_28 ann) refl, tt)))))), ((tt, (small (60 ∷ []) refl, (tt, (small (codes "@x>") refl, tt)))), tt));
          spells = ap (λ rest. Ok (request_bytes ann k ++ rest)) (append-nil (digits k));
          derives = by_knowing 0 refl;
        },
        (
          tt,
          (
            record { of_bytes = (tt, (small (60 ∷ []) refl, (tt, (small (codes "@x>") refl, tt)))); spells = refl; derives = by_knowing 0 refl },
            (
              record { of_bytes = small ann refl; spells = refl; derives = in_public ann },
              (
                tt,
                (
                  record { of_bytes = (small (60 ∷ []) refl, (tt, (small (codes "@x>") refl, tt))); spells = refl; derives = by_knowing 0 refl },
                  (
                    tt,
                    (
                      tt,
                      (
                        record { of_bytes = (small head refl, ((small (60 ∷ []) refl, (tt, (small (codes "@x>") refl, tt))), tt)); spells = refl; derives = by_knowing 0 refl },
                        (
                          tt,
                          (
                            record { of_bytes = (small (7 ∷ []) refl, (small (name_28 srv) refl, (small (name_field 48 (codes "x")) refl, (tt, (small (name_28 srv) refl, (small (name_28 []) refl, tt)))))); spells = refl; derives = by_knowing 0 refl },
                            (tt, (tt, tt)),
                          ),
                        ),
                      ),
                    ),
                  ),
                ),
              ),
            ),
          ),
        ),
      ),
    ),
  ),
)

-- ---- what passed its tests

whole : (user : List ℕ) → length (name_28 user) ≡ 28 → AreFields (fields user)
whole user is = record { authid = refl; authdom = refl; hostid = refl; uid = is }

names : AreNames (name_28 ann) (name_28 ann)
names = record { client_whole = refl; server_whole = refl }

forms : (k : Secrets) → AreFreshInMail k → Everywhere (FormsStep (reading k) (setting_of (setting k) labelling (login k)) labelling) (login k)
unfolding request_of request_fields name_in before_nul is_text is_utf8 chars encode may_speak proto_of value_of
forms k f = (
  record { cuid = name_28 ann; suid = name_28 ann; names = names; key = ticket_key 1; is = refl },
  (
    tt,
    (
      (record { fields = fields ann; whole = whole ann refl; sealer = Some srv; name = ann; used = ap (λ r. (granted k r).used) (checked_read k f); is = ap (λ r. pair (request (mail_request mac.Apop) (fields ann) (granted k r).chal) answering) (sym (checked_read k f)) }, tt),
      (
        tt,
        (
          tt,
          (
            record { bytes = ann; is = refl },
            (tt, (tt, (tt, (tt, (record { head = head; six = refl; chal = challenged; is = refl }, (tt, ((record { fields = fields []; whole = whole [] refl; chal = nonce 0; is = refl }, tt), (tt, (tt, (tt, tt)))))))))),
          ),
        ),
      ),
    ),
  ),
)

-- ---- all of it

pub mail_login_is_clean : (k : Secrets) → AreFreshInMail k → IsClean (login k) (setting k) (reading k) labelling
mail_login_is_clean k f = record {
  short = omega arith;
  bytes = gives k f;
  sevens = sevens k;
  words = everywhere (ReadsStep (reading k)) (login k) (words k);
  tables = tables_read k;
  holders = everywhere (ReadsHolder (reading k) (setting k) labelling) (login k) (holders k);
  nonces_apart = apart is_nonce (reading k) (any_two is_nonce (reading k) (tt, tt));
  challenges_apart = apart is_challenge (reading k) (any_two is_challenge (reading k) (challenges k f));
  keys_apart = apart is_key (reading k) (any_two is_key (reading k) f.keys);
  passwords_apart = apart is_password (reading k) (any_two is_password (reading k) f.passwords);
  labels = everywhere (LabelsStep (reading k) (setting_of (setting k) labelling (login k)) labelling) (login k) (labels k f);
  forms = everywhere (FormsStep (reading k) (setting_of (setting k) labelling (login k)) labelling) (login k) (forms k f);
}
