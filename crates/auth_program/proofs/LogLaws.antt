-- The lines of requests are lines: short, of bytes that may stand in one.
use Rattle.std.proofs.Common.{◌≡◌, ℕ, ◌+◌, ◌<◌, ◌≤◌, List, [], ◌∷◌, ◌++◌, Bool, true, false, cond, codes, length, map, refl, sym, ap, ◌∙◌, append_assoc, length-append, arith}
use Rattle.std.specs.List.{list_all}
use Rattle.std.proofs.lemmas.List.{length-map}
use Rattle.std.proofs.lemmas.List.Folds.{list_all-append, list_all-map}
use Rattle.attr_tuples.proofs.EqualityLemmas.{list_all_always}
use Rattle.wire_base.specs.Kinds.{ticket_request, apop_request, cram_request}
use Rattle.std.specs.Prelude.{◌==◌}
use Rattle.auth_server.specs.declared.log.Outcome.{Outcome}
use Rattle.auth_server.specs.declared.log.Outcome.TheVariants.{Granted, Refused, Challenged, Vouched, Wrong}
use Rattle.auth_program.specs.Log.{IsLine, asked_word, bad_line, head_text, is_shown, is_visible, judged_line, names_text, outcome_word, shown_byte, word_text}

-- ---- bytes that may stand in a line

byte_shown : (visible : Bool) (byte : ℕ) → is_visible byte ≡ visible → is_shown (cond visible byte 63) ≡ true
byte_shown true byte e = rw (e) refl
byte_shown false byte e = refl

name_shown : (name : List ℕ) → list_all is_shown (map shown_byte name) ≡ true
name_shown name = list_all-map is_shown shown_byte name ∙ list_all_always (λ (byte : ℕ). is_shown (shown_byte byte)) (λ byte. byte_shown (is_visible byte) byte refl) name

both_shown : (xs ys : List ℕ) → list_all is_shown xs ≡ true → list_all is_shown ys ≡ true → list_all is_shown (xs ++ ys) ≡ true
both_shown xs ys a b = list_all-append is_shown xs ys ∙ rw (a, b) refl

word_shown : (begin name : List ℕ) → list_all is_shown begin ≡ true → list_all is_shown (word_text begin name) ≡ true
word_shown begin name a = both_shown (32 ∷ begin) (map shown_byte name) a (name_shown name)

asked_shown : (ticket apop cram : Bool) → list_all is_shown (cond ticket (codes "ticket") (cond apop (codes "APOP") (cond cram (codes "CRAM") (codes "unknown")))) ≡ true
asked_shown true apop cram = refl
asked_shown false true cram = refl
asked_shown false false true = refl
asked_shown false false false = refl

outcome_shown : (outcome : Outcome) → list_all is_shown (outcome_word outcome) ≡ true
outcome_shown Granted = refl
outcome_shown Refused = refl
outcome_shown Challenged = refl
outcome_shown Vouched = refl
outcome_shown Wrong = refl

-- ---- lengths

length_word : (begin name : List ℕ) → length (word_text begin name) ≡ (1 + length begin) + length name
length_word begin name = length-append (32 ∷ begin) (map shown_byte name) ∙ omega (arith, length-map name shown_byte)

asked_few : (ticket apop cram : Bool) → length (cond ticket (codes "ticket") (cond apop (codes "APOP") (cond cram (codes "CRAM") (codes "unknown")))) ≤ 7
asked_few true apop cram = omega arith
asked_few false true cram = omega arith
asked_few false false true = omega arith
asked_few false false false = omega arith

outcome_few : (outcome : Outcome) → length (outcome_word outcome) ≤ 10
outcome_few Granted = omega arith
outcome_few Refused = omega arith
outcome_few Challenged = omega arith
outcome_few Vouched = omega arith
outcome_few Wrong = omega arith

-- ---- lines

ended : (a b c d e : List ℕ) → a ++ (b ++ (c ++ (d ++ e))) ≡ (a ++ (b ++ (c ++ d))) ++ e
ended a b c d e = sym (append_assoc a (b ++ (c ++ d)) e ∙ ap (λ (t : List ℕ). a ++ t) (append_assoc b (c ++ d) e ∙ ap (λ (t : List ℕ). b ++ t) (append_assoc c d e)))

-- the line of a request with a bad field, put together
pub bad_made : (address : List ℕ) (kind : ℕ) (old asked now : List ℕ) → asked ≡ old ++ (head_text address ++ word_text (asked_word kind) []) → now ≡ asked ++ (codes " bad request" ++ 10 ∷ []) → now ≡ old ++ bad_line address kind
bad_made address kind old asked now e f =
    let rest = codes " bad request" ++ 10 ∷ [] in
    f ∙ (ap (λ (t : List ℕ). t ++ rest) e
    ∙ (append_assoc old (head_text address ++ word_text (asked_word kind) []) rest ∙ ap (λ (t : List ℕ). old ++ t) (append_assoc (head_text address) (word_text (asked_word kind) []) rest)))

module _ (address : List ℕ) (kind : ℕ) (short : length address < 48) where
  head_shown : list_all is_shown (head_text address) ≡ true
  head_shown = both_shown (codes "authd:") (word_text [] address) refl (word_shown [] address refl)

  asked_is_shown : list_all is_shown (word_text (asked_word kind) []) ≡ true
  asked_is_shown = word_shown (asked_word kind) [] (asked_shown (kind == ticket_request) (kind == apop_request) (kind == cram_request))

  length_head : length (head_text address) < 55
  length_head = omega (arith, length-append (codes "authd:") (word_text [] address), length_word [] address, short)

  length_asked : length (word_text (asked_word kind) []) ≤ 8
  length_asked = omega (arith, length_word (asked_word kind) [], asked_few (kind == ticket_request) (kind == apop_request) (kind == cram_request))

  pub judged_is_line : (host user : List ℕ) (outcome : Outcome) → length host < 28 → length user < 28 → IsLine (judged_line address kind host user outcome)
  judged_is_line host user outcome few_host few_user =
      let first = head_text address in
      let second = word_text (asked_word kind) [] in
      let third = names_text host user in
      let fourth = word_text (outcome_word outcome) [] in
      let names = length-append (word_text (codes "host=") host) (word_text (codes "user=") user) in
      record {
        text = first ++ (second ++ (third ++ fourth));
        is = ended first second third fourth (10 ∷ []);
        shown = both_shown first _ head_shown (both_shown second _ asked_is_shown (both_shown third fourth
            (both_shown (word_text (codes "host=") host) (word_text (codes "user=") user) (word_shown (codes "host=") host refl) (word_shown (codes "user=") user refl))
            (word_shown (outcome_word outcome) [] (outcome_shown outcome))));
        short = omega (
          arith,
          length_head,
          length_asked,
          names,
          length_word (codes "host=") host,
          length_word (codes "user=") user,
          few_host,
          few_user,
          length_word (outcome_word outcome) [],
          outcome_few outcome,
          length-append first (second ++ (third ++ (fourth ++ 10 ∷ []))),
          length-append second (third ++ (fourth ++ 10 ∷ [])),
          length-append third (fourth ++ 10 ∷ []),
          length-append fourth (10 ∷ []),
        );
      }

  pub bad_is_line : IsLine (bad_line address kind)
  bad_is_line =
      let first = head_text address in
      let second = word_text (asked_word kind) [] in
      record {
        text = first ++ (second ++ (codes " bad request" ++ []));
        is = ended first second (codes " bad request") [] (10 ∷ []);
        shown = both_shown first _ head_shown (both_shown second _ asked_is_shown refl);
        short = omega (arith, length_head, length_asked, length-append first (second ++ (codes " bad request" ++ 10 ∷ [])), length-append second (codes " bad request" ++ 10 ∷ []));
      }
