-- That the tests of words decide, and that one pass makes all of them.
use Rattle.std.proofs.Common.{◌≡◌, ◌↔◌, ℕ, suc, ◌+◌, ◌*◌, List, [], ◌∷◌, ◌++◌, Some, None, Option, Bool, true, false, ◌&&◌, sym, refl, subst, ap, ◌∙◌, append_assoc, reverse, length, ◌<◌, drop, get_or, drop-cons}
use Rattle.std.proofs.lemmas.Bool.{and_parts, and_from, true≢false}
use Rattle.std.proofs.lemmas.List.{reverse-append}
use Rattle.std.proofs.lemmas.Slice.Eq.{bytes_eq-Decides}
use Rattle.hex.specs.Hex.{encode_lower}
use Rattle.auth_server.specs.Answers.{word, word_key}
use Rattle.symbolic_runs.specs.Moves.{Role, client, server, mail_client, mail_server}
use Rattle.symbolic_runs.specs.Spellings.{Atoms, bytes_of}
use Rattle.symbolic_runs.specs.Trees.{challenge, junk_key, nonce, ticket_key}
use Rattle.wire_histories.specs.declared.step.Step.{Step}
use Rattle.wire_histories.specs.declared.step.Step.TheVariants.{Start, Out, In, Ask, Heard, Unheard, Accept, Fail, Reply, Refused, AsGot, AsGave, AsEnd, Restart, Reload}
use Rattle.wire_histories.specs.Histories.{History}
use Rattle.clean_runs.specs.Clean.{AtEachPlace, ReadsStep, ReadsWord, ReadsWords}
use Rattle.clean_runs.specs.Labels.{requests_in, starts_in}
use Rattle.clean_runs.specs.Runs.{role_by}
use Rattle.trace_runs.specs.Words.{at_each_place, is_read, read_in_order, reads, reads_numbered, reads_request, reads_step, reads_word, requests_after, starts_after}

-- ---- each place

pub all_places : (history : History) (test : History → Step → Bool) (P : History → Step → Type 0) → ((past : History) (step : Step) → test past step ≡ true → P past step) → at_each_place history test ≡ true → AtEachPlace history P
all_places history test P so h = λ later past step e. so past step (at later past step (subst (λ (x : History). at_each_place x test ≡ true) e h))
  where
    at : (later past : History) (step : Step) → at_each_place (later ++ step ∷ past) test ≡ true → test past step ≡ true
    at [] past step g = (and_parts (test past step) (at_each_place past test) g).0
    at (first ∷ later) past step g = at later past step (and_parts (test (later ++ step ∷ past) first) (at_each_place (later ++ step ∷ past) test) g).1

pub every_place : (history : History) (test : History → Step → Bool) (P : History → Step → Type 0) → ((past : History) (step : Step) → P past step → test past step ≡ true) → AtEachPlace history P → at_each_place history test ≡ true
every_place [] test P so h = refl
every_place (step ∷ past) test P so h =
    and_from (test past step) (at_each_place past test) (so past step (h [] past step refl))
    (every_place past test P so (λ later earlier other e. h (step ∷ later) earlier other (ap (λ (x : History). step ∷ x) e)))

-- ---- the tests

pub is_so_read : (o : Option (List ℕ)) (b : List ℕ) → is_read o b ≡ true → o ≡ Some b
is_so_read None b h = absurd (true≢false (sym h))
is_so_read (Some text) b h = ap Some ((bytes_eq-Decides text b).0 h)

pub so_is_read : (o : Option (List ℕ)) (b : List ℕ) → o ≡ Some b → is_read o b ≡ true
so_is_read o b e = rw e ((bytes_eq-Decides b b).1 refl)

word_read : (atoms : Atoms) (role : Role) (number : ℕ) (random : List ℕ) → reads_word atoms role number random ≡ true → ReadsWord atoms role number random
word_read atoms client number random h = is_so_read (bytes_of atoms (nonce number)) random h
word_read atoms server number random h = is_so_read (bytes_of atoms (nonce number)) random h
word_read atoms (mail_client kind) number random h = tt
word_read atoms (mail_server kind) number random h = is_so_read (bytes_of atoms (nonce number)) random h

read_word : (atoms : Atoms) (role : Role) (number : ℕ) (random : List ℕ) → ReadsWord atoms role number random → reads_word atoms role number random ≡ true
read_word atoms client number random h = so_is_read (bytes_of atoms (nonce number)) random h
read_word atoms server number random h = so_is_read (bytes_of atoms (nonce number)) random h
read_word atoms (mail_client kind) number random h = refl
read_word atoms (mail_server kind) number random h = so_is_read (bytes_of atoms (nonce number)) random h

words_read : (atoms : Atoms) (number : ℕ) (words : List (List ℕ)) → reads_request atoms number words ≡ true → ReadsWords atoms number words
words_read atoms number words h =
    let a : Bool = reads atoms (challenge number) (encode_lower (word 0 words)) in
    let b : Bool = reads atoms (ticket_key number) (word_key (word 0 words)) in
    let c : Bool = reads atoms (junk_key (2 * number)) (word_key (word 1 words)) in
    let d : Bool = reads atoms (junk_key (2 * number + 1)) (word_key (word 2 words)) in
    let first = and_parts a (b && (c && d)) h in
    let second = and_parts b (c && d) first.1 in
    let third = and_parts c d second.1 in
    record {
      digits = is_so_read (bytes_of atoms (challenge number)) (encode_lower (word 0 words)) first.0;
      shared = is_so_read (bytes_of atoms (ticket_key number)) (word_key (word 0 words)) second.0;
      for_server = is_so_read (bytes_of atoms (junk_key (2 * number))) (word_key (word 1 words)) third.0;
      for_client = is_so_read (bytes_of atoms (junk_key (2 * number + 1))) (word_key (word 2 words)) third.1;
    }

read_words : (atoms : Atoms) (number : ℕ) (words : List (List ℕ)) → ReadsWords atoms number words → reads_request atoms number words ≡ true
read_words atoms number words h =
    let a : Bool = reads atoms (challenge number) (encode_lower (word 0 words)) in
    let b : Bool = reads atoms (ticket_key number) (word_key (word 0 words)) in
    let c : Bool = reads atoms (junk_key (2 * number)) (word_key (word 1 words)) in
    let d : Bool = reads atoms (junk_key (2 * number + 1)) (word_key (word 2 words)) in
    and_from a (b && (c && d)) (so_is_read (bytes_of atoms (challenge number)) (encode_lower (word 0 words)) h.digits)
    (and_from b (c && d) (so_is_read (bytes_of atoms (ticket_key number)) (word_key (word 0 words)) h.shared)
    (and_from c d (so_is_read (bytes_of atoms (junk_key (2 * number))) (word_key (word 1 words)) h.for_server)
    (so_is_read (bytes_of atoms (junk_key (2 * number + 1))) (word_key (word 2 words)) h.for_client)))

step_read : (atoms : Atoms) (past : History) (step : Step) → reads_step atoms past step ≡ true → ReadsStep atoms past step
step_read atoms past (Start conv protocol role random) h = word_read atoms (role_by protocol role) (starts_in past) random h
step_read atoms past (AsGot session b words) h = words_read atoms (requests_in past) words h
step_read atoms past (Out number conv b) h = tt
step_read atoms past (In conv b) h = tt
step_read atoms past (Ask number conv b) h = tt
step_read atoms past (Heard conv b) h = tt
step_read atoms past (Unheard conv) h = tt
step_read atoms past (Accept conv cuid suid) h = tt
step_read atoms past (Fail conv cause) h = tt
step_read atoms past (Reply conv answer) h = tt
step_read atoms past (Refused node answer) h = tt
step_read atoms past (AsGave number session b) h = tt
step_read atoms past (AsEnd session) h = tt
step_read atoms past (Restart node) h = tt
step_read atoms past Reload h = tt

read_step : (atoms : Atoms) (past : History) (step : Step) → ReadsStep atoms past step → reads_step atoms past step ≡ true
read_step atoms past (Start conv protocol role random) h = read_word atoms (role_by protocol role) (starts_in past) random h
read_step atoms past (AsGot session b words) h = read_words atoms (requests_in past) words h
read_step atoms past (Out number conv b) h = refl
read_step atoms past (In conv b) h = refl
read_step atoms past (Ask number conv b) h = refl
read_step atoms past (Heard conv b) h = refl
read_step atoms past (Unheard conv) h = refl
read_step atoms past (Accept conv cuid suid) h = refl
read_step atoms past (Fail conv cause) h = refl
read_step atoms past (Reply conv answer) h = refl
read_step atoms past (Refused node answer) h = refl
read_step atoms past (AsGave number session b) h = refl
read_step atoms past (AsEnd session) h = refl
read_step atoms past (Restart node) h = refl
read_step atoms past Reload h = refl

-- ---- in one pass

starts_on : (past : History) (step : Step) → starts_after (starts_in past) step ≡ starts_in (step ∷ past)
starts_on past (Start conv protocol role random) = refl
starts_on past (AsGot session b words) = refl
starts_on past (Out number conv b) = refl
starts_on past (In conv b) = refl
starts_on past (Ask number conv b) = refl
starts_on past (Heard conv b) = refl
starts_on past (Unheard conv) = refl
starts_on past (Accept conv cuid suid) = refl
starts_on past (Fail conv cause) = refl
starts_on past (Reply conv answer) = refl
starts_on past (Refused node answer) = refl
starts_on past (AsGave number session b) = refl
starts_on past (AsEnd session) = refl
starts_on past (Restart node) = refl
starts_on past Reload = refl

requests_on : (past : History) (step : Step) → requests_after (requests_in past) step ≡ requests_in (step ∷ past)
requests_on past (Start conv protocol role random) = refl
requests_on past (AsGot session b words) = refl
requests_on past (Out number conv b) = refl
requests_on past (In conv b) = refl
requests_on past (Ask number conv b) = refl
requests_on past (Heard conv b) = refl
requests_on past (Unheard conv) = refl
requests_on past (Accept conv cuid suid) = refl
requests_on past (Fail conv cause) = refl
requests_on past (Reply conv answer) = refl
requests_on past (Refused node answer) = refl
requests_on past (AsGave number session b) = refl
requests_on past (AsEnd session) = refl
requests_on past (Restart node) = refl
requests_on past Reload = refl

turned : (step : Step) (steps past : List Step) → reverse (step ∷ steps) ++ past ≡ reverse steps ++ step ∷ past
turned step steps past = ap (λ (x : List Step). x ++ past) (reverse-append (step ∷ []) steps) ∙ append_assoc (reverse steps) (step ∷ []) past

pub both_ways : (a b : Bool) → (a && b) ≡ (b && a)
both_ways true true = refl
both_ways true false = refl
both_ways false true = refl
both_ways false false = refl

pub together : (a b c : Bool) → ((a && b) && c) ≡ (a && (b && c))
together true b c = refl
together false b c = refl

in_order : (atoms : Atoms) (steps : List Step) (past : History) → (read_in_order atoms (starts_in past) (requests_in past) steps && at_each_place past (reads_step atoms)) ≡ at_each_place (reverse steps ++ past) (reads_step atoms)
in_order atoms [] past = refl
in_order atoms (step ∷ steps) past =
    let a : Bool = reads_step atoms past step in
    let here : Bool = at_each_place past (reads_step atoms) in
    let b : Bool = read_in_order atoms (starts_after (starts_in past) step) (requests_after (requests_in past) step) steps in
    let moved : ((a && b) && here) ≡ (b && (a && here)) = ap (λ (x : Bool). x && here) (both_ways a b) ∙ together b a here in
    let counted : b ≡ read_in_order atoms (starts_in (step ∷ past)) (requests_in (step ∷ past)) steps =
    ap (λ (n : ℕ). read_in_order atoms n (requests_after (requests_in past) step) steps) (starts_on past step)
    ∙ ap (λ (n : ℕ). read_in_order atoms (starts_in (step ∷ past)) n steps) (requests_on past step) in
    let rest = in_order atoms steps (step ∷ past) in
    moved ∙ (ap (λ (x : Bool). x && (a && here)) counted ∙ (rest ∙ ap (λ (x : History). at_each_place x (reads_step atoms)) (sym (turned step steps past))))

pub decides_words : (atoms : Atoms) (steps : List Step) (so : Bool) → so ≡ read_in_order atoms 0 0 steps → (so ≡ true) ↔ AtEachPlace (reverse steps) (ReadsStep atoms)
decides_words atoms steps so e =
    let whole : read_in_order atoms 0 0 steps ≡ at_each_place (reverse steps) (reads_step atoms) =
    sym (and_true (read_in_order atoms 0 0 steps)) ∙ (in_order atoms steps [] ∙ ap (λ (x : History). at_each_place x (reads_step atoms)) (append_nil (reverse steps))) in (
      (λ is. all_places (reverse steps) (reads_step atoms) (ReadsStep atoms) (step_read atoms) (sym whole ∙ (sym e ∙ is))),
      (λ is. e ∙ (whole ∙ every_place (reverse steps) (reads_step atoms) (ReadsStep atoms) (read_step atoms) is)),
    )
  where
    and_true : (x : Bool) → (x && true) ≡ x
    and_true true = refl
    and_true false = refl

    append_nil : (xs : List Step) → xs ++ [] ≡ xs
    append_nil [] = refl
    append_nil (x ∷ xs) = ap (λ (ys : List Step). x ∷ ys) (append_nil xs)

-- ---- of the loop

pub word_fails : (atoms : Atoms) (steps : List Step) (i starts requests : ℕ) (step : Step) (all : Bool) → i < length steps → step ≡ get_or steps i step → reads_numbered atoms starts requests step ≡ false → read_in_order atoms starts requests (drop i steps) ≡ all → false ≡ all
word_fails atoms steps i starts requests step all p e fails so =
    let rest : Bool = read_in_order atoms (starts_after starts step) (requests_after requests step) (drop (suc i) steps) in
    let left : drop i steps ≡ step ∷ drop (suc i) steps = drop-cons steps i step p ∙ ap (λ (x : Step). x ∷ drop (suc i) steps) (sym e) in
    sym (ap (λ (y : Bool). y && rest) fails) ∙ (sym (ap (read_in_order atoms starts requests) left) ∙ so)
