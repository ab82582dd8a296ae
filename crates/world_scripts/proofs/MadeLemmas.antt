-- The lines of a script that is made of a number are read as they were written: each has the form of a line, no newline and
-- no `#` in front.
use Rattle.std.proofs.Common.{◌≡◌, ◌≤◌, ◌<◌, ◌+◌, ◌*◌, ◌/◌, ◌%◌, ◌^◌, ℕ, zero, suc, List, [], ◌∷◌, ◌++◌, append_assoc, codes, drop, length, map, Bool, true, false, eqb, ltb, nat_le, ◌==◌, ◌&&◌, ◌||◌, Option, Some, cond, refl, ap, ◌∙◌, arith}
use Rattle.std.specs.Int.{byte_at, bytes_low_first, to_le_bytes, w32}
use Rattle.std.specs.Fmt.{decimal}
use Rattle.std.specs.List.{list_all, slice_split}
use Rattle.std.proofs.lemmas.Bool.{and_from, and_parts, le-leb, lt-ltb}
use Rattle.std.proofs.lemmas.Fmt.{length-decimal-le}
use Rattle.std.proofs.lemmas.List.Folds.{list_all-append}
use Rattle.hex.specs.Hex.{encode_lower}
use Rattle.rand_chacha.specs.ChaCha.{ChaCha, next_word}
use Rattle.world_scripts.specs.Draws.{draw, draws, generator_of}
use Rattle.world_scripts.specs.Pieces.{Spelled, Whole, are_pieces, is_decimal_digit, is_number}
use Rattle.world_scripts.specs.Lines.{ScriptLine, Open, Start, Read, Write, Answer, NoAnswer, AsGive, Close, is_formed, is_name, is_name_byte, is_random, line_text}
use Rattle.world_scripts.specs.Reading.{is_lower_digit, line_of}
use Rattle.world_scripts.specs.Scripts.{Numbered, is_skipped, numbered}
use Rattle.world_scripts.specs.declared.round.Drawn.{Drawn}
use Rattle.world_scripts.specs.declared.round.Kind.{Kind}
use Rattle.world_scripts.specs.declared.round.Kind.TheVariants.{Honest, Replayed, Unanswered, Blank}
use Rattle.world_scripts.specs.Rounds.{answering, challenging, client_of, client_tuple, ending, gives, kind_of, middle, name, recorded, round_lines, server_of, server_tuple, session_of, starting, zeros}
use Rattle.world_scripts.specs.Generated.{drawn, gen_text, line, lines_text, opening, rounds_from, word}
use Rattle.world_scripts.specs.MadeScripts.{MadeIsRead}
use Rattle.world_scripts.proofs.CutLemmas.{lacks, lacks_by}
use Rattle.world_scripts.proofs.LineLemmas.{line_again}
use Rattle.world_scripts.proofs.NumberLemmas.{decimal_digits, decimal_number}
use Rattle.world_scripts.proofs.PieceLemmas.{lacks_both, number_lacks, split_front}
use Rattle.world_scripts.proofs.SpellLemmas.{are_bytes, encoded_lower}

-- ---- words of eight bytes

below_256 : (x : ℕ) → x % 256 < 256
below_256 x = omega arith

byte_small : (i n : ℕ) → byte_at i n < 256
byte_small zero n = below_256 n
byte_small (suc i) n = below_256 (n / 256 ^ suc i)

low_small : (i k n : ℕ) → are_bytes (bytes_low_first i k n) ≡ true
low_small i zero n = refl
low_small i (suc k) n = and_from _ _ (lt-ltb (byte_at i n) 256 (byte_small i n)) (low_small (suc i) k n)

abbrev AllRandom : List (List ℕ) → Type 0
AllRandom [] = Unit {0}
AllRandom (w ∷ words) = (is_random w ≡ true) × AllRandom words

two_random : (a b : ℕ) → is_random (to_le_bytes w32 a ++ to_le_bytes w32 b) ≡ true
two_random a b = list_all-append (λ x. ltb x 256) (to_le_bytes w32 a) (to_le_bytes w32 b) ∙ and_from (are_bytes (to_le_bytes w32 a)) (are_bytes (to_le_bytes w32 b)) (low_small 0 4 a) (low_small 0 4 b)

draws_random : (count : ℕ) (rng : ChaCha) → AllRandom (draws count rng)
draws_random zero rng = tt
draws_random (suc count) rng = (two_random (next_word 10 rng).0 (next_word 10 (next_word 10 rng).1).0, draws_random count (draw rng).1)

draws_long : (count : ℕ) (rng : ChaCha) → length (draws count rng) ≡ count
draws_long zero rng = refl
draws_long (suc count) rng = ap suc (draws_long count (draw rng).1)

random_behind : (n : ℕ) (words : List (List ℕ)) → AllRandom words → AllRandom (drop n words)
random_behind zero words s = s
random_behind (suc n) [] s = tt
random_behind (suc n) (w ∷ words) s = random_behind n words s.1

random_at : (n : ℕ) (words : List (List ℕ)) → n < length words → AllRandom words → is_random (word n words) ≡ true
random_at n [] few s = absurd (omega (arith, few))
random_at zero (w ∷ words) few s = s.0
random_at (suc n) (w ∷ words) few s = random_at n words (omega (arith, few)) s.1

-- the words of a round
record IsDrawn (d : Drawn) : Type 0 where
  client : is_random d.client ≡ true
  server : is_random d.server ≡ true
  first : is_random d.first ≡ true
  second : is_random d.second ≡ true
  third : is_random d.third ≡ true

round_drawn : (words : List (List ℕ)) → 5 ≤ length words → AllRandom words → IsDrawn (drawn words)
round_drawn words few s = record {
  client = random_at 0 words (omega (arith, few)) s;
  server = random_at 1 words (omega (arith, few)) s;
  first = random_at 2 words (omega (arith, few)) s;
  second = random_at 3 words (omega (arith, few)) s;
  third = random_at 4 words (omega (arith, few)) s;
}

five_fewer : (n : ℕ) (words : List (List ℕ)) → 5 + n ≤ length words → n ≤ length (drop 5 words)
five_fewer n [] few = absurd (omega (arith, few))
five_fewer n (a ∷ []) few = absurd (omega (arith, few))
five_fewer n (a ∷ b ∷ []) few = absurd (omega (arith, few))
five_fewer n (a ∷ b ∷ c ∷ []) few = absurd (omega (arith, few))
five_fewer n (a ∷ b ∷ c ∷ d ∷ []) few = absurd (omega (arith, few))
five_fewer n (a ∷ b ∷ c ∷ d ∷ e ∷ words) few = omega (arith, few)

-- ---- names

digit_names : (digits : List ℕ) → list_all is_decimal_digit digits ≡ true → list_all is_name_byte digits ≡ true
digit_names [] h = refl
digit_names (b ∷ digits) h =
    let both = and_parts (is_decimal_digit b) (list_all is_decimal_digit digits) h in
    and_from (is_name_byte b) (list_all is_name_byte digits) (or_digit (nat_le 97 b && nat_le b 122) (is_decimal_digit b) both.0) (digit_names digits both.1)
  where
    or_digit : (x y : Bool) → y ≡ true → (x || y) ≡ true
    or_digit true y e = refl
    or_digit false y e = e

name_formed : (letter round : ℕ) → is_name_byte letter ≡ true → round < 100000 → is_name (name letter round) ≡ true
name_formed letter round letter_is few =
    let short = length-decimal-le 5 round (omega arith) (omega (arith, few)) (omega (arith, few)) in
    and_from (nat_le 1 (length (name letter round))) _ (le-leb 1 (length (name letter round)) (omega arith))
    (and_from (nat_le (length (name letter round)) 16) _ (le-leb (length (name letter round)) 16 (omega (arith, short)))
    (and_from (is_name_byte letter) _ letter_is (digit_names (decimal round) (decimal_digits round (omega (arith, few))))))

name_lacks : (text : List ℕ) → is_name text ≡ true → lacks 10 text ≡ true
name_lacks text h =
    let inner = (and_parts (nat_le 1 (length text)) _ h).1 in
    lacks_by is_name_byte 10 refl text (and_parts (nat_le (length text) 16) _ inner).1

random_lacks_line : (w : List ℕ) → is_random w ≡ true → lacks 10 (encode_lower w) ≡ true
random_lacks_line w h = lacks_by is_lower_digit 10 refl (encode_lower w) (encoded_lower w (and_parts (length w == 8) (are_bytes w) h).1)

-- ---- lines

-- a line has the form of one, no newline and no `#` in front
record IsGood (l : ScriptLine) : Type 0 where
  formed : is_formed l ≡ true
  whole : lacks 10 (line_text l) ≡ true
  said : is_skipped (line_text l) ≡ false

open_good : (node conv : List ℕ) → is_name node ≡ true → is_name conv ≡ true → IsGood (Open node conv)
open_good node conv n c = record {
  formed = and_from (is_name node) (is_name conv) n c;
  whole = lacks_both 10 (codes "open ") (node ++ 32 ∷ conv) refl (lacks_both 10 node (32 ∷ conv) (name_lacks node n) (name_lacks conv c));
  said = refl;
}

start_good : (conv w tuple : List ℕ) → is_name conv ≡ true → is_random w ≡ true → lacks 10 tuple ≡ true → IsGood (Start conv w tuple)
start_good conv w tuple c r t = record {
  formed = and_from (is_name conv) (is_random w) c r;
  whole = lacks_both 10 conv (32 ∷ (encode_lower w ++ 32 ∷ tuple)) (name_lacks conv c) (lacks_both 10 (encode_lower w) (32 ∷ tuple) (random_lacks_line w r) t);
  said = refl;
}

read_good : (conv : List ℕ) → is_name conv ≡ true → IsGood (Read conv)
read_good conv c = record { formed = c; whole = name_lacks conv c; said = refl }

no_answer_good : (conv : List ℕ) → is_name conv ≡ true → IsGood (NoAnswer conv)
no_answer_good conv c = record { formed = c; whole = name_lacks conv c; said = refl }

close_good : (conv : List ℕ) → is_name conv ≡ true → IsGood (Close conv)
close_good conv c = record { formed = c; whole = name_lacks conv c; said = refl }

small : (message : ℕ) → message < 100000 → is_number (decimal message) ≡ true
small message few = decimal_number message (omega (arith, few))

one_message : (message : ℕ) → message < 100000 → are_pieces (Whole (decimal message) ∷ []) ≡ true
one_message message few = rw (small message few) refl

gives_good : (conv : List ℕ) (message : ℕ) → is_name conv ≡ true → message < 100000 → IsGood (gives conv message)
gives_good conv message c m = record {
  formed = and_from (is_name conv) (are_pieces (Whole (decimal message) ∷ [])) c (one_message message m);
  whole = lacks_both 10 conv (32 ∷ 109 ∷ decimal message) (name_lacks conv c) (number_lacks 10 (decimal message) refl (small message m));
  said = refl;
}

answer_good : (conv : List ℕ) (message : ℕ) → is_name conv ≡ true → message < 100000 → IsGood (Answer conv (Whole (decimal message) ∷ []))
answer_good conv message c m = record {
  formed = and_from (is_name conv) (are_pieces (Whole (decimal message) ∷ [])) c (one_message message m);
  whole = lacks_both 10 conv (32 ∷ 109 ∷ decimal message) (name_lacks conv c) (number_lacks 10 (decimal message) refl (small message m));
  said = refl;
}

blank_good : (conv : List ℕ) → is_name conv ≡ true → IsGood (Write conv (Spelled zeros ∷ []))
blank_good conv c = record {
  formed = and_from (is_name conv) true c refl;
  whole = lacks_both 10 conv (32 ∷ 120 ∷ zeros) (name_lacks conv c) refl;
  said = refl;
}

asked_good : (session : List ℕ) (message : ℕ) (a b c : List ℕ) → is_name session ≡ true → message < 100000 → is_random a ≡ true → is_random b ≡ true → is_random c ≡ true → IsGood (AsGive session (Whole (decimal message) ∷ []) a b c)
asked_good session message a b c s m ra rb rc =
    let three : List ℕ = encode_lower c in
    let two : List ℕ = encode_lower b ++ 32 ∷ three in
    let one : List ℕ = encode_lower a ++ 32 ∷ two in
    record {
      formed = and_from (is_name session) _ s (and_from (are_pieces (Whole (decimal message) ∷ [])) _ (one_message message m) (and_from (is_random a) _ ra (and_from (is_random b) (is_random c) rb rc)));
      whole = lacks_both 10 session (32 ∷ 109 ∷ (decimal message ++ 32 ∷ one)) (name_lacks session s)
          (lacks_both 10 (decimal message) (32 ∷ one) (number_lacks 10 (decimal message) refl (small message m))
          (lacks_both 10 (encode_lower a) (32 ∷ two) (random_lacks_line a ra) (lacks_both 10 (encode_lower b) (32 ∷ three) (random_lacks_line b rb) (random_lacks_line c rc))));
      said = refl;
    }

-- ---- lists of lines

abbrev AllGood : List ScriptLine → Type 0
AllGood [] = Unit {0}
AllGood (l ∷ lines) = IsGood l × AllGood lines

good_both : (front back : List ScriptLine) → AllGood front → AllGood back → AllGood (front ++ back)
good_both [] back f b = b
good_both (l ∷ front) back f b = (f.0, good_both front back f.1 b)

opening_good : AllGood opening
opening_good = (
  record { formed = refl; whole = refl; said = refl },
  (
    record { formed = refl; whole = refl; said = refl },
    (
      record { formed = refl; whole = refl; said = refl },
      (record { formed = refl; whole = refl; said = refl }, (record { formed = refl; whole = refl; said = refl }, (record { formed = refl; whole = refl; said = refl }, tt))),
    ),
  ),
)

-- ---- a round

module _ (round before first : ℕ) (d : Drawn) (few : round < 100000) (old : before + 6 < 100000) (new : first + 6 < 100000) (s : IsDrawn d) where
  client_named : is_name (client_of round) ≡ true
  client_named = name_formed 99 round refl few

  server_named : is_name (server_of round) ≡ true
  server_named = name_formed 115 round refl few

  session_named : is_name (session_of round) ≡ true
  session_named = name_formed 114 round refl few

  starting_good : AllGood (starting round d)
  unfolding client_tuple server_tuple
  starting_good = (
    open_good (codes "a") (client_of round) refl client_named,
    (
      open_good (codes "b") (server_of round) refl server_named,
      (start_good (client_of round) d.client client_tuple client_named s.client refl, (start_good (server_of round) d.server server_tuple server_named s.server refl, tt)),
    ),
  )

  challenging_good : AllGood (challenging round first)
  challenging_good = (
    read_good (client_of round) client_named,
    (
      gives_good (server_of round) first server_named (omega (arith, new)),
      (read_good (server_of round) server_named, (gives_good (client_of round) (first + 1) client_named (omega (arith, new)), tt)),
    ),
  )

  answering_good : AllGood (answering round first d)
  answering_good = (
    asked_good (session_of round) (first + 2) d.first d.second d.third session_named (omega (arith, new)) s.first s.second s.third,
    (answer_good (client_of round) (first + 3) client_named (omega (arith, new)), (read_good (client_of round) client_named, tt)),
  )

  middle_good : (kind : Kind) → AllGood (middle kind round before first d)
  middle_good Honest = good_both (answering round first d) (gives (server_of round) (first + 4) ∷ Read (server_of round) ∷ gives (client_of round) (first + 5) ∷ []) answering_good (
    gives_good (server_of round) (first + 4) server_named (omega (arith, new)),
    (read_good (server_of round) server_named, (gives_good (client_of round) (first + 5) client_named (omega (arith, new)), tt)),
  )
  middle_good Replayed = good_both (answering round first d) (gives (server_of round) (before + 4) ∷ []) answering_good (gives_good (server_of round) (before + 4) server_named (omega (arith, old)), tt)
  middle_good Unanswered = (no_answer_good (client_of round) client_named, tt)
  middle_good Blank = good_both (answering round first d) (Write (server_of round) (Spelled zeros ∷ []) ∷ []) answering_good (blank_good (server_of round) server_named, tt)

  ending_good : AllGood (ending round)
  ending_good = (close_good (client_of round) client_named, (close_good (server_of round) server_named, tt))

  lines_good : AllGood (round_lines round before first d)
  lines_good =
      let later : List ScriptLine = middle (kind_of round) round before first d ++ ending round in
      good_both (starting round d) (challenging round first ++ later) starting_good (good_both (challenging round first) later challenging_good
      (good_both (middle (kind_of round) round before first d) (ending round) (middle_good (kind_of round)) ending_good))

recorded_few : (kind : Kind) → recorded kind ≤ 6
recorded_few Honest = omega arith
recorded_few Replayed = omega arith
recorded_few Unanswered = omega arith
recorded_few Blank = omega arith

-- ---- a script

rounds_good : (n round before first : ℕ) (words : List (List ℕ)) → round + n ≤ 1000 → before ≤ 6 * round → first ≤ 6 * round → 5 * n ≤ length words → AllRandom words → AllGood (rounds_from n round before first words)
rounds_good zero round before first words few old new long s = tt
rounds_good (suc n) round before first words few old new long s =
    good_both (round_lines round before first (drawn words)) (rounds_from n (round + 1) first (first + recorded (kind_of round)) (drop 5 words))
    (lines_good round before first (drawn words) (omega (arith, few)) (omega (arith, few, old)) (omega (arith, few, new)) (round_drawn words (omega (arith, long)) s))
    (rounds_good n (round + 1) first (first + recorded (kind_of round)) (drop 5 words) (omega (arith, few)) (omega (arith, new)) (omega (arith, new, recorded_few (kind_of round))) (five_fewer (5 * n) words (omega (arith, long))) (random_behind 5 words s))

-- a line is cut off at its newline
line_cut : (l : ScriptLine) (rest : List ℕ) → lacks 10 (line_text l) ≡ true → slice_split (λ b. eqb b 10) (line l ++ rest) ≡ line_text l ∷ slice_split (λ b. eqb b 10) rest
unfolding line
line_cut l rest whole = ap (slice_split (λ b. eqb b 10)) (append_assoc (line_text l) (10 ∷ []) rest) ∙ split_front 10 (line_text l) rest whole

abbrev read_of : List Numbered → List (Option ScriptLine)
read_of lines = map (λ l. line_of l.text) lines

one_read : (n : ℕ) (l : ScriptLine) (x : Bool) (more : List (List ℕ)) → is_skipped (line_text l) ≡ x → x ≡ false → read_of (cond x (numbered (n + 1) more) (record { number = n; text = line_text l } ∷ numbered (n + 1) more)) ≡ line_of (line_text l) ∷ read_of (numbered (n + 1) more)
one_read n l true more e passed = absurd (let no_way : true ≡ false = passed in cc)
one_read n l false more e passed = refl

all_read : (n : ℕ) (lines : List ScriptLine) → AllGood lines → read_of (numbered n (slice_split (λ b. eqb b 10) (lines_text lines))) ≡ map Some lines
all_read n [] good = refl
all_read n (l ∷ lines) good =
    ap (λ (texts : List (List ℕ)). read_of (numbered n texts)) (line_cut l (lines_text lines) good.0.whole)
    ∙ one_read n l (is_skipped (line_text l)) (slice_split (λ b. eqb b 10) (lines_text lines)) refl good.0.said
    ∙ ap (λ (o : Option ScriptLine). o ∷ read_of (numbered (n + 1) (slice_split (λ b. eqb b 10) (lines_text lines)))) (line_again l good.0.formed)
    ∙ ap (λ (os : List (Option ScriptLine)). Some l ∷ os) (all_read (n + 1) lines good.1)

pub made_read : MadeIsRead
unfolding gen_text
made_read number rounds few =
    let words : List (List ℕ) = draws (5 * rounds) (generator_of number) in
    let rest : List ScriptLine = rounds_from rounds 0 0 0 words in
    all_read 1 (opening ++ rest) (good_both opening rest opening_good (rounds_good rounds 0 0 0 words (omega (arith, few)) (omega arith) (omega arith) (omega (arith, draws_long (5 * rounds) (generator_of number))) (draws_random (5 * rounds) (generator_of number))))
